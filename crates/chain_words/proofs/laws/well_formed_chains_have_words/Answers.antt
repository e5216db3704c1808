use Rattle.chain_words.proofs.Spelled.{spelled_is_read}
use Rattle.chain_words.proofs.laws.well_formed_chains_have_words.Goals as goal

pub returns : goal.returns
returns c = spelled_is_read c.args.asked.now c.requires
