use Rattle.std.proofs.Common.{map}
use Rattle.std.specs.String.{string_bytes}
use Rattle.chain_words.proofs.Front.{begins_with_merge}
use Rattle.chain_words.proofs.laws.merge_is_first.Goals as goal

pub returns : goal.returns
returns c = begins_with_merge (map string_bytes c.args.words.now.items) c.args.accepted.now c.requires
