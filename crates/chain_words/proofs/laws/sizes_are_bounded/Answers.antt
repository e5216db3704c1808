use Rattle.std.proofs.Common.{map}
use Rattle.std.specs.String.{string_bytes}
use Rattle.chain_words.specs.declared.command.Command.TheVariants.{Generate}
use Rattle.chain_words.proofs.Sound.{accepted}
use Rattle.chain_words.proofs.laws.sizes_are_bounded.Goals as goal

pub returns : goal.returns
returns c = accepted (map string_bytes c.args.words.now.items) (Generate c.args.size) c.requires
