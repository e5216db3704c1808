use Rattle.std.proofs.Common.{map}
use Rattle.std.specs.String.{string_bytes}
use Rattle.chain_words.specs.declared.command.Command.TheVariants.{Run}
use Rattle.chain_words.proofs.Apart.{no_output_is_input, no_output_twice}
use Rattle.chain_words.proofs.Sound.{accepted}
use Rattle.chain_words.proofs.laws.outputs_stand_apart.Goals as goal

pub returns-clause-no_input : goal.returns-clause-no_input
returns-clause-no_input c = no_output_is_input c.args.accepted.now (accepted (map string_bytes c.args.words.now.items) (Run c.args.accepted.now) c.requires)

pub returns-clause-no_second : goal.returns-clause-no_second
returns-clause-no_second c = no_output_twice c.args.accepted.now (accepted (map string_bytes c.args.words.now.items) (Run c.args.accepted.now) c.requires)
