use Rattle.std.proofs.Common.{map}
use Rattle.std.specs.String.{string_bytes}
use Rattle.chain_words.specs.declared.command.Command.TheVariants.{Run}
use Rattle.chain_words.proofs.Apart.{no_output_is_input, no_output_twice}
use Rattle.chain_words.proofs.Sound.{accepted}
use Rattle.chain_words.proofs.Spans.{spelled_short}
use Rattle.chain_words.proofs.laws.chains_are_well_formed.Goals as goal

pub returns : goal.returns
returns c =
    let words = map string_bytes c.args.words.now.items in
    let known = accepted words (Run c.args.accepted.now) c.requires in
    record {
      whole = known.whole;
      formats = known.formats;
      apart = no_output_is_input c.args.accepted.now known;
      once = no_output_twice c.args.accepted.now known;
      few = spelled_short words c.args.accepted.now c.requires;
    }
