use Rattle.std.proofs.Common.{arith, rules}
use Rattle.obo_lexer.specs.inner.Held.{progress_of}
use Rattle.obo_lexer.proofs.TextLemmas.{HaveLineTexts-finished, ended-finished, ok-from_test}
use Rattle.obo_lexer.proofs.feeder.LineFeeder.finish.Goals as goal

pub invariant_of-self-2 : goal.invariant_of-self-2
invariant_of-self-2 c =
    let before = progress_of c.self.inside.lines in
    let after = progress_of c.finish.new.self in
    let went = ok-from_test c.finish.result (search rules) c.finish.ensures.ok in
    let ended = ended-finished before after went in
    record {
      no_feed = ended.0;
      texts = HaveLineTexts-finished before after went c.self.invariant.no_feed c.self.invariant.texts;
      counted = omega (arith, ended.1, c.self.invariant.counted);
    }
