use Rattle.std.proofs.Common.{rules}
use Rattle.obo_lexer.specs.inner.Held.{progress_of}
use Rattle.obo_lexer.proofs.TextLemmas.{HaveLineTexts-fed, ok-from_test}
use Rattle.obo_lexer.proofs.feeder.LineFeeder.feed.Goals as goal

pub invariant_of-self-2 : goal.invariant_of-self-2
invariant_of-self-2 c =
    let went = ok-from_test c.take_in.result (search rules) c.take_in.ensures.ok in
    record {
      no_feed = search rules;
      texts = HaveLineTexts-fed (progress_of c.self.inside.lines) (progress_of c.take_in.new.self) c.args.piece.now went c.self.invariant.texts;
      counted = search rules;
    }
