-- Two are the same to compare by where their order says so.
use Rattle.std.proofs.Common.{ap, sym, ◌∙◌}
use Rattle.std.specs.Cmp.Lexicographic.{lists_ties, slice_cmp, texts_ties}
use Rattle.std.specs.Ordering.{is_eq, nat_cmp}
use Rattle.owl_to_obo.specs.inner.Order.{key_of}
use Rattle.owl_to_obo.proofs.given.GivenPartialEq.eq.Goals as goal

pub returns : goal.returns
returns c = c.is_eq.ensures ∙ ap is_eq c.cmp.ensures ∙ sym (lists_ties (slice_cmp nat_cmp) texts_ties (key_of c.args.self.now) (key_of c.args.other.now))
