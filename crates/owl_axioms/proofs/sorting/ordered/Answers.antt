use Rattle.owl_axioms.proofs.SortedTexts.{AreOrdered-dedup}
use Rattle.owl_axioms.proofs.sorting.ordered.Goals as goal

pub returns : goal.returns
returns g c = AreOrdered-dedup c.args.given.items c.sort_unstable.new.self.items c.dedup.new.self.items c.sort_unstable.ensures.permutation c.sort_unstable.ensures.sorted c.dedup.ensures.filtered
