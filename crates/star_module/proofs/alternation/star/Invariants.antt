use Rattle.std.proofs.Common.{◌≡◌, ◌+◌, ◌*◌, ◌≤◌, length}
use Rattle.owl_ontology.specs.Ontology.{axioms_of}
use Rattle.owl_axioms.specs.Signature.{scope_of}
use Rattle.module_extract.specs.Module.{IsPart, logical_flags, on_count}
use Rattle.module_extract.specs.Tests.{test_bound}
use Rattle.star_module.specs.Star.{AreRounds, bottom_and_top}
use Rattle.star_module.proofs.alternation.star.Given as goal

abbrev pub invariant-rounds : goal.invariant-rounds
invariant-rounds g l = record {
  long : length l.part.items ≡ length l.ontology.entries;
  falls : l.rounds + on_count l.part.items ≤ on_count (logical_flags (axioms_of l.ontology.entries));
  of' : IsPart l.part.items (logical_flags (axioms_of l.ontology.entries));
  ticks : l.steps ≤ l.initial.steps + l.rounds * (2 * test_bound (axioms_of l.ontology.entries) (logical_flags (axioms_of l.ontology.entries)));
  ran : AreRounds bottom_and_top (axioms_of l.ontology.entries) (scope_of l.sig) (logical_flags (axioms_of l.ontology.entries)) l.rounds l.part.items;
}

abbrev pub decreases-rounds : goal.decreases-rounds
decreases-rounds g l = on_count l.part.items
