-- What the axioms of the turns so far give is collected.
use Rattle.std.proofs.Common.{◌≡◌, map, take}
use Rattle.obo_notes.specs.Context.{writing_in}
use Rattle.owl_to_obo.specs.Clashes.{given_meant}
use Rattle.owl_to_obo.specs.inner.Collected.{all_given}
use Rattle.owl_to_obo.proofs.collected.all_given.Given as goal

abbrev pub invariant-loop-at : goal.invariant-loop-at
invariant-loop-at l = map given_meant l.all.items ≡ all_given (writing_in l.space) l.declared l.check (take l.at l.ontology.entries)
