-- What the clauses of the turns so far give is appended.
use Rattle.std.proofs.Common.{◌≡◌, ◌++◌, List, map, take}
use Rattle.std.specs.List.{filter_map}
use Rattle.owl_axioms.specs.declared.name.Name.{Name}
use Rattle.obo_frames.specs.declared.placed.Placed.{Placed}
use Rattle.obo_notes.specs.Context.{writing_in}
use Rattle.owl_to_obo.specs.Clashes.{given_meant}
use Rattle.owl_to_obo.specs.inner.Collected.{note_given}
use Rattle.owl_to_obo.proofs.collected.push_single.Given as goal

abbrev pub invariant-loop-one : goal.invariant-loop-one
invariant-loop-one l =
    (declared : List Name) → map given_meant l.all.items ≡ map given_meant l.fn.all.items ++ filter_map (λ (one : Placed). note_given (writing_in l.space) declared l.subject l.origin one.clause) (take l.one-index l.clauses)
