-- The clauses so far are those of the axioms of the turns so far.
use Rattle.std.proofs.Common.{◌≡◌, map, take}
use Rattle.obo_frames.specs.Framed.{unlined}
use Rattle.obo_notes.specs.Context.{writing_in}
use Rattle.owl_ontology.specs.Ontology.{axioms_of}
use Rattle.obo_spelling.specs.inner.Clauses.{are_formed, spelled_in}
use Rattle.obo_spelling.proofs.ontology.all_spelled.Given as goal

abbrev pub invariant-loop-at : goal.invariant-loop-at
invariant-loop-at l =
    (map unlined l.placed.items ≡ spelled_in (writing_in l.space) l.declared (take l.at (axioms_of l.ontology.entries)))
    × (l.is_whole ≡ are_formed (writing_in l.space) l.declared (take l.at (axioms_of l.ontology.entries)))
