-- One qualifier as an annotation. (Own.)
use Rattle.std.specs.Prelude.{List, [], ◌∷◌, if◌then◌else◌}
use Rattle.obo_clause.specs.declared.clause.Qualifier.{Qualifier}
use Rattle.owl_axioms.specs.declared.annotation.Side.{Side}
use Rattle.obo_notes.specs.Keys.{is_reserved_key, side_of_qualifier}

-- the annotation that it is, where it has no meaning of its own
abbrev pub annotation_of : Qualifier → List Side
annotation_of qualifier = if is_reserved_key qualifier.key then [] else side_of_qualifier qualifier ∷ []
