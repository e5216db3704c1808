-- Which clauses are not translated, by what the program has found out. (Own.)
use Rattle.std.specs.Prelude.{ℕ, Bool, false, ◌||◌, List}
use Rattle.std.specs.Option.{option_map_or}
use Rattle.obo_statements.specs.Groups.{Group, intersection, union}
use Rattle.obo_mapping.specs.Documents.{group_of, is_misfit}
use Rattle.obo_to_owl.specs.inner.Known.{has}
use Rattle.obo_to_owl.specs.inner.Rows.{of_row}
use Rattle.obo_to_owl.specs.inner.Rules.{is_of_relation, is_other_than}
use Rattle.obo_to_owl.specs.declared.rows.Row.{Row}
use Rattle.obo_to_owl.specs.declared.situation.Situation.{Situation}

-- the group of the Terms with this IRI has a misfit
abbrev pub broken_in : Situation → List ℕ → Group → Bool
broken_in situation iri intersection = has situation.intersections iri
broken_in situation iri union = has situation.unions iri

-- the clause is not translated
abbrev pub is_left : Situation → Row → Bool
is_left situation row =
    is_misfit (of_row row) || option_map_or (broken_in situation row.iri.now) (group_of (of_row row)) false || is_of_relation (has situation.metadata row.iri.now) (of_row row)
    || is_other_than situation.name (of_row row)
