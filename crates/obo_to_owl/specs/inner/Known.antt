-- What the program has found out about a document. (Own.)
use Rattle.std.specs.Prelude.{◌≡◌, ℕ, Bool, true, not, ◌&&◌, List, codes, map}
use Rattle.std.specs.List.{list_any}
use Rattle.std.specs.Str.{bytes_eq}
use Rattle.indexmap.specs.IndexSet.{IndexSet}
use Rattle.obo_frames.specs.Framed.{Framed}
use Rattle.obo_statements.specs.Groups.{Group, group_tag, intersection, union}
use Rattle.obo_mapping.specs.Documents.{has_tag, is_misfit, is_raw, is_term, is_truth_value, is_typedef, name_of}
use Rattle.obo_to_owl.specs.inner.Rows.{of_row}
use Rattle.obo_to_owl.specs.declared.rows.Row.{Row}
use Rattle.obo_to_owl.specs.declared.situation.Situation.{Situation}

-- the IRI is in the set
abbrev pub has : {S : Type 0} → IndexSet (List ℕ) S → List ℕ → Bool
has set iri = list_any (bytes_eq iri) set.keys

-- some clause with this IRI passes the test
abbrev pub among : (Framed → Bool) → List ℕ → List Row → Bool
among test iri rows = list_any (λ row. test (of_row row) && bytes_eq iri row.iri.now) rows

-- the clause says that its Typedef is an annotation property
abbrev pub is_metadata_clause : Framed → Bool
is_metadata_clause one = is_typedef one.frame && has_tag (codes "is_metadata_tag") one && is_truth_value true one.clause.value

-- the clause is one of such a group
abbrev pub is_of_group : Group → Framed → Bool
is_of_group group one = is_term one.frame && not (is_raw one.clause.value) && has_tag (group_tag group) one

-- and a misfit
abbrev pub has_misfit : Group → Framed → Bool
has_misfit group one = is_of_group group one && is_misfit one

-- what the clauses of a document say of its frames
pub record IsKnown (rows : List Row) (s : Situation) : Type 0 where
  pub name : s.name ≡ name_of (map of_row rows)
  pub metadata : (x : List ℕ) → has s.metadata x ≡ among is_metadata_clause x rows
  pub intersections : (x : List ℕ) → has s.intersections x ≡ among (has_misfit intersection) x rows
  pub unions : (x : List ℕ) → has s.unions x ≡ among (has_misfit union) x rows
