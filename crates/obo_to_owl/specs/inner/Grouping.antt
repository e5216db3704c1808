-- Groups as the program gathers them. (Own.)
use Rattle.std.specs.Prelude.{◌≡◌, ℕ, ◌&&◌, List, [], ◌∷◌, ◌++◌, if◌then◌else◌, Option, None, Some, map, filter, nat_lt}
use Rattle.std.specs.Option.{option_map, option_to_list}
use Rattle.std.specs.Str.{bytes_eq}
use Rattle.indexmap.specs.IndexMap.{IndexMap, get}
use Rattle.obo_clause.specs.declared.clause.Clause.{Clause}
use Rattle.text_sets.specs.Sets.{In}
use Rattle.owl_axioms.specs.declared.body.Axiom.{Axiom}
use Rattle.owl_ontology.specs.Ontology.{Entry, OntologyState}
use Rattle.obo_notes.specs.Context.{reading_in}
use Rattle.owl_axioms.specs.Proper.{IsProper}
use Rattle.obo_statements.specs.Groups.{Group, group_meaning, intersection, union}
use Rattle.obo_to_owl.specs.inner.Adding.{AreAdded, entry_at}
use Rattle.obo_to_owl.specs.inner.Known.{is_of_group}
use Rattle.obo_to_owl.specs.inner.Rows.{of_row}
use Rattle.obo_to_owl.specs.declared.groups.Gathered.{Gathered}
use Rattle.obo_to_owl.specs.declared.rows.Row.{Row}

-- the least line of a group, and its clauses
abbrev pub Seen : Type 0
Seen = ℕ × List Clause

abbrev pub seen : Gathered → Seen
seen group = (group.line, map (λ clause. clause.now) group.clauses.items)

-- a group by the IRI of its Term
abbrev pub Grouped : Type 0
Grouped = List ℕ × Gathered

abbrev pub group_in : {S : Type 0} → IndexMap (List ℕ) Gathered S → List ℕ → Option Seen
group_in groups x = option_map seen (get bytes_eq groups x)

abbrev pub lesser_line : ℕ → ℕ → ℕ
lesser_line one other = if nat_lt one other then one else other

-- one clause more
abbrev pub gather : Row → Option Seen → Seen
gather row None = (row.placed.now.line, row.placed.now.clause ∷ [])
gather row (Some held) = (lesser_line row.placed.now.line held.0, held.1 ++ row.placed.now.clause ∷ [])

-- what a clause makes of the group of this IRI
abbrev pub kept_in : Group → Row → List ℕ → Option Seen → Option Seen
kept_in group row x held = if is_of_group group (of_row row) && bytes_eq row.iri.now x then Some (gather row held) else held

-- clauses one by one behind others
abbrev pub gather_onto : Option Seen → List Row → Option Seen
gather_onto held [] = held
gather_onto held (row ∷ rows) = gather_onto (Some (gather row held)) rows

abbrev pub gather_all : List Row → Option Seen
gather_all rows = gather_onto None rows

-- the clauses of a group of the Terms with this IRI
abbrev pub group_rows : Group → List ℕ → List Row → List Row
group_rows group x rows = filter (λ row. is_of_group group (of_row row) && bytes_eq row.iri.now x) rows

-- the axiom of a group
abbrev pub seen_axiom : List ℕ → Group → List ℕ → Seen → Option Axiom
seen_axiom space group x held = group_meaning (reading_in space) x group held.1

abbrev pub seen_entries : List ℕ → ℕ → Group → List ℕ → Seen → List Entry
seen_entries space file group x held = map (λ said. entry_at said file held.0) (option_to_list (seen_axiom space group x held))

abbrev pub group_axiom : List ℕ → Group → Grouped → Option Axiom
group_axiom space group one = seen_axiom space group one.0 (seen one.1)

abbrev pub group_entries : List ℕ → ℕ → Group → Grouped → List Entry
group_entries space file group one = seen_entries space file group one.0 (seen one.1)

-- the axioms of the groups of a kind are added
pub record AreGroupsAdded (space : List ℕ) (file : ℕ) (group : Group) (rows : List Row) (before after : OntologyState) : Type 0 where
  pub added : List Entry
  pub are : AreAdded before after added
  pub each : (e : Entry) → In e added → (x : List ℕ) × (held : Seen) × (gather_all (group_rows group x rows) ≡ Some held) × In e (seen_entries space file group x held)
  pub all : (x : List ℕ) (held : Seen) (e : Entry) → gather_all (group_rows group x rows) ≡ Some held → In e (seen_entries space file group x held) → In e added

-- first those of intersections, then those of unions
pub record AreBothAdded (space : List ℕ) (file : ℕ) (rows : List Row) (before after : OntologyState) : Type 0 where
  pub between : OntologyState
  pub first : AreGroupsAdded space file intersection rows before between
  pub second : AreGroupsAdded space file union rows between after

-- the axioms of the groups of a kind are proper
abbrev pub AreProperGroups : List ℕ → Group → List Row → Type 0
AreProperGroups space group rows =
    (x : List ℕ) (held : Seen) (said : Axiom) → gather_all (group_rows group x rows) ≡ Some held → seen_axiom space group x held ≡ Some said → IsProper said
