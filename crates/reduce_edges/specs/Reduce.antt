-- An ontology before reducing and after. (Own; the role of the command `reduce` of ROBOT.)
use Rattle.std.specs.Prelude.{ℕ, ◌≡◌, ◌+◌, Bool, true, false, not, List, Some, filter, length, slice_get}
use Rattle.owl_ontology.specs.Ontology.{Entry, OntologyState, axioms_of, flagged}
use Rattle.reduce_edges.specs.Going.{goes}
use Rattle.reduce_edges.specs.Redundant.{Goes}

-- exactly the axioms that go by all that was there are gone, and so many; the others stay in their order, with their
-- origins
pub record Reduces (before after : OntologyState) (keep_annotated : Bool) (count : ℕ) : Type 0 where
  pub stays : List Bool
  pub long : length stays ≡ length before.entries
  pub kept : (i : ℕ) (e : Entry) → slice_get before.entries i ≡ Some e → slice_get stays i ≡ Some true → ¬ (Goes (axioms_of before.entries) keep_annotated e.axiom)
  pub gone : (i : ℕ) (e : Entry) → slice_get before.entries i ≡ Some e → slice_get stays i ≡ Some false → Goes (axioms_of before.entries) keep_annotated e.axiom
  pub is : after ≡ record before { entries = flagged stays before.entries }
  pub counted : count + length after.entries ≡ length before.entries

-- the ontology without the axioms that go by all that is there, and how many these are
abbrev pub reduce_of : Bool → OntologyState → OntologyState × ℕ
reduce_of keep_annotated before =
    let entry_goes : Entry → Bool = λ e. goes (axioms_of before.entries) keep_annotated e.axiom in
    (record before { entries = filter (λ e. not (entry_goes e)) before.entries }, length (filter entry_goes before.entries))
