-- The clause of a note has its lists in printed order.
use Rattle.std.proofs.Common.{◌≡◌, ℕ, Bool, true, false, List, codes, Option, None, Some, subst, ◌&&◌}
use Rattle.std.specs.Option.{option_and_then, option_map}
use Rattle.std.specs.Str.{bytes_eq}
use Rattle.obo_tags.specs.declared.kind.FrameKind.{FrameKind}
use Rattle.obo_clause.specs.declared.clause.Clause.{Clause}
use Rattle.obo_clause.specs.declared.clause.Qualifier.{Qualifier}
use Rattle.obo_clause.specs.declared.clause.Value.{Value}
use Rattle.obo_clause.specs.declared.clause.Value.TheVariants as value
use Rattle.clause_printer.specs.Printing.{qualifier_text, xref_text}
use Rattle.owl_axioms.specs.Vocabulary.{rdfs_label}
use Rattle.owl_axioms.specs.declared.annotation.NoteValue.{NoteValue}
use Rattle.owl_axioms.specs.declared.annotation.NoteValue.TheVariants.{Link, Text, Typed}
use Rattle.owl_axioms.specs.declared.annotation.Side.{Side}
use Rattle.text_sets.specs.Parts.{each_some, take_all, take_one}
use Rattle.text_sets.specs.Sorted.{Rises, sorted_by}
use Rattle.text_sets.proofs.PartLemmas.{first_some-found, option_and_then_some, option_map_some}
use Rattle.text_sets.proofs.SortedLemmas.{Rises-sorted_by}
use Rattle.obo_notes.specs.Context.{Writing, datatype_word, is_text, where_true}
use Rattle.obo_notes.specs.Forms.{Form, Spelled, as_value_of, first_part, is_truth, scope_of_property, spelled, spelled_as}
use Rattle.obo_notes.specs.Keys.{qualifier_of, text_of_value}
use Rattle.obo_notes.specs.Laws.{IsInPrintedOrder, xrefs_in}
use Rattle.obo_notes.specs.Notes.{clause_by, clause_with, form_of, qualifiers_of, spelling, tags_tried}
use Rattle.obo_notes.specs.Parts.{id_of_value, is_word, text_of, xref_of}
use Rattle.obo_notes.specs.Vocabulary.{rdfs_comment}
use Rattle.obo_notes.specs.declared.note.Note.{Note}

-- it holds of the answer, if there is one
abbrev OfAnswer : {X : Type 0} → (X → Type 0) → Option X → Type 0
OfAnswer P None = Unit {0}
OfAnswer P (Some x) = P x

of_where : {X : Type 0} (P : X → Type 0) (test : Bool) (o : Option X) → OfAnswer P o → OfAnswer P (where_true test o)
of_where P true o holds = holds
of_where P false o holds = tt

of_test : {X : Type 0} (P : X → Type 0) (test : Bool) (x : X) → P x → OfAnswer P (where_true test (Some x))
of_test P test x holds = of_where P test (Some x) holds

of_map : {X Y : Type 0} (P : Y → Type 0) (f : X → Y) (o : Option X) → ((x : X) → P (f x)) → OfAnswer P (option_map f o)
of_map P f None holds = tt
of_map P f (Some x) holds = holds x

of_then : {X Y : Type 0} (P : Y → Type 0) (f : X → Option Y) (o : Option X) → ((x : X) → OfAnswer P (f x)) → OfAnswer P (option_and_then f o)
of_then P f None holds = tt
of_then P f (Some x) holds = holds x

-- the xref list rises
abbrev HasRisingList : Value → Type 0
HasRisingList one = Rises xref_text (xrefs_in one)

abbrev IsRising : Spelled → Type 0
IsRising one = HasRisingList one.value

value_rises : (writing : Writing) (relation : List ℕ) (v : NoteValue) → OfAnswer HasRisingList (as_value_of writing relation v)
unfolding xrefs_in
value_rises writing relation (Text text) = of_test HasRisingList (is_text text) (value.Literal relation text (codes "xsd:string")) tt
value_rises writing relation (Typed text datatype) = of_where HasRisingList _ _ (of_map HasRisingList _ (datatype_word writing datatype) (λ word. tt))
value_rises writing relation (Link iri) = of_map HasRisingList _ (writing.id iri) (λ target. tt)

property_rises : (o : Option Value) (sides : List Side) → OfAnswer HasRisingList o → OfAnswer IsRising (option_map (λ one. spelled one sides) o)
property_rises None sides rises = tt
property_rises (Some one) sides rises = rises

-- what spells a note has its xref list in printed order
form_rises : (writing : Writing) (form : Form) (note : Note) → OfAnswer IsRising (spelled_as writing form note)
unfolding spelled_as xrefs_in
form_rises writing (Form.TextForm property) note = of_where IsRising _ _ (of_map IsRising _ (text_of_value note.value) (λ text. tt))
form_rises writing (Form.WordForm property) note = of_where IsRising _ _ (of_then IsRising _ (text_of_value note.value) (λ text. of_test IsRising (is_word text) (spelled (value.Id text) note.sides) tt))
form_rises writing (Form.LinkForm property) note = of_where IsRising _ _ (of_map IsRising _ (id_of_value writing note.value) (λ id. tt))
form_rises writing (Form.TruthForm property) note = of_test IsRising (bytes_eq note.property property && is_truth note.value) (spelled (value.Bool true) note.sides) tt
form_rises writing Form.DefinitionForm note = of_where IsRising _ _ (of_map IsRising _ (text_of_value note.value) (λ text. Rises-sorted_by xref_text (take_all xref_of note.sides).parts))
form_rises writing Form.SynonymForm note =
    of_then IsRising _ (scope_of_property note.property) (λ scope. of_map IsRising _ (text_of_value note.value) (λ text. Rises-sorted_by xref_text _))
form_rises writing Form.XrefForm note = of_where IsRising _ _ (of_then IsRising _ (text_of_value note.value) (λ id. let label = take_one (text_of rdfs_label) note.sides in
    of_test IsRising (is_word id) (spelled (value.XrefValue (record { id = id; label = first_part label.parts })) label.rest) tt))
form_rises writing Form.ValueForm note = of_then IsRising _ (writing.id note.property) (λ relation. property_rises (as_value_of writing relation note.value) note.sides (value_rises writing relation note.value))
form_rises writing Form.SubsetForm note =
    of_where IsRising _ _ (of_then IsRising _ (id_of_value writing note.value) (λ id. of_map IsRising _ (first_part (take_one (text_of rdfs_comment) note.sides).parts) (λ text. tt)))
form_rises writing Form.TypeForm note =
    of_where IsRising _ _ (of_then IsRising _ (id_of_value writing note.value) (λ id. of_map IsRising _ (first_part (take_one (text_of rdfs_comment) note.sides).parts) (λ text. tt)))

clause_in_order : (writing : Writing) (note : Note) (tag : List ℕ) (clause : Clause) → clause_by writing note tag ≡ Some clause → IsInPrintedOrder clause
unfolding clause_by
clause_in_order writing note tag clause is =
    let form = option_and_then_some (λ form. option_and_then (clause_with tag) (spelled_as writing form note)) (form_of tag) clause is in
    let one = option_and_then_some (clause_with tag) (spelled_as writing form.0 note) clause form.2 in
    let made = option_map_some (λ (qs : List Qualifier). let c : Clause = record { tag = tag; value = one.0.value; qualifiers = qs } in c) (qualifiers_of one.0.rest) clause one.2 in
    let sorted = option_map_some (sorted_by qualifier_text) (each_some qualifier_of one.0.rest) made.0 made.1 in
    subst IsInPrintedOrder made.2 (record {
      xrefs = subst (OfAnswer IsRising) one.1 (form_rises writing form.0 note);
      qualifiers = subst (Rises qualifier_text) sorted.2 (Rises-sorted_by qualifier_text sorted.0);
    })

pub spelled_note_is_in_order : (writing : Writing) (kind : FrameKind) (note : Note) (clause : Clause) → spelling writing kind note ≡ Some clause → IsInPrintedOrder clause
unfolding spelling
spelled_note_is_in_order writing kind note clause is =
    let found = first_some-found (clause_by writing note) (tags_tried kind) clause is in
    clause_in_order writing note found.0 clause found.2
