-- Clauses that say a note or a statement are no misfits, and their tags are none of those that stand apart.
use Rattle.std.proofs.Common.{◌≡◌, ◌⊎◌, ℕ, Bool, true, false, not, ◌&&◌, ◌||◌, List, codes, None, Some, ⊎_elim, refl, sym, ap, subst, ◌∙◌, is_some}
use Rattle.std.specs.List.{list_all, list_any}
use Rattle.std.specs.Option.{is_none, option_and_then, option_map, option_map_or}
use Rattle.std.specs.Str.{bytes_eq}
use Rattle.std.proofs.lemmas.Bool.{and_parts, cond-false, false_from_ne_true, not-true}
use Rattle.std.proofs.lemmas.Option.{none-some}
use Rattle.obo_tags.specs.declared.kind.FrameKind.{FrameKind}
use Rattle.obo_tags.specs.declared.kind.FrameKind.TheVariants.{Header, Instance, Term, Typedef}
use Rattle.obo_clause.specs.declared.clause.Clause.{Clause}
use Rattle.obo_clause.specs.declared.clause.Qualifier.{Qualifier}
use Rattle.obo_clause.specs.declared.clause.Value.{Value}
use Rattle.obo_clause.specs.declared.clause.Value.TheVariants as value
use Rattle.owl_axioms.specs.declared.body.Axiom.{Axiom}
use Rattle.text_sets.specs.Parts.{first_some}
use Rattle.text_sets.specs.Sets.{In}
use Rattle.text_sets.proofs.PartLemmas.{first_some-found, option_and_then_some, option_cases, option_map_some}
use Rattle.obo_frames.specs.Framed.{Framed}
use Rattle.obo_mapping.specs.Axioms.{Situation, is_metadata}
use Rattle.obo_notes.specs.Context.{Reading, Writing, where_true}
use Rattle.obo_mapping.specs.Documents.{group_of, group_with, has_reserved_key, has_tag, is_broken, is_header, is_misfit, is_of_metadata, is_other_name, is_raw, is_truth_value, is_typedef, is_untranslatable, situation_of}
use Rattle.obo_notes.specs.Forms.{Form, said, spelled_as}
use Rattle.obo_notes.specs.declared.note.Note.{Note}
use Rattle.obo_notes.specs.Keys.{is_reserved_key}
use Rattle.obo_notes.specs.Notes.{clause_by, clause_with, form_of, meaning, qualifiers_of, rows, spelling, tags_tried, with_qualifiers}
use Rattle.obo_statements.specs.Values.{Statement, stated_plainly, value_plainly}
use Rattle.obo_statements.specs.Statements.{StatementRow, statement_in, statement_meaning, statement_spelling, statements_of}
use Rattle.obo_statements.proofs.PlainMeaning.{meant_plainly, no_reserved, plain_by, spelling_is_plain}
use Rattle.obo_statements.proofs.StatementsBack.{all_apart, is_apart, passes_in}
use Rattle.obo_notes.proofs.Guards.{none_from_is_none, same_bytes, where_true_some}
use Rattle.obo_mapping.proofs.SinglesLaw.{metadata_has_no_form}

-- ---- foreign values say nothing

said_raw : (reading : Reading) (form : Form) (text : List ℕ) → said reading form (value.Raw text) ≡ None
unfolding said
said_raw reading (Form.TextForm property) text = refl
said_raw reading (Form.WordForm property) text = refl
said_raw reading (Form.LinkForm property) text = refl
said_raw reading (Form.TruthForm property) text = refl
said_raw reading Form.DefinitionForm text = refl
said_raw reading Form.SynonymForm text = refl
said_raw reading Form.XrefForm text = refl
said_raw reading Form.ValueForm text = refl
said_raw reading Form.SubsetForm text = refl
said_raw reading Form.TypeForm text = refl

said_not_raw : (reading : Reading) (form : Form) (v : Value) (note : Note) → said reading form v ≡ Some note → is_raw v ≡ false
said_not_raw reading form (value.Raw text) note is = absurd (none-some note (sym (said_raw reading form text) ∙ is))
said_not_raw reading form _ note is = refl

stated_raw : (reading : Reading) (x : List ℕ) (statement : Statement) (text : List ℕ) → stated_plainly reading x statement (value.Raw text) ≡ None
unfolding stated_plainly
stated_raw reading x Statement.below_class text = refl
stated_raw reading x Statement.restricted text = refl
stated_raw reading x Statement.same_class text = refl
stated_raw reading x Statement.disjoint_class text = refl
stated_raw reading x Statement.below_role text = refl
stated_raw reading x Statement.same_role text = refl
stated_raw reading x Statement.disjoint_role text = refl
stated_raw reading x Statement.inverse_role text = refl
stated_raw reading x (Statement.has_character c) text = refl
stated_raw reading x Statement.has_domain text = refl
stated_raw reading x Statement.has_range text = refl
stated_raw reading x Statement.over text = refl
stated_raw reading x Statement.chain text = refl
stated_raw reading x Statement.member text = refl
stated_raw reading x Statement.related text = refl

-- what a clause that says a note is like
pub record IsNote (c : Clause) : Type 0 where
  pub raw : is_raw c.value ≡ false
  pub form : Form
  pub has : form_of c.tag ≡ Some form

pub is_note : (reading : Reading) (c : Clause) (note : Note) → meaning reading c ≡ Some note → IsNote c
unfolding meaning
is_note reading c note is =
    let one = option_map_some (with_qualifiers c.qualifiers) (option_and_then (λ form. said reading form c.value) (form_of c.tag)) note is in
    let form = option_and_then_some (λ form. said reading form c.value) (form_of c.tag) one.0 one.1 in
    record { raw = said_not_raw reading form.0 c.value one.0 form.2; form = form.0; has = form.1 }

pub no_note : (reading : Reading) (c : Clause) → form_of c.tag ≡ None → meaning reading c ≡ None
unfolding meaning
no_note reading c none = ap (λ o. option_map (with_qualifiers c.qualifiers) (option_and_then (λ form. said reading form c.value) o)) none

-- what a clause that says a statement is like
pub record IsStatementIn (kind : FrameKind) (c : Clause) : Type 0 where
  pub raw : is_raw c.value ≡ false
  pub row : StatementRow
  pub among : In row (statements_of kind)
  pub same : row.tag ≡ c.tag

-- ---- tags

pub not_tag : (tag word : List ℕ) (form : Form) → form_of word ≡ None → form_of tag ≡ Some form → bytes_eq tag word ≡ false
not_tag tag word form none has = false_from_ne_true (bytes_eq tag word) (λ same. none-some form (sym none ∙ ap form_of (sym (same_bytes tag word same)) ∙ has))

pub no_statement : (tag : List ℕ) (form : Form) (kind : FrameKind) → form_of tag ≡ Some form → first_some (statement_in tag) (statements_of kind) ≡ None
no_statement tag form kind has =
    ⊎_elim
    (λ none. none)
    (λ some.
    let row = first_some-found (statement_in tag) (statements_of kind) some.0 some.1 in
    let same = same_bytes row.0.tag tag (where_true_some (bytes_eq row.0.tag tag) (Some row.0.statement) some.0 row.2).0 in
    let apart = and_parts (is_none (form_of row.0.tag)) (not (bytes_eq row.0.tag (codes "id"))) (passes_in is_apart (statements_of kind) row.0 (all_apart kind) row.1) in
    absurd (none-some form (sym (none_from_is_none (form_of row.0.tag) apart.0) ∙ ap form_of same ∙ has)))
    (option_cases (first_some (statement_in tag) (statements_of kind)))

-- none of the tags that stand apart
pub record PlainTag (tag : List ℕ) : Type 0 where
  pub ontology : bytes_eq tag (codes "ontology") ≡ false
  pub metadata : bytes_eq tag (codes "is_metadata_tag") ≡ false
  pub import : bytes_eq tag (codes "import") ≡ false
  pub intersection : bytes_eq tag (codes "intersection_of") ≡ false
  pub union : bytes_eq tag (codes "union_of") ≡ false

ontology_no_form : form_of (codes "ontology") ≡ None
unfolding form_of rows
ontology_no_form = refl

pub import_no_form : form_of (codes "import") ≡ None
unfolding form_of rows
import_no_form = refl

pub intersection_no_form : form_of (codes "intersection_of") ≡ None
unfolding form_of rows
intersection_no_form = refl

pub union_no_form : form_of (codes "union_of") ≡ None
unfolding form_of rows
union_no_form = refl

pub note_tag : (c : Clause) → IsNote c → PlainTag c.tag
note_tag c is = record {
  ontology = not_tag c.tag (codes "ontology") is.form ontology_no_form is.has;
  metadata = not_tag c.tag (codes "is_metadata_tag") is.form metadata_has_no_form is.has;
  import = not_tag c.tag (codes "import") is.form import_no_form is.has;
  intersection = not_tag c.tag (codes "intersection_of") is.form intersection_no_form is.has;
  union = not_tag c.tag (codes "union_of") is.form union_no_form is.has;
}

abbrev is_plain_tag : List ℕ → Bool
is_plain_tag tag =
    not (bytes_eq tag (codes "ontology")) && (not (bytes_eq tag (codes "is_metadata_tag")) && (not (bytes_eq tag (codes "import"))
    && (not (bytes_eq tag (codes "intersection_of")) && not (bytes_eq tag (codes "union_of")))))

plain_rows : (kind : FrameKind) → list_all (λ (row : StatementRow). is_plain_tag row.tag) (statements_of kind) ≡ true
unfolding statements_of
plain_rows Header = refl
plain_rows Term = refl
plain_rows Typedef = refl
plain_rows Instance = refl

plain_from_test : (tag : List ℕ) → is_plain_tag tag ≡ true → PlainTag tag
plain_from_test tag is =
    let a = and_parts (not (bytes_eq tag (codes "ontology"))) _ is in
    let b = and_parts (not (bytes_eq tag (codes "is_metadata_tag"))) _ a.1 in
    let c = and_parts (not (bytes_eq tag (codes "import"))) _ b.1 in
    let d = and_parts (not (bytes_eq tag (codes "intersection_of"))) _ c.1 in
    record {
      ontology = not-true (bytes_eq tag (codes "ontology")) a.0;
      metadata = not-true (bytes_eq tag (codes "is_metadata_tag")) b.0;
      import = not-true (bytes_eq tag (codes "import")) c.0;
      intersection = not-true (bytes_eq tag (codes "intersection_of")) d.0;
      union = not-true (bytes_eq tag (codes "union_of")) d.1;
    }

pub statement_tag : (kind : FrameKind) (c : Clause) → IsStatementIn kind c → PlainTag c.tag
statement_tag kind c is = plain_from_test c.tag (subst (λ t. is_plain_tag t ≡ true) is.same (passes_in (λ (row : StatementRow). is_plain_tag row.tag) (statements_of kind) is.row (plain_rows kind) is.among))

pub id_tag : PlainTag (codes "id")
id_tag = plain_from_test (codes "id") refl

pub is_statement : (reading : Reading) (kind : FrameKind) (x : List ℕ) (c : Clause) (a : Axiom) → statement_meaning reading kind x c ≡ Some a → IsStatementIn kind c
is_statement reading kind x c a is =
    let body = option_map_some _ (option_and_then (λ statement. stated_plainly reading x statement c.value) (first_some (statement_in c.tag) (statements_of kind))) a (meant_plainly reading kind x c a is) in
    let statement = option_and_then_some (λ statement. stated_plainly reading x statement c.value) (first_some (statement_in c.tag) (statements_of kind)) body.0 body.1 in
    let row = first_some-found (statement_in c.tag) (statements_of kind) statement.0 statement.1 in
    record {
      raw = not_raw c.value statement.0 body.0 statement.2;
      row = row.0;
      among = row.1;
      same = same_bytes row.0.tag c.tag (where_true_some (bytes_eq row.0.tag c.tag) (Some row.0.statement) statement.0 row.2).0;
    }
  where
    not_raw : (v : Value) (statement : Statement) (said : Rattle.owl_axioms.specs.declared.body.Body.Body) → stated_plainly reading x statement v ≡ Some said → is_raw v ≡ false
    not_raw (value.Raw text) statement said is = absurd (none-some said (sym (stated_raw reading x statement text) ∙ is))
    not_raw _ statement said is = refl

-- ---- qualifiers of spelled clauses have no key with a meaning of its own

pub note_no_reserved : (writing : Writing) (kind : FrameKind) (note : Note) (c : Clause) → spelling writing kind note ≡ Some c → list_any (λ (q : Qualifier). is_reserved_key q.key) c.qualifiers ≡ false
unfolding spelling clause_by
note_no_reserved writing kind note c is =
    let found = first_some-found (clause_by writing note) (tags_tried kind) c is in
    let form = option_and_then_some (λ form. option_and_then (clause_with found.0) (spelled_as writing form note)) (form_of found.0) c found.2 in
    let one = option_and_then_some (clause_with found.0) (spelled_as writing form.0 note) c form.2 in
    let made = option_map_some (λ (qs : List Qualifier). let d : Clause = record { tag = found.0; value = one.0.value; qualifiers = qs } in d) (qualifiers_of one.0.rest) c one.2 in
    subst (λ (d : Clause). list_any (λ (q : Qualifier). is_reserved_key q.key) d.qualifiers ≡ false) made.2 (no_reserved one.0.rest made.0 made.1)

pub statement_no_reserved : (writing : Writing) (kind : FrameKind) (x : List ℕ) (a : Axiom) (c : Clause) → statement_spelling writing kind x a ≡ Some c → list_any (λ (q : Qualifier). is_reserved_key q.key) c.qualifiers ≡ false
statement_no_reserved writing kind x a c is =
    let row = first_some-found (plain_by writing x a) (statements_of kind) c (sym (spelling_is_plain writing kind x a) ∙ is) in
    let v = option_and_then_some (λ v. option_map (λ qualifiers. let d : Clause = record { tag = row.0.tag; value = v; qualifiers = qualifiers } in d) (qualifiers_of a.sides)) (value_plainly writing x row.0.statement a.body) c row.2 in
    let made = option_map_some (λ (qs : List Qualifier). let d : Clause = record { tag = row.0.tag; value = v.0; qualifiers = qs } in d) (qualifiers_of a.sides) c v.2 in
    subst (λ (d : Clause). list_any (λ (q : Qualifier). is_reserved_key q.key) d.qualifiers ≡ false) made.2 (no_reserved a.sides made.0 made.1)

-- ---- translatable

first_false : (a b c d : Bool) → a ≡ false → (a && b && c && d) ≡ false
first_false a b c d is = λ i. is i && b && c && d

second_false : (a b c d : Bool) → b ≡ false → (a && b && c && d) ≡ false
second_false true b c d is = λ i. is i && c && d
second_false false b c d is = refl

third_false : (a b c d : Bool) → c ≡ false → (a && b && c && d) ≡ false
third_false true true c d is = λ i. is i && d
third_false true false c d is = refl
third_false false b c d is = refl

middle_false : (a b c : Bool) → b ≡ false → (a && b && c) ≡ false
middle_false true b c is = λ i. is i && c
middle_false false b c is = refl

pub where_true_none : {X : Type 0} (b : Bool) → where_true {X = X} b None ≡ None
where_true_none true = refl
where_true_none false = refl

pub no_group : (one : Framed) → PlainTag one.clause.tag → group_of one ≡ None
no_group one plain =
    ap (where_true _) (cond-false (bytes_eq one.clause.tag (codes "intersection_of")) _ _ plain.intersection ∙ cond-false (bytes_eq one.clause.tag (codes "union_of")) _ _ plain.union)
    ∙ where_true_none _

-- why a clause is none of an annotation property
abbrev pub IsNoneOfMetadata : Situation → Framed → Type 0
IsNoneOfMetadata situation one = (is_typedef one.frame ≡ false) ⊎ (is_metadata situation (situation.reading.iri one.id) ≡ false) ⊎ (first_some (statement_in one.clause.tag) (statements_of Typedef) ≡ None)

none_of_metadata : (situation : Situation) (one : Framed) → IsNoneOfMetadata situation one → is_of_metadata situation one ≡ false
none_of_metadata situation one is =
    let a = is_typedef one.frame in
    let b = is_metadata situation (situation.reading.iri one.id) in
    let c = is_some (first_some (statement_in one.clause.tag) (statements_of Typedef)) in
    let d = not (is_truth_value false one.clause.value) in
    ⊎_elim (λ frame. first_false a b c d frame)
    (λ more. ⊎_elim (λ known. second_false a b c d known) (λ none. third_false a b c d (ap is_some none)) more) is

-- a clause that nothing keeps from being translated
pub record Plain (d : List Framed) (one : Framed) : Type 0 where
  pub raw : is_raw one.clause.value ≡ false
  pub six : has_reserved_key one ≡ false
  pub ontology : bytes_eq one.clause.tag (codes "ontology") ≡ false
  pub metadata : IsNoneOfMetadata (situation_of d) one
  pub group : option_map_or (is_broken (situation_of d) d ((situation_of d).reading.iri one.id)) (group_of one) false ≡ false

pub is_translatable : (d : List Framed) (one : Framed) → Plain d one → is_untranslatable d one ≡ false
unfolding is_untranslatable
is_translatable d one plain =
    let named = middle_false (is_header one) (has_tag (codes "ontology") one) _ plain.ontology in
    λ i. (plain.raw i || (plain.six i && not (Rattle.obo_mapping.specs.Documents.is_import one || is_truth_value false one.clause.value))) || plain.group i || none_of_metadata (situation_of d) one plain.metadata i || named i
