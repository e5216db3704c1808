-- The clause of a statement states it, in the frame kind in which it is spelled.
use Rattle.std.proofs.Common.{◌≡◌, ℕ, Bool, true, false, not, ◌&&◌, List, [], ◌∷◌, ◌++◌, codes, map, None, Some, inl, inr, refl, sym, ap, subst, ◌∙◌}
use Rattle.std.specs.List.{list_all, list_any}
use Rattle.std.specs.Option.{is_none, option_and_then, option_map, option_or}
use Rattle.std.specs.Str.{bytes_eq}
use Rattle.std.proofs.lemmas.Bool.{and_parts, cond-false, cond-true, not-true, or_parts}
use Rattle.std.proofs.Common.{append_assoc}
use Rattle.iri_map.proofs.CandidateLemmas.{bytes_eq-refl}
use Rattle.obo_tags.specs.declared.kind.FrameKind.{FrameKind}
use Rattle.obo_tags.specs.declared.kind.FrameKind.TheVariants.{Header, Instance, Term, Typedef}
use Rattle.obo_clause.specs.declared.clause.Clause.{Clause}
use Rattle.obo_clause.specs.declared.clause.Qualifier.{Qualifier}
use Rattle.text_sets.specs.Sets.{In}
use Rattle.owl_axioms.specs.Proper.{is_proper_body}
use Rattle.owl_axioms.specs.Text.{side_text}
use Rattle.owl_axioms.specs.declared.body.Axiom.{Axiom}
use Rattle.text_sets.specs.Parts.{first_some}
use Rattle.text_sets.specs.Sorted.{Rises}
use Rattle.text_sets.proofs.PartLemmas.{first_some-found, option_and_then_some, option_map_some, option_cases}
use Rattle.obo_notes.specs.Context.{Agree, Reading, Writing}
use Rattle.obo_notes.specs.Forms.{said}
use Rattle.obo_notes.specs.Keys.{side_of_qualifier}
use Rattle.obo_notes.specs.Notes.{form_of, meaning, qualifiers_of, rows, sorted_sides, with_qualifiers}
use Rattle.obo_statements.specs.Values.{stated_plainly, value_plainly}
use Rattle.obo_statements.specs.Statements.{StatementRow, statement_in, statement_meaning, statement_spelling, statements_of}
use Rattle.obo_notes.proofs.Guards.{same_bytes, where_true_some}
use Rattle.obo_notes.proofs.NoteLaws.{same_sides}
use Rattle.obo_statements.proofs.PlainMeaning.{meaning_is_plain, no_extras, no_reserved, plain_by, spelling_is_plain}
use Rattle.obo_statements.proofs.StatementLaws.{statement-back}

pub id_has_no_form : form_of (codes "id") ≡ None
unfolding form_of rows
id_has_no_form = refl

-- ---- the rows of statements

-- no note has its tag, and no `id` clause
abbrev pub is_apart : StatementRow → Bool
is_apart row = is_none (form_of row.tag) && not (bytes_eq row.tag (codes "id"))

pub all_apart : (kind : FrameKind) → list_all is_apart (statements_of kind) ≡ true
unfolding form_of rows statements_of
all_apart Header = refl
all_apart Term = refl
all_apart Typedef = refl
all_apart Instance = refl

pub passes_in : {X : Type 0} (p : X → Bool) (xs : List X) (x : X) → list_all p xs ≡ true → In x xs → p x ≡ true
passes_in p [] x all here = absurd here
passes_in p (z ∷ xs) x all (inl is) = subst (λ y. p y ≡ true) is (and_parts (p z) (list_all p xs) all).0
passes_in p (z ∷ xs) x all (inr later) = passes_in p xs x (and_parts (p z) (list_all p xs) all).1 later

-- a row is the first of its tag, where no row before it has the tag
abbrev are_first : List StatementRow → List StatementRow → Bool
are_first before [] = true
are_first before (row ∷ rows) = not (list_any (λ (one : StatementRow). bytes_eq one.tag row.tag) before) && are_first (before ++ row ∷ []) rows

rows_first : (kind : FrameKind) → are_first [] (statements_of kind) ≡ true
unfolding statements_of
rows_first Header = refl
rows_first Term = refl
rows_first Typedef = refl
rows_first Instance = refl

pass_over : (before others : List StatementRow) (tag : List ℕ) → list_any (λ (one : StatementRow). bytes_eq one.tag tag) before ≡ false → first_some (statement_in tag) (before ++ others) ≡ first_some (statement_in tag) others
pass_over [] others tag none = refl
pass_over (z ∷ before) rows tag none =
    let parts = or_parts (bytes_eq z.tag tag) (list_any (λ (one : StatementRow). bytes_eq one.tag tag) before) none in
    ap (λ o. option_or o (first_some (statement_in tag) (before ++ rows))) (cond-false (bytes_eq z.tag tag) (Some z.statement) None parts.0) ∙ pass_over before rows tag parts.1

found_again : (before rows : List StatementRow) (row : StatementRow) → are_first before rows ≡ true → In row rows → first_some (statement_in row.tag) (before ++ rows) ≡ Some row.statement
found_again before [] row first here = absurd here
found_again before (z ∷ rows) row first (inl is) =
    let new = and_parts (not (list_any (λ (one : StatementRow). bytes_eq one.tag z.tag) before)) (are_first (before ++ z ∷ []) rows) first in
    subst (λ r. first_some (statement_in r.tag) (before ++ z ∷ rows) ≡ Some r.statement) is
    (pass_over before (z ∷ rows) z.tag (not-true (list_any (λ (one : StatementRow). bytes_eq one.tag z.tag) before) new.0)
    ∙ ap (λ o. option_or o (first_some (statement_in z.tag) rows)) (cond-true (bytes_eq z.tag z.tag) (Some z.statement) None (bytes_eq-refl z.tag)))
found_again before (z ∷ rows) row first (inr later) =
    let new = and_parts (not (list_any (λ (one : StatementRow). bytes_eq one.tag z.tag) before)) (are_first (before ++ z ∷ []) rows) first in
    subst (λ all. first_some (statement_in row.tag) all ≡ Some row.statement) (append_assoc before (z ∷ []) rows) (found_again (before ++ z ∷ []) rows row new.1 later)

module _ (reading : Reading) (writing : Writing) (agree : Agree reading writing) where
  -- what is spelled as a statement states it
  pub statement_reads_back : (kind : FrameKind) (x : List ℕ) (one : Axiom) (clause : Clause) → is_proper_body one.body ≡ true → Rises side_text one.sides → statement_spelling writing kind x one ≡ Some clause
      → (statement_meaning reading kind x clause ≡ Some one) × (meaning reading clause ≡ None) × (bytes_eq clause.tag (codes "id") ≡ false)
  unfolding meaning
  statement_reads_back kind x one clause proper rises is =
      let row = first_some-found (plain_by writing x one) (statements_of kind) clause (sym (spelling_is_plain writing kind x one) ∙ is) in
      let v = option_and_then_some (λ v. option_map (λ qualifiers. let c : Clause = record { tag = row.0.tag; value = v; qualifiers = qualifiers } in c) (qualifiers_of one.sides)) (value_plainly writing x row.0.statement one.body) clause row.2 in
      let made = option_map_some (λ (qs : List Qualifier). let c : Clause = record { tag = row.0.tag; value = v.0; qualifiers = qs } in c) (qualifiers_of one.sides) clause v.2 in
      let says = statement-back reading writing agree x row.0.statement one.body v.0 proper v.1 in
      let sides = same_sides one.sides [] one.sides made.0 rises (Rattle.text_sets.proofs.PartLemmas.Splits-nothing one.sides) made.1 in
      let apart = and_parts (is_none (form_of row.0.tag)) (not (bytes_eq row.0.tag (codes "id"))) (passes_in is_apart (statements_of kind) row.0 (all_apart kind) row.1) in
      let stated_is : option_and_then (λ statement. stated_plainly reading x statement v.0) (first_some (statement_in row.0.tag) (statements_of kind)) ≡ Some one.body =
      ap (option_and_then (λ statement. stated_plainly reading x statement v.0)) (found_again [] (statements_of kind) row.0 (rows_first kind) row.1) ∙ says in
      let c : Clause = record { tag = row.0.tag; value = v.0; qualifiers = made.0 } in
      let no_note : option_and_then (λ form. said reading form v.0) (form_of row.0.tag) ≡ None = ap (option_and_then (λ form. said reading form v.0)) (Rattle.obo_notes.proofs.Guards.none_from_is_none (form_of row.0.tag) apart.0) in
      subst (λ (z : Clause). (statement_meaning reading kind x z ≡ Some one) × (meaning reading z ≡ None) × (bytes_eq z.tag (codes "id") ≡ false)) made.2 (
        meaning_is_plain reading kind x c (no_extras made.0 (no_reserved one.sides made.0 made.1))
            ∙ ap (option_map (λ b. let a : Axiom = record { body = b; sides = sorted_sides (map side_of_qualifier made.0) } in a)) stated_is ∙ (λ i. Some (record { body = one.body; sides = sides i })),
        ap (option_map (with_qualifiers made.0)) no_note,
        not-true (bytes_eq row.0.tag (codes "id")) apart.1,
      )
