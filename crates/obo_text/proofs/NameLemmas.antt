-- What the names of rows come to: for each frame the one name that it has.
use Rattle.std.proofs.Common.{◌≡◌, ◌⊎◌, ◌&&◌, inl, inr, ⊎_elim, ℕ, Bool, true, false, List, [], ◌∷◌, ◌++◌, Option, None, Some, codes, cond, map, refl, sym, ap, subst, ◌∙◌}
use Rattle.std.specs.Prelude.{is_some}
use Rattle.std.specs.Cmp.{tied_itself}
use Rattle.std.specs.Cmp.Lexicographic.{nat_list_cmp_total, texts_ties}
use Rattle.std.specs.List.{cons_option, filter_map, flat_map}
use Rattle.std.specs.Option.{option_map}
use Rattle.std.specs.Ordering.{is_eq}
use Rattle.std.specs.Str.{bytes_eq}
use Rattle.std.specs.declared.cmp.Ordering.TheVariants.{Equal, Less}
use Rattle.std.proofs.lemmas.Bool.{both_ways}
use Rattle.std.proofs.lemmas.List.Elements.{filter_map-append}
use Rattle.std.proofs.lemmas.Option.{none-some}
use Rattle.std.proofs.lemmas.Slice.Eq.{bytes_eq-Decides}
use Rattle.text_sets.specs.Sets.{In}
use Rattle.text_sets.specs.Sorted.{IsBelow, Rises, text_cmp}
use Rattle.text_sets.proofs.SortedLemmas.{Rises-sorted_by}
use Rattle.obo_tags.specs.declared.kind.FrameKind.{FrameKind}
use Rattle.obo_clause.specs.declared.clause.Clause.{Clause}
use Rattle.obo_clause.specs.declared.clause.Value.{Value}
use Rattle.obo_clause.specs.declared.clause.Value.TheVariants as value
use Rattle.clause_printer.specs.Printing.{run_text, value_text}
use Rattle.obo_frames.specs.Framed.{Framed, framed, id_clause}
use Rattle.obo_text.specs.Order.{id_at, ids_of, later_clauses}
use Rattle.obo_text.specs.Text.{name_at, name_in, only_one, text_in}
use Rattle.obo_text.specs.inner.Rows.{held_from, name_for, one_held, row_of}
use Rattle.obo_text.specs.declared.names.Named.TheVariants.{Many, One}
use Rattle.obo_text.specs.inner.RowState.{RowState}
use Rattle.obo_text.proofs.MemberLemmas.{id_each, later_is}
use Rattle.obo_text.proofs.RowLemmas.{is_below, run_id, run_of, runs_in}
use Rattle.obo_text.proofs.SoundLemmas.{AreSound}

-- ---- what is held is the only name

many_stay : (id : List ℕ) (rows : List RowState) → held_from id (Some Many) rows ≡ Some Many
many_stay id [] = refl
many_stay id (row ∷ rows) =
    elim (row.is_name && is_eq (text_cmp row.id id)) as (λ b. held_from id (cond b (Some Many) (Some Many)) rows ≡ Some Many) [
      | true ↦ many_stay id rows
      | false ↦ many_stay id rows
    ]

-- the two tests of a row's id
same_test : (row : RowState) (id : List ℕ) → (row.is_name && bytes_eq row.id id) ≡ (row.is_name && is_eq (text_cmp row.id id))
same_test row id = ap (λ b. row.is_name && b) (texts_ties row.id id)

held_one : (id : List ℕ) (name : List ℕ) (rows : List RowState) → one_held (held_from id (Some (One name)) rows) ≡ only_one (name ∷ filter_map (name_for id) rows)
held_one id name [] = refl
held_one id name (row ∷ rows) =
    elim (row.is_name && is_eq (text_cmp row.id id)) as (λ b. (row.is_name && is_eq (text_cmp row.id id)) ≡ b → one_held (held_from id (cond b (Some Many) (Some (One name))) rows) ≡ only_one (name ∷ cons_option (name_for id row) (filter_map (name_for id) rows))) [
      | true ↦ λ is. ap one_held (many_stay id rows) ∙ sym (ap (λ b. only_one (name ∷ cons_option (cond b (Some row.value) None) (filter_map (name_for id) rows))) (same_test row id ∙ is))
      | false ↦ λ is. held_one id name rows ∙ sym (ap (λ b. only_one (name ∷ cons_option (cond b (Some row.value) None) (filter_map (name_for id) rows))) (same_test row id ∙ is))
    ] refl

pub held_is : (id : List ℕ) (rows : List RowState) → one_held (held_from id None rows) ≡ only_one (filter_map (name_for id) rows)
held_is id [] = refl
held_is id (row ∷ rows) =
    elim (row.is_name && is_eq (text_cmp row.id id)) as (λ b. (row.is_name && is_eq (text_cmp row.id id)) ≡ b → one_held (held_from id (cond b (Some (One row.value)) None) rows) ≡ only_one (cons_option (name_for id row) (filter_map (name_for id) rows))) [
      | true ↦ λ is. held_one id row.value rows ∙ sym (ap (λ b. only_one (cons_option (cond b (Some row.value) None) (filter_map (name_for id) rows))) (same_test row id ∙ is))
      | false ↦ λ is. held_is id rows ∙ sym (ap (λ b. only_one (cons_option (cond b (Some row.value) None) (filter_map (name_for id) rows))) (same_test row id ∙ is))
    ] refl

-- ---- the names of a frame

-- a clause that gives a name has the name for its value
name_value : (clause : Clause) (name : List ℕ) → name_in clause ≡ Some name → value_text clause.value ≡ run_text true name
name_value clause name is = text_value clause.value (bytes_eq clause.tag (codes "name")) is
  where
    text_value : (one : Value) (test : Bool) → cond test (text_in one) None ≡ Some name → value_text one ≡ run_text true name
    text_value one false is = absurd (none-some name is)
    text_value (value.Text text) true is = let same : text ≡ name = cc in ap (run_text true) same
    text_value (value.Id a) true is = absurd (none-some name is)
    text_value (value.Pair a b) true is = absurd (none-some name is)
    text_value (value.Bool a) true is = absurd (none-some name is)
    text_value (value.Def a b) true is = absurd (none-some name is)
    text_value (value.Synonym a b c d) true is = absurd (none-some name is)
    text_value (value.XrefValue a) true is = absurd (none-some name is)
    text_value (value.Literal a b c) true is = absurd (none-some name is)
    text_value (value.Link a b) true is = absurd (none-some name is)
    text_value (value.SubsetDef a b) true is = absurd (none-some name is)
    text_value (value.SynonymDef a b c) true is = absurd (none-some name is)
    text_value (value.Raw a) true is = absurd (none-some name is)

same_itself : (id : List ℕ) → bytes_eq id id ≡ true
same_itself id = (bytes_eq-Decides id id).1 refl

row_name : (kind : FrameKind) (id : List ℕ) (clause : Clause) → name_for id (row_of kind id clause) ≡ option_map (run_text true) (name_in clause)
row_name kind id clause =
    elim (name_in clause) as (λ o. name_in clause ≡ o → cond (is_some o && bytes_eq id id) (Some (value_text clause.value)) None ≡ option_map (run_text true) o) [
      | None ↦ λ _. refl
      | Some name ↦ λ is. ap (λ b. cond b (Some (value_text clause.value)) None) (same_itself id) ∙ ap Some (name_value clause name is)
    ] refl

names_are : (kind : FrameKind) (id : List ℕ) (cs : List Clause) → filter_map (name_for id) (map (row_of kind id) cs) ≡ map (run_text true) (filter_map name_in cs)
names_are kind id [] = refl
names_are kind id (c ∷ cs) =
    (λ i. cons_option (row_name kind id c i) (names_are kind id cs i)) ∙ cons_mapped (name_in c) (filter_map name_in cs)
  where
    cons_mapped : (o : Option (List ℕ)) (names : List (List ℕ)) → cons_option (option_map (run_text true) o) (map (run_text true) names) ≡ map (run_text true) (cons_option o names)
    cons_mapped None names = refl
    cons_mapped (Some name) names = refl

only_mapped : (names : List (List ℕ)) → only_one (map (run_text true) names) ≡ option_map (run_text true) (only_one names)
only_mapped [] = refl
only_mapped (a ∷ []) = refl
only_mapped (a ∷ b ∷ more) = refl

-- rows of other frames give no name
no_names : (id : List ℕ) (rows : List RowState) → ((row : RowState) → In row rows → bytes_eq row.id id ≡ false) → filter_map (name_for id) rows ≡ []
no_names id [] each = refl
no_names id (row ∷ rows) each =
    ap (λ b. cons_option (cond (row.is_name && b) (Some row.value) None) (filter_map (name_for id) rows)) (each row (inl refl))
    ∙ ap (λ b. cons_option (cond b (Some row.value) None) (filter_map (name_for id) rows)) (never row.is_name)
    ∙ no_names id rows (λ other later. each other (inr later))
  where
    never : (b : Bool) → (b && false) ≡ false
    never true = refl
    never false = refl

apart_from : (one other : List ℕ) → (one ≡ other → ⊥) → bytes_eq one other ≡ false
apart_from one other differ =
    elim (bytes_eq one other) as (λ b. bytes_eq one other ≡ b → bytes_eq one other ≡ false) [
      | true ↦ λ is. absurd (differ ((bytes_eq-Decides one other).0 is))
      | false ↦ λ is. is
    ] refl

other_run : (kind : FrameKind) (ds : List Framed) (id other : List ℕ) → (other ≡ id → ⊥) → filter_map (name_for id) (run_of kind ds other) ≡ []
other_run kind ds id other differ =
    no_names id (run_of kind ds other) (λ row here. apart_from row.id id (λ same. differ (sym (run_id kind ds other row here) ∙ same)))

other_runs : (kind : FrameKind) (ds : List Framed) (id : List ℕ) (ids : List (List ℕ)) → (In id ids → ⊥) → filter_map (name_for id) (flat_map (run_of kind ds) ids) ≡ []
other_runs kind ds id [] apart = refl
other_runs kind ds id (other ∷ ids) apart =
    filter_map-append (name_for id) (run_of kind ds other) (flat_map (run_of kind ds) ids)
    ∙ (λ i. other_run kind ds id other (λ same. apart (inl same)) i ++ other_runs kind ds id ids (λ later. apart (inr later)) i)

-- the id clause gives no name
own_run : (kind : FrameKind) (ds : List Framed) (id : List ℕ) → filter_map (name_for id) (run_of kind ds id) ≡ map (run_text true) (filter_map name_in (later_clauses ds kind id))
own_run kind ds id =
    ap (λ o. cons_option o (filter_map (name_for id) (map (row_of kind id) (later_clauses ds kind id)))) (row_name kind id (id_clause id))
    ∙ names_are kind id (later_clauses ds kind id)

not_among : (id : List ℕ) (ids : List (List ℕ)) → IsBelow (λ (i : List ℕ). i) id ids → In id ids → ⊥
not_among id ids below here =
    let no : Equal ≡ Less = sym (tied_itself nat_list_cmp_total id) ∙ is_below id ids id below here in absurd (cc)

among_runs : (kind : FrameKind) (ds : List Framed) (id : List ℕ) (ids : List (List ℕ)) → Rises (λ (i : List ℕ). i) ids → In id ids → filter_map (name_for id) (flat_map (run_of kind ds) ids) ≡ map (run_text true) (filter_map name_in (later_clauses ds kind id))
among_runs kind ds id [] rises here = absurd here
among_runs kind ds id (other ∷ ids) rises (inl same) =
    filter_map-append (name_for id) (run_of kind ds other) (flat_map (run_of kind ds) ids)
    ∙ (λ i. filter_map (name_for id) (run_of kind ds (same i)) ++ other_runs kind ds id ids (λ later. not_among other ids rises.0 (subst (λ x. In x ids) (sym same) later)) i)
    ∙ append_nothing (filter_map (name_for id) (run_of kind ds id))
    ∙ own_run kind ds id
  where
    append_nothing : {X : Type 0} (xs : List X) → xs ++ [] ≡ xs
    append_nothing [] = refl
    append_nothing (x ∷ xs) = ap (λ l. x ∷ l) (append_nothing xs)
among_runs kind ds id (other ∷ ids) rises (inr later) =
    filter_map-append (name_for id) (run_of kind ds other) (flat_map (run_of kind ds) ids)
    ∙ (λ i. other_run kind ds id other (λ same. not_among other ids rises.0 (subst (λ x. In x ids) (sym same) later)) i ++ filter_map (name_for id) (flat_map (run_of kind ds) ids))
    ∙ among_runs kind ds id ids rises.1 later

among_or_not : (id : List ℕ) (ids : List (List ℕ)) → In id ids ⊎ (In id ids → ⊥)
among_or_not id [] = inr (λ none. none)
among_or_not id (other ∷ ids) =
    elim (bytes_eq other id) as (λ b. bytes_eq other id ≡ b → In id (other ∷ ids) ⊎ (In id (other ∷ ids) → ⊥)) [
      | true ↦ λ is. inl (inl ((bytes_eq-Decides other id).0 is))
      | false ↦ λ is. ⊎_elim (λ here. inl (inr here)) (λ none. inr (λ found. ⊎_elim (λ same. both_ways (bytes_eq other id) is ((bytes_eq-Decides other id).1 same)) none found)) (among_or_not id ids)
    ] refl

module _ (ds : List Framed) (sound : AreSound ds) where
  nothing_later : (kind : FrameKind) (id : List ℕ) (cs : List Clause) → ((c : Clause) → In c cs → In c (later_clauses ds kind id)) → (In id (ids_of kind ds) → ⊥) → cs ≡ []
  nothing_later kind id [] each none = refl
  nothing_later kind id (c ∷ cs) each none =
      absurd (none (id_each ds sound kind (framed kind id c) (later_is ds kind id c (each c (inl refl))).among refl))

  pub names_in_runs : (kind : FrameKind) (id : List ℕ) → one_held (held_from id None (runs_in kind ds)) ≡ option_map (run_text true) (name_at ds kind id)
  names_in_runs kind id =
      held_is id (runs_in kind ds)
      ∙ ap only_one (⊎_elim
      (λ here. among_runs kind ds id (ids_of kind ds) (Rises-sorted_by (λ (i : List ℕ). i) (filter_map (id_at kind) ds)) here)
      (λ none. other_runs kind ds id (ids_of kind ds) none ∙ sym (ap (λ cs. map (run_text true) (filter_map name_in cs)) (nothing_later kind id (later_clauses ds kind id) (λ c here. here) none)))
      (among_or_not id (ids_of kind ds)))
      ∙ only_mapped (filter_map name_in (later_clauses ds kind id))
