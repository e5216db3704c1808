-- The clauses of the written frames are those of the document.
use Rattle.text_sets.proofs.KeyLemmas.{sorted_on-each, sorted_on-only}
use Rattle.text_sets.proofs.SortedLemmas.{sorted_by-each, sorted_by-only, texts_order}
use Rattle.text_sets.specs.Sorted.{texts_cmp}
use Rattle.std.proofs.Common.{Bool, List, None, Option, Some, [], ap, cond, false, inl, inr, map, refl, subst, sym, true, ℕ, ⊎_elim, ◌&&◌, ◌++◌, ◌∙◌, ◌∷◌, ◌≡◌}
use Rattle.std.specs.Prelude.{is_none}
use Rattle.std.specs.List.{filter_map, flat_map}
use Rattle.std.specs.Str.{bytes_eq}
use Rattle.std.proofs.lemmas.Bool.{and_parts}
use Rattle.std.proofs.lemmas.Option.{none-some, same_Some}
use Rattle.std.proofs.lemmas.Slice.Eq.{bytes_eq-Decides}
use Rattle.text_sets.specs.Sets.{AreTold, In, SameMembers}
use Rattle.obo_tags.specs.declared.kind.FrameKind.{FrameKind}
use Rattle.obo_clause.specs.declared.clause.Clause.{Clause}
use Rattle.obo_clause.specs.Spelling.{Spells}
use Rattle.obo_clause.proofs.AnswerLemmas.{spells-one-clause}
use Rattle.clause_printer.specs.Printing.{behind_space, block_text, clause_text, value_text}
use Rattle.clause_printer.proofs.PrintedLines.{printed_line}
use Rattle.obo_frames.specs.Frames.{id_in}
use Rattle.obo_frames.specs.Framed.{Framed, framed, id_clause}
use Rattle.obo_text.specs.Order.{id_at, ids_of, later_clause, later_clauses, order_of, same_kind}
use Rattle.obo_text.specs.Text.{Head, head, heads_of}
use Rattle.obo_text.proofs.ReadLemmas.{frame_framed}
use Rattle.text_sets.proofs.SetLemmas.{In-append, In-append_left, In-append_right, In-filter_map, In-flat_map, In-from_filter_map, In-from_flat_map, In-from_map, In-map}
use Rattle.obo_text.proofs.SoundLemmas.{AreSound, header_none, later_fits}
use Rattle.obo_tags.specs.declared.kind.FrameKind.TheVariants as kinds

same_kind_is : (one other : FrameKind) → same_kind one other ≡ true → one ≡ other
same_kind_is kinds.Header kinds.Header h = refl
same_kind_is kinds.Header kinds.Term h = absurd (cc)
same_kind_is kinds.Header kinds.Typedef h = absurd (cc)
same_kind_is kinds.Header kinds.Instance h = absurd (cc)
same_kind_is kinds.Term kinds.Header h = absurd (cc)
same_kind_is kinds.Term kinds.Term h = refl
same_kind_is kinds.Term kinds.Typedef h = absurd (cc)
same_kind_is kinds.Term kinds.Instance h = absurd (cc)
same_kind_is kinds.Typedef kinds.Header h = absurd (cc)
same_kind_is kinds.Typedef kinds.Term h = absurd (cc)
same_kind_is kinds.Typedef kinds.Typedef h = refl
same_kind_is kinds.Typedef kinds.Instance h = absurd (cc)
same_kind_is kinds.Instance kinds.Header h = absurd (cc)
same_kind_is kinds.Instance kinds.Term h = absurd (cc)
same_kind_is kinds.Instance kinds.Typedef h = absurd (cc)
same_kind_is kinds.Instance kinds.Instance h = refl

pub same_kind_itself : (one : FrameKind) → same_kind one one ≡ true
same_kind_itself kinds.Header = refl
same_kind_itself kinds.Term = refl
same_kind_itself kinds.Typedef = refl
same_kind_itself kinds.Instance = refl

where_some : {X : Type 0} (test : Bool) (x y : X) → cond test (Some x) None ≡ Some y → (test ≡ true) × (x ≡ y)
where_some true x y is = (refl, same_Some x y is)
where_some false x y is = absurd (none-some y is)

is_none_is : {X : Type 0} (o : Option X) → is_none o ≡ true → o ≡ None
is_none_is None h = refl
is_none_is (Some x) h = let no : false ≡ true = h in absurd (cc)

-- ---- clauses behind the id

-- a later clause is one of the document's
pub record IsLater (ds : List Framed) (kind : FrameKind) (id : List ℕ) (clause : Clause) : Type 0 where
  pub among : In (framed kind id clause) ds
  pub none : id_in clause ≡ None

from_later : (ds : List Framed) (kind : FrameKind) (id : List ℕ) (clause : Clause) → In clause (filter_map (later_clause kind id) ds) → IsLater ds kind id clause
from_later ds kind id clause here =
    let found = In-from_filter_map (later_clause kind id) clause ds here in
    let one = found.0 in
    let is = where_some (same_kind one.frame kind && (bytes_eq one.id id && is_none (id_in one.clause))) one.clause clause found.2 in
    let tests = and_parts (same_kind one.frame kind) (bytes_eq one.id id && is_none (id_in one.clause)) is.0 in
    let more = and_parts (bytes_eq one.id id) (is_none (id_in one.clause)) tests.1 in
    let frame_is = same_kind_is one.frame kind tests.0 in
    let id_is = (bytes_eq-Decides one.id id).0 more.0 in
    record {
      among = subst (λ x. In x ds) (λ i. framed (frame_is i) (id_is i) (is.1 i)) found.1;
      none = ap id_in (sym is.1) ∙ is_none_is (id_in one.clause) more.1;
    }

pub later_is : (ds : List Framed) (kind : FrameKind) (id : List ℕ) (clause : Clause) → In clause (later_clauses ds kind id) → IsLater ds kind id clause
later_is ds kind id clause here =
    from_later ds kind id clause (sorted_on-only texts_cmp texts_order (order_of kind) (filter_map (later_clause kind id) ds) clause here)

to_later : (ds : List Framed) (kind : FrameKind) (id : List ℕ) (clause : Clause) → In (framed kind id clause) ds → id_in clause ≡ None → In clause (filter_map (later_clause kind id) ds)
to_later ds kind id clause here none =
    In-filter_map (later_clause kind id) clause ds (framed kind id clause) here
    (ap (λ b. cond (b && (bytes_eq id id && is_none (id_in clause))) (Some clause) None) (same_kind_itself kind)
    ∙ ap (λ b. cond (b && is_none (id_in clause)) (Some clause) None) ((bytes_eq-Decides id id).1 refl)
    ∙ ap (λ o. cond (is_none o) (Some clause) None) none)

second : List (List ℕ) → List ℕ
second [] = []
second (a ∷ []) = []
second (a ∷ b ∷ more) = b

behind_first : List (List ℕ) → List (List ℕ)
behind_first [] = []
behind_first (a ∷ more) = more

same_text_of : (kind : FrameKind) (one other : Clause) → order_of kind one ≡ order_of kind other → clause_text one ≡ clause_text other
unfolding clause_text second behind_first
same_text_of kind one other same =
    let tag : one.tag ≡ other.tag = ap second same in
    let text : value_text one.value ≡ value_text other.value = ap (λ l. second (behind_first l)) same in
    let block : block_text one.qualifiers ≡ block_text other.qualifiers = ap (λ l. second (behind_first (behind_first l))) same in
    λ i. tag i ++ 58 ∷ (behind_space (text i) ++ behind_space (block i))

abbrev pub head_framed : List Framed → Head → List Framed
head_framed ds one = frame_framed one.kind one.id (later_clauses ds one.kind one.id)

-- the clauses in the order in which they are written
abbrev pub written_clauses : List Framed → List Framed
written_clauses ds = map (framed kinds.Header []) (later_clauses ds kinds.Header []) ++ flat_map (head_framed ds) (heads_of ds)

module _ (ds : List Framed) (sound : AreSound ds) where
  -- two clauses of one frame that are printed alike are one
  pub later_told : (kind : FrameKind) (id : List ℕ) → AreTold (order_of kind) (filter_map (later_clause kind id) ds)
  later_told kind id one other here there same =
      let first = from_later ds kind id one here in
      let second_is = from_later ds kind id other there in
      let fits = later_fits ds sound (framed kind id one) first.among first.none in
      let fits_too = later_fits ds sound (framed kind id other) second_is.among second_is.none in
      spells-one-clause kind false (clause_text one) one other (printed_line kind false one fits).spells
      (subst (λ (l : List ℕ). Spells kind false l other) (sym (same_text_of kind one other same)) (printed_line kind false other fits_too).spells)

  later_each : (kind : FrameKind) (id : List ℕ) (clause : Clause) → In (framed kind id clause) ds → id_in clause ≡ None → In clause (later_clauses ds kind id)
  later_each kind id clause here none =
      sorted_on-each texts_cmp texts_order (order_of kind) (filter_map (later_clause kind id) ds) (later_told kind id) clause (to_later ds kind id clause here none)

  -- ---- frames

  pub id_each : (kind : FrameKind) (one : Framed) → In one ds → one.frame ≡ kind → In one.id (ids_of kind ds)
  id_each kind one here is =
      sorted_by-each (λ (id : List ℕ). id) (filter_map (id_at kind) ds) (λ a b p q same. same) one.id
      (In-filter_map (id_at kind) one.id ds one here (ap (λ k. cond (same_kind k kind) (Some one.id) None) is ∙ ap (λ b. cond b (Some one.id) None) (same_kind_itself kind)))

  -- a frame of the document, outside the header
  pub record IsHead (one : Head) : Type 0 where
    pub outside : one.kind ≡ kinds.Header → ⊥
    pub among : In (framed one.kind one.id (id_clause one.id)) ds

  head_at : (kind : FrameKind) → (kind ≡ kinds.Header → ⊥) → (one : Head) → In one (map (head kind) (ids_of kind ds)) → IsHead one
  head_at kind outside one here =
      let from = In-from_map (head kind) one (ids_of kind ds) here in
      let found = In-from_filter_map (id_at kind) from.0 ds (sorted_by-only (λ (id : List ℕ). id) (filter_map (id_at kind) ds) from.0 from.1) in
      let is = where_some (same_kind found.0.frame kind) found.0.id from.0 found.2 in
      let frame_is = same_kind_is found.0.frame kind is.0 in
      let there = sound.heads found.0 found.1 (λ h. outside (sym frame_is ∙ h)) in
      subst IsHead from.2 (record { outside = outside; among = subst (λ x. In x ds) (λ i. framed (frame_is i) (is.1 i) (id_clause (is.1 i))) there })

  pub head_is : (one : Head) → In one (heads_of ds) → IsHead one
  head_is one here =
      ⊎_elim (head_at kinds.Term (λ h. cc) one)
      (λ later. ⊎_elim (head_at kinds.Typedef (λ h. cc) one) (head_at kinds.Instance (λ h. cc) one)
      (In-append one (map (head kinds.Typedef) (ids_of kinds.Typedef ds)) (map (head kinds.Instance) (ids_of kinds.Instance ds)) later))
      (In-append one (map (head kinds.Term) (ids_of kinds.Term ds)) (map (head kinds.Typedef) (ids_of kinds.Typedef ds) ++ map (head kinds.Instance) (ids_of kinds.Instance ds)) here)

  pub head_each : (kind : FrameKind) (id : List ℕ) (clause : Clause) → (kind ≡ kinds.Header → ⊥) → In (framed kind id clause) ds → In (head kind id) (heads_of ds)
  head_each kinds.Header id clause outside here = absurd (outside refl)
  head_each kinds.Term id clause outside here =
      In-append_left _ _ _ (In-map (head kinds.Term) id (ids_of kinds.Term ds) (id_each kinds.Term (framed kinds.Term id clause) here refl))
  head_each kinds.Typedef id clause outside here =
      In-append_right _ (map (head kinds.Term) (ids_of kinds.Term ds)) _ (In-append_left _ _ _ (In-map (head kinds.Typedef) id (ids_of kinds.Typedef ds) (id_each kinds.Typedef (framed kinds.Typedef id clause) here refl)))
  head_each kinds.Instance id clause outside here =
      In-append_right _ (map (head kinds.Term) (ids_of kinds.Term ds)) _ (In-append_right _ (map (head kinds.Typedef) (ids_of kinds.Typedef ds)) _ (In-map (head kinds.Instance) id (ids_of kinds.Instance ds) (id_each kinds.Instance (framed kinds.Instance id clause) here refl)))

  -- ---- the members

  in_frame_only : (kind : FrameKind) (id : List ℕ) (x : Framed) → In x (map (framed kind id) (later_clauses ds kind id)) → In x ds
  in_frame_only kind id x here =
      let from = In-from_map (framed kind id) x (later_clauses ds kind id) here in
      subst (λ y. In y ds) from.2 (later_is ds kind id from.0 from.1).among

  only_at : (x : Framed) (one : Head) → IsHead one → In x (head_framed ds one) → In x ds
  only_at x one is (inl first) = subst (λ y. In y ds) first is.among
  only_at x one is (inr later) = in_frame_only one.kind one.id x later

  written_only : (x : Framed) → In x (written_clauses ds) → In x ds
  written_only x here =
      ⊎_elim (in_frame_only kinds.Header [] x)
      (λ later. let found = In-from_flat_map (head_framed ds) x (heads_of ds) later in only_at x found.0 (head_is found.0 found.1) found.2)
      (In-append x (map (framed kinds.Header []) (later_clauses ds kinds.Header [])) (flat_map (head_framed ds) (heads_of ds)) here)

  in_frame : (kind : FrameKind) (id : List ℕ) (clause : Clause) (o : Option (List ℕ)) → In (framed kind id clause) ds → id_in clause ≡ o → In (framed kind id clause) (head_framed ds (head kind id))
  in_frame kind id clause None here is =
      inr (In-map (framed kind id) clause (later_clauses ds kind id) (later_each kind id clause here is))
  in_frame kind id clause (Some own) here is =
      inl (ap (framed kind id) (sym (sound.bare (framed kind id clause) here own is)))

  outside_each : (kind : FrameKind) (id : List ℕ) (clause : Clause) → (kind ≡ kinds.Header → ⊥) → In (framed kind id clause) ds → In (framed kind id clause) (written_clauses ds)
  outside_each kind id clause outside here =
      In-append_right (framed kind id clause) (map (framed kinds.Header []) (later_clauses ds kinds.Header [])) (flat_map (head_framed ds) (heads_of ds))
      (In-flat_map (head_framed ds) (framed kind id clause) (heads_of ds) (head kind id) (head_each kind id clause outside here) (in_frame kind id clause (id_in clause) here refl))

  header_each : (id : List ℕ) (clause : Clause) → id ≡ [] → In (framed kinds.Header id clause) ds → In (framed kinds.Header id clause) (written_clauses ds)
  header_each id clause none here =
      let there : In (framed kinds.Header [] clause) ds = subst (λ i. In (framed kinds.Header i clause) ds) none here in
      subst (λ i. In (framed kinds.Header i clause) (written_clauses ds)) (sym none)
      (In-append_left (framed kinds.Header [] clause) (map (framed kinds.Header []) (later_clauses ds kinds.Header [])) (flat_map (head_framed ds) (heads_of ds))
      (In-map (framed kinds.Header []) clause (later_clauses ds kinds.Header []) (later_each kinds.Header [] clause there (header_none ds sound (framed kinds.Header [] clause) there refl))))

  written_each : (kind : FrameKind) (id : List ℕ) (clause : Clause) → In (framed kind id clause) ds → In (framed kind id clause) (written_clauses ds)
  written_each kinds.Header id clause here = header_each id clause ((sound.header (framed kinds.Header id clause) here).0 refl) here
  written_each kinds.Term id clause here = outside_each kinds.Term id clause (λ h. cc) here
  written_each kinds.Typedef id clause here = outside_each kinds.Typedef id clause (λ h. cc) here
  written_each kinds.Instance id clause here = outside_each kinds.Instance id clause (λ h. cc) here

  pub written_members : SameMembers (written_clauses ds) ds
  written_members x = (written_only x, written_each x.frame x.id x.clause)
