-- The rows of a document, sorted, are those of its frames, one frame behind the other.
use Rattle.std.proofs.Common.{◌≡◌, ◌<◌, inl, inr, ℕ, false, List, [], ◌∷◌, ◌++◌, None, Some, append-nil, cond, map, refl, sym, ap, subst, ◌∙◌}
use Rattle.std.specs.Prelude.{is_none}
use Rattle.std.specs.Cmp.{nat_cmp_is, tied_itself}
use Rattle.std.specs.Cmp.Lexicographic.{nat_list_cmp_total}
use Rattle.std.specs.List.{cons_option, filter_map, flat_map}
use Rattle.std.specs.Ordering.{nat_cmp, ordering_then}
use Rattle.std.specs.declared.cmp.Ordering.TheVariants.{Equal, Less}
use Rattle.std.proofs.lemmas.List.Concat.{flat_map-append}
use Rattle.std.proofs.lemmas.List.Elements.{filter_map-append}
use Rattle.text_sets.specs.Sets.{AreTold, In, SameMembers}
use Rattle.text_sets.specs.Sorted.{IsBelow, IsBelowOn, Rises, RisesOn, by_key, sorted_on, text_cmp, texts_cmp}
use Rattle.text_sets.proofs.KeyLemmas.{AreTold-risesOn, RisesOn-sorted_on, sorted_on-is}
use Rattle.text_sets.proofs.SetLemmas.{In-from_flat_map, In-from_map, same_filter_map, same_sym}
use Rattle.text_sets.proofs.SortedLemmas.{Rises-sorted_by, texts_order}
use Rattle.obo_tags.specs.declared.kind.FrameKind.{FrameKind}
use Rattle.obo_tags.specs.declared.kind.FrameKind.TheVariants as kinds
use Rattle.obo_clause.specs.declared.clause.Clause.{Clause}
use Rattle.clause_printer.specs.Printing.{block_text, value_text}
use Rattle.obo_frames.specs.Framed.{Framed, framed, id_clause}
use Rattle.obo_frames.specs.Frames.{id_in}
use Rattle.obo_text.specs.Order.{id_at, ids_of, later_clause, later_clauses, order_of, place_behind, same_kind}
use Rattle.obo_text.specs.Text.{head, heads_of}
use Rattle.obo_text.specs.inner.Rows.{clause_place, key_behind_id, row_at, row_key, row_of, rows_in}
use Rattle.obo_text.specs.inner.RowState.{RowState}
use Rattle.obo_text.proofs.MemberLemmas.{head_framed, later_is, same_kind_itself, written_clauses, written_members}
use Rattle.obo_text.proofs.PlaceLemmas.{place_above}
use Rattle.obo_text.proofs.RunLemmas.{RunsRise, runs_rise}
use Rattle.obo_text.proofs.SoundLemmas.{AreSound}

-- ---- the order of two rows

pub text_itself : (one other : List ℕ) → one ≡ other → text_cmp one other ≡ Equal
text_itself one other same = ap (text_cmp one) (sym same) ∙ tied_itself nat_list_cmp_total one

-- of one frame
one_frame : (one other : RowState) → one.id ≡ other.id → by_key texts_cmp row_key one other ≡ by_key texts_cmp key_behind_id one other
one_frame one other same =
    ap (λ o. ordering_then o (by_key texts_cmp key_behind_id one other)) (text_itself one.id other.id same)

-- of two frames
two_frames : (one other : RowState) → text_cmp one.id other.id ≡ Less → by_key texts_cmp row_key one other ≡ Less
two_frames one other less = ap (λ o. ordering_then o (by_key texts_cmp key_behind_id one other)) less

module _ (kind : FrameKind) (id : List ℕ) where
  pub place_is : (clause : Clause) → id_in clause ≡ None → clause_place kind clause ≡ place_behind kind clause.tag
  place_is clause none = ap (λ o. cond (is_none o) (place_behind kind clause.tag) 0) none

  -- of later clauses of a frame
  later_as : (one other : Clause) → id_in one ≡ None → id_in other ≡ None → by_key texts_cmp row_key (row_of kind id one) (row_of kind id other) ≡ by_key texts_cmp (order_of kind) one other
  later_as one other none also =
      one_frame (row_of kind id one) (row_of kind id other) refl
      ∙ (λ i. texts_cmp ((place_is one none i ∷ []) ∷ one.tag ∷ value_text one.value ∷ block_text one.qualifiers ∷ []) ((place_is other also i ∷ []) ∷ other.tag ∷ value_text other.value ∷ block_text other.qualifiers ∷ []))

  below_rows : (one : Clause) (cs : List Clause) → id_in one ≡ None → ((c : Clause) → In c cs → id_in c ≡ None) → IsBelowOn texts_cmp (order_of kind) one cs → IsBelowOn texts_cmp row_key (row_of kind id one) (map (row_of kind id) cs)
  below_rows one [] none each all = tt
  below_rows one (c ∷ cs) none each all =
      (later_as one c none (each c (inl refl)) ∙ all.0, below_rows one cs none (λ d later. each d (inr later)) all.1)

  rises_rows : (cs : List Clause) → ((c : Clause) → In c cs → id_in c ≡ None) → RisesOn texts_cmp (order_of kind) cs → RisesOn texts_cmp row_key (map (row_of kind id) cs)
  rises_rows [] each rises = tt
  rises_rows (c ∷ cs) each rises =
      (below_rows c cs (each c (inl refl)) (λ d later. each d (inr later)) rises.0, rises_rows cs (λ d later. each d (inr later)) rises.1)

  -- the clause that gives the id comes first
  head_below : (c : Clause) → id_in c ≡ None → 0 < place_behind kind c.tag → by_key texts_cmp row_key (row_of kind id (id_clause id)) (row_of kind id c) ≡ Less
  head_below c none above =
      one_frame (row_of kind id (id_clause id)) (row_of kind id c) refl
      ∙ ap (λ o. ordering_then (ordering_then o Equal) (texts_cmp ((id_clause id).tag ∷ value_text (id_clause id).value ∷ block_text (id_clause id).qualifiers ∷ []) (c.tag ∷ value_text c.value ∷ block_text c.qualifiers ∷ []))) (ap (nat_cmp 0) (place_is c none) ∙ sym (nat_cmp_is 0 (place_behind kind c.tag) Less above))

  head_below_all : (cs : List Clause) → ((c : Clause) → In c cs → id_in c ≡ None) → ((tag : List ℕ) → 0 < place_behind kind tag) → IsBelowOn texts_cmp row_key (row_of kind id (id_clause id)) (map (row_of kind id) cs)
  head_below_all [] each above = tt
  head_below_all (c ∷ cs) each above =
      (head_below c (each c (inl refl)) (above c.tag), head_below_all cs (λ d later. each d (inr later)) above)

-- ---- the rows of a frame

abbrev pub run_of : FrameKind → List Framed → List ℕ → List RowState
run_of kind ds id = row_of kind id (id_clause id) ∷ map (row_of kind id) (later_clauses ds kind id)

pub run_id : (kind : FrameKind) (ds : List Framed) (id : List ℕ) (row : RowState) → In row (run_of kind ds id) → row.id ≡ id
run_id kind ds id row (inl first) = ap (λ (r : RowState). r.id) (sym first)
run_id kind ds id row (inr later) =
    let from = In-from_map (row_of kind id) row (later_clauses ds kind id) later in ap (λ (r : RowState). r.id) (sym from.2)

pub later_none : (ds : List Framed) (kind : FrameKind) (id : List ℕ) (c : Clause) → In c (later_clauses ds kind id) → id_in c ≡ None
later_none ds kind id c here = (later_is ds kind id c here).none

later_rise : (ds : List Framed) (kind : FrameKind) (id : List ℕ) → RisesOn texts_cmp row_key (map (row_of kind id) (later_clauses ds kind id))
later_rise ds kind id =
    rises_rows kind id (later_clauses ds kind id) (later_none ds kind id) (RisesOn-sorted_on texts_cmp texts_order (order_of kind) (filter_map (later_clause kind id) ds))

run_rises : (kind : FrameKind) → (kind ≡ kinds.Header → ⊥) → (ds : List Framed) (id : List ℕ) → RisesOn texts_cmp row_key (run_of kind ds id)
run_rises kind outside ds id =
    (head_below_all kind id (later_clauses ds kind id) (later_none ds kind id) (place_above kind outside), later_rise ds kind id)

-- an id that is below others has its run below theirs
pub is_below : (id : List ℕ) (ids : List (List ℕ)) (other : List ℕ) → IsBelow (λ (i : List ℕ). i) id ids → In other ids → text_cmp id other ≡ Less
is_below id [] other all here = absurd here
is_below id (i ∷ ids) other all (inl same) = ap (text_cmp id) (sym same) ∙ all.0
is_below id (i ∷ ids) other all (inr later) = is_below id ids other all.1 later

runs_apart : (kind : FrameKind) (ds : List Framed) (ids : List (List ℕ)) → Rises (λ (i : List ℕ). i) ids → RunsRise row_key (run_of kind ds) ids
runs_apart kind ds [] rises = tt
runs_apart kind ds (id ∷ ids) rises = (
  (λ x y here there.
      let found = In-from_flat_map (run_of kind ds) y ids there in
      two_frames x y ((λ i. text_cmp (run_id kind ds id x here i) (run_id kind ds found.0 y found.2 i)) ∙ is_below id ids found.0 rises.0 found.1)),
  runs_apart kind ds ids rises.1,
)

abbrev pub runs_in : FrameKind → List Framed → List RowState
runs_in kind ds = flat_map (run_of kind ds) (ids_of kind ds)

runs_in_rise : (kind : FrameKind) → (kind ≡ kinds.Header → ⊥) → (ds : List Framed) → RisesOn texts_cmp row_key (runs_in kind ds)
runs_in_rise kind outside ds =
    runs_rise row_key (run_of kind ds) (ids_of kind ds) (λ id here. run_rises kind outside ds id)
    (runs_apart kind ds (ids_of kind ds) (Rises-sorted_by (λ (id : List ℕ). id) (filter_map (id_at kind) ds)))

-- ---- the rows of the written clauses

own_rows : (kind : FrameKind) (id : List ℕ) (cs : List Clause) → rows_in kind (map (framed kind id) cs) ≡ map (row_of kind id) cs
own_rows kind id [] = refl
own_rows kind id (c ∷ cs) =
    ap (λ b. cons_option (cond b (Some (row_of kind id c)) None) (rows_in kind (map (framed kind id) cs))) (same_kind_itself kind)
    ∙ ap (λ rows. row_of kind id c ∷ rows) (own_rows kind id cs)

no_rows : (kind other : FrameKind) (id : List ℕ) (cs : List Clause) → same_kind other kind ≡ false → rows_in kind (map (framed other id) cs) ≡ []
no_rows kind other id [] apart = refl
no_rows kind other id (c ∷ cs) apart =
    ap (λ b. cons_option (cond b (Some (row_of kind id c)) None) (rows_in kind (map (framed other id) cs))) apart ∙ no_rows kind other id cs apart

own_runs : (kind : FrameKind) (ds : List Framed) (ids : List (List ℕ)) → rows_in kind (flat_map (head_framed ds) (map (head kind) ids)) ≡ flat_map (run_of kind ds) ids
own_runs kind ds [] = refl
own_runs kind ds (id ∷ ids) =
    filter_map-append (row_at kind) (head_framed ds (head kind id)) (flat_map (head_framed ds) (map (head kind) ids))
    ∙ (λ i. own_rows kind id (id_clause id ∷ later_clauses ds kind id) i ++ own_runs kind ds ids i)

no_runs : (kind other : FrameKind) (ds : List Framed) (ids : List (List ℕ)) → same_kind other kind ≡ false → rows_in kind (flat_map (head_framed ds) (map (head other) ids)) ≡ []
no_runs kind other ds [] apart = refl
no_runs kind other ds (id ∷ ids) apart =
    filter_map-append (row_at kind) (head_framed ds (head other id)) (flat_map (head_framed ds) (map (head other) ids))
    ∙ (λ i. no_rows kind other id (id_clause id ∷ later_clauses ds other id) apart i ++ no_runs kind other ds ids apart i)

abbrev heads_framed : List Framed → FrameKind → List Framed
heads_framed ds kind = flat_map (head_framed ds) (map (head kind) (ids_of kind ds))

pieces : (kind : FrameKind) (ds : List Framed) → rows_in kind (written_clauses ds) ≡ rows_in kind (map (framed kinds.Header []) (later_clauses ds kinds.Header [])) ++ (rows_in kind (heads_framed ds kinds.Term) ++ (rows_in kind (heads_framed ds kinds.Typedef) ++ rows_in kind (heads_framed ds kinds.Instance)))
pieces kind ds =
    let terms = map (head kinds.Term) (ids_of kinds.Term ds) in
    let typedefs = map (head kinds.Typedef) (ids_of kinds.Typedef ds) in
    let instances = map (head kinds.Instance) (ids_of kinds.Instance ds) in
    filter_map-append (row_at kind) (map (framed kinds.Header []) (later_clauses ds kinds.Header [])) (flat_map (head_framed ds) (heads_of ds))
    ∙ ap (λ rows. rows_in kind (map (framed kinds.Header []) (later_clauses ds kinds.Header [])) ++ rows)
    (ap (rows_in kind) (flat_map-append (head_framed ds) terms (typedefs ++ instances)) ∙ filter_map-append (row_at kind) (heads_framed ds kinds.Term) (flat_map (head_framed ds) (typedefs ++ instances))
    ∙ ap (λ rows. rows_in kind (heads_framed ds kinds.Term) ++ rows) (ap (rows_in kind) (flat_map-append (head_framed ds) typedefs instances) ∙ filter_map-append (row_at kind) (heads_framed ds kinds.Typedef) (heads_framed ds kinds.Instance)))

written_rows : (kind : FrameKind) → (kind ≡ kinds.Header → ⊥) → (ds : List Framed) → rows_in kind (written_clauses ds) ≡ runs_in kind ds
written_rows kinds.Header outside ds = absurd (outside refl)
written_rows kinds.Term outside ds =
    pieces kinds.Term ds
    ∙ (λ i. no_rows kinds.Term kinds.Header [] (later_clauses ds kinds.Header []) refl i ++ (own_runs kinds.Term ds (ids_of kinds.Term ds) i ++ (no_runs kinds.Term kinds.Typedef ds (ids_of kinds.Typedef ds) refl i ++ no_runs kinds.Term kinds.Instance ds (ids_of kinds.Instance ds) refl i)))
    ∙ append-nil (runs_in kinds.Term ds)
written_rows kinds.Typedef outside ds =
    pieces kinds.Typedef ds
    ∙ (λ i. no_rows kinds.Typedef kinds.Header [] (later_clauses ds kinds.Header []) refl i ++ (no_runs kinds.Typedef kinds.Term ds (ids_of kinds.Term ds) refl i ++ (own_runs kinds.Typedef ds (ids_of kinds.Typedef ds) i ++ no_runs kinds.Typedef kinds.Instance ds (ids_of kinds.Instance ds) refl i)))
    ∙ append-nil (runs_in kinds.Typedef ds)
written_rows kinds.Instance outside ds =
    pieces kinds.Instance ds
    ∙ (λ i. no_rows kinds.Instance kinds.Header [] (later_clauses ds kinds.Header []) refl i ++ (no_runs kinds.Instance kinds.Term ds (ids_of kinds.Term ds) refl i ++ (no_runs kinds.Instance kinds.Typedef ds (ids_of kinds.Typedef ds) refl i ++ own_runs kinds.Instance ds (ids_of kinds.Instance ds) i)))

header_rows : (ds : List Framed) → rows_in kinds.Header (written_clauses ds) ≡ map (row_of kinds.Header []) (later_clauses ds kinds.Header [])
header_rows ds =
    pieces kinds.Header ds
    ∙ (λ i. own_rows kinds.Header [] (later_clauses ds kinds.Header []) i ++ (no_runs kinds.Header kinds.Term ds (ids_of kinds.Term ds) refl i ++ (no_runs kinds.Header kinds.Typedef ds (ids_of kinds.Typedef ds) refl i ++ no_runs kinds.Header kinds.Instance ds (ids_of kinds.Instance ds) refl i)))
    ∙ append-nil (map (row_of kinds.Header []) (later_clauses ds kinds.Header []))

-- ---- sorted

-- the rows are told by their keys, and these rows are they, sorted
pub record AreSortedAs (rows sorted : List RowState) : Type 0 where
  pub told : AreTold row_key rows
  pub same : sorted_on texts_cmp row_key rows ≡ sorted

sorted_as : (rows rising : List RowState) → RisesOn texts_cmp row_key rising → SameMembers rows rising → AreSortedAs rows rising
sorted_as rows rising rises same = record {
  told = λ a b p q. AreTold-risesOn texts_cmp texts_order row_key rising rises a b ((same a).0 p) ((same b).0 q);
  same = sorted_on-is texts_cmp texts_order row_key rows rising rises same;
}

module _ (ds : List Framed) (sound : AreSound ds) where
  members : (kind : FrameKind) (rows : List RowState) → rows_in kind (written_clauses ds) ≡ rows → SameMembers (rows_in kind ds) rows
  members kind rows is =
      subst (SameMembers (rows_in kind ds)) is (same_filter_map (row_at kind) ds (written_clauses ds) (same_sym (written_clauses ds) ds (written_members ds sound)))

  pub sorted_runs : (kind : FrameKind) → (kind ≡ kinds.Header → ⊥) → AreSortedAs (rows_in kind ds) (runs_in kind ds)
  sorted_runs kind outside =
      sorted_as (rows_in kind ds) (runs_in kind ds) (runs_in_rise kind outside ds) (members kind (runs_in kind ds) (written_rows kind outside ds))

  pub sorted_header : AreSortedAs (rows_in kinds.Header ds) (map (row_of kinds.Header []) (later_clauses ds kinds.Header []))
  sorted_header =
      sorted_as (rows_in kinds.Header ds) (map (row_of kinds.Header []) (later_clauses ds kinds.Header [])) (later_rise ds kinds.Header [])
      (members kinds.Header (map (row_of kinds.Header []) (later_clauses ds kinds.Header [])) (header_rows ds))
