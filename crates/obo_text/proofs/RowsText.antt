-- The text of the sorted rows is the canonical text.
use Rattle.std.proofs.Common.{◌≡◌, ◌⊎◌, ◌<◌, ◌==◌, inl, inr, ℕ, Bool, true, false, List, [], ◌∷◌, ◌++◌, Option, None, Some, append_assoc, arith, cond, map, ne_eqb, refl, sym, ap, subst, ◌∙◌}
use Rattle.std.specs.Coded.{Coded-set, coded_list, coded_ℕ}
use Rattle.std.specs.List.{flat_map}
use Rattle.std.specs.Option.{option_and_then, option_map}
use Rattle.std.proofs.Math.Logic.{∥∥₁_elim}
use Rattle.std.proofs.lemmas.List.Concat.{flat_map-append}
use Rattle.std.proofs.lemmas.Option.{none-some}
use Rattle.text_sets.specs.Sets.{AreTold, In}
use Rattle.text_sets.specs.Sorted.{sorted_on, texts_cmp}
use Rattle.obo_lexer.specs.Lines.{written}
use Rattle.obo_tags.specs.Table.{is_among}
use Rattle.obo_tags.specs.Tags as tags
use Rattle.obo_tags.specs.declared.kind.FrameKind.{FrameKind}
use Rattle.obo_tags.specs.declared.kind.FrameKind.TheVariants as kinds
use Rattle.std.specs.Str.{bytes_eq}
use Rattle.obo_clause.specs.declared.clause.Clause.{Clause}
use Rattle.clause_printer.specs.Printing.{behind_space, block_text, clause_text, run_text, value_text}
use Rattle.obo_frames.specs.Framed.{Framed, id_clause, unlined}
use Rattle.obo_frames.specs.Frames.{id_in}
use Rattle.obo_frames.specs.Soundness.{IsSound}
use Rattle.obo_frames.specs.declared.placed.Placed.{Placed}
use Rattle.obo_text.specs.Order.{ids_of, later_clauses}
use Rattle.obo_text.specs.Text.{canonical_text, clause_lines, comment_of, frame_line, frame_lines, head, heads_of, last_id, line_of, lines_in, name_at, name_behind, target_kind, term_tags, typedef_tags}
use Rattle.obo_text.specs.inner.Names.{look_at, text_of_rows, text_with}
use Rattle.obo_text.specs.inner.Rows.{Looks, clause_place, head_before, head_text, looked_up, printed_comment, row_key, row_of, row_text, rows_in}
use Rattle.obo_text.specs.inner.RowState.{RowState}
use Rattle.obo_text.proofs.NameLemmas.{names_in_runs}
use Rattle.obo_text.proofs.PlaceLemmas.{place_above}
use Rattle.obo_text.proofs.RowLemmas.{AreSortedAs, later_none, place_is, run_of, runs_in, sorted_header, sorted_runs}
use Rattle.obo_text.proofs.SoundLemmas.{AreSound, sound_of}

-- a line with its end
abbrev ended : List ℕ → List ℕ
ended line = line ++ 10 ∷ []

written_is : (lines : List (List ℕ)) → written lines [] ≡ flat_map ended lines
written_is [] = refl
written_is (line ∷ lines) =
    ap (λ rest. line ++ 10 ∷ rest) (written_is lines) ∙ sym (append_assoc line (10 ∷ []) (flat_map ended lines))

-- ---- targets

chosen : (test : Bool) (one other : FrameKind) → cond test (Some one) None ≡ Some other → one ≡ other
chosen true one other is = cc
chosen false one other is = absurd (none-some other is)

outside_header : (kind : FrameKind) (tag : List ℕ) → target_kind kind tag ≡ Some kinds.Header → ⊥
outside_header kinds.Header tag is = absurd (none-some kinds.Header is)
outside_header kinds.Term tag is = let no = chosen (is_among term_tags tag) kinds.Term kinds.Header is in cc
outside_header kinds.Typedef tag is = first (is_among typedef_tags tag) is
  where
    first : (b : Bool) → cond b (Some kinds.Typedef) (cond (is_among (tags.domain ∷ tags.range ∷ []) tag) (Some kinds.Term) None) ≡ Some kinds.Header → ⊥
    first true h = cc
    first false h = let no = chosen (is_among (tags.domain ∷ tags.range ∷ []) tag) kinds.Term kinds.Header h in cc
outside_header kinds.Instance tag is = first (bytes_eq tag tags.instance_of) is
  where
    first : (b : Bool) → cond b (Some kinds.Term) (cond (bytes_eq tag tags.relationship) (Some kinds.Instance) None) ≡ Some kinds.Header → ⊥
    first true h = cc
    first false h = let no = chosen (bytes_eq tag tags.relationship) kinds.Instance kinds.Header h in cc

comment_is : (o : Option (List ℕ)) → printed_comment (option_map (run_text true) o) ≡ comment_of o
comment_is None = refl
comment_is (Some name) = refl

regrouped : (a b c d e : List ℕ) → ((a ++ 58 ∷ (b ++ c)) ++ d) ++ e ≡ a ++ 58 ∷ (b ++ (c ++ (d ++ e)))
regrouped a b c d e = simp append_assoc

no_head : (kind : FrameKind) (row : RowState) → (kind ≡ kinds.Header) ⊎ (0 < row.place) → head_before kind row ≡ []
no_head kind row (inl header) =
    ap (λ k. cond (row.place == 0) (head_text k) []) header ∙ either (row.place == 0)
  where
    either : (b : Bool) → cond b (head_text kinds.Header) [] ≡ []
    either true = refl
    either false = refl
no_head kind row (inr above) = ap (λ b. cond b (head_text kind) []) (ne_eqb row.place 0 (λ e. omega (arith, above, e)))

head_is : (kind : FrameKind) → (kind ≡ kinds.Header → ⊥) → head_text kind ≡ 10 ∷ (frame_line kind ++ 10 ∷ [])
head_is kinds.Header outside = absurd (outside refl)
head_is kinds.Term outside = refl
head_is kinds.Typedef outside = refl
head_is kinds.Instance outside = refl

module _ (ds : List Framed) (sound : AreSound ds) where
  abbrev look : Looks
  look = look_at (runs_in kinds.Term ds) (runs_in kinds.Typedef ds) (runs_in kinds.Instance ds)

  look_is : (kind : FrameKind) → (kind ≡ kinds.Header → ⊥) → (id : List ℕ) → look_at (runs_in kinds.Term ds) (runs_in kinds.Typedef ds) (runs_in kinds.Instance ds) kind id ≡ option_map (run_text true) (name_at ds kind id)
  look_is kinds.Header outside id = absurd (outside refl)
  look_is kinds.Term outside id = names_in_runs ds sound kinds.Term id
  look_is kinds.Typedef outside id = names_in_runs ds sound kinds.Typedef id
  look_is kinds.Instance outside id = names_in_runs ds sound kinds.Instance id

  with_target : (target : FrameKind) → (target ≡ kinds.Header → ⊥) → (o : Option (List ℕ)) → option_and_then (look target) o ≡ option_map (run_text true) (option_and_then (λ id. name_at ds target id) o)
  with_target target outside None = refl
  with_target target outside (Some id) = look_is target outside id

  behind_is : (kind : FrameKind) (id : List ℕ) (clause : Clause) → looked_up look kind (row_of kind id clause) ≡ option_map (run_text true) (name_behind ds kind clause)
  behind_is kind id clause =
      elim (target_kind kind clause.tag) as (λ o. target_kind kind clause.tag ≡ o → option_and_then (λ target. option_and_then (look target) (last_id clause.value)) o ≡ option_map (run_text true) (option_and_then (λ target. option_and_then (λ other. name_at ds target other) (last_id clause.value)) o)) [
        | None ↦ λ _. refl
        | Some target ↦ λ is. with_target target (λ header. outside_header kind clause.tag (is ∙ ap Some header)) (last_id clause.value)
      ] refl

  -- the line of a row
  row_line_is : (kind : FrameKind) (id : List ℕ) (clause : Clause) → clause.tag ++ 58 ∷ (behind_space (value_text clause.value) ++ (behind_space (block_text clause.qualifiers) ++ (printed_comment (looked_up look kind (row_of kind id clause)) ++ 10 ∷ []))) ≡ ended (line_of ds kind clause)
  unfolding clause_text
  row_line_is kind id clause =
      ap (λ comment. clause.tag ++ 58 ∷ (behind_space (value_text clause.value) ++ (behind_space (block_text clause.qualifiers) ++ (comment ++ 10 ∷ [])))) (ap printed_comment (behind_is kind id clause) ∙ comment_is (name_behind ds kind clause))
      ∙ sym (regrouped clause.tag (behind_space (value_text clause.value)) (behind_space (block_text clause.qualifiers)) (comment_of (name_behind ds kind clause)) (10 ∷ []))

  is_no_head : (kind : FrameKind) → (kind ≡ kinds.Header) ⊎ (kind ≡ kinds.Header → ⊥) → (id : List ℕ) (clause : Clause) → id_in clause ≡ None → (kind ≡ kinds.Header) ⊎ (0 < clause_place kind clause)
  is_no_head kind (inl header) id clause none = inl header
  is_no_head kind (inr outside) id clause none = inr (subst (λ n. 0 < n) (sym (place_is kind id clause none)) (place_above kind outside clause.tag))

  later_text : (kind : FrameKind) → (kind ≡ kinds.Header) ⊎ (kind ≡ kinds.Header → ⊥) → (id : List ℕ) (cs : List Clause) → ((c : Clause) → In c cs → id_in c ≡ None) → flat_map (row_text look kind) (map (row_of kind id) cs) ≡ flat_map ended (map (line_of ds kind) cs)
  later_text kind which id [] each = refl
  later_text kind which id (c ∷ cs) each =
      (λ i. (no_head kind (row_of kind id c) (is_no_head kind which id c (each c (inl refl))) i ++ row_line_is kind id c i) ++ later_text kind which id cs (λ d later. each d (inr later)) i)

  run_text_is : (kind : FrameKind) → (kind ≡ kinds.Header → ⊥) → (id : List ℕ) → flat_map (row_text look kind) (run_of kind ds id) ≡ flat_map ended (frame_lines ds (head kind id))
  run_text_is kind outside id =
      (λ i. (head_is kind outside i ++ row_line_is kind id (id_clause id) i) ++ later_text kind (inr outside) id (later_clauses ds kind id) (later_none ds kind id) i)
      ∙ grouped (frame_line kind) (ended (line_of ds kind (id_clause id))) (flat_map ended (clause_lines ds kind id))
    where
      grouped : (a b c : List ℕ) → ((10 ∷ (a ++ 10 ∷ [])) ++ b) ++ c ≡ 10 ∷ ((a ++ 10 ∷ []) ++ (b ++ c))
      grouped a b c = append_assoc (10 ∷ (a ++ 10 ∷ [])) b c

  runs_text_is : (kind : FrameKind) → (kind ≡ kinds.Header → ⊥) → (ids : List (List ℕ)) → flat_map (row_text look kind) (flat_map (run_of kind ds) ids) ≡ flat_map ended (flat_map (frame_lines ds) (map (head kind) ids))
  runs_text_is kind outside [] = refl
  runs_text_is kind outside (id ∷ ids) =
      flat_map-append (row_text look kind) (run_of kind ds id) (flat_map (run_of kind ds) ids)
      ∙ (λ i. run_text_is kind outside id i ++ runs_text_is kind outside ids i)
      ∙ sym (flat_map-append ended (frame_lines ds (head kind id)) (flat_map (frame_lines ds) (map (head kind) ids)))

  lines_split : flat_map ended (lines_in ds) ≡ flat_map ended (clause_lines ds kinds.Header []) ++ (flat_map ended (flat_map (frame_lines ds) (map (head kinds.Term) (ids_of kinds.Term ds))) ++ (flat_map ended (flat_map (frame_lines ds) (map (head kinds.Typedef) (ids_of kinds.Typedef ds))) ++ flat_map ended (flat_map (frame_lines ds) (map (head kinds.Instance) (ids_of kinds.Instance ds)))))
  lines_split =
      let terms = map (head kinds.Term) (ids_of kinds.Term ds) in
      let typedefs = map (head kinds.Typedef) (ids_of kinds.Typedef ds) in
      let instances = map (head kinds.Instance) (ids_of kinds.Instance ds) in
      flat_map-append ended (clause_lines ds kinds.Header []) (flat_map (frame_lines ds) (heads_of ds))
      ∙ ap (λ rest. flat_map ended (clause_lines ds kinds.Header []) ++ rest)
      (ap (flat_map ended) (flat_map-append (frame_lines ds) terms (typedefs ++ instances)) ∙ flat_map-append ended (flat_map (frame_lines ds) terms) (flat_map (frame_lines ds) (typedefs ++ instances))
      ∙ ap (λ rest. flat_map ended (flat_map (frame_lines ds) terms) ++ rest) (ap (flat_map ended) (flat_map-append (frame_lines ds) typedefs instances) ∙ flat_map-append ended (flat_map (frame_lines ds) typedefs) (flat_map (frame_lines ds) instances)))

  text_is : text_with look (map (row_of kinds.Header []) (later_clauses ds kinds.Header [])) (runs_in kinds.Term ds) (runs_in kinds.Typedef ds) (runs_in kinds.Instance ds) ≡ canonical_text ds
  unfolding canonical_text
  text_is =
      (λ i. later_text kinds.Header (inl refl) [] (later_clauses ds kinds.Header []) (later_none ds kinds.Header []) i
      ++ (runs_text_is kinds.Term (λ h. cc) (ids_of kinds.Term ds) i
      ++ (runs_text_is kinds.Typedef (λ h. cc) (ids_of kinds.Typedef ds) i ++ runs_text_is kinds.Instance (λ h. cc) (ids_of kinds.Instance ds) i)))
      ∙ sym lines_split
      ∙ sym (written_is (lines_in ds))

-- what the rows of a kind were sorted to
abbrev pub IsSortedTo : List RowState → List RowState → Type 0
IsSortedTo rows sorted = AreTold row_key rows → sorted ≡ sorted_on texts_cmp row_key rows

sorted_to : (rows target given sorted : List RowState) → AreSortedAs rows target → given ≡ rows → IsSortedTo given sorted → sorted ≡ target
sorted_to rows target given sorted are same is =
    is (subst (AreTold row_key) (sym same) are.told) ∙ ap (sorted_on texts_cmp row_key) same ∙ are.same

pub whole_text : (placed : List Placed) (h t y i header terms typedefs instances : List RowState) → IsSound placed
    → h ≡ rows_in kinds.Header (map unlined placed) → t ≡ rows_in kinds.Term (map unlined placed) → y ≡ rows_in kinds.Typedef (map unlined placed) → i ≡ rows_in kinds.Instance (map unlined placed)
    → IsSortedTo h header → IsSortedTo t terms → IsSortedTo y typedefs → IsSortedTo i instances
    → text_of_rows header terms typedefs instances ≡ canonical_text (map unlined placed)
whole_text placed h t y i header terms typedefs instances is_sound hs ts ys is hso tso yso iso =
    ∥∥₁_elim is_sound (Coded-set (coded_list coded_ℕ) _ _) (λ kept.
    let ds = map unlined placed in
    let sound = sound_of placed kept in
    let header_is = sorted_to (rows_in kinds.Header ds) (map (row_of kinds.Header []) (later_clauses ds kinds.Header [])) h header (sorted_header ds sound) hs hso in
    let terms_are = sorted_to (rows_in kinds.Term ds) (runs_in kinds.Term ds) t terms (sorted_runs ds sound kinds.Term (λ e. cc)) ts tso in
    let typedefs_are = sorted_to (rows_in kinds.Typedef ds) (runs_in kinds.Typedef ds) y typedefs (sorted_runs ds sound kinds.Typedef (λ e. cc)) ys yso in
    let instances_are = sorted_to (rows_in kinds.Instance ds) (runs_in kinds.Instance ds) i instances (sorted_runs ds sound kinds.Instance (λ e. cc)) is iso in
    (λ j. text_of_rows (header_is j) (terms_are j) (typedefs_are j) (instances_are j)) ∙ text_is ds sound)
