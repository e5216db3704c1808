-- The text depends on the set of clauses alone.
use Rattle.std.proofs.Common.{List, [], ap, map, refl, ℕ, ◌++◌, ◌∷◌, ◌≡◌}
use Rattle.std.specs.List.{filter_map, flat_map}
use Rattle.std.specs.Option.{option_and_then}
use Rattle.text_sets.specs.Sets.{AreTold, SameMembers}
use Rattle.text_sets.specs.Sorted.{sorted_on, texts_cmp}
use Rattle.text_sets.proofs.SetLemmas.{same_filter_map}
use Rattle.text_sets.proofs.KeyLemmas.{RisesOn-sorted_on, same_risingOn, sorted_on-each, sorted_on-only}
use Rattle.text_sets.proofs.SortedLemmas.{same_sorted, texts_order}
use Rattle.obo_tags.specs.declared.kind.FrameKind.{FrameKind}
use Rattle.obo_lexer.specs.Lines.{written}
use Rattle.obo_clause.specs.declared.clause.Clause.{Clause}
use Rattle.clause_printer.specs.Printing.{clause_text}
use Rattle.obo_frames.specs.Framed.{Framed, id_clause}
use Rattle.obo_text.specs.Order.{id_at, ids_of, later_clause, later_clauses, order_of}
use Rattle.obo_text.specs.Text.{Head, canonical_text, comment_of, frame_line, head, last_id, lines_in, name_in, only_one, target_kind}
use Rattle.obo_text.proofs.MemberLemmas.{later_told}
use Rattle.obo_text.proofs.SoundLemmas.{AreSound}
use Rattle.obo_tags.specs.declared.kind.FrameKind.TheVariants as kinds

-- the same items, sorted, are one list
sorted_same : {X : Type 0} (key : X → List (List ℕ)) (xs ys : List X) → AreTold key xs → AreTold key ys → SameMembers xs ys → sorted_on texts_cmp key xs ≡ sorted_on texts_cmp key ys
sorted_same key xs ys told also same =
    same_risingOn texts_cmp texts_order key (sorted_on texts_cmp key xs) (sorted_on texts_cmp key ys) (RisesOn-sorted_on texts_cmp texts_order key xs) (RisesOn-sorted_on texts_cmp texts_order key ys) (λ x. (
      (λ here. sorted_on-each texts_cmp texts_order key ys also x ((same x).0 (sorted_on-only texts_cmp texts_order key xs x here))),
      (λ here. sorted_on-each texts_cmp texts_order key xs told x ((same x).1 (sorted_on-only texts_cmp texts_order key ys x here))),
    ))

pub sound_too : (ds es : List Framed) → SameMembers es ds → AreSound ds → AreSound es
sound_too ds es same sound = record {
  spelled = λ one here. sound.spelled one ((same one).0 here);
  header = λ one here. sound.header one ((same one).0 here);
  bare = λ one here. sound.bare one ((same one).0 here);
  heads = λ one here outside. (same _).1 (sound.heads one ((same one).0 here) outside);
}

later_same : (ds es : List Framed) → AreSound ds → AreSound es → SameMembers ds es → (kind : FrameKind) (id : List ℕ) → later_clauses ds kind id ≡ later_clauses es kind id
later_same ds es sound also same kind id =
    sorted_same (order_of kind) (filter_map (later_clause kind id) ds) (filter_map (later_clause kind id) es) (later_told ds sound kind id) (later_told es also kind id) (same_filter_map (later_clause kind id) ds es same)

ids_same : (ds es : List Framed) → SameMembers ds es → (kind : FrameKind) → ids_of kind ds ≡ ids_of kind es
ids_same ds es same kind =
    same_sorted (filter_map (id_at kind) ds) (filter_map (id_at kind) es) (same_filter_map (id_at kind) ds es same)

-- ---- the lines, by the clauses of each frame

abbrev line_with : (FrameKind → List ℕ → List Clause) → FrameKind → Clause → List ℕ
line_with later kind clause =
    clause_text clause ++ comment_of (option_and_then (λ target. option_and_then (λ id. only_one (filter_map name_in (later target id))) (last_id clause.value)) (target_kind kind clause.tag))

abbrev lines_with : (FrameKind → List ℕ → List Clause) → (FrameKind → List (List ℕ)) → List (List ℕ)
lines_with later ids =
    map (line_with later kinds.Header) (later kinds.Header [])
    ++ flat_map (λ (one : Head). [] ∷ frame_line one.kind ∷ line_with later one.kind (id_clause one.id) ∷ map (line_with later one.kind) (later one.kind one.id))
    (map (head kinds.Term) (ids kinds.Term) ++ (map (head kinds.Typedef) (ids kinds.Typedef) ++ map (head kinds.Instance) (ids kinds.Instance)))

lines_are : (ds : List Framed) → lines_in ds ≡ lines_with (later_clauses ds) (λ kind. ids_of kind ds)
lines_are ds = refl

pub text_same : (ds es : List Framed) → AreSound es → SameMembers ds es → canonical_text ds ≡ canonical_text es
unfolding canonical_text
text_same ds es also same =
    let sound = sound_too es ds same also in
    ap (λ lines. written lines []) (λ i. lines_with (λ kind id. later_same ds es sound also same kind id i) (λ kind. ids_same ds es same kind i))
