-- What is written piece by piece.
use Rattle.std.proofs.Common.{◌≡◌, ℕ, ◌+◌, ◌<◌, ◌≤◌, List, [], ◌++◌, Option, Some, None, Result, Ok, Err, length, take, drop, get_or, refl, sym, ap, subst, ◌∙◌, arith, append_assoc}
use Rattle.std.proofs.lemmas.List.{append-nil, at_drop_all, at_drop_more, take-append-drop}
use Rattle.std.proofs.Math.Seq.{take-append-add, take-append_seam}
use Rattle.std.specs.List.{flat_map}
use Rattle.std.specs.Option.{option_map}
use Rattle.rel_io.specs.Sink.{Appends, SinkState, Writes}
use Rattle.rel_io.specs.declared.sink.SinkFailed.{SinkFailed}
use Rattle.release_report.specs.inner.Piece.{piece_text}
use Rattle.release_report.specs.declared.pieces.Piece.{Piece}

-- the bytes of pieces, one behind the other
abbrev pub pieces_text : List Piece → List ℕ
pieces_text pieces = flat_map piece_text pieces

appends_both : (a b : List ℕ) (before mid now : SinkState) → Appends a before mid → Appends b mid now → Appends (a ++ b) before now
appends_both a b before mid now first second = both before.written mid.written now.written first second
  where
    both : (x y z : Option (List ℕ)) → y ≡ option_map (λ written. written ++ a) x → z ≡ option_map (λ written. written ++ b) y → z ≡ option_map (λ written. written ++ (a ++ b)) x
    both None y z p q = q ∙ ap (option_map (λ written. written ++ b)) p
    both (Some x) y z p q = q ∙ ap (option_map (λ written. written ++ b)) p ∙ ap (λ (w : List ℕ). Some w) (append_assoc x a b)

take_front : (a b : List ℕ) (n : ℕ) → (m : ℕ) × (a ++ take n b ≡ take m (a ++ b))
take_front a b n = (length a + n, sym (take-append-add a b n))

-- a first text is written, then a second
pub writes_later : (a b : List ℕ) (before mid now : SinkState) (result : Result (Unit {0}) SinkFailed) → before.faults ≤ mid.faults → Appends a before mid → Writes b mid result now → Writes (a ++ b) before result now
writes_later a b before mid now (Ok done) counts first second = appends_both a b before mid now first second
writes_later a b before mid now (Err failed) counts first second = record {
  counted = let h = second.counted in omega arith;
  part =
      let front = take_front a b second.part.0 in
      (front.0, subst (λ bytes. Appends bytes before now) front.1 (appends_both a (take second.part.0 b) before mid now first second.part.1));
}

front_of : (a b : List ℕ) (n : ℕ) → take n a ≡ take (length (take n a)) (a ++ b)
front_of a b n =
    let whole : take n a ++ (drop n a ++ b) ≡ a ++ b = sym (append_assoc (take n a) (drop n a) b) ∙ ap (λ xs. xs ++ b) (take-append-drop n a) in
    sym (sym (ap (take (length (take n a))) whole) ∙ take-append_seam (take n a) (drop n a ++ b))

-- where the first of two texts fails, both do
pub writes_first : (a b : List ℕ) (before now : SinkState) (failed : SinkFailed) → Writes a before (Err failed) now → Writes (a ++ b) before (Err failed) now
writes_first a b before now failed first = record {
  counted = first.counted;
  part = (length (take first.part.0 a), subst (λ bytes. Appends bytes before now) (front_of a b first.part.0) first.part.1);
}

-- so many pieces are written, and what the rest writes, all of them write
pub record Writing (pieces : List Piece) (before : SinkState) (at : ℕ) (now : SinkState) : Type 0 where
  pub counts : before.faults ≤ now.faults
  pub rest : (result : Result (Unit {0}) SinkFailed) (later : SinkState) → Writes (pieces_text (drop at pieces)) now result later → Writes (pieces_text pieces) before result later

pieces_at : (pieces : List Piece) (at : ℕ) (other : Piece) → at < length pieces → pieces_text (drop at pieces) ≡ piece_text (get_or pieces at other) ++ pieces_text (drop (at + 1) pieces)
pieces_at pieces at other within = at_drop_more pieces_text pieces at other within

pub goes_on : (pieces : List Piece) (before now later : SinkState) (at : ℕ) (other : Piece) → Writing pieces before at now → at < length pieces → now.faults ≤ later.faults → Appends (piece_text (get_or pieces at other)) now later → Writing pieces before (at + 1) later
goes_on pieces before now later at other writing within counts appends = record {
  counts = let h = writing.counts in omega arith;
  rest = λ result last writes.
      writing.rest result last (rw (pieces_at pieces at other within) (writes_later (piece_text (get_or pieces at other)) (pieces_text (drop (at + 1) pieces)) now later last result counts appends writes));
}

pub goes_wrong : (pieces : List Piece) (before now later : SinkState) (at : ℕ) (other : Piece) (failed : SinkFailed) → Writing pieces before at now → at < length pieces → Writes (piece_text (get_or pieces at other)) now (Err failed) later → Writes (pieces_text pieces) before (Err failed) later
goes_wrong pieces before now later at other failed writing within writes =
    writing.rest (Err failed) later (rw (pieces_at pieces at other within) (writes_first (piece_text (get_or pieces at other)) (pieces_text (drop (at + 1) pieces)) now later failed writes))

pub goes_to_end : (pieces : List Piece) (before now : SinkState) (at : ℕ) → Writing pieces before at now → length pieces ≤ at → Writes (pieces_text pieces) before (Ok tt) now
goes_to_end pieces before now at writing done = writing.rest (Ok tt) now (rw (at_drop_all pieces_text pieces at done) (nothing now.written))
  where
    nothing : (x : Option (List ℕ)) → x ≡ option_map (λ written. written ++ []) x
    nothing None = refl
    nothing (Some x) = ap (λ (w : List ℕ). Some w) (sym (append-nil x))
