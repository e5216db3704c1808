-- A file that is read up to some byte: what holds of it, line by line and piece by piece.
use Rattle.std.proofs.Common.{◌≡◌, inl, inr, ℕ, ◌+◌, false, List, [], ◌++◌, None, Result, Ok, Err, ap, arith, length, length-append, refl, subst, sym, ◌∙◌}
use Rattle.std.proofs.Math.Logic.{∥∥₁_map}
use Rattle.obo_lexer.specs.Feeding as lines
use Rattle.obo_frames.specs.Answer.{unless_faulty}
use Rattle.obo_frames.specs.Feeding.{IsAnswer, Midway, draft_answer, draft_fault, emptied, read_end, read_items, read_piece, read_waiting, then_read, untouched}
use Rattle.obo_frames.specs.Soundness.{IsKept, IsSound}
use Rattle.obo_frames.specs.inner.Reading.{IsComeTo, IsUnderWay}
use Rattle.obo_frames.specs.declared.fault.DocFault.{DocFault}
use Rattle.obo_frames.specs.declared.fault.DocFault.TheVariants as fault
use Rattle.obo_frames.specs.declared.lines.SoFar.{SoFar}
use Rattle.obo_frames.proofs.AnswerLemmas.{is_exact}
use Rattle.obo_frames.proofs.FeedingLemmas.{pieces_join, whole_is_read}
use Rattle.obo_frames.proofs.SoundLemmas.{kept_all}

-- ---- answers

pub answer_is : {A : Type 0} (wanted : Result A DocFault) (value : A) → IsAnswer wanted (Ok value) → wanted ≡ Ok value
answer_is wanted value (inl is) = sym is
answer_is wanted value (inr none) = absurd (cc)

-- a fault ends what comes behind it
fails_then : {A B : Type 0} (wanted : Result A DocFault) (next : A → Result B DocFault) (one : DocFault) → IsAnswer wanted (Err one) → IsAnswer (then_read wanted next) (Err one)
fails_then wanted next one (inl is) = inl (ap (λ read. then_read read next) is)
fails_then wanted next one (inr none) = let is : one ≡ fault.NoMemory = cc in inr (ap Err is)

-- ---- lines that wait

-- of the lines that waited some were read, and the others wait
pub record ReadsWaiting (first : lines.Feeder) (begun : SoFar) (now : lines.Feeder) (so_far : SoFar) : Type 0 where
  pub same : read_items so_far now.lines.waiting ≡ read_items begun first.lines.waiting
  pub kept : emptied now ≡ emptied first
  pub whole : now.is_spent ≡ false

-- ---- pieces

pub under_way_begins : (limit : ℕ) → IsUnderWay (untouched limit)
under_way_begins limit = record {
  unfinished = refl;
  whole = refl;
  come_to = ∣ record { limit = limit; bytes = []; comes = refl } ∣₁;
}

waited : (f : lines.Feeder) (read : Result SoFar DocFault) (next : Midway) → then_read read (λ so_far. Ok (record { lines = emptied f; so_far = so_far })) ≡ Ok next → next.lines ≡ emptied f
waited f (Ok so_far) next is = let same : record { lines = emptied f; so_far = so_far } ≡ next = cc in sym (ap (λ (m : Midway). m.lines) same)
waited f (Err one) next is = absurd (cc)

-- a piece is read, where its lines were fed and those that waited were read
pub part_read : (midway : Midway) (part : List ℕ) (fed now : lines.Feeder) (next : SoFar) → fed ≡ lines.after_piece midway.lines part → IsAnswer (read_items midway.so_far fed.lines.waiting) (Ok next) → now ≡ emptied fed → read_piece midway part ≡ Ok (record { lines = now; so_far = next })
part_read midway part fed now next fed_is read now_is =
    ap (λ f. read_waiting f midway.so_far) (sym fed_is)
    ∙ (ap (λ read. then_read read (λ so_far. Ok (record { lines = emptied fed; so_far = so_far }))) (answer_is _ next read)
    ∙ (λ i. Ok (record { lines = sym now_is i; so_far = next })))

-- the lines behind a piece
pub lines_behind : (midway next : Midway) (piece : List ℕ) → read_piece midway piece ≡ Ok next → next.lines ≡ emptied (lines.after_piece midway.lines piece)
lines_behind midway next piece is = waited (lines.after_piece midway.lines piece) _ next is

-- a part of what is left is read, and then the rest

pub parts_fail : (begun midway : Midway) (piece left part later : List ℕ) (one : DocFault) → read_piece midway left ≡ read_piece begun piece → left ≡ part ++ later → IsAnswer (read_piece midway part) (Err one) → IsAnswer (read_piece begun piece) (Err one)
parts_fail begun midway piece left part later one same split is =
    subst (λ wanted. IsAnswer wanted (Err one)) (pieces_join midway part later ∙ (ap (read_piece midway) (sym split) ∙ same)) (fails_then (read_piece midway part) (λ next. read_piece next later) one is)

pub parts_go_on : (begun midway next : Midway) (piece left part later : List ℕ) → read_piece midway left ≡ read_piece begun piece → left ≡ part ++ later → IsAnswer (read_piece midway part) (Ok next) → read_piece next later ≡ read_piece begun piece
parts_go_on begun midway next piece left part later same split is =
    ap (λ read. then_read read (λ next. read_piece next later)) (sym (answer_is _ next is))
    ∙ (pieces_join midway part later ∙ (ap (read_piece midway) (sym split) ∙ same))

pub parts_count : (midway next : Midway) (left part later : List ℕ) → left ≡ part ++ later → IsAnswer (read_piece midway part) (Ok next) → next.lines.fed + length later ≡ midway.lines.fed + length left
parts_count midway next left part later split is =
    let fed : next.lines.fed ≡ midway.lines.fed + length part = ap (λ (f : lines.Feeder). f.fed) (lines_behind midway next part (answer_is _ next is)) in
    let long : length left ≡ length part + length later = ap length split ∙ length-append part later in
    omega arith

come_on : (midway next : Midway) (piece : List ℕ) → read_piece midway piece ≡ Ok next → IsComeTo midway → IsComeTo next
come_on midway next piece is come = record {
  limit = come.limit;
  bytes = come.bytes ++ piece;
  comes = sym (pieces_join (untouched come.limit) come.bytes piece) ∙ (ap (λ read. then_read read (λ next. read_piece next piece)) come.comes ∙ is);
}

pub under_way_goes_on : (midway next : Midway) (piece : List ℕ) → IsUnderWay midway → read_piece midway piece ≡ Ok next → IsUnderWay next
under_way_goes_on midway next piece way is =
    let same = lines_behind midway next piece is in
    record {
      unfinished = ap (λ (f : lines.Feeder). f.is_finished) same ∙ way.unfinished;
      whole = ap (λ (f : lines.Feeder). f.is_spent) same ∙ way.whole;
      come_to = ∥∥₁_map way.come_to (come_on midway next piece is);
    }

-- ---- the end

-- what was placed without a fault of the frames is kept by a document
kept_at_end : (midway : Midway) (so_far : SoFar) → read_items midway.so_far (lines.after_end midway.lines).lines.waiting ≡ Ok so_far → draft_fault so_far.draft ≡ None → IsComeTo midway → IsKept so_far.draft.placed
kept_at_end midway so_far is none come =
    let placed = so_far.draft.placed in
    let whole = ap (λ read. then_read read read_end) (sym come.comes) ∙ whole_is_read come.limit come.bytes in
    let answer = ap (λ read. then_read read (λ (so_far : SoFar). draft_answer so_far.draft)) is ∙ ap (unless_faulty placed) none in
    let document = ((is_exact come.limit come.bytes).document placed).0 (sym whole ∙ answer) in
    subst IsKept (sym document.in_places) (kept_all come.limit come.bytes document.tolds document.tells document.faultless)

pub sound_at_end : (midway : Midway) (so_far : SoFar) → IsUnderWay midway → read_items midway.so_far (lines.after_end midway.lines).lines.waiting ≡ Ok so_far → draft_fault so_far.draft ≡ None → IsSound so_far.draft.placed
sound_at_end midway so_far way is none = ∥∥₁_map way.come_to (kept_at_end midway so_far is none)
