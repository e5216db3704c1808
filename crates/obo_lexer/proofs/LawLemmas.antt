-- The laws of lines and of feeders.
use Rattle.std.proofs.Common.{◌≡◌, ℕ, ◌+◌, ◌<◌, ◌==◌, Bool, true, false, cond, if◌then◌else◌, ◌&&◌, nat_eq, List, [], ◌∷◌, ◌++◌, length, length-append, drop, refl, sym, ap, ◌∙◌, inl, inr, arith}
use Rattle.std.specs.List.{All, onto_first, slice_split, starts_with}
use Rattle.std.proofs.lemmas.Bool.{cases_Bool, eqb-true, false_from_ne_true, false≢true}
use Rattle.std.proofs.lemmas.Bool.Decides.{nat_tests}
use Rattle.std.proofs.lemmas.List.{append-nil, append_assoc}
use Rattle.std.proofs.lemmas.List.Elements.{All-cons, All-head, All-nil, All-tail}
use Rattle.obo_lexer.specs.declared.line.LineItem.{LineItem}
use Rattle.obo_lexer.specs.Feeding.{Feeder, Progress, begun, fed_with, finished, items_behind, unmarked, with_first}
use Rattle.obo_lexer.specs.Items.{body_of, lines_of, numbered}
use Rattle.obo_lexer.specs.Laws.{LinesAreOnly, LinesAreWritten, PiecesJoin, Run, RunsGiveLines, feeding, starting, taking}
use Rattle.rel_io.specs.Texts.{is_line_feed}
use Rattle.obo_lexer.specs.Lines.{HasNoLineFeed, all_but_last, byte_order_mark, ended_lines, last_line, last_part, rest_of, without_mark, written}
use Rattle.obo_lexer.proofs.FeedingLemmas.{fed_with-twice, items_behind-append}
use Rattle.obo_lexer.proofs.LineLemmas.{NoFeed, NoFeed-from_test, ended-cons, ended_lines-none, ended_lines-one, rest-cons, rest_of-none, rest_of-one, split-cons, test-from_NoFeed}

-- lines and rest, written

written-onto : (b : ℕ) (part : List ℕ) (parts : List (List ℕ)) → written (all_but_last (onto_first b (part ∷ parts))) (last_part (onto_first b (part ∷ parts))) ≡ b ∷ written (all_but_last (part ∷ parts)) (last_part (part ∷ parts))
written-onto b part [] = refl
written-onto b part (next ∷ parts) = refl

written-parts : (bs : List ℕ) → written (ended_lines bs) (rest_of bs) ≡ bs
written-parts [] = refl
written-parts (b ∷ bs) =
    let rec = written-parts bs in
    let s = split-cons bs in
    elim (cases_Bool (is_line_feed b)) [
      | inl is ↦ rw is (rw (ended-cons [] bs, rest-cons [] bs, rec, eqb-true b 10 is) refl)
      | inr is ↦ rw is (rw s.2 (written-onto b s.0 s.1 ∙ ap (λ l. b ∷ l) (sym (ap (λ l. written (all_but_last l) (last_part l)) s.2) ∙ rec)))
    ]

abbrev Each : List (List ℕ) → Type 0
Each [] = Unit {0}
Each (part ∷ parts) = NoFeed part × Each parts

Each-onto : (b : ℕ) (parts : List (List ℕ)) → is_line_feed b ≡ false → Each parts → Each (onto_first b parts)
Each-onto b [] is h = ((is, tt), tt)
Each-onto b (part ∷ parts) is h = ((is, h.0), h.1)

Each-split : (bs : List ℕ) → Each (slice_split is_line_feed bs)
Each-split [] = (tt, tt)
Each-split (b ∷ bs) =
    let rec = Each-split bs in
    elim (cases_Bool (is_line_feed b)) [
      | inl is ↦ rw is (tt, rec)
      | inr is ↦ rw is (Each-onto b (slice_split is_line_feed bs) is rec)
    ]

Each-lines : (parts : List (List ℕ)) → Each parts → All HasNoLineFeed (all_but_last parts)
Each-lines [] h = All-nil HasNoLineFeed
Each-lines (part ∷ []) h = All-nil HasNoLineFeed
Each-lines (part ∷ next ∷ parts) h =
    All-cons HasNoLineFeed part _ (test-from_NoFeed part h.0) (Each-lines (next ∷ parts) h.1)

Each-rest : (parts : List (List ℕ)) → Each parts → HasNoLineFeed (last_part parts)
Each-rest [] h = refl
Each-rest (part ∷ []) h = test-from_NoFeed part h.0
Each-rest (part ∷ next ∷ parts) h = Each-rest (next ∷ parts) h.1

pub lines_are_written : (bytes : List ℕ) → LinesAreWritten bytes
lines_are_written bytes = record {
  joined = written-parts bytes;
  lines = Each-lines (slice_split is_line_feed bytes) (Each-split bytes);
  rest = Each-rest (slice_split is_line_feed bytes) (Each-split bytes);
}

lines-written : (lines : List (List ℕ)) (rest : List ℕ) → All HasNoLineFeed lines → HasNoLineFeed rest → (lines ≡ ended_lines (written lines rest)) × (rest ≡ rest_of (written lines rest))
lines-written [] rest h none =
    (sym (ended_lines-none rest (NoFeed-from_test rest none)), sym (rest_of-none rest (NoFeed-from_test rest none)))
lines-written (line ∷ lines) rest h none =
    let rec = lines-written lines rest (All-tail HasNoLineFeed line lines h) none in
    let bare = NoFeed-from_test line (All-head HasNoLineFeed line lines h) in (
      sym (ended_lines-one line (written lines rest) bare ∙ ap (λ l. line ∷ l) (sym rec.0)),
      sym (rest_of-one line (written lines rest) bare ∙ sym rec.1),
    )

pub lines_are_only : (bytes : List ℕ) → LinesAreOnly bytes
lines_are_only bytes lines rest h none e =
    let parts = lines-written lines rest h none in (parts.0 ∙ ap ended_lines e, parts.1 ∙ ap rest_of e)

-- pieces and runs

pub pieces_join : PiecesJoin
pieces_join f x y =
    let lines = fed_with-twice f.lines x y in let count : f.fed + length x + length y ≡ f.fed + length (x ++ y) = omega (arith, length-append x y) in cc

-- the mark

-- the first part of a file, without a byte order mark, is that of the file without it
record FirstPart (bytes : List ℕ) : Type 0 where
  first : List ℕ
  bare : List ℕ
  later : List (List ℕ)
  parts : slice_split is_line_feed bytes ≡ first ∷ later
  bare_parts : slice_split is_line_feed (without_mark bytes) ≡ bare ∷ later
  unmarked_first : without_mark first ≡ bare

and_true : (a b : Bool) → (a && b) ≡ true → (a ≡ true) × (b ≡ true)
and_true true b h = (refl, h)
and_true false b h = cc

-- bytes that begin with the mark are the mark and what stands behind it
behind_mark : (bytes : List ℕ) → starts_with nat_eq bytes byte_order_mark ≡ true → bytes ≡ byte_order_mark ++ drop 3 bytes
behind_mark [] h = cc
behind_mark (a ∷ []) h = let p = and_true (nat_eq 239 a) _ h in cc
behind_mark (a ∷ b ∷ []) h =
    let p = and_true (nat_eq 239 a) _ h in let q = and_true (nat_eq 187 b) _ p.1 in cc
behind_mark (a ∷ b ∷ c ∷ rest) h =
    let p = and_true (nat_eq 239 a) _ h in
    let q = and_true (nat_eq 187 b) _ p.1 in
    let r = and_true (nat_eq 191 c) _ q.1 in
    rw (sym (eqb-true 239 a p.0), sym (eqb-true 187 b q.0), sym (eqb-true 191 c r.0)) refl

without_mark-marked : (rest : List ℕ) → without_mark (byte_order_mark ++ rest) ≡ rest
without_mark-marked rest = refl

without_mark-bare : (bytes : List ℕ) → starts_with nat_eq bytes byte_order_mark ≡ false → without_mark bytes ≡ bytes
without_mark-bare bytes h = ap (λ t. cond t (drop 3 bytes) bytes) h

-- the first part is the front of the bytes
split-front : (bytes first : List ℕ) (later : List (List ℕ)) → slice_split is_line_feed bytes ≡ first ∷ later → (tail : List ℕ) × (bytes ≡ first ++ tail)
split-front bytes first [] e =
    ([], sym (written-parts bytes) ∙ (ap (λ l. written (all_but_last l) (last_part l)) e ∙ sym (append-nil first)))
split-front bytes first (next ∷ later) e = (
  10 ∷ written (all_but_last (next ∷ later)) (last_part (next ∷ later)),
  sym (written-parts bytes) ∙ ap (λ l. written (all_but_last l) (last_part l)) e,
)

-- bytes whose front begins with the mark begin with it
front_marked : (bytes first tail : List ℕ) → bytes ≡ first ++ tail → starts_with nat_eq first byte_order_mark ≡ true → starts_with nat_eq bytes byte_order_mark ≡ true
front_marked bytes first tail e h =
    ap (λ l. starts_with nat_eq l byte_order_mark) (e ∙ ap (λ l. l ++ tail) (behind_mark first h))

first_part : (bytes : List ℕ) → FirstPart bytes
first_part bytes = elim (cases_Bool (starts_with nat_eq bytes byte_order_mark)) [
  | inl is ↦ (
      let rest = drop 3 bytes in
      let whole = behind_mark bytes is in
      let s = split-cons rest in
      record {
        first = byte_order_mark ++ s.0;
        bare = s.0;
        later = s.1;
        parts = ap (slice_split is_line_feed) whole ∙ ap (λ l. onto_first 239 (onto_first 187 (onto_first 191 l))) s.2;
        bare_parts = ap (λ l. slice_split is_line_feed (without_mark l)) whole ∙ s.2;
        unmarked_first = refl;
      }
      )
  | inr is ↦ (
      let s = split-cons bytes in
      let front = split-front bytes s.0 s.1 s.2 in
      record {
        first = s.0;
        bare = s.0;
        later = s.1;
        parts = s.2;
        bare_parts = ap (slice_split is_line_feed) (without_mark-bare bytes is) ∙ s.2;
        unmarked_first = without_mark-bare s.0 (false_from_ne_true _ (λ marked. absurd (false≢true (sym is ∙ front_marked bytes s.0 front.0 front.1 marked))));
      }
      )
]

-- numbers

not_first : (before : ℕ) → 0 < before → (before == 0) ≡ false
not_first before h = grind (arith, nat_tests)

-- behind the first line, items are numbered as they stand
items_behind-numbered : (limit before : ℕ) (lines : List (List ℕ)) → 0 < before → items_behind limit before lines ≡ numbered limit (before + 1) lines
items_behind-numbered limit before [] h = refl
items_behind-numbered limit before (line ∷ lines) h =
    rw (not_first before h, items_behind-numbered limit (before + 1) lines (omega arith)) refl

-- the lines of a file, by those of the file without the mark
items_behind-first : (limit : ℕ) (first bare : List ℕ) (lines : List (List ℕ)) → without_mark first ≡ bare → items_behind limit 0 (first ∷ lines) ≡ numbered limit 1 (bare ∷ lines)
items_behind-first limit first bare lines e =
    ap (λ l. record { number = 1; body = body_of limit l } ∷ items_behind limit 1 lines) e ∙ ap (λ l. record { number = 1; body = body_of limit bare } ∷ l) (items_behind-numbered limit 1 lines (omega arith))

items-ended : (limit : ℕ) (first bare : List ℕ) (later : List (List ℕ)) → without_mark first ≡ bare → items_behind limit 0 (all_but_last (first ∷ later)) ≡ numbered limit 1 (all_but_last (bare ∷ later))
items-ended limit first bare [] e = refl
items-ended limit first bare (next ∷ later) e = items_behind-first limit first bare (all_but_last (next ∷ later)) e

-- the ended lines of a file
pub items-of_file : (limit : ℕ) (bytes : List ℕ) → items_behind limit 0 (ended_lines bytes) ≡ numbered limit 1 (ended_lines (without_mark bytes))
items-of_file limit bytes =
    let p = first_part bytes in
    ap (λ l. items_behind limit 0 (all_but_last l)) p.parts ∙ (items-ended limit p.first p.bare p.later p.unmarked_first ∙ sym (ap (λ l. numbered limit 1 (all_but_last l)) p.bare_parts))

-- the end of a file

-- the rest as the lines that it gives at the end of the file
abbrev end_lines : ℕ → List ℕ → List (List ℕ)
end_lines before rest = if length (unmarked before rest) == 0 then [] else rest ∷ []

end_lines-later : (before : ℕ) (rest : List ℕ) → 0 < before → end_lines before rest ≡ last_line rest
end_lines-later before [] h = rw (not_first before h) refl
end_lines-later before (b ∷ rest) h =
    rw (not_first before h, not_first (length (b ∷ rest)) (omega arith)) refl

end-first_bare : (limit : ℕ) (first bare : List ℕ) → without_mark first ≡ bare → items_behind limit 0 (if length bare == 0 then [] else first ∷ []) ≡ numbered limit 1 (last_line bare)
end-first_bare limit first [] e = refl
end-first_bare limit first (b ∷ bare) e =
    ap (λ t. items_behind limit 0 (cond t [] (first ∷ []))) (not_first (length (b ∷ bare)) (omega arith)) ∙ items_behind-first limit first (b ∷ bare) [] e

end-first : (limit : ℕ) (first bare : List ℕ) → without_mark first ≡ bare → items_behind limit 0 (end_lines 0 first) ≡ numbered limit 1 (last_line bare)
end-first limit first bare e =
    ap (λ l. items_behind limit 0 (if length l == 0 then [] else first ∷ [])) e ∙ end-first_bare limit first bare e

items-all : (limit before : ℕ) (first bare : List ℕ) (later : List (List ℕ)) → without_mark first ≡ bare → before ≡ 0 + length (all_but_last (first ∷ later)) → items_behind limit 0 (all_but_last (first ∷ later)) ++ items_behind limit before (end_lines before (last_part (first ∷ later))) ≡ numbered limit 1 (all_but_last (bare ∷ later) ++ last_line (last_part (bare ∷ later)))
items-all limit before first bare [] e n = ap (λ b. items_behind limit b (end_lines b first)) n ∙ end-first limit first bare e
items-all limit before first bare (next ∷ later) e n =
    let lines = first ∷ all_but_last (next ∷ later) in
    let rest = last_part (next ∷ later) in
    ap (λ l. items_behind limit 0 lines ++ items_behind limit before l) (end_lines-later before rest (omega (arith, n))) ∙ (ap (λ b. items_behind limit 0 lines ++ items_behind limit b (last_line rest)) n ∙ (sym (items_behind-append limit 0 lines (last_line rest)) ∙ items_behind-first limit first bare (all_but_last (next ∷ later) ++ last_line rest) e))

-- all lines of a file, fed whole
pub waiting-whole : (limit : ℕ) (bytes : List ℕ) → (finished (fed_with (begun limit) bytes)).waiting ≡ lines_of limit bytes
waiting-whole limit bytes =
    let p = first_part bytes in
    ap (λ l. items_behind limit 0 (all_but_last l) ++ items_behind limit (0 + length (all_but_last l)) (end_lines (0 + length (all_but_last l)) (last_part l))) p.parts ∙ (items-all limit _ p.first p.bare p.later p.unmarked_first refl ∙ sym (ap (λ l. numbered limit 1 (all_but_last l ++ last_line (last_part l))) p.bare_parts))

-- runs

-- the lines taken before those that wait
abbrev with_taken : List LineItem → Progress → Progress
with_taken taken p = record p { waiting = taken ++ p.waiting }

fed_with-taken : (taken : List LineItem) (p : Progress) (piece : List ℕ) → with_taken taken (fed_with p piece) ≡ fed_with (with_taken taken p) piece
fed_with-taken taken p piece = let whole = append_assoc taken p.waiting (items_behind p.limit p.ended (ended_lines (p.rest ++ piece))) in cc

-- with its taken lines, a feeder is as far as if all bytes were fed at once
run-whole : (limit : ℕ) (bytes : List ℕ) (taken : List LineItem) (f : Feeder) → Run limit bytes taken f → with_taken taken f.lines ≡ fed_with (begun limit) bytes
run-whole limit bytes taken f starting = refl
run-whole limit bytes taken f' (feeding bytes' taken' f piece run) =
    fed_with-taken taken' f.lines piece ∙ (ap (λ p. fed_with p piece) (run-whole limit bytes' taken' f run) ∙ fed_with-twice (begun limit) bytes' piece)
run-whole limit bytes taken' f' (taking bytes' taken line f run) =
    ap (λ l. record f.lines { waiting = l }) (append_assoc taken (line ∷ []) f.lines.waiting) ∙ run-whole limit bytes' taken (with_first line f) run

pub runs_give_lines : RunsGiveLines
runs_give_lines limit bytes taken f run =
    let whole = run-whole limit bytes taken f run in
    record {
      ended = ap (λ p. p.waiting) whole ∙ items-of_file limit bytes;
      all = sym (append_assoc taken f.lines.waiting _) ∙ (ap (λ p. (finished p).waiting) whole ∙ waiting-whole limit bytes);
    }
