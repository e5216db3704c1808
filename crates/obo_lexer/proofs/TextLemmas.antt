-- Every text of a line is UTF-8 within the limit, without LF and CR.
use Rattle.std.proofs.Common.{◌≡◌, ℕ, zero, suc, ◌+◌, ◌-◌, ◌≤◌, ◌==◌, Bool, true, false, cond, not, ◌&&◌, List, [], ◌∷◌, ◌++◌, Err, IfSome, None, Ok, OnOk, Option, Result, Some, option_to_list, drop, if◌then◌else◌, is_err, length, map, nat_eq, nat_lt, slice_index, subst, take, refl, sym, ap, ◌∙◌, inl, inr, arith}
use Rattle.std.specs.List.{All, list_all, list_any, starts_with}
use Rattle.std.specs.Str.{is_utf8}
use Rattle.std.proofs.lemmas.Bool.{cases_Bool}
use Rattle.std.proofs.lemmas.Bool.Decides.{nat_tests}
use Rattle.std.proofs.lemmas.List.Elements.{All-cons, All-head, All-nil, All-tail}
use Rattle.std.proofs.lemmas.Str.{IsUtf8-from_is_utf8}
use Rattle.obo_lexer.specs.declared.line.LineBody.{LineBody}
use Rattle.obo_lexer.specs.declared.line.LineBody.TheVariants.{NotUtf8, Text, TooLong}
use Rattle.obo_lexer.specs.declared.line.LineItem.{LineItem}
use Rattle.obo_lexer.specs.Feeding.{Progress, ended_with, fed_with, finished, items_behind, unmarked}
use Rattle.obo_lexer.specs.LineTexts.{HaveLineTexts, has_line_text}
use Rattle.obo_lexer.specs.Items.{HasLineText, body_of}
use Rattle.rel_io.specs.Texts.{is_line_feed, is_return}
use Rattle.obo_lexer.specs.Lines.{HasNoLineFeed, byte_order_mark, ended_lines, rest_of, shown, text_of, without_mark, without_return}
use Rattle.obo_lexer.proofs.LawLemmas.{lines_are_written}
use Rattle.obo_lexer.proofs.LineLemmas.{NoFeed, NoFeed-from_test}

NoFeed-drop : (n : ℕ) (bs : List ℕ) → NoFeed bs → NoFeed (drop n bs)
NoFeed-drop zero bs h = h
NoFeed-drop (suc n) [] h = tt
NoFeed-drop (suc n) (b ∷ bs) h = NoFeed-drop n bs h.1

NoFeed-take : (n : ℕ) (bs : List ℕ) → NoFeed bs → NoFeed (take n bs)
NoFeed-take zero bs h = tt
NoFeed-take (suc n) [] h = tt
NoFeed-take (suc n) (b ∷ bs) h = (h.0, NoFeed-take n bs h.1)

NoFeed-cond : (t : Bool) (xs ys : List ℕ) → NoFeed xs → NoFeed ys → NoFeed (cond t xs ys)
NoFeed-cond true xs ys a b = a
NoFeed-cond false xs ys a b = b

NoFeed-unmarked : (before : ℕ) (line : List ℕ) → NoFeed line → NoFeed (unmarked before line)
NoFeed-unmarked before line h =
    NoFeed-cond (before == 0) (without_mark line) line (NoFeed-cond (starts_with nat_eq line byte_order_mark) (drop 3 line) line (NoFeed-drop 3 line h) h) h

shown_byte : (b : ℕ) → is_line_feed b ≡ false → (is_line_feed (shown b) ≡ false) × (is_return (shown b) ≡ false)
shown_byte b h = elim (cases_Bool (is_return b)) [
  | inl is ↦ rw is (refl, refl)
  | inr is ↦ rw is (h, is)
]

shown_bytes : (bs : List ℕ) → NoFeed bs → (list_any is_line_feed (map shown bs) ≡ false) × (list_any is_return (map shown bs) ≡ false)
shown_bytes [] h = (refl, refl)
shown_bytes (b ∷ bs) h =
    let one = shown_byte b h.0 in
    let more = shown_bytes bs h.1 in
    (rw one.0 more.0, rw one.1 more.1)

text_bytes : (line : List ℕ) → NoFeed line → (list_any is_line_feed (text_of line) ≡ false) × (list_any is_return (text_of line) ≡ false)
text_bytes line h =
    shown_bytes (without_return line) (NoFeed-cond (is_return (slice_index line (length line - 1))) (take (length line - 1) line) line (NoFeed-take (length line - 1) line h) h)

-- the text of a line passes the test where it is the body
body-tested : (limit : ℕ) (text : List ℕ) (utf8 long : Bool) → list_any is_line_feed text ≡ false → list_any is_return text ≡ false → is_utf8 text ≡ utf8 → nat_lt limit (length text) ≡ long → has_line_text limit (cond utf8 (cond long TooLong (Text text)) NotUtf8) ≡ true
body-tested limit text false long a b u l = refl
body-tested limit text true true a b u l = refl
body-tested limit text true false a b u l = rw (u, l, a, b) refl

body-has_text : (limit : ℕ) (line : List ℕ) → NoFeed line → has_line_text limit (body_of limit line) ≡ true
body-has_text limit line h =
    let text = text_of line in
    let bytes = text_bytes line h in
    body-tested limit text (is_utf8 text) (nat_lt limit (length text)) bytes.0 bytes.1 refl refl

not_true : (a : Bool) → not a ≡ true → a ≡ false
not_true true h = cc
not_true false h = refl

and_true : (a b : Bool) → (a && b) ≡ true → (a ≡ true) × (b ≡ true)
and_true true b h = (refl, h)
and_true false b h = cc

HaveLineTexts-append : (limit : ℕ) (xs ys : List LineItem) → HaveLineTexts limit xs → HaveLineTexts limit ys → HaveLineTexts limit (xs ++ ys)
HaveLineTexts-append limit [] ys a b = b
HaveLineTexts-append limit (x ∷ xs) ys a b =
    let h = and_true (has_line_text limit x.body) _ a in rw h.0 (HaveLineTexts-append limit xs ys h.1 b)

HaveLineTexts-items : (limit before : ℕ) (lines : List (List ℕ)) → All HasNoLineFeed lines → HaveLineTexts limit (items_behind limit before lines)
HaveLineTexts-items limit before [] h = refl
HaveLineTexts-items limit before (line ∷ lines) h =
    let bare = NoFeed-from_test line (All-head HasNoLineFeed line lines h) in
    rw (body-has_text limit (unmarked before line) (NoFeed-unmarked before line bare)) (HaveLineTexts-items limit (before + 1) lines (All-tail HasNoLineFeed line lines h))

HaveLineTexts-ended : (p : Progress) (lines : List (List ℕ)) (rest : List ℕ) → HaveLineTexts p.limit p.waiting → All HasNoLineFeed lines → HaveLineTexts p.limit (ended_with p lines rest).waiting
HaveLineTexts-ended p lines rest h bare =
    HaveLineTexts-append p.limit p.waiting _ h (HaveLineTexts-items p.limit p.ended lines bare)

-- after a piece
pub HaveLineTexts-fed : (p q : Progress) (piece : List ℕ) → q ≡ fed_with p piece → HaveLineTexts p.limit p.waiting → HaveLineTexts q.limit q.waiting
HaveLineTexts-fed p q piece e h =
    let all = p.rest ++ piece in
    let P : Progress → Type 0 = λ r. HaveLineTexts r.limit r.waiting in
    subst P (sym e) (HaveLineTexts-ended p (ended_lines all) (rest_of all) h (lines_are_written all).lines)

-- the last line
bare_last : (t : Bool) (rest : List ℕ) → HasNoLineFeed rest → All HasNoLineFeed (cond t [] (rest ∷ []))
bare_last true rest h = All-nil HasNoLineFeed
bare_last false rest h = All-cons HasNoLineFeed rest [] h (All-nil HasNoLineFeed)

-- after the end of the file
pub HaveLineTexts-finished : (p q : Progress) → q ≡ finished p → HasNoLineFeed p.rest → HaveLineTexts p.limit p.waiting → HaveLineTexts q.limit q.waiting
HaveLineTexts-finished p q e bare h =
    let P : Progress → Type 0 = λ r. HaveLineTexts r.limit r.waiting in
    subst P (sym e) (HaveLineTexts-ended p _ [] h (bare_last (length (unmarked p.ended p.rest) == 0) p.rest bare))

one_at_most : (t : Bool) (rest : List ℕ) → length (cond t [] (rest ∷ [])) ≤ 1
one_at_most true rest = omega arith
one_at_most false rest = omega arith

-- an empty rest is no line
no_line : (before : ℕ) → length (unmarked before []) ≡ 0
no_line before = elim (cases_Bool (before == 0)) [ inl is ↦ rw is refl | inr is ↦ rw is refl ]

-- a last line has a byte
last_line-counted : (before : ℕ) (rest : List ℕ) → length (if length (unmarked before rest) == 0 then [] else rest ∷ []) ≤ length rest
last_line-counted before [] = rw (no_line before) (omega arith)
last_line-counted before (b ∷ rest) = omega (arith, one_at_most (length (unmarked before (b ∷ rest)) == 0) (b ∷ rest))

pub ended-finished : (p q : Progress) → q ≡ finished p → (HasNoLineFeed q.rest) × (q.ended + length q.rest ≤ p.ended + length p.rest)
ended-finished p q e =
    let P : Progress → Type 0 = λ r. (HasNoLineFeed r.rest) × (r.ended + length r.rest ≤ p.ended + length p.rest) in
    subst P (sym e) (refl, omega (arith, last_line-counted p.ended p.rest))

-- a body that passes the test has the text of a line
pub HasLineText-from_test : (limit : ℕ) (body : LineBody) → has_line_text limit body ≡ true → HasLineText limit body
HasLineText-from_test limit NotUtf8 h = tt
HasLineText-from_test limit TooLong h = tt
HasLineText-from_test limit (Text text) h =
    let a = and_true (is_utf8 text) _ h in
    let b = and_true (not (nat_lt limit (length text))) _ a.1 in
    let c = and_true (not (list_any is_line_feed text)) _ b.1 in
    record {
      utf8 = IsUtf8-from_is_utf8 text a.0;
      within = let long = b.0 in grind (arith, nat_tests);
      no_line_feed = not_true _ c.0;
      no_return = not_true _ c.1;
    }

-- the item that is taken from the front has it
pub HasLineText-taken : (limit : ℕ) (taken : Option LineItem) (old new : List LineItem) → old ≡ option_to_list taken ++ new → HaveLineTexts limit old → IfSome taken (λ line. HasLineText limit line.body)
HasLineText-taken limit None old new e h = tt
HasLineText-taken limit (Some line) old new e h =
    HasLineText-from_test limit line.body (and_true (has_line_text limit line.body) _ (sym (ap (list_all (λ item. has_line_text limit item.body)) e) ∙ h)).0

-- what a call that did not fail says
pub ok-from_test : {X E P : Type 0} (r : Result X E) → is_err r ≡ false → OnOk r P → P
ok-from_test (Ok x) e h = h
ok-from_test (Err x) e h = cc
