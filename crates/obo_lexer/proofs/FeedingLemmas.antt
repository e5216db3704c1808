-- How a feeder's lines go on, from one piece to the next.
use Rattle.std.proofs.Common.{◌≡◌, ℕ, suc, ◌+◌, ◌<◌, List, [], ◌∷◌, ◌++◌, Some, None, length, get_or, take, drop, refl, sym, ap, ◌∙◌, arith}
use Rattle.std.proofs.lemmas.Bool.{eqb-true}
use Rattle.std.proofs.lemmas.List.{append_assoc, append-nil, take-append-drop, drop_more, length-append}
use Rattle.memchr.specs.Find.{IsFirstByte, is_byte}
use Rattle.obo_lexer.specs.Feeding.{Progress, ended_with, fed_with, items_behind}
use Rattle.obo_lexer.specs.Lines.{HasNoLineFeed, ended_lines, rest_of}
use Rattle.obo_lexer.proofs.LineLemmas.{NoFeed-append, NoFeed-before, NoFeed-from_test, NoFeed-from_none, test-from_NoFeed, ended_lines-append, ended_lines-none, ended_lines-one, rest_of-append, rest_of-none, rest_of-one}

pub items_behind-append : (limit before : ℕ) (xs ys : List (List ℕ)) → items_behind limit before (xs ++ ys) ≡ items_behind limit before xs ++ items_behind limit (before + length xs) ys
items_behind-append limit before [] ys = let e : before + 0 ≡ before = omega arith in rw e refl
items_behind-append limit before (x ∷ xs) ys =
    let e : before + suc (length xs) ≡ before + 1 + length xs = omega arith in
    rw (e, items_behind-append limit (before + 1) xs ys) refl

-- two steps, one after the other, are one
pub ended_with-twice : (p : Progress) (xs ys : List (List ℕ)) (r q : List ℕ) → ended_with (ended_with p xs r) ys q ≡ ended_with p (xs ++ ys) q
ended_with-twice p xs ys r q =
    let count : p.ended + length xs + length ys ≡ p.ended + length (xs ++ ys) = omega (arith, length-append xs ys) in
    let items : p.waiting ++ items_behind p.limit p.ended xs ++ items_behind p.limit (p.ended + length xs) ys ≡ p.waiting ++ items_behind p.limit p.ended (xs ++ ys) = append_assoc p.waiting _ _ ∙ ap (λ l. p.waiting ++ l) (sym (items_behind-append p.limit p.ended xs ys)) in
    cc

-- no line more and another rest
pub ended_with-none : (p : Progress) (r : List ℕ) → ended_with p [] r ≡ record p { rest = r }
ended_with-none p r =
    let count : p.ended + 0 ≡ p.ended = omega arith in let items = append-nil p.waiting in cc

-- feeding a piece and then another is feeding both together
pub fed_with-twice : (p : Progress) (x y : List ℕ) → fed_with (fed_with p x) y ≡ fed_with p (x ++ y)
fed_with-twice p x y =
    let all = p.rest ++ x in
    ended_with-twice p (ended_lines all) (ended_lines (rest_of all ++ y)) (rest_of all) (rest_of (rest_of all ++ y)) ∙ (let lines = ended_lines-append all y in let rest = rest_of-append all y in let whole = append_assoc p.rest x y in cc)

-- bytes around their first LF
around : (bytes : List ℕ) (at : ℕ) → IsFirstByte (is_byte 10) bytes (Some at) → bytes ≡ take at bytes ++ 10 ∷ drop (at + 1) bytes
around bytes at h =
    let within : at < length bytes = h.0.high in
    let byte : get_or bytes at 0 ≡ 10 = eqb-true _ 10 h.1 in
    sym (take-append-drop at bytes) ∙ ap (λ l. take at bytes ++ l) (drop_more bytes at 0 within ∙ ap (λ b. b ∷ drop (at + 1) bytes) byte)

-- a piece up to its first LF ends a line, and what stands behind is fed
pub fed_with-one : (p r : Progress) (left : List ℕ) (at : ℕ) → HasNoLineFeed p.rest → IsFirstByte (is_byte 10) left (Some at) → r ≡ ended_with (record p { rest = p.rest ++ take at left }) ((p.rest ++ take at left) ∷ []) [] → fed_with r (drop (at + 1) left) ≡ fed_with p left
fed_with-one p r left at none found e =
    let line = p.rest ++ take at left in
    let later = drop (at + 1) left in
    let bare = NoFeed-append p.rest (take at left) (NoFeed-from_test p.rest none) (NoFeed-before left at found) in
    let whole : p.rest ++ left ≡ line ++ 10 ∷ later = ap (λ l. p.rest ++ l) (around left at found) ∙ sym (append_assoc p.rest (take at left) (10 ∷ later)) in
    let lines : ended_lines (p.rest ++ left) ≡ line ∷ ended_lines later = ap ended_lines whole ∙ ended_lines-one line later bare in
    let rest : rest_of (p.rest ++ left) ≡ rest_of later = ap rest_of whole ∙ rest_of-one line later bare in
    ap (λ q. fed_with q later) e ∙ ended_with-twice p (line ∷ []) (ended_lines later) [] (rest_of later) ∙ sym (ap (λ l. ended_with p l (rest_of (p.rest ++ left))) lines ∙ ap (λ l. ended_with p (line ∷ ended_lines later) l) rest)

-- a piece without LF goes on with the rest
pub fed_with-none : (p : Progress) (left : List ℕ) → HasNoLineFeed p.rest → IsFirstByte (is_byte 10) left None → (record p { rest = p.rest ++ left } ≡ fed_with p left) × HasNoLineFeed (p.rest ++ left)
fed_with-none p left none found =
    let bare = NoFeed-append p.rest left (NoFeed-from_test p.rest none) (NoFeed-from_none left found) in (
      sym (ap (λ l. ended_with p l (rest_of (p.rest ++ left))) (ended_lines-none (p.rest ++ left) bare) ∙ (ap (λ l. ended_with p [] l) (rest_of-none (p.rest ++ left) bare) ∙ ended_with-none p (p.rest ++ left))),
      test-from_NoFeed (p.rest ++ left) bare,
    )
