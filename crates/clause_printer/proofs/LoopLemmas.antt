-- What a loop has appended that appends the text of each item of a list.
use Rattle.std.proofs.Common.{◌≡◌, ℕ, ◌+◌, ◌<◌, ◌≤◌, ◌==◌, ◌||◌, Bool, true, false, List, [], ◌∷◌, ◌++◌, length, get_or, take, drop, suc, zero, refl, sym, ap, ◌∙◌, append_assoc, append-nil, add-one, arith, drop-cons, eq-eqb, eqb-true, ne_eqb, take-suc, take_all}
use Rattle.std.specs.List.{flat_map}
use Rattle.std.proofs.lemmas.Bool.{true≢false}
use Rattle.std.proofs.lemmas.List.Concat.{flat_map-append}
use Rattle.clause_printer.specs.Printing.{is_end, is_escaped_in_run, run_text, spelled_byte}

-- the texts of the items before a place and of the item there are the texts of the items before the next place
pub one_more : {X : Type 0} (text : X → List ℕ) (xs : List X) (at : ℕ) (x other : X) (before held after : List ℕ) → at < length xs → x ≡ get_or xs at other → held ≡ before ++ flat_map text (take at xs) → after ≡ held ++ text x → after ≡ before ++ flat_map text (take (at + 1) xs)
one_more text xs at x other before held after within is so_far next =
    let texts = flat_map text (take at xs) in
    let taken : take (at + 1) xs ≡ take at xs ++ x ∷ [] = ap (λ n. take n xs) (add-one at) ∙ take-suc xs at other within ∙ ap (λ y. take at xs ++ y ∷ []) (sym is) in
    let told : flat_map text (take (at + 1) xs) ≡ texts ++ text x = ap (flat_map text) taken ∙ flat_map-append text (take at xs) (x ∷ []) ∙ ap (λ last. texts ++ last) (append-nil (text x)) in
    next ∙ ap (λ items. items ++ text x) so_far ∙ append_assoc before texts (text x) ∙ sym (ap (λ all. before ++ all) told)

-- the texts of the items before the end are those of all items
pub all_told : {X : Type 0} (text : X → List ℕ) (xs : List X) (at : ℕ) (before held : List ℕ) → length xs ≤ at → held ≡ before ++ flat_map text (take at xs) → held ≡ before ++ flat_map text xs
all_told text xs at before held ended so_far = so_far ∙ ap (λ items. before ++ flat_map text items) (take_all at xs ended)

next_equal : (a b : ℕ) (answer : Bool) → (a == b) ≡ answer → (suc a == suc b) ≡ answer
next_equal a b true is = eq-eqb (suc a) (suc b) (ap suc (eqb-true a b is))
next_equal a b false is = ne_eqb (suc a) (suc b) (λ e. true≢false (sym (eq-eqb a b (omega arith)) ∙ is))

-- a place is the end exactly where nothing is left behind it
ends_at : (at : ℕ) (text : List ℕ) → at ≤ length text → (at == length text) ≡ is_end (drop at text)
ends_at zero [] within = refl
ends_at zero (byte ∷ text) within = ne_eqb 0 (suc (length text)) (λ e. omega arith)
ends_at (suc at) [] within = absurd (omega arith)
ends_at (suc at) (byte ∷ text) within = next_equal at (length text) (is_end (drop at text)) (ends_at at text (omega arith))

-- the first byte of a run is outer
pub first_outer : (at : ℕ) (rest : List ℕ) → at ≡ 0 → (at == 0) ≡ ((at == 0) || is_end rest)
first_outer at rest first =
    let same : (at == 0) ≡ true = eq-eqb at 0 first in
    same ∙ sym (ap (λ b. b || is_end rest) same)

-- a later byte is outer exactly where nothing is left behind it
pub last_outer : (at : ℕ) (text : List ℕ) → (at ≡ 0 → ⊥) → at < length text → (at + 1 == length text) ≡ ((at == 0) || is_end (drop (at + 1) text))
last_outer at text later within = ends_at (at + 1) text (omega arith) ∙ sym (ap (λ b. b || is_end (drop (at + 1) text)) (ne_eqb at 0 later))

-- a byte more of a run is appended, and what is left of the run is that much less
pub run_more : (text : List ℕ) (at : ℕ) (is_outer : Bool) (whole held after : List ℕ) → at < length text → is_outer ≡ ((at == 0) || is_end (drop (at + 1) text)) → held ++ run_text (at == 0) (drop at text) ≡ whole → after ≡ held ++ spelled_byte (is_escaped_in_run is_outer (get_or text at 0)) (get_or text at 0) → after ++ run_text (at + 1 == 0) (drop (at + 1) text) ≡ whole
run_more text at is_outer whole held after within outer so_far next =
    let byte = get_or text at 0 in
    let rest = drop (at + 1) text in
    let cut : drop at text ≡ byte ∷ rest = drop-cons text at 0 within ∙ ap (λ n. byte ∷ drop n text) (sym (add-one at)) in
    let later : (at + 1 == 0) ≡ false = ne_eqb (at + 1) 0 (λ e. omega arith) in
    let spelled = spelled_byte (is_escaped_in_run is_outer byte) byte in
    ap (λ items. items ++ run_text (at + 1 == 0) rest) next
    ∙ ap (λ begins. (held ++ spelled) ++ run_text begins rest) later
    ∙ append_assoc held spelled (run_text false rest)
    ∙ ap (λ b. held ++ (spelled_byte (is_escaped_in_run b byte) byte ++ run_text false rest)) outer
    ∙ sym (ap (λ left. held ++ run_text (at == 0) left) cut)
    ∙ so_far
