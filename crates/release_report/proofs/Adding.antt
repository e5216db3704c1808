-- What is added to a text, one thing behind the other.
use Rattle.std.proofs.Common.{◌≡◌, ℕ, ◌+◌, ◌<◌, List, [], ◌∷◌, ◌++◌, Result, Ok, Err, IfOk, length, take, get_or, sym, ap, ◌∙◌, append_assoc, append-nil, add-one, take-suc}
use Rattle.std.proofs.lemmas.List.Concat.{flat_map-append}
use Rattle.std.specs.List.{flat_map}

-- two texts are added, one behind the other
pub added_later : {A E : Type 0} (items : A → List ℕ) (before first middle second : List ℕ) (result : Result A E) → middle ≡ before ++ first → IfOk result (λ longer. items longer ≡ middle ++ second) → IfOk result (λ longer. items longer ≡ before ++ (first ++ second))
added_later items before first middle second (Ok made) one two = two ∙ ap (λ text. text ++ second) one ∙ append_assoc before first second
added_later items before first middle second (Err failed) one two = two

-- the texts of so many things are added, and then that of the next
pub added_next : {X : Type 0} (text : X → List ℕ) (xs : List X) (at : ℕ) (x other : X) (before held after : List ℕ) → at < length xs → x ≡ get_or xs at other → held ≡ before ++ flat_map text (take at xs) → after ≡ held ++ text x → after ≡ before ++ flat_map text (take (at + 1) xs)
added_next text xs at x other before held after within is so_far next =
    let texts = flat_map text (take at xs) in
    let taken : take (at + 1) xs ≡ take at xs ++ x ∷ [] = ap (λ n. take n xs) (add-one at) ∙ take-suc xs at other within ∙ ap (λ y. take at xs ++ y ∷ []) (sym is) in
    let told : flat_map text (take (at + 1) xs) ≡ texts ++ text x = ap (flat_map text) taken ∙ flat_map-append text (take at xs) (x ∷ []) ∙ ap (λ last. texts ++ last) (append-nil (text x)) in
    next ∙ ap (λ items. items ++ text x) so_far ∙ append_assoc before texts (text x) ∙ sym (ap (λ all. before ++ all) told)
