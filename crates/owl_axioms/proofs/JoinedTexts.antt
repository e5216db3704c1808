-- Texts put together part by part are the phrases that they have to be.
use Rattle.std.proofs.Common.{◌≡◌, ◌<◌, ◌+◌, ℕ, zero, suc, Bool, true, false, List, [], ◌∷◌, ◌++◌, codes, get_or, length, map, take, refl, sym, ap, subst, ◌∙◌, append_assoc, append-nil, arith, nat_eq, Result}
use Rattle.std.specs.Result.{OnOk}
use Rattle.std.specs.List.{join_with_byte}
use Rattle.std.proofs.lemmas.Bool.Decides.{nat_tests}
use Rattle.std.proofs.lemmas.List.{take_more}
use Rattle.owl_axioms.specs.Text.{phrase}
use Rattle.owl_axioms.specs.inner.Joined.{end_one, end_three, end_two, gap, opening, spaced}

-- ---- parts with a space between each two

abbrev has_none : {X : Type 0} → List X → Bool
has_none [] = true
has_none (x ∷ xs) = false

join_push : (xs : List (List ℕ)) (x : List ℕ) → join_with_byte 32 (xs ++ x ∷ []) ≡ join_with_byte 32 xs ++ (gap (has_none xs) ++ x)
unfolding gap
join_push [] x = refl
join_push (y ∷ []) x = refl
join_push (y ∷ z ∷ ys) x = ap (λ t. y ++ 32 ∷ t) (join_push (z ∷ ys) x) ∙ sym (append_assoc y (32 ∷ join_with_byte 32 (z ∷ ys)) (32 ∷ x))

later_place : (i : ℕ) → false ≡ nat_eq (suc i) 0
later_place i = grind (arith, nat_tests)

first_place : {X : Type 0} (text : X → List ℕ) (xs : List X) (i : ℕ) → i < length xs → has_none (map text (take i xs)) ≡ nat_eq i 0
first_place text [] i below = absurd (omega (arith, below))
first_place text (x ∷ xs) zero below = refl
first_place text (x ∷ xs) (suc i) below = later_place i

map_push : {X : Type 0} (text : X → List ℕ) (xs : List X) (x : X) → map text (xs ++ x ∷ []) ≡ map text xs ++ text x ∷ []
map_push text [] x = refl
map_push text (y ∷ ys) x = ap (λ t. text y ∷ t) (map_push text ys x)

-- one more part behind those that stand there
pub join_next : {X : Type 0} (text : X → List ℕ) (xs : List X) (i : ℕ) (d : X) → i < length xs
    → join_with_byte 32 (map text (take (i + 1) xs)) ≡ join_with_byte 32 (map text (take i xs)) ++ (gap (nat_eq i 0) ++ text (get_or xs i d))
join_next text xs i d below =
    ap (λ ys. join_with_byte 32 (map text ys)) (take_more xs i d below)
    ∙ ap (join_with_byte 32) (map_push text (take i xs) (get_or xs i d))
    ∙ join_push (map text (take i xs)) (text (get_or xs i d))
    ∙ ap (λ b. join_with_byte 32 (map text (take i xs)) ++ (gap b ++ text (get_or xs i d))) (first_place text xs i below)

pub regrouped : (a b c d : List ℕ) → ((a ++ b) ++ c) ++ d ≡ a ++ (b ++ (c ++ d))
regrouped a b c d = append_assoc (a ++ b) c d ∙ append_assoc a b (c ++ d)

-- ---- parts with a space behind each

join_spaced : (parts : List (List ℕ)) (one : List ℕ) (more : List (List ℕ)) → join_with_byte 32 (parts ++ one ∷ more) ≡ spaced parts ++ join_with_byte 32 (one ∷ more)
join_spaced [] one more = refl
join_spaced (p ∷ []) one more = sym (append_assoc p (32 ∷ []) (join_with_byte 32 (one ∷ more))) ∙ ap (λ t. t ++ join_with_byte 32 (one ∷ more)) (sym (append-nil (p ++ 32 ∷ [])))
join_spaced (p ∷ q ∷ parts) one more =
    ap (λ t. p ++ 32 ∷ t) (join_spaced (q ∷ parts) one more)
    ∙ sym (append_assoc p (32 ∷ []) (spaced (q ∷ parts) ++ join_with_byte 32 (one ∷ more)))
    ∙ sym (append_assoc (p ++ 32 ∷ []) (spaced (q ∷ parts)) (join_with_byte 32 (one ∷ more)))

pub phrase_opened : (word : List ℕ) (parts : List (List ℕ)) (one : List ℕ) (more : List (List ℕ)) → phrase word (parts ++ one ∷ more) ≡ opening word parts ++ (join_with_byte 32 (one ∷ more) ++ codes ")")
unfolding phrase opening
phrase_opened word parts one more =
    let front = word ++ codes "(" in
    let rest = join_with_byte 32 (one ∷ more) in
    ap (λ t. (front ++ t) ++ codes ")") (join_spaced parts one more)
    ∙ ap (λ t. t ++ codes ")") (sym (append_assoc front (spaced parts) rest))
    ∙ append_assoc (front ++ spaced parts) rest (codes ")")

-- the phrases of one, two and three parts behind those that open it
pub phrase_one : (word : List ℕ) (parts : List (List ℕ)) (a : List ℕ) → phrase word (parts ++ a ∷ []) ≡ opening word parts ++ end_one a
unfolding end_one
phrase_one word parts a = phrase_opened word parts a []

pub phrase_two : (word : List ℕ) (parts : List (List ℕ)) (a b : List ℕ) → phrase word (parts ++ a ∷ b ∷ []) ≡ opening word parts ++ end_two a b
unfolding end_one end_two
phrase_two word parts a b = phrase_opened word parts a (b ∷ []) ∙ ap (λ t. opening word parts ++ t) (append_assoc a (32 ∷ b) (codes ")"))

pub phrase_three : (word : List ℕ) (parts : List (List ℕ)) (a b c : List ℕ) → phrase word (parts ++ a ∷ b ∷ c ∷ []) ≡ opening word parts ++ end_three a b c
unfolding end_one end_two end_three
phrase_three word parts a b c =
    phrase_opened word parts a (b ∷ c ∷ [])
    ∙ ap (λ t. opening word parts ++ t) (append_assoc a (32 ∷ (b ++ 32 ∷ c)) (codes ")"))
    ∙ ap (λ t. opening word parts ++ (a ++ 32 ∷ t)) (append_assoc b (32 ∷ c) (codes ")"))

-- a phrase of which the opening stands there and then its end
pub then_end : {A E : Type 0} (result : Result A E) (new mid old front back whole : List ℕ) → whole ≡ front ++ back → mid ≡ old ++ front → OnOk result (new ≡ mid ++ back) → OnOk result (new ≡ old ++ whole)
then_end result new mid old front back whole is opened ended =
    subst (λ x. OnOk result (new ≡ x)) (ap (λ t. t ++ back) opened ∙ append_assoc old front back ∙ ap (λ t. old ++ t) (sym is)) ended
