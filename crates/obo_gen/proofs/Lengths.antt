-- How long the generated texts are, at most: each piece has at most 400 bytes.
use Rattle.std.proofs.Common.{◌≤◌, ◌<◌, ◌+◌, ◌*◌, ◌/◌, ◌^◌, ◌==◌, ◌++◌, ◌≡◌, ℕ, Bool, true, false, List, [], ◌∷◌, arith, length, refl, if◌then◌else◌}
use Rattle.std.proofs.lemmas.List.{length-append}
use Rattle.std.proofs.lemmas.List.FromFn.{length-range_with_len}
use Rattle.std.specs.List.{flat_map, range_with_len}
use Rattle.rel_io.specs.Limits
use Rattle.obo_gen.specs.Digits.{seven_digits}
use Rattle.obo_gen.specs.Generated.{clause, generated, group, has_second_parent, header, is_a, first_parent, name_line, parents, property, term_front, tree_term}
use Rattle.obo_gen.specs.Seed.{generated_seed, seed_line, seed_of_group}

all_pieces : (f : ℕ → List ℕ) → ((x : ℕ) → length (f x) ≤ 400) → (xs : List ℕ) → length (flat_map f xs) ≤ 400 * length xs
all_pieces f each [] = omega arith
all_pieces f each (x ∷ xs) =
    let first = each x in
    let rest = all_pieces f each xs in
    let both : length (f x ++ flat_map f xs) ≡ length (f x) + length (flat_map f xs) = length-append (f x) (flat_map f xs) in
    omega arith

pieces : (f : ℕ → List ℕ) → ((x : ℕ) → length (f x) ≤ 400) → (a n : ℕ) → length (flat_map f (range_with_len a n)) ≤ 400 * n
pieces f each a n =
    let all = all_pieces f each (range_with_len a n) in
    let count = length-range_with_len a n in
    omega arith

length-parents : (is_root has_two : Bool) (first : ℕ) → length (flat_map is_a (if is_root then [] else if has_two then first ∷ 0 ∷ [] else first ∷ [])) ≤ 36
unfolding clause seven_digits
length-parents true has_two first = omega arith
length-parents false true first = omega arith
length-parents false false first = omega arith

length-tree_term : (number : ℕ) → length (tree_term number) ≤ 400
unfolding tree_term term_front clause name_line seven_digits
length-tree_term number =
    let lines = length-parents (number == 0) (has_second_parent number) (first_parent number) in
    let front : length (term_front number) ≡ 39 = refl in
    let both : length (tree_term number) ≡ length (term_front number) + length (flat_map is_a (parents number)) =
    length-append (term_front number) (flat_map is_a (parents number)) in
    omega arith

length-group : (k : ℕ) → length (group k) ≤ 400
unfolding group term_front clause name_line seven_digits
length-group k =
    let all : length (group k) ≡ 308 = refl in
    omega arith

length-header : length header ≡ 34
unfolding header
length-header = refl

length-property : length property ≡ 57
unfolding property
length-property = refl

four_parts : (a b c d : List ℕ) (n : ℕ) → n ≤ 1000000 → length a ≡ 34 → length b ≤ 400 * (n + 1) → length c ≤ 400 * (n / 10) → length d ≡ 57 → length (a ++ b ++ c ++ d) < 2 ^ 32
four_parts a b c d n few of_a of_b of_c of_d =
    let two = length-append a b in
    let three = length-append (a ++ b) c in
    let four = length-append (a ++ b ++ c) d in
    omega arith

-- the generated document
pub generated_is_small : (n : ℕ) → n ≤ 1000000 → length (generated n) < 2 ^ 32
unfolding generated
generated_is_small n few =
    let tree = flat_map tree_term (range_with_len 0 (n + 1)) in
    let groups = flat_map group (range_with_len 1 (n / 10)) in
    four_parts header tree groups property n few length-header (pieces tree_term length-tree_term 0 (n + 1)) (pieces group length-group 1 (n / 10)) length-property

length-seed_of_group : (k : ℕ) → length (seed_of_group k) ≤ 400
unfolding seed_line seven_digits
length-seed_of_group k =
    let all : length (seed_of_group k) ≡ 24 = refl in
    omega arith

-- the text of the seed
pub seed_is_small : (n : ℕ) → n ≤ 1000000 → length (generated_seed n) ≤ Limits.bytes
unfolding generated_seed
seed_is_small n few =
    let small = pieces seed_of_group length-seed_of_group 1 (n / 10) in
    omega arith
