-- The generated document of a size: a tree of Terms, groups of Terms that are linked to it, and one property. (Own; the
-- document is one of the OBO Flat File Format 1.4.)
use Rattle.std.specs.Prelude.{ℕ, ◌+◌, ◌*◌, ◌/◌, ◌%◌, ◌==◌, Bool, not, ◌&&◌, ◌||◌, if◌then◌else◌, List, [], ◌∷◌, ◌++◌, codes, flat_map, nat_lt}
use Rattle.std.specs.List.{range_with_len}
use Rattle.obo_gen.specs.Digits.{seven_digits}

-- a line: a clause that ends in the number of a Term
unfoldable pub clause : List ℕ → ℕ → List ℕ
clause front number = front ++ codes "GEN:" ++ seven_digits number ++ codes "\n"

abbrev pub is_a : ℕ → List ℕ
is_a number = clause (codes "is_a: ") number

abbrev pub part_of : ℕ → List ℕ
part_of number = clause (codes "relationship: part_of ") number

-- the two parts of a definition: it is this, and a part of that
abbrev pub defined_as : ℕ → ℕ → List ℕ
defined_as class whole = clause (codes "intersection_of: ") class ++ clause (codes "intersection_of: part_of ") whole

-- the line of its name
unfoldable pub name_line : ℕ → List ℕ
name_line number = codes "name: n" ++ seven_digits number ++ codes "\n"

-- what a Term begins with: an empty line, its head, its id and its name
unfoldable pub term_front : ℕ → List ℕ
term_front number = codes "\n[Term]\n" ++ clause (codes "id: ") number ++ name_line number

-- a Term with further lines
abbrev pub term : ℕ → List ℕ → List ℕ
term number lines = term_front number ++ lines

-- the first parent of a Term of the tree: the root of all below 10 and of all multiples of 10, and of each other Term the
-- multiple of 10 before it
abbrev pub first_parent : ℕ → ℕ
first_parent number = if number % 10 == 0 || nat_lt number 10 then 0 else 10 * (number / 10)

-- the Term has the root as a second parent: a multiple of 4 above 10 that is no multiple of 10
abbrev pub has_second_parent : ℕ → Bool
has_second_parent number = nat_lt 10 number && number % 4 == 0 && not (number % 10 == 0)

-- the parents of a Term of the tree. The root, Term 0, has none
abbrev pub parents : ℕ → List ℕ
parents number =
    if number == 0 then []
    else if has_second_parent number then first_parent number ∷ 0 ∷ []
    else first_parent number ∷ []

unfoldable pub tree_term : ℕ → List ℕ
tree_term number = term number (flat_map is_a (parents number))

-- the four Terms of a group: the first is a class of the tree and a part of the second, which is a part of the third; the
-- last is defined as what is such a class and a part of the third
abbrev pub first_of_group : ℕ → List ℕ
first_of_group k = term (3000000 + k) (is_a (10 * k) ++ part_of (4000000 + k))

abbrev pub second_of_group : ℕ → List ℕ
second_of_group k = term (4000000 + k) (part_of (5000000 + k))

abbrev pub third_of_group : ℕ → List ℕ
third_of_group k = term (5000000 + k) []

abbrev pub last_of_group : ℕ → List ℕ
last_of_group k = term (6000000 + k) (defined_as (10 * k) (5000000 + k))

unfoldable pub group : ℕ → List ℕ
group k = first_of_group k ++ second_of_group k ++ third_of_group k ++ last_of_group k

-- the header of the document
unfoldable pub header : List ℕ
header = codes "format-version: 1.4\nontology: gen\n"

-- its one Typedef
unfoldable pub property : List ℕ
property = codes "\n[Typedef]\nid: part_of\nname: part of\nis_transitive: true\n"

-- all of it: the Terms from 0 to n, as many groups as n has tens, from 1 on, and the property
unfoldable pub generated : ℕ → List ℕ
generated n = header ++ flat_map tree_term (range_with_len 0 (n + 1)) ++ flat_map group (range_with_len 1 (n / 10)) ++ property
