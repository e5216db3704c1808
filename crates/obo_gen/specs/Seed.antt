-- The seed that an extract of the generated document goes by, as the text of a term file: one Term a line. (Own.)
use Rattle.std.specs.Prelude.{ℕ, ◌+◌, ◌/◌, List, ◌++◌, codes, flat_map}
use Rattle.std.specs.List.{range_with_len}
use Rattle.obo_gen.specs.Digits.{seven_digits}

-- a line: the id of a Term
unfoldable pub seed_line : ℕ → List ℕ
seed_line number = codes "GEN:" ++ seven_digits number ++ codes "\n"

-- what the seed names of a group: its first Term and its last
abbrev pub seed_of_group : ℕ → List ℕ
seed_of_group k = seed_line (3000000 + k) ++ seed_line (6000000 + k)

-- all of it: of each group of the document of this size, in their order
unfoldable pub generated_seed : ℕ → List ℕ
generated_seed n = flat_map seed_of_group (range_with_len 1 (n / 10))
