-- The list of files: each name once, with why it was asked for first. (Own.)
use Rattle.std.specs.Prelude.{ℕ, Bool, if◌then◌else◌, List, [], ◌∷◌, ◌++◌, map}
use Rattle.std.specs.List.{list_any}
use Rattle.std.specs.Str.{bytes_eq}
use Rattle.import_closure.specs.declared.list.Asker.{Asker}
use Rattle.import_closure.specs.declared.list.Asker.TheVariants.{Input}

-- a file on the list, and why it is there
pub record Listed : Type 0 where
  pub name : List ℕ
  pub asker : Asker

abbrev pub listed : List ℕ → Asker → Listed
listed name asker = record { name = name; asker = asker }

-- the name is on the list
abbrev pub is_listed : List ℕ → List Listed → Bool
is_listed name list = list_any (λ one. bytes_eq name one.name) list

-- one file more, unless its name is on the list
abbrev pub with_new : List Listed → Listed → List Listed
with_new list one = if is_listed one.name list then list else list ++ one ∷ []

-- files one after the other
abbrev pub with_all_new : List Listed → List Listed → List Listed
with_all_new list [] = list
with_all_new list (one ∷ others) = with_all_new (with_new list one) others

-- the inputs in their order, without repeats
abbrev pub inputs_listed : List (List ℕ) → List Listed
inputs_listed inputs = with_all_new [] (map (λ name. listed name Input) inputs)
