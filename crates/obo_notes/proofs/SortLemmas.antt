-- Items beside their texts.
use Rattle.std.proofs.Common.{◌≡◌, ℕ, List, map}
use Rattle.text_sets.specs.Keyed.{items_of, key_of}
use Rattle.text_sets.specs.declared.keyed.Keyed.{Keyed}

-- the items of a list beside their texts
pub record AreBeside {T : Type 0} (text : T → List ℕ) (keyed : List (Keyed T)) (plain : List T) : Type 0 where
  pub items : items_of keyed ≡ plain
  pub texts : map key_of keyed ≡ map text plain
