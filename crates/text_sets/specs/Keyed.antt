-- Items beside their texts. (Own.)
use Rattle.std.specs.Prelude.{◌≡◌, ℕ, List, map}
use Rattle.text_sets.specs.declared.keyed.Keyed.{Keyed}

-- the text beside an item
abbrev pub key_of : {T : Type 0} → Keyed T → List ℕ
key_of keyed = keyed.text.items

-- the item
abbrev pub item_of : {T : Type 0} → Keyed T → T
item_of keyed = keyed.item

-- the items without their texts
abbrev pub items_of : {T : Type 0} → List (Keyed T) → List T
items_of keyed = map item_of keyed

-- the text beside each item is its own
abbrev pub AreKeyed : {T : Type 0} → (T → List ℕ) → List (Keyed T) → Type 0
AreKeyed text keyed = map key_of keyed ≡ map text (items_of keyed)
