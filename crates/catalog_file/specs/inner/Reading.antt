-- What the reader of a catalog does with a line. Only private functions speak of it. (Own.)
use Rattle.std.specs.Prelude.{◌≡◌, ℕ, List, [], ◌∷◌, ◌++◌, if◌then◌else◌, Option, None, Some, Result, Ok, Err, ⊤}
use Rattle.std.specs.BTreeMap.{BTreeMap, get}
use Rattle.std.specs.Option.{option_map, option_or}
use Rattle.std.specs.Str.{bytes_eq}
use Rattle.std.specs.Cmp.Lexicographic.{slice_cmp}
use Rattle.std.specs.Ordering.{nat_cmp}
use Rattle.catalog_file.specs.declared.catalog.CatalogFault.{CatalogFault}
use Rattle.catalog_file.specs.declared.catalog.CatalogFault.TheVariants.{Refused, NoMemory}
use Rattle.catalog_file.specs.declared.catalog.CatalogLine.{CatalogLine}

-- what a line of this number says stands behind what those before it say, or the line is refused
abbrev pub Adds : ℕ → Option (List CatalogLine) → List CatalogLine → Result ⊤ CatalogFault → List CatalogLine → Type 0
Adds number said old (Ok done) new = option_map (λ more. old ++ more) said ≡ Some new
Adds number said old (Err (Refused refused)) new = (said ≡ None) × (refused ≡ number)
Adds number said old (Err NoMemory) new = Unit {0}

-- one line more: it counts where none before it has its value
abbrev pub AddsName : BTreeMap (List ℕ) (List ℕ) → BTreeMap (List ℕ) (List ℕ) → CatalogLine → Type 0
AddsName old new line =
    (value : List ℕ) → get (slice_cmp nat_cmp) new value ≡ option_or (get (slice_cmp nat_cmp) old value) (if bytes_eq line.value value then Some line.name else None)
