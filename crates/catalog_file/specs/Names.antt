-- In which file an import is found. (Own.)
use Rattle.std.specs.Prelude.{◌≡◌, ℕ, Bool, false, ◌==◌, ◌||◌, if◌then◌else◌, List, [], ◌∷◌, ◌++◌, Option, None, Some, unwrap_or}
use Rattle.std.specs.BTreeMap.{BTreeMap, get}
use Rattle.std.specs.Cmp.Lexicographic.{slice_cmp}
use Rattle.std.specs.Option.{option_map_or}
use Rattle.std.specs.Ordering.{nat_cmp}
use Rattle.std.specs.Str.{bytes_eq}
use Rattle.iri_map.specs.Id.{is_url}
use Rattle.iri_map.specs.Split.{Parts, split_at_last}
use Rattle.catalog_file.specs.declared.catalog.CatalogLine.{CatalogLine}

-- `/`
abbrev pub slash : ℕ
slash = 47

-- first: the name that the first line of the catalog for the value has, if there is one
abbrev pub listed_name : List CatalogLine → List ℕ → Option (List ℕ)
listed_name [] value = None
listed_name (line ∷ lines) value = if bytes_eq line.value value then Some line.name else listed_name lines value

-- a text, or another where it is empty
abbrev pub unless_empty : List ℕ → List ℕ → List ℕ
unless_empty [] other = other
unless_empty (byte ∷ bytes) other = byte ∷ bytes

-- otherwise: of a web address, which begins with `http://` or `https://`, the part behind the last `/`, or the address
-- where that part is empty; and every other value as it is
unfoldable pub plain_name : List ℕ → List ℕ
plain_name value = if is_url value then unless_empty (option_map_or (λ (parts : Parts). parts.1) (split_at_last slash value) []) value else value

-- the folder of a file: its name up to and with the last `/`, or nothing where it has none
unfoldable pub folder_of : List ℕ → List ℕ
folder_of file = option_map_or (λ (parts : Parts). parts.0 ++ slash ∷ []) (split_at_last slash file) []

-- the name begins with `/`
abbrev pub is_rooted : List ℕ → Bool
is_rooted [] = false
is_rooted (byte ∷ bytes) = byte == slash

-- and that name is looked for in the folder of the importing file, unless it begins with `/` or is a web address
unfoldable pub in_folder_of : List ℕ → List ℕ → List ℕ
in_folder_of file name = if is_rooted name || is_url name then name else folder_of file ++ name

-- the name of the file in which an import with this value is found, by a catalog and the name of the importing file
abbrev pub import_name : List CatalogLine → List ℕ → List ℕ → List ℕ
import_name catalog file value = unwrap_or (listed_name catalog value) (in_folder_of file (plain_name value))

-- the table has the name of each value that has one by these lines
abbrev pub TellsNames : List CatalogLine → BTreeMap (List ℕ) (List ℕ) → Type 0
TellsNames lines names = (value : List ℕ) → get (slice_cmp nat_cmp) names value ≡ listed_name lines value

-- the name for a value in a file, by whatever lines the table tells the names of
abbrev pub IsNamed : BTreeMap (List ℕ) (List ℕ) → List ℕ → List ℕ → List ℕ → Type 0
IsNamed names file value name = (lines : List CatalogLine) → TellsNames lines names → name ≡ import_name lines file value
