-- The list of files as a table from names to why they were asked for. Only private functions speak of it. (Own.)
use Rattle.std.specs.Prelude.{◌≡◌, ℕ, List, map}
use Rattle.std.specs.BTreeMap.{BTreeMap}
use Rattle.std.specs.List.{filter_map}
use Rattle.std.specs.Option.{option_to_list}
use Rattle.obo_frames.specs.declared.placed.Placed.{Placed}
use Rattle.catalog_file.specs.Names.{TellsNames, import_name}
use Rattle.catalog_file.specs.declared.catalog.CatalogLine.{CatalogLine}
use Rattle.import_closure.specs.Imports.{asked_by, asked_in}
use Rattle.import_closure.specs.List.{Listed, listed, with_all_new, with_new}
use Rattle.import_closure.specs.declared.files.SourceFile.{SourceFile}
use Rattle.import_closure.specs.declared.list.Asker.{Asker}
use Rattle.import_closure.specs.declared.list.Asker.TheVariants.{Import}

abbrev pub Rows : Type 0
Rows = List (List ℕ × Asker)

abbrev pub listed_row : List ℕ × Asker → Listed
listed_row row = listed row.0 row.1

-- the list that the rows of a table are
abbrev pub listed_in : Rows → List Listed
listed_in rows = map listed_row rows

-- a file more that a clause with this value asks for, by whatever catalog the table tells the names of
abbrev pub AddsValue : BTreeMap (List ℕ) (List ℕ) → List ℕ → ℕ → List ℕ → Rows → Rows → Type 0
AddsValue names file line value old new =
    (catalog : List CatalogLine) → TellsNames catalog names → listed_in new ≡ with_new (listed_in old) (listed (import_name catalog file value) (Import file line value))

-- the file that a clause asks for
abbrev pub AddsAsked : BTreeMap (List ℕ) (List ℕ) → List ℕ → Placed → Rows → Rows → Type 0
AddsAsked names file one old new =
    (catalog : List CatalogLine) → TellsNames catalog names → listed_in new ≡ with_all_new (listed_in old) (option_to_list (asked_in catalog file one))

-- the files that clauses of a file ask for
abbrev pub AddsClauses : BTreeMap (List ℕ) (List ℕ) → List ℕ → List Placed → Rows → Rows → Type 0
AddsClauses names file placed old new =
    (catalog : List CatalogLine) → TellsNames catalog names → listed_in new ≡ with_all_new (listed_in old) (filter_map (asked_in catalog file) placed)

-- the files that a file asks for
abbrev pub AddsImports : BTreeMap (List ℕ) (List ℕ) → SourceFile → Rows → Rows → Type 0
AddsImports names source old new =
    (catalog : List CatalogLine) → TellsNames catalog names → listed_in new ≡ with_all_new (listed_in old) (asked_by catalog source)
