-- The imports of a file: the `import` clauses of its header. (OBO Flat File Format 1.4, the `import` tag; where the file of
-- an import is looked for is our own.)
use Rattle.std.specs.Prelude.{ℕ, ◌&&◌, if◌then◌else◌, List, codes, Option, None}
use Rattle.std.specs.List.{filter_map}
use Rattle.std.specs.Option.{option_map}
use Rattle.std.specs.Str.{bytes_eq}
use Rattle.obo_frames.specs.Frames.{word_in}
use Rattle.obo_frames.specs.Naming.{is_header}
use Rattle.obo_frames.specs.declared.placed.Placed.{Placed}
use Rattle.catalog_file.specs.Names.{import_name}
use Rattle.catalog_file.specs.declared.catalog.CatalogLine.{CatalogLine}
use Rattle.import_closure.specs.List.{Listed, listed}
use Rattle.import_closure.specs.declared.files.SourceFile.{SourceFile}
use Rattle.import_closure.specs.declared.list.Asker.TheVariants.{Import}

-- the value of an `import` clause of the header; a foreign one, behind another tag or in a frame, is none
abbrev pub import_value : Placed → Option (List ℕ)
import_value one =
    if is_header one.frame && bytes_eq one.clause.tag (codes "import") then word_in one.clause.value else None

-- the file that a clause asks for
abbrev pub asked_in : List CatalogLine → List ℕ → Placed → Option Listed
asked_in catalog file one =
    option_map (λ value. listed (import_name catalog file value) (Import file one.line value)) (import_value one)

-- the files that a file asks for, in the order of its lines
abbrev pub asked_by : List CatalogLine → SourceFile → List Listed
asked_by catalog source = filter_map (asked_in catalog source.name) source.document
