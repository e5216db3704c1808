-- The inputs and what they import: the files in their order, each with its document, or the first refusal. (Own.)
use Rattle.std.specs.Prelude.{ℕ, zero, suc, ◌+◌, ◌-◌, if◌then◌else◌, List, [], ◌∷◌, length, nat_lt, Option, None, Some, Result, Ok, Err, slice_get}
use Rattle.std.specs.FinMap.{get}
use Rattle.std.specs.Option.{option_map_or}
use Rattle.rel_io.specs.FolderState.{Files}
use Rattle.rel_io.specs.declared.limits.Limits.{Limits}
use Rattle.obo_frames.specs.Answer.{document_of}
use Rattle.obo_frames.specs.declared.fault.DocFault.{DocFault}
use Rattle.obo_frames.specs.declared.fault.DocFault.TheVariants as doc
use Rattle.obo_frames.specs.declared.placed.Placed.{Placed}
use Rattle.catalog_file.specs.Catalog.{catalog_of}
use Rattle.catalog_file.specs.declared.catalog.CatalogLine.{CatalogLine}
use Rattle.import_closure.specs.Imports.{asked_by}
use Rattle.import_closure.specs.List.{Listed, inputs_listed, with_all_new}
use Rattle.import_closure.specs.Loading.{Loading, gives, opens, refuses, then_load}
use Rattle.import_closure.specs.declared.fault.LoadFault.{LoadFault}
use Rattle.import_closure.specs.declared.fault.LoadFault.TheVariants as fault
use Rattle.import_closure.specs.declared.files.SourceFile.{SourceFile}
use Rattle.import_closure.specs.declared.list.Asker.{Asker}
use Rattle.import_closure.specs.declared.list.Asker.TheVariants.{Input, Import}

-- ---- the catalog

-- the lines of a catalog of this name, or its refused line
abbrev pub catalog_lines : List ℕ → Result (List CatalogLine) ℕ → Result (List CatalogLine) LoadFault
catalog_lines name (Ok lines) = Ok lines
catalog_lines name (Err line) = Err (fault.CatalogLine name line)

-- the catalog of this name, if it is held
abbrev pub catalog_answer : Limits → List ℕ → Option (List ℕ) → Result (List CatalogLine) LoadFault
catalog_answer limits name None = Err (fault.MissingInput name)
catalog_answer limits name (Some bytes) =
    if nat_lt limits.bytes (length bytes) then Err (fault.TooManyBytes name limits.bytes) else catalog_lines name (catalog_of limits.line bytes)

-- the catalog, if there is one
abbrev pub catalog_in : Files → Limits → Option (List ℕ) → Loading (List CatalogLine)
catalog_in files limits None = gives []
catalog_in files limits (Some name) = opens name (catalog_answer limits name (get files name))

-- ---- one file

-- what is wrong with a document, as the fault of the file that it is in. Running out of memory is wrong with no document
abbrev pub fault_in : List ℕ → DocFault → LoadFault
fault_in file (doc.NotUtf8 line) = fault.NotUtf8 file line
fault_in file (doc.LineTooLong line) = fault.LineTooLong file line
fault_in file (doc.Syntax line kind) = fault.Syntax file line kind
fault_in file (doc.NoId line) = fault.NoId file line
fault_in file (doc.ShortGroup line) = fault.ShortGroup file line
fault_in file doc.NoMemory = fault.NoMemory

-- a file that is not there, by why it is on the list
abbrev pub missing : List ℕ → Asker → LoadFault
missing name Input = fault.MissingInput name
missing name (Import file line value) = fault.MissingImport file line value

abbrev pub document_answer : List ℕ → Result (List Placed) DocFault → Result SourceFile LoadFault
document_answer name (Ok placed) = Ok (record { name = name; document = placed })
document_answer name (Err one) = Err (fault_in name one)

-- a file on the list, where so many bytes are left for it
abbrev pub file_answer : Limits → ℕ → Listed → Option (List ℕ) → Result SourceFile LoadFault
file_answer limits left one None = Err (missing one.name one.asker)
file_answer limits left one (Some bytes) =
    if nat_lt left (length bytes) then Err (fault.TooManyBytes one.name limits.bytes) else document_answer one.name (document_of limits.line bytes)

-- the turn of a file
abbrev pub turn : Files → Limits → ℕ → Listed → Loading SourceFile
turn files limits left one = opens one.name (file_answer limits left one (get files one.name))

-- how many bytes a held file has
abbrev pub size_in : Files → List ℕ → ℕ
size_in files name = option_map_or length (get files name) 0

-- ---- the list of files, one turn after the other

-- where the files are, how imports are found, and how much is read
pub record Setting : Type 0 where
  pub files : Files
  pub catalog : List CatalogLine
  pub limits : Limits

abbrev pub setting : Files → List CatalogLine → Limits → Setting
setting files catalog limits = record { files = files; catalog = catalog; limits = limits }

-- what is loaded where a file has its turn; without one all files were read
abbrev pub where_listed : Option Listed → (Listed → Loading (List SourceFile)) → Loading (List SourceFile)
where_listed None next = gives []
where_listed (Some one) next = next one

-- a file before others
abbrev pub with_file : SourceFile → Loading (List SourceFile) → Loading (List SourceFile)
with_file source others = then_load others (λ sources. gives (source ∷ sources))

-- the files from a place of the list on, where so many may still have a turn, and so many bytes are left. Behind its turn a
-- file has what it imports put on the list
abbrev pub turns : Setting → ℕ → ℕ → List Listed → ℕ → Loading (List SourceFile)
turns s zero left list at = where_listed (slice_get list at) (λ one. refuses (fault.TooManyFiles s.limits.files))
turns s (suc room) left list at =
    where_listed (slice_get list at) (λ one. then_load (turn s.files s.limits left one) (λ source.
    with_file source (turns s room (left - size_in s.files one.name) (with_all_new list (asked_by s.catalog source)) (at + 1))))

-- the inputs and what they import
unfoldable pub closure : Setting → List (List ℕ) → Loading (List SourceFile)
closure s inputs = turns s s.limits.files s.limits.bytes (inputs_listed inputs) 0

-- the catalog, if there is one, and then the files
unfoldable pub reading : Files → List (List ℕ) → Option (List ℕ) → Limits → Loading (List SourceFile)
reading files inputs catalog limits =
    then_load (catalog_in files limits catalog) (λ lines. closure (setting files lines limits) inputs)
