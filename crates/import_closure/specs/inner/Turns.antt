-- What the turn of a file answers, beside its document how many bytes were read. Only private functions speak of it. (Own.)
use Rattle.std.specs.Prelude.{◌≡◌, ◌⊎◌, ◌<◌, ◌≤◌, ℕ, List, Option, Some, Result, Ok, Err, IfSome, slice_get}
use Rattle.std.specs.BTreeMap.{BTreeMap}
use Rattle.rel_io.specs.FolderState.{Files, FolderState}
use Rattle.rel_io.specs.declared.limits.Limits.{Limits}
use Rattle.catalog_file.specs.Names.{TellsNames}
use Rattle.catalog_file.specs.declared.catalog.CatalogLine.{CatalogLine}
use Rattle.obo_frames.specs.declared.fault.DocFault.{DocFault}
use Rattle.obo_frames.specs.declared.placed.Placed.{Placed}
use Rattle.catalog_file.specs.Catalog.{catalog_of}
use Rattle.import_closure.specs.Closure.{catalog_in, catalog_lines, document_answer, missing, size_in, turn}
use Rattle.import_closure.specs.List.{Listed}
use Rattle.import_closure.specs.Loading.{FailsBy, cause_of}
use Rattle.import_closure.specs.declared.file.FileFault.{FileFault}
use Rattle.import_closure.specs.declared.file.FileFault.TheVariants as file
use Rattle.import_closure.specs.declared.list.Asker.{Asker}
use Rattle.import_closure.specs.inner.Listing.{Rows, listed_in}
use Rattle.import_closure.specs.declared.fault.LoadFault.{LoadFault}
use Rattle.import_closure.specs.declared.fault.LoadFault.TheVariants as fault
use Rattle.import_closure.specs.declared.files.Turn.{Turn}

-- this fault, or memory ran out for it
abbrev pub IsFaultOr : LoadFault → LoadFault → Type 0
IsFaultOr one given = (given ≡ one) ⊎ (given ≡ fault.NoMemory)

-- the fault of a file that was not read
abbrev pub unread_fault : ℕ → List ℕ → Asker → FileFault → LoadFault
unread_fault limit name asker file.Missing = missing name asker
unread_fault limit name asker file.ReadFault = fault.ReadFault name
unread_fault limit name asker file.TooManyBytes = fault.TooManyBytes name limit
unread_fault limit name asker file.NoMemory = fault.NoMemory

-- what a file answers that comes to this, and has so many bytes
abbrev pub IsSource : List ℕ → Result (List Placed) DocFault → ℕ → Result Turn LoadFault → Type 0
IsSource name answer size (Ok taken) = (document_answer name answer ≡ Ok taken.source) × (taken.size ≡ size)
IsSource name answer size (Err one) = (document_answer name answer ≡ Err one) ⊎ (one ≡ fault.NoMemory)

-- what the bytes of a catalog answer
abbrev pub IsCatalog : ℕ → List ℕ → List ℕ → Result (BTreeMap (List ℕ) (List ℕ)) LoadFault → Type 0
IsCatalog limit name bytes (Ok names) = (lines : List CatalogLine) × TellsNames lines names × (catalog_lines name (catalog_of limit bytes) ≡ Ok lines)
IsCatalog limit name bytes (Err one) = (catalog_lines name (catalog_of limit bytes) ≡ Err one) ⊎ (one ≡ fault.NoMemory)

-- the document of the turn, and how many bytes it took
pub record IsTurn (files : Files) (limits : Limits) (left : ℕ) (one : Listed) (taken : Turn) : Type 0 where
  pub answer : (turn files limits left one).answer ≡ Ok taken.source
  pub size : taken.size ≡ size_in files one.name

-- what the turn of a file answers
abbrev pub TakesTurn : Limits → ℕ → Listed → FolderState → Result Turn LoadFault → FolderState → Type 0
TakesTurn limits left one before (Ok taken) now = (taken.size ≤ left) × IfSome before.holds (λ files. IsTurn files limits left one taken)
TakesTurn limits left one before (Err fault) now = FailsBy (cause_of fault) (λ files. turn files limits left one) before fault now

-- the file at this place has its turn
pub record HasOne (limits : Limits) (left : ℕ) (rows : Rows) (at : ℕ) (before : FolderState) (result : Result Turn LoadFault) (now : FolderState) : Type 0 where
  pub within : at < limits.files
  pub one : Listed
  pub there : slice_get (listed_in rows) at ≡ Some one
  pub takes : TakesTurn limits left one before result now

-- it has, or it is one too many
abbrev pub HasTurn : Limits → ℕ → Rows → ℕ → FolderState → Result Turn LoadFault → FolderState → Type 0
HasTurn limits left rows at before result now =
    HasOne limits left rows at before result now ⊎ ((limits.files ≤ at) × (result ≡ Err (fault.TooManyFiles limits.files)))

-- what the table of the catalog's names answers
abbrev pub ReadsNames : Limits → Option (List ℕ) → FolderState → Result (BTreeMap (List ℕ) (List ℕ)) LoadFault → FolderState → Type 0
ReadsNames limits catalog before (Ok names) now =
    (lines : List CatalogLine) × TellsNames lines names × IfSome before.holds (λ files. (catalog_in files limits catalog).answer ≡ Ok lines)
ReadsNames limits catalog before (Err one) now = FailsBy (cause_of one) (λ files. catalog_in files limits catalog) before one now
