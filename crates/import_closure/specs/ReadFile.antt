-- What reading a file whole says. (Own.)
use Rattle.std.specs.Prelude.{◌≡◌, ℕ, ◌+◌, ◌<◌, ◌≤◌, Bool, true, false, List, ◌++◌, Some, None, Result, Ok, Err, IfSome, length, take}
use Rattle.std.specs.FinMap.{get}
use Rattle.rel_io.specs.Count.{Rose}
use Rattle.rel_io.specs.Folder.{ReadsEnd, ReadsOn, open_file_bytes}
use Rattle.rel_io.specs.FolderState.{FolderState}
use Rattle.import_closure.specs.declared.file.FileFault.{FileFault}
use Rattle.import_closure.specs.declared.file.FileFault.TheVariants.{Missing, ReadFault, TooManyBytes, NoMemory}

-- these are the bytes of the file, no more than the limit
pub record IsWhole (name : List ℕ) (limit : ℕ) (before : FolderState) (bytes : List ℕ) : Type 0 where
  pub within : length bytes ≤ limit
  pub held : IfSome before.holds (λ files. get files name ≡ Some bytes)

-- there is no such file
pub record IsNotThere (name : List ℕ) (before now : FolderState) : Type 0 where
  pub counted : Rose before.misses now.misses
  pub not_held : IfSome before.holds (λ files. get files name ≡ None)

-- the file has more bytes than the limit
abbrev pub IsTooLong : List ℕ → ℕ → FolderState → Type 0
IsTooLong name limit before = IfSome before.holds (λ files. (bytes : List ℕ) × (get files name ≡ Some bytes) × (limit < length bytes))

-- what an answer to reading a file says
abbrev pub ReadsFile : List ℕ → ℕ → FolderState → Result (List ℕ) FileFault → FolderState → Type 0
ReadsFile name limit before (Ok bytes) now = IsWhole name limit before bytes
ReadsFile name limit before (Err Missing) now = IsNotThere name before now
ReadsFile name limit before (Err ReadFault) now = Rose before.read_faults now.read_faults
ReadsFile name limit before (Err TooManyBytes) now = IsTooLong name limit before
ReadsFile name limit before (Err NoMemory) now = Unit {0}

-- what reading the open file from its start to its end says
abbrev pub ReadsOpen : ℕ → FolderState → Result (List ℕ) FileFault → FolderState → Type 0
ReadsOpen limit before (Ok bytes) now = (length bytes ≤ limit) × IfSome (open_file_bytes before) (λ file. bytes ≡ file)
ReadsOpen limit before (Err Missing) now = ⊥
ReadsOpen limit before (Err ReadFault) now = Rose before.read_faults now.read_faults
ReadsOpen limit before (Err TooManyBytes) now = IfSome (open_file_bytes before) (λ file. limit < length file)
ReadsOpen limit before (Err NoMemory) now = Unit {0}

-- the next bytes of the open file stand behind those read before
pub record ReadsMore (limit : ℕ) (before : FolderState) (old : List ℕ) (now : FolderState) (new : List ℕ) : Type 0 where
  pub count : ℕ
  pub piece : List ℕ
  pub read : ReadsOn before count piece now
  pub bytes : new ≡ old ++ take count piece
  pub within : length new ≤ limit

-- with the next bytes of the open file there are more than the limit
pub record ReadsTooMuch (limit : ℕ) (before : FolderState) (old : List ℕ) (now : FolderState) : Type 0 where
  pub count : ℕ
  pub piece : List ℕ
  pub read : ReadsOn before count piece now
  pub beyond : limit < length old + count

-- what reading one piece of the open file says
abbrev pub ReadsPiece : ℕ → FolderState → List ℕ → Result Bool FileFault → FolderState → List ℕ → Type 0
ReadsPiece limit before old (Ok true) now new = ReadsMore limit before old now new
ReadsPiece limit before old (Ok false) now new = ReadsEnd before now × (new ≡ old)
ReadsPiece limit before old (Err Missing) now new = ⊥
ReadsPiece limit before old (Err ReadFault) now new = Rose before.read_faults now.read_faults
ReadsPiece limit before old (Err TooManyBytes) now new = ReadsTooMuch limit before old now
ReadsPiece limit before old (Err NoMemory) now new = Unit {0}
