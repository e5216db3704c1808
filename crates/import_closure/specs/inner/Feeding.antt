-- What it says that a file is fed to a feeder of documents, piece by piece. Only private functions speak of it. (Own.)
use Rattle.std.specs.Prelude.{◌≡◌, ℕ, ◌+◌, ◌<◌, ◌≤◌, Bool, true, false, List, Some, Result, Ok, Err, IfSome, length, take}
use Rattle.std.specs.FinMap.{get}
use Rattle.rel_io.specs.Count.{Rose}
use Rattle.rel_io.specs.Folder.{ReadsEnd, ReadsOn, open_file_bytes}
use Rattle.rel_io.specs.FolderState.{FolderState}
use Rattle.obo_frames.specs.Feeding.{IsFed, after_piece}
use Rattle.import_closure.specs.ReadFile.{IsNotThere, IsTooLong}
use Rattle.import_closure.specs.declared.feed.Fed.{Fed}
use Rattle.import_closure.specs.declared.file.FileFault.{FileFault}
use Rattle.import_closure.specs.declared.file.FileFault.TheVariants.{Missing, ReadFault, TooManyBytes, NoMemory}

-- all these bytes were fed, by lines of at most so many bytes
pub record HasAll (line : ℕ) (fed : Fed) (bytes : List ℕ) : Type 0 where
  pub size : fed.size ≡ length bytes
  pub feeder : IsFed line bytes fed.feeder

-- the file of this name was fed whole; it has no more bytes than the limit
pub record HasFile (line : ℕ) (name : List ℕ) (limit : ℕ) (before : FolderState) (fed : Fed) : Type 0 where
  pub within : fed.size ≤ limit
  pub held : IfSome before.holds (λ files. (bytes : List ℕ) × (get files name ≡ Some bytes) × HasAll line fed bytes)

-- what an answer to feeding a file says
abbrev pub FeedsFile : ℕ → List ℕ → ℕ → FolderState → Result Fed FileFault → FolderState → Type 0
FeedsFile line name limit before (Ok fed) now = HasFile line name limit before fed
FeedsFile line name limit before (Err Missing) now = IsNotThere name before now
FeedsFile line name limit before (Err ReadFault) now = Rose before.read_faults now.read_faults
FeedsFile line name limit before (Err TooManyBytes) now = IsTooLong name limit before
FeedsFile line name limit before (Err NoMemory) now = Unit {0}

-- what it says that the open file is fed from its start to its end
abbrev pub FeedsOpen : ℕ → ℕ → FolderState → Result Fed FileFault → FolderState → Type 0
FeedsOpen line limit before (Ok fed) now = (fed.size ≤ limit) × IfSome (open_file_bytes before) (HasAll line fed)
FeedsOpen line limit before (Err Missing) now = ⊥
FeedsOpen line limit before (Err ReadFault) now = Rose before.read_faults now.read_faults
FeedsOpen line limit before (Err TooManyBytes) now = IfSome (open_file_bytes before) (λ file. limit < length file)
FeedsOpen line limit before (Err NoMemory) now = Unit {0}

-- the next bytes of the open file were fed
pub record FeedsMore (limit : ℕ) (before : FolderState) (old : Fed) (now : FolderState) (new : Fed) : Type 0 where
  pub count : ℕ
  pub piece : List ℕ
  pub read : ReadsOn before count piece now
  pub fed : new.feeder ≡ after_piece old.feeder (take count piece)
  pub size : new.size ≡ old.size + count
  pub within : new.size ≤ limit

-- with the next bytes of the open file there are more than the limit
pub record FeedsTooMuch (limit : ℕ) (before : FolderState) (old : Fed) (now : FolderState) : Type 0 where
  pub count : ℕ
  pub piece : List ℕ
  pub read : ReadsOn before count piece now
  pub beyond : limit < old.size + count

-- what it says that one piece of the open file is fed
abbrev pub FeedsPiece : ℕ → FolderState → Fed → Result Bool FileFault → FolderState → Fed → Type 0
FeedsPiece limit before old (Ok true) now new = FeedsMore limit before old now new
FeedsPiece limit before old (Ok false) now new = ReadsEnd before now × (new ≡ old)
FeedsPiece limit before old (Err Missing) now new = ⊥
FeedsPiece limit before old (Err ReadFault) now new = Rose before.read_faults now.read_faults
FeedsPiece limit before old (Err TooManyBytes) now new = FeedsTooMuch limit before old now
FeedsPiece limit before old (Err NoMemory) now new = Unit {0}
