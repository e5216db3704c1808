-- What the three calls of a folder do, one record for each answer. (Own.)
use Rattle.std.specs.Prelude.{◌≡◌, ◌≢◌, ℕ, ◌+◌, ◌≤◌, List, length, take, drop, false, IsTrue, IfSome, Option, Some, None, IsSome, IsNone, MatchOption, Result, Ok, Err, ⊤}
use Rattle.std.specs.FinMap.{get, insert}
use Rattle.std.specs.Option.{option_map}
use Rattle.rel_io.specs.Count.{Rose}
use Rattle.rel_io.specs.FolderState.{Files, FolderState}
use Rattle.rel_io.specs.declared.folder.Opened.{Opened}
use Rattle.rel_io.specs.declared.folder.Opened.TheVariants.{Ready, Missing, Failed}
use Rattle.rel_io.specs.declared.folder.Got.{Got}
use Rattle.rel_io.specs.declared.folder.Got.TheVariants as got
use Rattle.rel_io.specs.declared.folder.PutFault.{PutFault}
use Rattle.rel_io.specs.declared.folder.PutFault.TheVariants as put

-- the file is open at its first byte; a folder that tells what it holds holds it
pub record IsReady (name : List ℕ) (before now : FolderState) : Type 0 where
  pub is_open : IsTrue now.is_open
  pub held : IfSome before.holds (λ files. IsSome (get files name))
  pub at_start : IfSome before.holds (λ files. now.opened ≡ record { name = name; place = 0 })

-- there is no such file: nothing is open
pub record IsMissing (name : List ℕ) (before now : FolderState) : Type 0 where
  pub closed : now.is_open ≡ false
  pub counted : Rose before.misses now.misses
  pub not_held : IfSome before.holds (λ files. IsNone (get files name))

-- an open or a read failed: nothing is open
pub record ReadFailed (before now : FolderState) : Type 0 where
  pub closed : now.is_open ≡ false
  pub counted : Rose before.read_faults now.read_faults

-- what an answer to opening a file says
abbrev pub Opens : List ℕ → FolderState → Opened → FolderState → Type 0
Opens name before Ready now = IsReady name before now
Opens name before Missing now = IsMissing name before now
Opens name before Failed now = ReadFailed before now

-- the bytes of the open file, where the folder tells what it holds
abbrev pub open_file_bytes : FolderState → Option (List ℕ)
open_file_bytes state = elim state.holds [ None ↦ None | Some files ↦ get files state.opened.name ]

-- the next count bytes of the open file stand at the front of what was read, and its place has moved behind them
pub record ReadsOn (before : FolderState) (count : ℕ) (read : List ℕ) (now : FolderState) : Type 0 where
  pub is_open : IsTrue now.is_open
  pub some : 1 ≤ count
  pub fits : count ≤ length read
  pub next_bytes : IfSome (open_file_bytes before) (λ file. take count read ≡ take count (drop before.opened.place file))
  pub moved : IfSome before.holds (λ files. now.opened ≡ record { name = before.opened.name; place = before.opened.place + count })

-- all bytes of the open file were read before; it stays open
pub record ReadsEnd (before now : FolderState) : Type 0 where
  pub is_open : IsTrue now.is_open
  pub at_end : IfSome (open_file_bytes before) (λ file. before.opened.place ≡ length file)
  pub stays : IfSome before.holds (λ files. now.opened ≡ before.opened)

-- what an answer to reading says
abbrev pub Reads : FolderState → Got → List ℕ → FolderState → Type 0
Reads before (got.Bytes count) read now = ReadsOn before count read now
Reads before got.AtEnd read now = ReadsEnd before now
Reads before got.Failed read now = ReadFailed before now

-- a folder that told what it holds tells it, and holds all files but that one as before
pub record HoldsOthers (name : List ℕ) (before now : Option Files) : Type 0 where
  pub told : MatchOption before (now ≡ None) (λ files. IsSome now)
  pub others : IfSome before (λ old. IfSome now (λ new. (other : List ℕ) → other ≢ name → get new other ≡ get old other))

-- a write failed: of that one file nothing is known
pub record WriteFailed (name : List ℕ) (before now : FolderState) : Type 0 where
  pub counted : Rose before.write_faults now.write_faults
  pub others : HoldsOthers name before.holds now.holds

-- what an answer to putting a file says
abbrev pub Puts : List ℕ → List ℕ → FolderState → Result ⊤ PutFault → FolderState → Type 0
Puts name bytes before (Ok done) now = now.holds ≡ option_map (λ files. insert files name bytes) before.holds
Puts name bytes before (Err put.Failed) now = WriteFailed name before now
Puts name bytes before (Err put.NoMemory) now = now.holds ≡ before.holds
