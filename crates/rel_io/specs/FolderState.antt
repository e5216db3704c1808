-- What a folder is, as far as contracts speak of it. (Own.)
use Rattle.std.specs.Prelude.{ℕ, Bool, List, ◌≤◌, Option}
use Rattle.std.specs.Ordering.{nat_cmp}
use Rattle.std.specs.Cmp.Lexicographic.{slice_cmp}
use Rattle.std.specs.FinMap.{FinMap}

-- the files of a folder: from their names to their bytes
abbrev pub Files : Type 0
Files = FinMap (slice_cmp nat_cmp) (List ℕ)

-- the name of the open file, and how many of its bytes were read
pub record Position : Type 0 where
  pub name : List ℕ
  pub place : ℕ

pub record FolderState : Type 0 where
  -- the files, where the folder tells what it holds
  pub holds : Option Files
  -- how often opening or reading failed
  pub read_faults : ℕ
  -- how often writing failed
  pub write_faults : ℕ
  -- how often there was no file of the name
  pub misses : ℕ
  -- a file is open
  pub is_open : Bool
  -- which, and how much of it was read, while one is open and the folder tells what it holds
  pub opened : Position

-- no count has fallen
pub record NoCountFell (before now : FolderState) : Type 0 where
  pub read_faults : before.read_faults ≤ now.read_faults
  pub write_faults : before.write_faults ≤ now.write_faults
  pub misses : before.misses ≤ now.misses
