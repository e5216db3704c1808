-- The list of files that a folder in memory keeps: names and bytes, the first of a name counts. (Own.)
use Rattle.std.specs.Prelude.{ℕ, List}
use Rattle.std.specs.Cmp.Lexicographic.{slice_cmp}
use Rattle.std.specs.FinMap.{from_entries}
use Rattle.std.specs.Ordering.{nat_cmp}
use Rattle.rel_io.specs.FolderState.{Files}

abbrev pub FileList : Type 0
FileList = List (List ℕ × List ℕ)

-- the list as the map that it stands for
abbrev pub files_of : FileList → Files
files_of files = from_entries {R = slice_cmp nat_cmp} files
