-- Where a file stands in the list that a folder in memory keeps, and how far the open one is read. (Own.)
use Rattle.std.specs.Prelude.{◌≡◌, ℕ, ◌<◌, ◌≤◌, List, [], ◌++◌, ◌∷◌, nat_eq, length, slice_index_or, slice_set, Option, Some, None}
use Rattle.std.specs.Cmp.Lexicographic.{pointwise}
use Rattle.std.specs.FinMap.{get, insert}
use Rattle.std.specs.List.{position_from}
use Rattle.rel_io.specs.FileList.{FileList, files_of}
use Rattle.rel_io.specs.FolderState.{Position}

-- the name and the bytes at a place of the list
abbrev pub name_at : FileList → ℕ → List ℕ
name_at files at = (slice_index_or files at ([], [])).0

abbrev pub bytes_at : FileList → ℕ → List ℕ
bytes_at files at = (slice_index_or files at ([], [])).1

-- the place of the first file of this name
abbrev pub place_of : List ℕ → FileList → Option ℕ
place_of name files = position_from (λ file. pointwise nat_eq name file.0) 0 files

-- the first file of this name stands at this place, and to write another there is to put it
pub record IsFoundAt (files : FileList) (name : List ℕ) (at : ℕ) : Type 0 where
  pub within : at < length files
  pub named : name_at files at ≡ name
  pub held : get (files_of files) name ≡ Some (bytes_at files at)
  pub replaced : (bytes : List ℕ) → files_of (slice_set files at (name, bytes)) ≡ insert (files_of files) name bytes

-- there is no file of this name, and to add one behind all others is to put it
pub record IsAbsent (files : FileList) (name : List ℕ) : Type 0 where
  pub not_held : get (files_of files) name ≡ None
  pub added : (bytes : List ℕ) → files_of (files ++ (name, bytes) ∷ []) ≡ insert (files_of files) name bytes

-- a place, and how many bytes of the file there were read: it is the first of its name, and no more was read
-- than it has
abbrev pub IsOpenAt : FileList → ℕ × ℕ → Type 0
IsOpenAt files at = (at.0 < length files) × (get (files_of files) (name_at files at.0) ≡ Some (bytes_at files at.0)) × (at.1 ≤ length (bytes_at files at.0))

-- the position that such a place stands for
abbrev pub position_at : FileList → Option (ℕ × ℕ) → Option Position
position_at files None = None
position_at files (Some at) = Some (record { name = name_at files at.0; place = at.1 })
