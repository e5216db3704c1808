-- A folder in memory, exactly: which call fails, how much a read gives, and what is held after each call. (Own.)
use Rattle.std.specs.Prelude.{ℕ, ◌+◌, ◌==◌, Bool, List, [], ◌++◌, nat_eq, length, take, drop, min, is_some, unwrap_or, if◌then◌else◌, Option, Some, None}
use Rattle.std.specs.FinMap.{contains_key, get, insert}
use Rattle.std.specs.List.{list_any}
use Rattle.rel_io.specs.Count.{count_after}
use Rattle.rel_io.specs.FolderState.{Files, FolderState, Position}
use Rattle.rel_io.specs.declared.folder.Opened.{Opened}
use Rattle.rel_io.specs.declared.folder.Opened.TheVariants.{Ready, Missing, Failed}
use Rattle.rel_io.specs.declared.folder.Got.{Got}
use Rattle.rel_io.specs.declared.folder.Got.TheVariants as got

pub record MemFolderState : Type 0 where
  pub files : Files
  -- how many bytes a read gives at most
  pub piece : ℕ
  -- the numbers of the calls that fail
  pub failing : List ℕ
  -- how many calls there were
  pub calls : ℕ
  pub read_faults : ℕ
  pub write_faults : ℕ
  pub misses : ℕ
  -- the open file, and how much of it was read
  pub opened : Option Position

-- as any folder: it tells what it holds
abbrev pub folder_of : MemFolderState → FolderState
folder_of m = record {
  holds = Some m.files;
  read_faults = m.read_faults;
  write_faults = m.write_faults;
  misses = m.misses;
  is_open = is_some m.opened;
  opened = unwrap_or m.opened (record { name = []; place = 0 });
}

-- the call that comes is one of those that fail
abbrev pub fails : MemFolderState → Bool
fails m = list_any (λ number. nat_eq number m.calls) m.failing

-- what opening a file answers, and what the folder is then
abbrev pub open_answer : MemFolderState → List ℕ → Opened
open_answer m name = if fails m then Failed else if contains_key m.files name then Ready else Missing

abbrev pub after_open : MemFolderState → List ℕ → Opened → MemFolderState
after_open m name Ready = record m { calls = count_after m.calls; opened = Some (record { name = name; place = 0 }) }
after_open m name Missing = record m { calls = count_after m.calls; misses = count_after m.misses; opened = None }
after_open m name Failed = record m { calls = count_after m.calls; read_faults = count_after m.read_faults; opened = None }

-- the bytes of the file at a position that were not read yet
abbrev pub rest_at : Files → Position → List ℕ
rest_at files at = drop at.place (unwrap_or (get files at.name) [])

-- how many bytes the next read gives: the least of the piece, the room and the rest
abbrev pub next_count : MemFolderState → Position → ℕ → ℕ
next_count m at room = min m.piece (min room (length (rest_at m.files at)))

-- what a read into so much room answers, and what the folder is then
abbrev pub read_answer : MemFolderState → Position → ℕ → Got
read_answer m at room = if fails m then got.Failed else if next_count m at room == 0 then got.AtEnd else got.Bytes (next_count m at room)

abbrev pub after_read : MemFolderState → Position → Got → MemFolderState
after_read m at (got.Bytes count) = record m { calls = count_after m.calls; opened = Some (record { name = at.name; place = at.place + count }) }
after_read m at got.AtEnd = record m { calls = count_after m.calls }
after_read m at got.Failed = record m { calls = count_after m.calls; read_faults = count_after m.read_faults; opened = None }

-- a read gave the next bytes to the front of the room, and left what stood behind
abbrev pub read_bytes : MemFolderState → Position → Got → List ℕ → List ℕ
read_bytes m at (got.Bytes count) room = take count (rest_at m.files at) ++ drop count room
read_bytes m at got.AtEnd room = room
read_bytes m at got.Failed room = room

-- a put file stands in place of the one of its name
abbrev pub after_put : MemFolderState → List ℕ → List ℕ → MemFolderState
after_put m name bytes = record m { files = insert m.files name bytes; calls = count_after m.calls; opened = None }

-- a put that failed left all files as they were
abbrev pub after_failed_put : MemFolderState → MemFolderState
after_failed_put m = record m { calls = count_after m.calls; write_faults = count_after m.write_faults; opened = None }

-- a put that found no memory left all files as they were
abbrev pub after_put_without_memory : MemFolderState → MemFolderState
after_put_without_memory m = record m { calls = count_after m.calls; opened = None }
