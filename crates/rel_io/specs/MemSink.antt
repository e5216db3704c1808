-- A sink in memory, exactly: which write fails, and what is written after each. (Own.)
use Rattle.std.specs.Prelude.{ℕ, ◌+◌, ◌||◌, Bool, List, ◌++◌, nat_eq, nat_lt, length, if◌then◌else◌, Some}
use Rattle.std.specs.List.{list_any}
use Rattle.rel_io.specs.Count.{count_after}
use Rattle.rel_io.specs.Sink.{SinkState}

pub record MemSinkState : Type 0 where
  -- the bytes written so far
  pub bytes : List ℕ
  -- for how many bytes there is room
  pub room : ℕ
  -- the numbers of the writes that fail
  pub failing : List ℕ
  -- how many writes there were
  pub writes : ℕ
  -- how many of them failed
  pub faults : ℕ

-- as any sink: it tells what was written
abbrev pub sink_of : MemSinkState → SinkState
sink_of m = record { written = Some m.bytes; faults = m.faults }

-- the write that comes fails: it is one of those that fail, or there is no room
abbrev pub refuses : MemSinkState → List ℕ → Bool
refuses m bytes = list_any (λ number. nat_eq number m.writes) m.failing || nat_lt m.room (length m.bytes + length bytes)

-- what the sink is after a write
abbrev pub after_write : MemSinkState → List ℕ → MemSinkState
after_write m bytes =
    if refuses m bytes
    then record m { writes = count_after m.writes; faults = count_after m.faults }
    else record m { bytes = m.bytes ++ bytes; writes = count_after m.writes }
