-- What a sink is, and what writing to it does. (Own.)
use Rattle.std.specs.Prelude.{◌≡◌, ℕ, List, ◌++◌, take, Option, Result, Ok, Err, ⊤}
use Rattle.std.specs.Option.{option_map}
use Rattle.rel_io.specs.Count.{Rose}
use Rattle.rel_io.specs.declared.sink.SinkFailed.{SinkFailed}

pub record SinkState : Type 0 where
  -- the bytes written so far, where the sink tells them
  pub written : Option (List ℕ)
  -- how often writing failed
  pub faults : ℕ

-- these bytes stand behind those that were written before
abbrev pub Appends : List ℕ → SinkState → SinkState → Type 0
Appends bytes before now = now.written ≡ option_map (λ written. written ++ bytes) before.written

-- a write failed behind the first so many bytes
pub record WritesPart (bytes : List ℕ) (before now : SinkState) : Type 0 where
  pub counted : Rose before.faults now.faults
  pub part : (count : ℕ) × Appends (take count bytes) before now

-- what an answer to writing says
abbrev pub Writes : List ℕ → SinkState → Result ⊤ SinkFailed → SinkState → Type 0
Writes bytes before (Ok done) now = Appends bytes before now
Writes bytes before (Err failed) now = WritesPart bytes before now
