-- The status of an ending. (Own.)
use Rattle.std.specs.Prelude.{ℕ, Option, Some, None}
use Rattle.release_report.specs.Cause.{status_of}
use Rattle.release_report.specs.declared.fault.Fault.{Fault}

-- 0 without a fault, else that of the fault
abbrev pub status_of_ending : Option Fault → ℕ
status_of_ending None = 0
status_of_ending (Some fault) = status_of fault
