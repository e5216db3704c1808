-- What is made so far is that of what was taken so far.
use Rattle.std.proofs.Common.{◌≡◌, map}
use Rattle.release_chain.specs.Trace.{dropped_entry}
use Rattle.release_chain.proofs.inputs.dropped_entries.Given as goal

abbrev pub invariant-loop-report : goal.invariant-loop-report
invariant-loop-report l = l.made.items ≡ map dropped_entry l.yielded
