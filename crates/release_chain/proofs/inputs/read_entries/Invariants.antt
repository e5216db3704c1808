-- What is made so far is that of what was taken so far.
use Rattle.std.proofs.Common.{◌≡◌, map}
use Rattle.release_chain.specs.Trace.{read_entry}
use Rattle.release_chain.proofs.inputs.read_entries.Given as goal

abbrev pub invariant-loop-note : goal.invariant-loop-note
invariant-loop-note l = l.entries.items ≡ map read_entry l.yielded
