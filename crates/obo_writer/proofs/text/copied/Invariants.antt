-- The copies so far are those of the clauses so far.
use Rattle.std.proofs.Common.{◌≡◌, take}
use Rattle.obo_writer.proofs.text.copied.Given as goal

abbrev pub invariant-loop-clause : goal.invariant-loop-clause
invariant-loop-clause l = l.twins.items ≡ take l.clause-index l.clauses
