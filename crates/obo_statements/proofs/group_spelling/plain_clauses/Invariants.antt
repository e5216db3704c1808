-- The clauses so far are those of the values so far.
use Rattle.std.proofs.Common.{◌≡◌, map}
use Rattle.obo_statements.specs.Groups.{group_meant}
use Rattle.obo_statements.specs.inner.Spelled.{plain_clause}
use Rattle.obo_statements.proofs.group_spelling.plain_clauses.Given as goal

abbrev pub invariant-loop-value : goal.invariant-loop-value
invariant-loop-value l = l.clauses.items ≡ map (plain_clause (group_meant l.group)) l.yielded
