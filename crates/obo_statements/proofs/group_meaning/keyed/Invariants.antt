-- The operands so far, and their texts, are those of the turns so far.
use Rattle.owl_axioms.specs.Text.{expr_text}
use Rattle.obo_notes.proofs.SortLemmas.{AreBeside}
use Rattle.obo_statements.proofs.group_meaning.keyed.Given as goal

abbrev pub invariant-loop-item : goal.invariant-loop-item
invariant-loop-item l = AreBeside expr_text l.keyed.items l.yielded
