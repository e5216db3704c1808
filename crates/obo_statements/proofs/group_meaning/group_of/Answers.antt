-- The operands are proper, so that their texts tell them.
use Rattle.std.proofs.Common.{ap, map, sym, ◌∙◌}
use Rattle.std.specs.Borrow.{Bor}
use Rattle.std.specs.Option.{option_map}
use Rattle.obo_clause.specs.declared.clause.Clause.{Clause}
use Rattle.obo_statements.specs.Groups.{group_meant}
use Rattle.obo_statements.proofs.MeaningTexts.{operands_told}
use Rattle.obo_statements.proofs.group_meaning.group_of.Goals as goal

pub sorted_operands-requires : goal.sorted_operands-requires
sorted_operands-requires c =
    record {
      told = operands_told c.args.space.now (group_meant c.args.group) (map (λ (clause : Bor Clause). clause.now) c.args.clauses.now) c.in-Some.operands.items
          (sym c.in_ok-operands.ensures ∙ ap (option_map (λ operands. operands.items)) c.in-Some.is);
    }
