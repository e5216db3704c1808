use Rattle.std.proofs.Common.{◌++◌, append-nil, codes, sym}
use Rattle.obo_mapping.specs.TwoValues as spec
use Rattle.clause_printer.proofs.LoopLemmas.{all_told, one_more}
use Rattle.owl_to_obo.proofs.given.push_others.Goals as goal

pub loop-clause-preserved : goal.loop-clause-preserved
loop-clause-preserved c =
    one_more (λ clause. codes ", " ++ spec.printed clause) c.args.clauses.now c.loop-clause.clause-index c.clause-item.result c.clause-item.result c.args.out.now.items c.loop-clause.out.items _ c.loop-clause-test.true c.clause-item.is c.loop-clause.invariant c.in_ok-push_other.ensures

pub loop-clause-init : goal.loop-clause-init
loop-clause-init c = sym (append-nil c.args.out.now.items)

pub returns : goal.returns
returns c =
    all_told (λ clause. codes ", " ++ spec.printed clause) c.args.clauses.now c.loop-clause.clause-index c.args.out.now.items c.loop-clause.out.items c.loop-clause-test.false c.loop-clause.invariant
