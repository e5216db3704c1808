use Rattle.std.proofs.Common.{◌++◌, append-nil, codes, sym}
use Rattle.clause_printer.specs.Printing as spec
use Rattle.clause_printer.proofs.LoopLemmas.{all_told, one_more}
use Rattle.clause_printer.proofs.printer.push_other_qualifiers.Goals as goal

pub loop-qualifier-preserved : goal.loop-qualifier-preserved
loop-qualifier-preserved c =
    one_more (λ qualifier. codes ", " ++ spec.qualifier_text qualifier) c.args.qualifiers.now c.loop-qualifier.qualifier-index c.qualifier-item.result c.qualifier-item.result c.args.out.now.items c.loop-qualifier.out.items _ c.loop-qualifier-test.true c.qualifier-item.is c.loop-qualifier.invariant c.in_ok-push_other_qualifier.ensures

pub loop-qualifier-init : goal.loop-qualifier-init
loop-qualifier-init c = sym (append-nil c.args.out.now.items)

pub returns : goal.returns
returns c =
    all_told (λ qualifier. codes ", " ++ spec.qualifier_text qualifier) c.args.qualifiers.now c.loop-qualifier.qualifier-index c.args.out.now.items c.loop-qualifier.out.items c.loop-qualifier-test.false c.loop-qualifier.invariant
