use Rattle.std.proofs.Common.{◌++◌, append-nil, codes, sym}
use Rattle.clause_printer.specs.Printing as spec
use Rattle.clause_printer.proofs.LoopLemmas.{all_told, one_more}
use Rattle.clause_printer.proofs.printer.push_other_xrefs.Goals as goal

pub loop-xref-preserved : goal.loop-xref-preserved
loop-xref-preserved c =
    one_more (λ xref. codes ", " ++ spec.xref_text xref) c.args.xrefs.now c.loop-xref.xref-index c.xref-item.result c.xref-item.result c.args.out.now.items c.loop-xref.out.items _ c.loop-xref-test.true c.xref-item.is c.loop-xref.invariant c.in_ok-push_other_xref.ensures

pub loop-xref-init : goal.loop-xref-init
loop-xref-init c = sym (append-nil c.args.out.now.items)

pub returns : goal.returns
returns c =
    all_told (λ xref. codes ", " ++ spec.xref_text xref) c.args.xrefs.now c.loop-xref.xref-index c.args.out.now.items c.loop-xref.out.items c.loop-xref-test.false c.loop-xref.invariant
