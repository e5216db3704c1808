use Rattle.std.proofs.Common.{◌≡◌, ◌++◌, codes, take}
use Rattle.std.specs.List.{flat_map}
use Rattle.clause_printer.specs.Printing as spec
use Rattle.clause_printer.proofs.printer.push_other_xrefs.Given as goal

abbrev pub invariant-loop-xref : goal.invariant-loop-xref
invariant-loop-xref l =
    l.out.items ≡ l.fn.out.items ++ flat_map (λ xref. codes ", " ++ spec.xref_text xref) (take l.xref-index l.xrefs)
