use Rattle.std.proofs.Common.{◌≡◌, ◌++◌, codes, take}
use Rattle.std.specs.List.{flat_map}
use Rattle.clause_printer.specs.Printing as spec
use Rattle.clause_printer.proofs.printer.push_other_qualifiers.Given as goal

abbrev pub invariant-loop-qualifier : goal.invariant-loop-qualifier
invariant-loop-qualifier l =
    l.out.items
    ≡ l.fn.out.items ++ flat_map (λ qualifier. codes ", " ++ spec.qualifier_text qualifier) (take l.qualifier-index l.qualifiers)
