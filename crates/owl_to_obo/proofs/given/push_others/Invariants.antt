use Rattle.std.proofs.Common.{◌≡◌, ◌++◌, codes, take}
use Rattle.std.specs.List.{flat_map}
use Rattle.obo_mapping.specs.TwoValues as spec
use Rattle.owl_to_obo.proofs.given.push_others.Given as goal

abbrev pub invariant-loop-clause : goal.invariant-loop-clause
invariant-loop-clause l =
    l.out.items
    ≡ l.fn.out.items ++ flat_map (λ clause. codes ", " ++ spec.printed clause) (take l.clause-index l.clauses)
