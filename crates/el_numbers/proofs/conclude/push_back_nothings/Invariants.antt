use Rattle.std.proofs.Common.{◌≡◌, ◌++◌, take, map}
use Rattle.el_numbers.specs.declared.fact.Fact.TheVariants.{Below}
use Rattle.el_numbers.proofs.conclude.push_back_nothings.Given as goal

abbrev pub invariant-loop-b : goal.invariant-loop-b
invariant-loop-b l = l.out.items ≡ l.initial.out.items ++ map (λ q. Below q.1 1) (take l.b-index l.back)
