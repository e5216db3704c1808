use Rattle.std.proofs.Common.{◌≡◌, drop, map}
use Rattle.import_closure.specs.List.{inputs_listed, listed, with_all_new}
use Rattle.import_closure.specs.declared.list.Asker.TheVariants.{Input}
use Rattle.import_closure.specs.inner.Listing.{listed_in}
use Rattle.import_closure.proofs.list.listed_inputs.Given as goal

abbrev pub invariant-loop-input : goal.invariant-loop-input
invariant-loop-input l =
    with_all_new (listed_in l.list.entries) (map (λ name. listed name Input) (drop l.input-index l.inputs)) ≡ inputs_listed l.inputs
