use Rattle.std.proofs.Common.{◌≡◌, [], replicate}
use Rattle.el_numbers.proofs.storing.no_facts.Given as goal

abbrev pub invariant-loop-made : goal.invariant-loop-made
invariant-loop-made l = record {
  below : l.below.items ≡ replicate l._made [];
  links : l.links.items ≡ replicate l._made [];
  back : l.back.items ≡ replicate l._made [];
}
