use Rattle.std.proofs.Common.{◌≡◌, ◌||◌, Bool, true, false, cond, refl, ap, ◌∙◌}
use Rattle.std.specs.Str.{bytes_eq}
use Rattle.std.proofs.lemmas.Cmp.{nat_list_eq_equiv}
use Rattle.obo_to_owl.specs.inner.Known.{has}
use Rattle.obo_to_owl.proofs.sets.add.Goals as goal

either_way : (a b : Bool) → cond a true b ≡ (a || b)
either_way true b = refl
either_way false b = refl

pub returns : goal.returns
returns c = λ x.
    c.in_ok-insert.ensures.updates.0 x
    ∙ either_way (bytes_eq c.in_ok-iri.iri x) (has c.args.set.now x)
    ∙ ap (λ b. b || has c.args.set.now x) (nat_list_eq_equiv.symm c.in_ok-iri.iri x)
    ∙ ap (λ k. bytes_eq x k || has c.args.set.now x) c.in_ok-iri.ensures
