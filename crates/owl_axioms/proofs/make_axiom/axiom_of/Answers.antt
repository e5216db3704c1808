use Rattle.std.proofs.Common.{◌≡◌, ◌∙◌}
use Rattle.owl_axioms.specs.Made.{IsSortedSet}
use Rattle.owl_axioms.specs.Proper.{IsProper}
use Rattle.owl_axioms.specs.Text.{side_text}
use Rattle.owl_axioms.specs.declared.body.Axiom.{Axiom}
use Rattle.owl_axioms.proofs.Making.{axiom_proper, if_ok_both}
use Rattle.owl_axioms.proofs.make_axiom.axiom_of.Goals as goal

pub returns-in-Ok-clause-proper : goal.returns-in-Ok-clause-proper
returns-in-Ok-clause-proper c =
    if_ok_both (λ (made : Axiom). made.body ≡ c.in-Ok.body) (λ (made : Axiom). IsSortedSet side_text c.args.sides.items made.sides) IsProper c.with_sides.result
    (λ made is sorted. axiom_proper c.args.body c.args.sides.items made c.requires.body c.requires.sides (record { body = is ∙ c.in-Ok.ensures; sides = sorted }))
    c.with_sides.ensures.body c.with_sides.ensures.sides
