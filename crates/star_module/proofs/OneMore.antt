-- One more round: it is the last one, or drops something.
use Rattle.std.proofs.Common.{◌≡◌, ℕ, ◌+◌, ◌<◌, ◌⊎◌, inl, inr, add-one, Bool, List, length, arith, sym, ap, subst, ◌∙◌}
use Rattle.owl_axioms.specs.declared.body.Axiom.{Axiom}
use Rattle.owl_axioms.specs.Names.{Scope}
use Rattle.module_extract.specs.Module.{Fills, on_count}
use Rattle.star_module.specs.Star.{AreRounds, IsEnd, IsRound, more}
use Rattle.module_extract.proofs.Counting.{whole_or_fewer}
use Rattle.star_module.proofs.Rounds.{round_keeps, round_length}

module _ (kinds : List Fills) (axioms : List Axiom) (seed : Scope) (first part next : List Bool) (n : ℕ)
    (long : length part ≡ length axioms) (ran : AreRounds kinds axioms seed first n part) (round : IsRound kinds axioms seed part next) where
  either_way : (next ≡ part) ⊎ (on_count next < on_count part)
  either_way = whole_or_fewer next part (round_length kinds axioms seed part next long round ∙ sym long) (round_keeps axioms seed kinds part next round).1

  pub ended : on_count next ≡ on_count part → IsEnd kinds axioms seed first (n + 1) next
  ended h = by either_way
    where
      by : (next ≡ part) ⊎ (on_count next < on_count part) → IsEnd kinds axioms seed first (n + 1) next
      by (inl e) = (n, add-one n, subst (AreRounds kinds axioms seed first n) (sym e) ran, subst (λ z. IsRound kinds axioms seed z next) (sym e) round)
      by (inr l) = absurd (omega (arith, l, h))

  pub fewer : (on_count next ≡ on_count part → ⊥) → on_count next < on_count part
  fewer h = by either_way
    where
      by : (next ≡ part) ⊎ (on_count next < on_count part) → on_count next < on_count part
      by (inl e) = absurd (h (ap on_count e))
      by (inr l) = l

  pub goes_on : (on_count next ≡ on_count part → ⊥) → AreRounds kinds axioms seed first (n + 1) next
  goes_on h = subst (λ m. AreRounds kinds axioms seed first m next) (sym (add-one n)) (more n part next ran round (λ e. h (ap on_count (sym e))))
