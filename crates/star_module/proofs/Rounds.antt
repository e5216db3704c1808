-- What rounds of modules come to keeps the axioms that they began with.
use Rattle.std.proofs.Common.{◌≡◌, ℕ, Bool, true, ◌&&◌, List, [], ◌∷◌, length, sym, ap, subst, ◌∙◌}
use Rattle.owl_axioms.specs.declared.body.Axiom.{Axiom}
use Rattle.owl_ontology.specs.Ontology.{flagged}
use Rattle.owl_sem.specs.Models.{Keeps}
use Rattle.owl_axioms.specs.Names.{Scope, common}
use Rattle.owl_sem.proofs.Keeps.{keeping_composes, keeping_is_reflexive, keeping_less}
use Rattle.star_module.specs.Laws.{RoundsKeep}
use Rattle.module_extract.specs.Module.{Fills, IsPart, seed_and}
use Rattle.star_module.specs.Star.{AreRounds, IsRound, more, start}
use Rattle.module_extract.proofs.Extending.{closed_keeps}
use Rattle.module_extract.proofs.Flags.{smaller}

both_hold : (x y : Bool) → x ≡ true → y ≡ true → (x && y) ≡ true
both_hold x y h k = λ i. h i && k i

module _ (axioms : List Axiom) (seed : Scope) where
  -- a step down, and what keeps below it
  abbrev Kept : List Bool → List Bool → Type 0
  Kept before after = Keeps (flagged before axioms) (flagged after axioms) (seed_and seed axioms after) × IsPart after before

  pub kept_then : (one two three : List Bool) → Kept one two → Kept two three → Kept one three
  kept_then one two three a b = (
    keeping_less (flagged one axioms) (flagged three axioms) (common (seed_and seed axioms two) (seed_and seed axioms three)) (seed_and seed axioms three)
        (λ k n h. both_hold _ _ (smaller axioms seed three two b.1 k n h) h)
        (keeping_composes (flagged one axioms) (flagged two axioms) (flagged three axioms) (seed_and seed axioms two) (seed_and seed axioms three) a.0 b.0),
    λ at h. a.1 at (b.1 at h),
  )

  pub kept_itself : (part : List Bool) → Kept part part
  kept_itself part = (keeping_is_reflexive (flagged part axioms) (seed_and seed axioms part), λ at h. h)

  pub round_keeps : (kinds : List Fills) (before after : List Bool) → IsRound kinds axioms seed before after → Kept before after
  round_keeps [] before after h = subst (Kept before) h (kept_itself before)
  round_keeps (k ∷ kinds) before after h =
      kept_then before h.0 after (closed_keeps k axioms before seed h.0 h.1.closed, h.1.closed.is_part) (round_keeps kinds h.0 after h.2)

  pub rounds_kept : (kinds : List Fills) (first kept : List Bool) (n : ℕ) → AreRounds kinds axioms seed first n kept → Kept first kept
  rounds_kept kinds first kept n start = kept_itself first
  rounds_kept kinds first kept n (more m part next rest h dropped) = kept_then first part next (rounds_kept kinds first part m rest) (round_keeps kinds part next h)

pub rounds_keep : RoundsKeep
rounds_keep kinds axioms seed part kept n (m, is, rounds, last) = (rounds_kept axioms seed kinds part kept m rounds).0

-- a round leaves one flag for each axiom
pub round_length : (kinds : List Fills) (axioms : List Axiom) (seed : Scope) (before after : List Bool) → length before ≡ length axioms → IsRound kinds axioms seed before after → length after ≡ length axioms
round_length [] axioms seed before after l h = sym (ap length h) ∙ l
round_length (k ∷ kinds) axioms seed before after l h = round_length kinds axioms seed h.0 after h.1.closed.same_length h.2
