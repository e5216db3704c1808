-- The plain function gives what the rounds end with, and they end with nothing else.
use Rattle.std.proofs.Common.{◌≡◌, ℕ, zero, suc, ◌<◌, ◌≤◌, ◌==◌, ⊎_elim, add-one, Bool, true, false, List, [], ◌∷◌, length, cond, arith, refl, sym, ap, subst, ◌∙◌, eqb-true}
use Rattle.std.proofs.lemmas.Bool.{cases_lt}
use Rattle.std.proofs.lemmas.Bool.Decides.{nat_tests}
use Rattle.owl_axioms.specs.declared.body.Axiom.{Axiom}
use Rattle.owl_axioms.specs.Names.{Scope}
use Rattle.module_extract.specs.Least.{module_of}
use Rattle.module_extract.specs.Module.{Fills, on_count}
use Rattle.star_module.specs.Star.{AreRounds, IsEnd, IsRound, more, start}
use Rattle.star_module.specs.Laws.{StarIsTold}
use Rattle.star_module.specs.StarOf.{round_result, rounds_from, star_of}
use Rattle.module_extract.proofs.Counting.{count_most}
use Rattle.module_extract.proofs.Told.{is_module, only_module}
use Rattle.star_module.proofs.OneMore.{ended, fewer, goes_on}
use Rattle.star_module.proofs.Rounds.{round_length}

not_less_self : (n m : ℕ) → n ≡ m → n < m → ⊥
not_less_self n m e l = omega (arith, e, l)

module _ (axioms : List Axiom) (seed : Scope) where
  is_round : (kinds : List Fills) (part : List Bool) → length part ≡ length axioms → IsRound kinds axioms seed part (round_result kinds axioms seed part)
  is_round [] part l = refl
  is_round (k ∷ kinds) part l =
      let m = is_module k axioms part seed l in
      (module_of k axioms part seed, m, is_round kinds (module_of k axioms part seed) m.closed.same_length)

  only_round : (kinds : List Fills) (part next : List Bool) → length part ≡ length axioms → IsRound kinds axioms seed part next → next ≡ round_result kinds axioms seed part
  only_round [] part next l h = sym h
  only_round (k ∷ kinds) part next l h =
      only_round kinds h.0 next h.1.closed.same_length h.2 ∙ ap (round_result kinds axioms seed) (only_module k axioms part seed l h.0 h.1)

module _ (kinds : List Fills) (axioms : List Axiom) (seed : Scope) (first : List Bool) (long : length first ≡ length axioms) where
  abbrev after : List Bool → List Bool
  after part = round_result kinds axioms seed part

  stage_length : (n : ℕ) (part : List Bool) → AreRounds kinds axioms seed first n part → length part ≡ length axioms
  stage_length n part start = long
  stage_length n part (more m before next rest h dropped) = round_length kinds axioms seed before part (stage_length m before rest) h

  from : (most n : ℕ) (part : List Bool) → on_count part < most → AreRounds kinds axioms seed first n part
      → IsEnd kinds axioms seed first (rounds_from kinds axioms seed most n part).1 (rounds_from kinds axioms seed most n part).0
  from zero n part l ran = absurd (omega (arith, l))
  from (suc most) n part l ran = by (on_count (after part) == on_count part) refl (λ less on. from most (suc n) (after part) less on)
    where
      size : length part ≡ length axioms
      size = stage_length n part ran

      round : IsRound kinds axioms seed part (after part)
      round = is_round axioms seed kinds part size

      by : (b : Bool) → (on_count (after part) == on_count part) ≡ b
          → (on_count (after part) < most → AreRounds kinds axioms seed first (suc n) (after part) → IsEnd kinds axioms seed first (rounds_from kinds axioms seed most (suc n) (after part)).1 (rounds_from kinds axioms seed most (suc n) (after part)).0)
          → IsEnd kinds axioms seed first (cond b (after part, suc n) (rounds_from kinds axioms seed most (suc n) (after part))).1 (cond b (after part, suc n) (rounds_from kinds axioms seed most (suc n) (after part))).0
      by true e rest = subst (λ m. IsEnd kinds axioms seed first m (after part)) (add-one n) (ended kinds axioms seed first part (after part) n size ran round (eqb-true _ _ e))
      by false e rest =
          let apart : on_count (after part) ≡ on_count part → ⊥ = λ h. grind (arith, nat_tests) in
          let less = fewer kinds axioms seed first part (after part) n size ran round apart in
          rest (omega (arith, less, l)) (subst (λ m. AreRounds kinds axioms seed first m (after part)) (add-one n) (goes_on kinds axioms seed first part (after part) n size ran round apart))

  -- after as many rounds there is one part
  same_stage : (n m : ℕ) (p q : List Bool) → AreRounds kinds axioms seed first n p → AreRounds kinds axioms seed first m q → n ≡ m → p ≡ q
  same_stage n m p q start start e = refl
  same_stage n m p q start (more b before next rest h dropped) e = absurd (omega (arith, e))
  same_stage n m p q (more a before next rest h dropped) start e = absurd (omega (arith, e))
  same_stage n m p q (more a before next rest h dropped) (more b before' next' rest' h' dropped') e =
      let same = same_stage a b before before' rest rest' (omega (arith, e)) in
      only_round axioms seed kinds before p (stage_length a before rest) h ∙ ap after same ∙ sym (only_round axioms seed kinds before' q (stage_length b before' rest') h')

  -- an earlier part drops something
  drops : (n m : ℕ) (p q : List Bool) → AreRounds kinds axioms seed first n p → AreRounds kinds axioms seed first m q → n < m → (p ≡ after p → ⊥)
  drops n m p q one start l = absurd (omega (arith, l))
  drops n m p q one (more b before next rest h dropped) l = ⊎_elim
      (λ (less : n < b). drops n b p before one rest less)
      (λ (last : b ≤ n). λ e.
      let same = same_stage n b p before one rest (omega (arith, l, last)) in
      dropped (sym same ∙ e ∙ ap after same ∙ sym (only_round axioms seed kinds before q (stage_length b before rest) h)))
      (cases_lt n b)

  abbrev SamePair : List Bool → List Bool → ℕ → ℕ → Type 0
  SamePair kept kept' rounds rounds' = let one : List Bool × ℕ = (kept, rounds) in let other : List Bool × ℕ = (kept', rounds') in one ≡ other

  one_end : (kept kept' : List Bool) (rounds rounds' : ℕ) → IsEnd kinds axioms seed first rounds kept → IsEnd kinds axioms seed first rounds' kept' → SamePair kept kept' rounds rounds'
  one_end kept kept' rounds rounds' (n, is, ran, last) (m, is', ran', last') = ⊎_elim
      (λ (l : n < m). absurd (drops n m kept kept' ran ran' l (only_round axioms seed kinds kept kept (stage_length n kept ran) last)))
      (λ (l : m ≤ n). ⊎_elim
      (λ (k : m < n). absurd (drops m n kept' kept ran' ran k (only_round axioms seed kinds kept' kept' (stage_length m kept' ran') last')))
      (λ (k : n ≤ m). let e : n ≡ m = omega (arith, l, k) in λ i. (same_stage n m kept kept' ran ran' e i, (is ∙ ap suc e ∙ sym is') i))
      (cases_lt m n))
      (cases_lt n m)

pub star_is_told : StarIsTold
unfolding star_of
star_is_told kinds axioms seed part long =
    let is = from kinds axioms seed part long (suc (length axioms)) 0 part (let most = count_most part in omega (arith, most, long)) start in
    (is, λ kept rounds h. one_end kinds axioms seed part long kept _ rounds _ h is)
