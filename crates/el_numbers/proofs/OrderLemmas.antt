-- Below is transitive: what is derived of the upper holds of the lower.
use Rattle.std.proofs.Common.{◌≡◌, ℕ, [], ◌∷◌, refl, sym, subst, ⊎_elim}
use Rattle.el_numbers.proofs.LoopLemmas.{within}
use Rattle.el_numbers.specs.Rules.{Rule, itself, in_thing, by_inclusion, to_operand, to_and, by_disjoint, to_link, by_role, by_chain, from_link, by_domain, to_nothing, Derived, step}
use Rattle.el_numbers.specs.declared.fact.Fact.{Fact}
use Rattle.el_numbers.specs.declared.fact.Fact.TheVariants.{Below, Link}
use Rattle.el_numbers.specs.declared.part.NumberedPart.{NumberedPart}
use Rattle.fact_rows.proofs.Members.{in_none, in_cons, in_map, from_map, in_one}
use Rattle.fact_rows.specs.Member.{here, there}
use Rattle.fact_rows.specs.Rows.{row}
use Rattle.el_numbers.specs.Proper.{IsProper}

module _ (part : NumberedPart) (proper : IsProper part) (c d : ℕ) (low : Derived part (Below c d)) where
  -- the fact of c in the place of one of d
  abbrev Passed : Fact → Type 0
  Passed (Below x e) = x ≡ d → Derived part (Below c e)
  Passed (Link x r e) = x ≡ d → Derived part (Link c r e)

  from_one : {f h : Fact} → Rule part (f ∷ []) h → Derived part f → Derived part h
  from_one r a = step r (λ p j. subst (Derived part) (sym (in_one j)) a)

  from_two : {f g h : Fact} → Rule part (f ∷ g ∷ []) h → Derived part f → Derived part g → Derived part h
  from_two {f} r a b = step r (λ p j. ⊎_elim (λ (e : p ≡ f). subst (Derived part) (sym e) a) (λ m. subst (Derived part) (sym (in_one m)) b) (in_cons j))

  pub passed : {f : Fact} → Derived part f → Passed f
  passed (step (itself {c = x} l) all) = λ e. subst (λ y. Derived part (Below c y)) (sym e) low
  passed (step (in_thing {c = x} l) all) = λ e. step (in_thing (within part proper low)) (λ p k. in_none k)
  passed (step (by_inclusion {c = x} {d = y} {e = z} k) all) = λ e. from_one (by_inclusion k) (passed (all (Below x y) here) e)
  passed (step (to_operand {c = x} {a = y} {x = z} k) all) = λ e. from_one (to_operand k) (passed (all (Below x y) here) e)
  passed (step (to_and {c = x} {a} n) all) = λ e. step (to_and n) (λ p j.
      let m = from_map (λ (y : ℕ). Below c y) (row part.operands.items a) j in
      subst (Derived part) (sym m.is) (passed (all (Below x m.it) (in_map (λ (y : ℕ). Below x y) m.inside)) e))
  passed (step (by_disjoint {c = x} {d = y} {e = z} k) all) = λ e. from_two (by_disjoint k) (passed (all (Below x y) here) e) (passed (all (Below x z) (there here)) e)
  passed (step (to_link {c = x} {s} {r} {d = y} k) all) = λ e. from_one (to_link k) (passed (all (Below x s) here) e)
  passed (step (by_role {c = x} {r} {d = y} {s} k) all) = λ e. from_one (by_role k) (passed (all (Link x r y) here) e)
  passed (step (by_chain {c = x} {r} {d = y} {s} {e = z} {t} k) all) = λ e. from_two (by_chain k) (passed (all (Link x r y) here) e) (all (Link y s z) (there here))
  passed (step (from_link {c = x} {r} {d = y} {e = z} {s} k) all) = λ e. from_two (from_link k) (passed (all (Link x r y) here) e) (all (Below y z) (there here))
  passed (step (by_domain {c = x} {r} {d = y} {e = z} k) all) = λ e. from_one (by_domain k) (passed (all (Link x r y) here) e)
  passed (step (to_nothing {c = x} {r} {d = y}) all) = λ e. from_two to_nothing (passed (all (Link x r y) here) e) (all (Below y 1) (there here))

  pub above : (e : ℕ) → Derived part (Below d e) → Derived part (Below c e)
  above e h = passed h refl
