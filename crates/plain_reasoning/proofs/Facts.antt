-- What is known in the end is what is derived.
use Rattle.std.proofs.Common.{◌≡◌, ◌⊎◌, ℕ, zero, suc, ◌≤◌, ◌<◌, Bool, true, false, not, ◌&&◌, List, [], ◌∷◌, filter, length, map, inl, inr, ⊎_elim, refl, sym, ap, subst, ◌∙◌, true≢false, arith}
use Rattle.std.specs.Cmp.Lexicographic.{same_text}
use Rattle.std.specs.Str.{bytes_eq}
use Rattle.fact_rows.specs.Member.{In, NoRepeats, here, more, none, there}
use Rattle.fact_rows.proofs.Members.{and_parts, any_in, by_bool, from_filter, from_map, in_any, in_cons, in_filter, in_map, in_none}
use Rattle.owl_axioms.proofs.Listed.{own_bytes}
use Rattle.owl_axioms.proofs.Same.{same_expr-true}
use Rattle.owl_axioms.specs.contracts.expr.ClassExprEq.TheImpl.Laws as laws
use Rattle.owl_axioms.specs.declared.body.Axiom.{Axiom}
use Rattle.el_rules.proofs.Sound.{derived_occurs}
use Rattle.el_rules.specs.Laws.{HasExprsIn}
use Rattle.el_rules.specs.Rules.{Derived, ElFact, ElView, HasLink, IsBelow, IsElPartOf, step}
use Rattle.plain_reasoning.specs.Facts.{concluded, each_once, facts_of, is_usable, known_after, knows, same_expr, same_fact}
use Rattle.plain_reasoning.specs.Laws.{FactsAreDerived}
use Rattle.plain_reasoning.specs.Occurring.{view_of_axioms}
use Rattle.plain_reasoning.specs.Uses.{Use, use_of, uses_of}
use Rattle.plain_reasoning.proofs.Lists.{all_from, each_of, filter_none, filter_once, filter_short, grows}
use Rattle.plain_reasoning.proofs.Occurring.{view_is_el_part}
use Rattle.plain_reasoning.proofs.SameParts.{derived_there}
use Rattle.plain_reasoning.proofs.Uses.{Fits, HasRole, rule_role, uses_listed, uses_sound}

-- ---- whether two facts are one

pub same_fact-true : (f g : ElFact) → same_fact f g ≡ true → f ≡ g
unfolding same_fact
same_fact-true (IsBelow c d) (IsBelow e f) h = let p = and_parts (same_expr c e) (same_expr d f) h in λ i. IsBelow (same_expr-true c e p.0 i) (same_expr-true d f p.1 i)
same_fact-true (IsBelow c d) (HasLink e s f) h = absurd (true≢false (sym h))
same_fact-true (HasLink c r d) (IsBelow e f) h = absurd (true≢false (sym h))
same_fact-true (HasLink c r d) (HasLink e s f) h =
    let p = and_parts (same_expr c e) (bytes_eq r s && same_expr d f) h in let q = and_parts (bytes_eq r s) (same_expr d f) p.1 in
    λ i. HasLink (same_expr-true c e p.0 i) (same_text r s (sym q.0) i) (same_expr-true d f q.1 i)

pub same_fact-itself : (f : ElFact) → same_fact f f ≡ true
unfolding same_fact
same_fact-itself (IsBelow c d) = λ i. laws.laws-law.refl c i && laws.laws-law.refl d i
same_fact-itself (HasLink c r d) = λ i. laws.laws-law.refl c i && (own_bytes r i && laws.laws-law.refl d i)

pub known_in : (known : List ElFact) (f : ElFact) → knows known f ≡ true → In f known
known_in known f h = in_any same_fact same_fact-true same_fact-itself f known h

pub in_known : (known : List ElFact) (f : ElFact) → In f known → knows known f ≡ true
in_known known f i = any_in same_fact same_fact-true same_fact-itself f i

-- ---- each fact once

pub once_in : (f : ElFact) (fs : List ElFact) → In f fs → In f (each_once fs)
unfolding each_once
once_in f [] i = i
once_in f (g ∷ gs) i = by_bool (same_fact g f)
    (λ e. subst (λ h. In f (h ∷ filter (λ other. not (same_fact g other)) (each_once gs))) (sym (same_fact-true g f e)) here)
    (λ e. ⊎_elim
    (λ is. absurd (true≢false (sym (subst (λ h. same_fact h f ≡ true) is (same_fact-itself f)) ∙ e)))
    (λ j. there (in_filter (λ other. not (same_fact g other)) (once_in f gs j) (ap not e)))
    (in_cons i))

pub in_once : (f : ElFact) (fs : List ElFact) → In f (each_once fs) → In f fs
unfolding each_once
in_once f [] i = i
in_once f (g ∷ gs) i = ⊎_elim
    (λ is. subst (λ h. In f (h ∷ gs)) is here)
    (λ j. there (in_once f gs (from_filter (λ other. not (same_fact g other)) (each_once gs) j).0))
    (in_cons i)

pub once_apart : (fs : List ElFact) → NoRepeats (each_once fs)
unfolding each_once
once_apart [] = none
once_apart (g ∷ gs) =
    let others : ElFact → Bool = λ other. not (same_fact g other) in
    more (λ i. apart (same_fact g g) (same_fact-itself g) (from_filter others (each_once gs) i).1) (filter_once others (once_apart gs))
  where
    apart : (b : Bool) → b ≡ true → not b ≡ true → ⊥
    apart b e h = true≢false (sym h ∙ ap not e)

module _ (view : ElView) where
  -- ---- what is concluded

  concluded_by : (known : List ElFact) (one : Use) → In one (uses_of view) → ((p : ElFact) → In p one.premises → In p known) → In one.conclusion (concluded view known)
  unfolding concluded
  concluded_by known one i h =
      once_in one.conclusion _ (in_map (λ (u : Use). u.conclusion) (in_filter (is_usable known) i (all_from (knows known) one.premises (λ p j. in_known known p (h p j)))))

  pub record Concludes (known : List ElFact) (fact : ElFact) : Type 0 where
    pub one : Use
    pub listed : In one (uses_of view)
    pub premises : (p : ElFact) → In p one.premises → In p known
    pub is : fact ≡ one.conclusion

  concludes : (known : List ElFact) (fact : ElFact) → In fact (concluded view known) → Concludes known fact
  unfolding concluded
  concludes known fact i =
      let r = from_map (λ (u : Use). u.conclusion) (filter (is_usable known) (uses_of view)) (in_once fact _ i) in
      let f = from_filter (is_usable known) (uses_of view) r.inside in
      record { one = r.it; listed = f.0; premises = λ p j. known_in known p (each_of (knows known) f.1 j); is = r.is }

  -- ---- what is known is derived

  abbrev AreDerived : List ElFact → Type 0
  AreDerived known = (fact : ElFact) → In fact known → Derived view fact

  still_derived : (known : List ElFact) → AreDerived known → AreDerived (concluded view known)
  still_derived known all fact i =
      let c = concludes known fact i in
      subst (Derived view) (sym c.is) (step (uses_sound view c.one c.listed) (λ p j. all p (c.premises p j)))

  known_derived : (n : ℕ) → AreDerived (known_after view n)
  unfolding known_after
  known_derived zero fact i = in_none i
  known_derived (suc n) fact i = still_derived (known_after view n) (known_derived n) fact i

  -- ---- what is known stays known

  abbrev AreKept : List ElFact → List ElFact → Type 0
  AreKept old new = (fact : ElFact) → In fact old → In fact new

  concluded_kept : (old new : List ElFact) → AreKept old new → AreKept (concluded view old) (concluded view new)
  concluded_kept old new kept fact i =
      let c = concludes old fact i in
      subst (λ f. In f (concluded view new)) (sym c.is) (concluded_by new c.one c.listed (λ p j. kept p (c.premises p j)))

  known_kept : (n : ℕ) → AreKept (known_after view n) (known_after view (suc n))
  unfolding known_after
  known_kept zero fact i = in_none i
  known_kept (suc n) fact i = concluded_kept (known_after view n) (known_after view (suc n)) (known_kept n) fact i

  -- ---- and in the end nothing changes

  -- the uses by whose conclusions so much is known
  used_after : ℕ → List Use
  used_after zero = []
  used_after (suc n) = filter (is_usable (known_after view n)) (uses_of view)

  abbrev conclusions : List Use → List ElFact
  conclusions uses = each_once (map (λ one. one.conclusion) uses)

  known_is : (n : ℕ) → known_after view n ≡ conclusions (used_after n)
  unfolding used_after known_after concluded each_once
  known_is zero = refl
  known_is (suc n) = refl

  usable_kept : (old new : List ElFact) → AreKept old new → (one : Use) → is_usable old one ≡ true → is_usable new one ≡ true
  usable_kept old new kept one h = all_from (knows new) one.premises (λ p j. in_known new p (kept p (known_in old p (each_of (knows old) h j))))

  abbrev GrowsAfter : ℕ → Type 0
  GrowsAfter n = (used_after n ≡ used_after (suc n)) ⊎ (length (used_after n) < length (used_after (suc n)))

  used_grows : (n : ℕ) → GrowsAfter n
  unfolding used_after
  used_grows zero =
      let now = filter (is_usable (known_after view zero)) (uses_of view) in
      subst (λ (old : List Use). (old ≡ now) ⊎ (length old < length now)) (filter_none (uses_of view)) (grows (λ _. false) (is_usable (known_after view zero)) (λ one h. absurd (true≢false (sym h))) (uses_of view))
  used_grows (suc n) = grows (is_usable (known_after view n)) (is_usable (known_after view (suc n))) (usable_kept (known_after view n) (known_after view (suc n)) (known_kept n)) (uses_of view)

  used_same : (n : ℕ) → used_after n ≡ used_after (suc n) → used_after (suc n) ≡ used_after (suc (suc n))
  unfolding used_after
  used_same n is = ap (λ known. filter (is_usable known) (uses_of view)) (known_is n ∙ ap conclusions is ∙ sym (known_is (suc n)))

  used_short : (n : ℕ) → length (used_after n) ≤ length (uses_of view)
  unfolding used_after
  used_short zero = omega arith
  used_short (suc n) = filter_short (is_usable (known_after view n)) (uses_of view)

  at_rest : (n : ℕ) → (n ≤ length (used_after n)) ⊎ (used_after n ≡ used_after (suc n))
  at_rest zero = inl (omega arith)
  at_rest (suc n) = ⊎_elim
      (λ less. ⊎_elim (λ is. inr (used_same n is)) (λ grown. inl (omega (arith, less, grown))) (used_grows n))
      (λ is. inr (used_same n is))
      (at_rest n)

  last_used : (n : ℕ) → n ≡ length (uses_of view) → used_after n ≡ used_after (suc n)
  last_used n is = ⊎_elim
      (λ full. ⊎_elim (λ same. same) (λ grown. absurd (let short = used_short (suc n) in omega (arith, full, grown, short, is))) (used_grows n))
      (λ same. same)
      (at_rest n)

  known_last : (n : ℕ) → n ≡ length (uses_of view) → known_after view n ≡ known_after view (suc n)
  known_last n is = known_is n ∙ ap conclusions (last_used n is) ∙ sym (known_is (suc n))

  facts_closed : concluded view (facts_of view) ≡ facts_of view
  unfolding facts_of known_after
  facts_closed = sym (known_last (length (uses_of view)) refl)

  facts_sound : AreDerived (facts_of view)
  unfolding facts_of
  facts_sound = known_derived (length (uses_of view))

  known_once : (n : ℕ) → NoRepeats (known_after view n)
  unfolding known_after concluded
  known_once zero = none
  known_once (suc n) = once_apart _

  facts_once : NoRepeats (facts_of view)
  unfolding facts_of
  facts_once = known_once (length (uses_of view))

  -- ---- what is derived is known

  fits_by : (fact : ElFact) → HasExprsIn view fact → HasRole view fact → Fits view fact
  unfolding HasExprsIn
  fits_by (IsBelow c d) e r = e
  fits_by (HasLink c r d) e i = (e.0, i, e.1)

  module _ (axioms : List Axiom) (of : IsElPartOf axioms view) where
    derived_fits : {fact : ElFact} → Derived view fact → HasRole view fact → Fits view fact
    derived_fits {fact} d r = fits_by fact (derived_occurs axioms view of fact d) r

    derived_role : {fact : ElFact} → Derived view fact → HasRole view fact
    derived_role (step rule premises) = rule_role view rule (λ p i. derived_role (premises p i)) (λ p i. derived_fits (premises p i) (derived_role (premises p i)))

    derived_known : {fact : ElFact} → Derived view fact → In fact (facts_of view)
    derived_known (step {premises = ps} {conclusion = f} rule premises) =
        subst (In f) facts_closed
        (concluded_by (facts_of view) (use_of ps f)
        (uses_listed view rule (λ p i. derived_fits (premises p i) (derived_role (premises p i))))
        (λ p i. derived_known (premises p i)))

-- ---- in whatever order the expressions are listed

pub facts_are_derived : FactsAreDerived
facts_are_derived axioms view of =
    let own = view_is_el_part axioms in
    let mine = view_of_axioms axioms in (
      (λ fact. (
        (λ i. derived_there axioms mine view own of (facts_sound mine fact i)),
        (λ d. derived_known mine axioms own (derived_there axioms view mine of own d)),
      )),
      facts_once mine,
    )
