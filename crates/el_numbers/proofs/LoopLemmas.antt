-- The loop of saturation.
use Rattle.std.proofs.Common.{◌≡◌, ℕ, ◌<◌, ◌≤◌, List, [], ◌∷◌, ◌++◌, length, refl, sym, subst, ◌∙◌, arith, ◌⊎◌, ⊎_elim, inl, inr}
use Rattle.std.proofs.lemmas.Bool.{cases_eq}
use Rattle.el_numbers.proofs.ConcludeLemmas.{covers, concluded}
use Rattle.el_numbers.specs.Rules.{itself, in_thing, by_inclusion, to_operand, to_and, by_disjoint, to_link, by_role, by_chain, from_link, by_domain, to_nothing, Derived, step}
use Rattle.el_numbers.specs.Saturated.{IsMore, IsSaturated}
use Rattle.el_numbers.specs.declared.fact.Fact.{Fact}
use Rattle.el_numbers.specs.declared.fact.Fact.TheVariants.{Below, Link}
use Rattle.el_numbers.specs.declared.part.NumberedPart.{NumberedPart}
use Rattle.el_numbers.specs.declared.storing.FactRows.{FactRows}
use Rattle.el_numbers.specs.inner.Conclude.{conclusions}
use Rattle.el_numbers.specs.inner.Going.{IsClosed, IsUnderWay}
use Rattle.el_numbers.specs.inner.Indexes.{IsIndexed}
use Rattle.el_numbers.specs.inner.Storing.{Holds, IsWithin, Adds, GoesOver}
use Rattle.fact_rows.proofs.Members.{in_left, in_right, in_none, in_cons, in_parts, in_map, in_one}
use Rattle.fact_rows.specs.Member.{In, here, there}
use Rattle.fact_rows.specs.Rows.{row}
use Rattle.el_numbers.specs.declared.index.Indexes.{Indexes}
use Rattle.el_numbers.specs.Proper.{IsProper}
use Rattle.el_numbers.specs.inner.Storing.{state_of}
use Rattle.fact_rows.proofs.Places.{get_inside}
use Rattle.el_numbers.specs.declared.part.Shape.TheVariants as shape

-- facts are the same or not
pub same_fact : (f g : Fact) → (f ≡ g) ⊎ (f ≡ g → ⊥)
same_fact (Below a b) (Below c d) = ⊎_elim
    (λ (x : a ≡ c). ⊎_elim (λ (y : b ≡ d). inl (cc)) (λ n. inr (λ e. n (cc))) (cases_eq b d))
    (λ n. inr (λ e. n (cc)))
    (cases_eq a c)
same_fact (Below a b) (Link c r d) = inr (λ e. cc)
same_fact (Link c r d) (Below a b) = inr (λ e. cc)
same_fact (Link a r b) (Link c s d) = ⊎_elim
    (λ (x : a ≡ c). ⊎_elim (λ (y : b ≡ d). ⊎_elim (λ (z : r ≡ s). inl (cc)) (λ n. inr (λ e. n (cc))) (cases_eq r s)) (λ n. inr (λ e. n (cc))) (cases_eq b d))
    (λ n. inr (λ e. n (cc)))
    (cases_eq a c)

pub has_or_not : (f : Fact) (ps : List Fact) → In f ps ⊎ (In f ps → ⊥)
has_or_not f [] = inr (λ i. in_none i)
has_or_not f (p ∷ ps) = ⊎_elim
    (λ (e : f ≡ p). inl (subst (λ x. In x (p ∷ ps)) (sym e) here))
    (λ n. ⊎_elim (λ i. inl (there i)) (λ m. inr (λ i. ⊎_elim n m (in_cons i))) (has_or_not f ps))
    (same_fact f p)

module _ (part : NumberedPart) (proper : IsProper part) where
  within_and : (c : ℕ) (xs : List ℕ) → (xs ≡ [] → ⊥) → ((x : ℕ) → In x xs → c < length part.shapes.items) → c < length part.shapes.items
  within_and c [] n h = absurd (n refl)
  within_and c (x ∷ xs) n h = h x here

  pub within : {g : Fact} → Derived part g → IsWithin (length part.shapes.items) g
  within (step (itself l) d) = l
  within (step (in_thing l) d) = l
  within (step (by_inclusion {c} {d = x} k) d) = within (d (Below c x) here)
  within (step (to_operand {c} {a = x} k) d) = within (d (Below c x) here)
  within (step (to_and {c} {a} n) d) = within_and c (row part.operands.items a) (proper.has_operand a n) (λ x i. within (d (Below c x) (in_map (λ (y : ℕ). Below c y) i)))
  within (step (by_disjoint {c} {d = x} {e} k) d) = within (d (Below c x) here)
  within (step (to_link {c} {s} {r} {d = x} k) d) = (within (d (Below c s) here), proper.fillers s r x k)
  within (step (by_role {c} {r} {d = x} {s} k) d) = within (d (Link c r x) here)
  within (step (by_chain {c} {r} {d = x} {s} {e} {t} k) d) = ((within (d (Link c r x) here)).0, (within (d (Link x s e) (there here))).1)
  within (step (from_link {c} {r} {d = x} {e} {s} k) d) = (within (d (Link c r x) here)).0
  within (step (by_domain {c} {r} {d = x} {e} k) d) = (within (d (Link c r x) here)).0
  within (step (to_nothing {c} {r} {d = x}) d) = (within (d (Link c r x) here)).0

  -- what something is below is an expression too
  abbrev HasUpper : Fact → Type 0
  HasUpper (Below c d) = d < length part.shapes.items
  HasUpper (Link c r d) = d < length part.shapes.items

  upper : {g : Fact} → Derived part g → HasUpper g
  upper (step (itself l) d) = l
  upper (step (in_thing l) d) = let n = proper.nothing in omega arith
  upper (step (by_inclusion {c} {d = x} {e} k) d) = (proper.inclusions x e k).1
  upper (step (to_operand {c} {a} {x} k) d) = proper.operands a x k
  upper (step (to_and {c} {a} n) d) = get_inside part.shapes.items a shape.And n
  upper (step (by_disjoint k) d) = proper.nothing
  upper (step (to_link {c} {s} {r} {d = x} k) d) = proper.fillers s r x k
  upper (step (by_role {c} {r} {d = x} {s} k) d) = upper (d (Link c r x) here)
  upper (step (by_chain {c} {r} {d = x} {s} {e} {t} k) d) = upper (d (Link x s e) (there here))
  upper (step (from_link {c} {r} {d = x} {e} {s} k) d) = get_inside part.shapes.items s (shape.Some r e) k
  upper (step (by_domain {c} {r} {d = x} {e} k) d) = (proper.domains r e k).1
  upper (step to_nothing d) = proper.nothing

  pub upper_within : {c d : ℕ} → Derived part (Below c d) → d < length part.shapes.items
  upper_within h = upper h

module _ (part : NumberedPart) (ix : Indexes) (proper : IsProper part) (indexed : IsIndexed part ix) where
  pub within_next : (limit : ℕ) (t : FactRows) (q : List Fact) (f : Fact) → IsUnderWay part limit t (q ++ f ∷ []) → (g : Fact) → In g (conclusions part ix t f) → IsWithin (length t.below.items) g
  within_next limit t q f l g i = subst (λ n. IsWithin n g) (sym l.long) (within part proper (concluded part ix proper indexed t l.is_linked l.sound f (l.waits f (in_right q here)) g i))

  -- one fact is done
  pub next : (limit : ℕ) (t u : FactRows) (q w : List Fact) (f : Fact) → IsUnderWay part limit t (q ++ f ∷ []) → Adds t q (conclusions part ix t f) u w → u.count ≤ limit → IsUnderWay part limit u w
  next limit t u q w f l a few = record {
    is_linked = a.is_linked;
    is_counted = a.is_counted;
    long = a.long ∙ l.long;
    sound = λ g h. ⊎_elim (l.sound g) (λ p. made g p.0) (a.news g h);
    waits = λ g i. ⊎_elim (λ j. a.kept g (l.waits g (in_left (f ∷ []) j))) (λ k. k) (a.waiting g i);
    closed = closed';
    few = few;
  }
    where
      has : Holds t f
      has = l.waits f (in_right q here)

      made : (g : Fact) → In g (conclusions part ix t f) → Derived part g
      made g i = concluded part ix proper indexed t l.is_linked l.sound f has g i

      closed' : IsClosed part u w
      closed' ps h r all =
          let had = λ (p : Fact) (i : In p ps). ⊎_elim {C = Holds t p} (λ k. k) (λ k. absurd ((all p i).1 k.1)) (a.news p (all p i).0) in
          ⊎_elim
          (λ i. a.added h (covers part ix proper indexed t l.is_linked f ps h r i had))
          (λ n. a.kept h (l.closed ps h r (λ p i. (had p i, λ j. ⊎_elim (λ k. (all p i).1 (a.waits p k)) (λ k. n (subst (λ x. In x ps) (in_one k) i)) (in_parts q j)))))
          (has_or_not f ps)

  pub over : (limit : ℕ) (t u : FactRows) (q : List Fact) (f : Fact) → IsUnderWay part limit t (q ++ f ∷ []) → GoesOver t (conclusions part ix t f) u limit → IsMore part limit
  over limit t u q f l o = record {
    table = state_of u;
    once = o.once;
    derived = λ g h. ⊎_elim (l.sound g) (λ i. concluded part ix proper indexed t l.is_linked l.sound f (l.waits f (in_right q here)) g i) (o.only g h);
    more = o.more;
  }

  pub done : (limit : ℕ) (t : FactRows) → IsUnderWay part limit t [] → IsSaturated part limit (state_of t)
  done limit t l = record {
    sound = l.sound;
    complete = λ g d. complete d;
    once = l.is_linked.once;
    long = l.long;
    few = (let c = l.is_counted in let f = l.few in omega arith);
  }
    where
      complete : {g : Fact} → Derived part g → Holds t g
      complete (step r d) = l.closed _ _ r (λ p i. (complete (d p i), λ j. in_none j))
