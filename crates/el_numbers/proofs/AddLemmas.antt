-- Facts added one after another.
use Rattle.std.proofs.Common.{◌≡◌, ℕ, ◌+◌, true, false, List, [], ◌∷◌, ◌++◌, refl, sym, subst, ◌∙◌, arith, ⊎_elim, inl, inr, true≢false, length-append, take, drop}
use Rattle.std.proofs.lemmas.List.{take-append-drop}
use Rattle.el_numbers.specs.Saturated.{IsFault, IsMore}
use Rattle.el_numbers.specs.inner.Storing.{IsCounted}
use Rattle.el_numbers.specs.declared.fact.Fact.{Fact}
use Rattle.el_numbers.specs.declared.fault.SaturationFault.{SaturationFault}
use Rattle.el_numbers.specs.declared.fault.SaturationFault.TheVariants.{TooManyFacts, NoMemory}
use Rattle.el_numbers.specs.declared.part.NumberedPart.{NumberedPart}
use Rattle.el_numbers.specs.declared.storing.FactRows.{FactRows}
use Rattle.el_numbers.specs.inner.Storing.{Holds, IsLinked, Puts, Adds, GoesOver, AtFault}
use Rattle.fact_rows.proofs.Members.{in_left, in_right, in_none, in_parts, in_one}
use Rattle.fact_rows.specs.Member.{In, here}

pub adds_none : (t : FactRows) (q : List Fact) → IsLinked t → IsCounted t → Adds t q [] t q
adds_none t q w n = record {
  is_linked = w;
  is_counted = n;
  long = refl;
  added = λ g i. in_none i;
  kept = λ g h. h;
  waits = λ g i. i;
  news = λ g h. inl h;
  waiting = λ g i. inl i;
  count = refl;
  grows = omega arith;
}

-- a fact that was there
pub adds_old : {t u : FactRows} {f : Fact} (q : List Fact) → IsCounted t → Puts t f false u → Adds t q (f ∷ []) u q
adds_old {t} {u} {f} q n p = record {
  is_linked = p.is_linked;
  is_counted = (let a = p.count in let b = p.larger in omega (arith, n, a, b));
  long = p.long;
  added = λ g i. subst (Holds u) (sym (in_one i)) p.added;
  kept = p.kept;
  waits = λ g i. i;
  news = λ g h. ⊎_elim inl (λ e. absurd (true≢false (sym e.1))) (p.only g h);
  waiting = λ g i. inl i;
  count = omega (arith, p.count);
  grows = omega (arith, p.count);
}

-- a new fact, counted then
pub adds_new : {t u : FactRows} {f : Fact} (q : List Fact) → IsCounted t → Puts t f true u → Adds t q (f ∷ []) (record u { count = u.count + 1 }) (q ++ f ∷ [])
adds_new {t} {u} {f} q n p = record {
  is_linked = record { links_long = p.is_linked.links_long; back_long = p.is_linked.back_long; once = p.is_linked.once; to_back = p.is_linked.to_back; from_back = p.is_linked.from_back };
  is_counted = (let a = p.count in let b = p.larger in omega (arith, n, a, b));
  long = p.long;
  added = λ g i. subst (Holds u) (sym (in_one i)) p.added;
  kept = p.kept;
  waits = λ g i. in_left (f ∷ []) i;
  news = λ g h. ⊎_elim inl (λ e. inr (subst (λ x. In x (f ∷ [])) (sym e.0) here, in_right q (subst (λ x. In x (f ∷ [])) (sym e.0) here))) (p.only g h);
  waiting = λ g i. ⊎_elim inl (λ j. inr (subst (Holds u) (sym (in_one j)) p.added)) (in_parts q i);
  count = omega (arith, p.count, length-append q (f ∷ []));
  grows = omega (arith, p.count);
}

pub adds_more : {t u v : FactRows} {q w x fs gs : List Fact} → Adds t q fs u w → Adds u w gs v x → Adds t q (fs ++ gs) v x
adds_more {t} {u} {v} {q} {w} {x} {fs} {gs} a b = record {
  is_linked = b.is_linked;
  is_counted = b.is_counted;
  long = b.long ∙ a.long;
  added = λ g i. ⊎_elim (λ j. b.kept g (a.added g j)) (λ j. b.added g j) (in_parts fs i);
  kept = λ g h. b.kept g (a.kept g h);
  waits = λ g i. b.waits g (a.waits g i);
  news = λ g h. ⊎_elim
      (λ k. ⊎_elim inl (λ (p : In g fs × In g w). inr (in_left gs p.0, b.waits g p.1)) (a.news g k))
      (λ (p : In g gs × In g x). inr (in_right fs p.0, p.1))
      (b.news g h);
  waiting = λ g i. ⊎_elim (λ j. ⊎_elim inl (λ k. inr (b.kept g k)) (a.waiting g j)) inr (b.waiting g i);
  count = omega (arith, a.count, b.count);
  grows = omega (arith, a.grows, b.grows);
}

-- a new fact where the count is at the limit
pub over_one : {t u : FactRows} {f : Fact} (limit : ℕ) → IsCounted t → Puts t f true u → u.count ≡ limit → GoesOver t (f ∷ []) u limit
over_one {t} {u} {f} limit n p e = record {
  once = p.is_linked.once;
  only = λ g h. ⊎_elim inl (λ e. inr (subst (λ x. In x (f ∷ [])) (sym e.0) here)) (p.only g h);
  more = (let a = p.count in let b = p.larger in omega (arith, n, a, b, e));
}

pub over_more : {t u v : FactRows} {q w fs gs : List Fact} {limit : ℕ} (hs : List Fact) → Adds t q fs u w → GoesOver u gs v limit → ((g : Fact) → In g fs → In g hs) → ((g : Fact) → In g gs → In g hs) → GoesOver t hs v limit
over_more {t} {u} {v} hs a o l m = record {
  once = o.once;
  only = λ g h. ⊎_elim (λ k. ⊎_elim inl (λ p. inr (l g p.0)) (a.news g k)) (λ j. inr (m g j)) (o.only g h);
  more = o.more;
}

pub in_take : {A : Type 0} (n : ℕ) (xs : List A) {x : A} → In x (take n xs) → In x xs
in_take n xs {x} i = subst (In x) (take-append-drop n xs) (in_left (drop n xs) i)

pub at_weaker : (e : SaturationFault) (limit : ℕ) {P Q : Type 0} → (P → Q) → AtFault e limit P → AtFault e limit Q
at_weaker (TooManyFacts n) limit f p = (p.0, f p.1)
at_weaker NoMemory limit f p = p

pub told_fault : (part : NumberedPart) (limit : ℕ) (e : SaturationFault) → AtFault e limit (IsMore part limit) → IsFault part limit e
told_fault part limit (TooManyFacts n) p = p
told_fault part limit NoMemory p = p
