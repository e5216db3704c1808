-- A table with one fact more.
use Rattle.std.proofs.Common.{◌≡◌, ℕ, ◌<◌, Bool, true, false, List, [], ◌∷◌, ◌++◌, length, refl, sym, ap, subst, ◌∙◌, arith, ◌⊎◌, ⊎_elim, inl, inr, length-set}
use Rattle.el_numbers.specs.declared.fact.Fact.{Fact}
use Rattle.el_numbers.specs.declared.fact.Fact.TheVariants.{Below, Link}
use Rattle.el_numbers.specs.declared.storing.FactRows.{FactRows}
use Rattle.el_numbers.specs.inner.Storing.{Holds, IsLinked, Puts}
use Rattle.fact_rows.specs.Member.{In, NoRepeats}
use Rattle.fact_rows.specs.Rows.{push_at, row, InsertsAt}
use Rattle.fact_rows.proofs.RowLemmas as rows

same_rows : {A : Type 0} {old new : List (List A)} → new ≡ old → (k : ℕ) (x : A) → In x (row new k) → In x (row old k)
same_rows e k x i = subst (λ r. In x (row r k)) e i

-- a fact that was there
pub puts_old : (t u : FactRows) (f : Fact) → IsLinked t → Holds t f → u.below.items ≡ t.below.items → u.links.items ≡ t.links.items → u.back.items ≡ t.back.items → u.count ≡ t.count → Puts t f false u
puts_old t u f w h eb el ek ef = record {
  is_linked = record {
    links_long = ap length el ∙ w.links_long ∙ sym (ap length eb);
    back_long = ap length ek ∙ w.back_long ∙ sym (ap length eb);
    once = record { below = λ c. subst (λ r. NoRepeats (row r c)) (sym eb) (w.once.below c); links = λ c. subst (λ r. NoRepeats (row r c)) (sym el) (w.once.links c) };
    to_back = λ b r c i. same_rows (sym ek) c (r, b) (w.to_back b r c (same_rows el b (r, c) i));
    from_back = λ b r c i. same_rows (sym el) b (r, c) (w.from_back b r c (same_rows ek c (r, b) i));
  };
  long = ap length eb;
  added = to_new f h;
  kept = to_new;
  only = λ g i. inl (to_old g i);
  larger = rw (eb, el) (omega arith);
  count = ef;
}
  where
    to_new : (g : Fact) → Holds t g → Holds u g
    to_new (Below c d) i = same_rows (sym eb) c d i
    to_new (Link c r d) i = same_rows (sym el) c (r, d) i

    to_old : (g : Fact) → Holds u g → Holds t g
    to_old (Below c d) i = same_rows eb c d i
    to_old (Link c r d) i = same_rows el c (r, d) i

pub puts_below : (t u : FactRows) (c d : ℕ) → IsLinked t → c < length t.below.items → u.below.items ≡ push_at t.below.items c d → (In d (row t.below.items c) → ⊥) → u.links.items ≡ t.links.items → u.back.items ≡ t.back.items → u.count ≡ t.count → Puts t (Below c d) true u
puts_below t u c d w l set n el ek ef = record {
  is_linked = record {
    links_long = ap length el ∙ w.links_long ∙ sym long';
    back_long = ap length ek ∙ w.back_long ∙ sym long';
    once = record { below = rows.row_once t.below.items u.below.items c d l set n w.once.below; links = λ k. subst (λ r. NoRepeats (row r k)) (sym el) (w.once.links k) };
    to_back = λ b r k i. same_rows (sym ek) k (r, b) (w.to_back b r k (same_rows el b (r, k) i));
    from_back = λ b r k i. same_rows (sym el) b (r, k) (w.from_back b r k (same_rows ek k (r, b) i));
  };
  long = long';
  added = rows.row_at_end t.below.items u.below.items c d l set;
  kept = to_new;
  only = to_old;
  larger = (let s = rows.rows_sum t.below.items u.below.items c d l set in rw el (omega (arith, s)));
  count = ef;
}
  where
    long' : length u.below.items ≡ length t.below.items
    long' = ap length set ∙ length-set t.below.items c (row t.below.items c ++ d ∷ [])

    to_new : (g : Fact) → Holds t g → Holds u g
    to_new (Below k x) i = rows.row_stays t.below.items u.below.items c d l set k x i
    to_new (Link k r x) i = same_rows (sym el) k (r, x) i

    to_old : (g : Fact) → Holds u g → Holds t g ⊎ ((g ≡ Below c d) × (true ≡ true))
    to_old (Below k x) i = ⊎_elim inl (λ p. inr ((let a = p.0 in let b = p.1 in cc), refl)) (rows.row_only t.below.items u.below.items c d l set k x i)
    to_old (Link k r x) i = inl (same_rows el k (r, x) i)

pub puts_link : (t u : FactRows) (c r d : ℕ) → IsLinked t → c < length t.below.items → d < length t.below.items → u.links.items ≡ push_at t.links.items c (r, d) → (In (r, d) (row t.links.items c) → ⊥)
    → u.back.items ≡ push_at t.back.items d (r, c) → u.below.items ≡ t.below.items → u.count ≡ t.count → Puts t (Link c r d) true u
puts_link t u c r d w lc ld set n back eb ef = record {
  is_linked = record {
    links_long = long' ∙ w.links_long ∙ sym (ap length eb);
    back_long = (ap length back ∙ length-set t.back.items d (row t.back.items d ++ (r, c) ∷ [])) ∙ w.back_long ∙ sym (ap length eb);
    once = record { below = λ k. subst (λ q. NoRepeats (row q k)) (sym eb) (w.once.below k); links = rows.row_once t.links.items u.links.items c (r, d) lc' set n w.once.links };
    to_back = λ b s k i. ⊎_elim
        (λ j. rows.row_stays t.back.items u.back.items d (r, c) ld' back k (s, b) (w.to_back b s k j))
        (λ p. let es : s ≡ r = ap (λ q. q.0) p.1 in let ek : k ≡ d = ap (λ q. q.1) p.1 in
        subst (λ m. In (s, b) (row u.back.items m)) (sym ek) (subst (λ m. In (m, b) (row u.back.items d)) (sym es) (subst (λ m. In (r, m) (row u.back.items d)) (sym p.0) (rows.row_at_end t.back.items u.back.items d (r, c) ld' back))))
        (rows.row_only t.links.items u.links.items c (r, d) lc' set b (s, k) i);
    from_back = λ b s k i. ⊎_elim
        (λ j. rows.row_stays t.links.items u.links.items c (r, d) lc' set b (s, k) (w.from_back b s k j))
        (λ p. let es : s ≡ r = ap (λ q. q.0) p.1 in let eb' : b ≡ c = ap (λ q. q.1) p.1 in
        subst (λ m. In (s, k) (row u.links.items m)) (sym eb') (subst (λ m. In (m, k) (row u.links.items c)) (sym es) (subst (λ m. In (r, m) (row u.links.items c)) (sym p.0) (rows.row_at_end t.links.items u.links.items c (r, d) lc' set))))
        (rows.row_only t.back.items u.back.items d (r, c) ld' back k (s, b) i);
  };
  long = ap length eb;
  added = rows.row_at_end t.links.items u.links.items c (r, d) lc' set;
  kept = to_new;
  only = to_old;
  larger = (let s = rows.rows_sum t.links.items u.links.items c (r, d) lc' set in rw eb (omega (arith, s)));
  count = ef;
}
  where
    lc' : c < length t.links.items
    lc' = omega (arith, w.links_long)

    ld' : d < length t.back.items
    ld' = omega (arith, w.back_long)

    long' : length u.links.items ≡ length t.links.items
    long' = ap length set ∙ length-set t.links.items c (row t.links.items c ++ (r, d) ∷ [])

    to_new : (g : Fact) → Holds t g → Holds u g
    to_new (Below k x) i = same_rows (sym eb) k x i
    to_new (Link k s x) i = rows.row_stays t.links.items u.links.items c (r, d) lc' set k (s, x) i

    to_old : (g : Fact) → Holds u g → Holds t g ⊎ ((g ≡ Link c r d) × (true ≡ true))
    to_old (Below k x) i = inl (same_rows eb k x i)
    to_old (Link k s x) i = ⊎_elim inl (λ p. inr ((let es : s ≡ r = ap (λ q. q.0) p.1 in let ex : x ≡ d = ap (λ q. q.1) p.1 in cc), refl)) (rows.row_only t.links.items u.links.items c (r, d) lc' set k (s, x) i)

-- what adding to the rows below one expression does
pub puts_any : (t u : FactRows) (c d : ℕ) (is_new : Bool) → IsLinked t → c < length t.below.items → InsertsAt t.below.items c d is_new u.below.items → u.links.items ≡ t.links.items → u.back.items ≡ t.back.items → u.count ≡ t.count → Puts t (Below c d) is_new u
puts_any t u c d true w l i el ek ef = puts_below t u c d w l i.0 i.1 el ek ef
puts_any t u c d false w l i el ek ef = puts_old t u (Below c d) w i.1 i.0 el ek ef
