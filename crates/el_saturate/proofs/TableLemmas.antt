-- The facts of a table over numbers, read as facts over expressions.
use Rattle.std.proofs.Common.{◌≡◌, ℕ, zero, suc, ◌+◌, ◌<◌, ◌^◌, true, false, List, [], ◌∷◌, ◌++◌, None, Some, inl, inr, cond, get_or, length, map, nat_lt, position, slice_get, refl, sym, ap, subst, ◌∙◌, arith}
use Rattle.std.specs.List.{position_or_len, sum_by}
use Rattle.std.proofs.lemmas.List.Sums.{sum_by-cons}
use Rattle.std.proofs.lemmas.Option.{get_or_from_slice_get, slice_get-get_or}
use Rattle.fact_rows.specs.Member.{In, NoRepeats, here, more, none, there}
use Rattle.fact_rows.specs.Rows.{row}
use Rattle.fact_rows.proofs.Members.{by_bool, from_map, in_left, in_map, in_none, in_parts, in_right}
use Rattle.fact_rows.proofs.Places.{in_from_get}
use Rattle.fact_rows.proofs.Repeats.{fits, repeats_append}
use Rattle.owl_axioms.specs.declared.expr.ClassExpr.{ClassExpr}
use Rattle.owl_axioms.specs.declared.expr.ClassExpr.TheVariants as expr
use Rattle.expr_pool.proofs.Lists.{get_map, lt_from, lt_to}
use Rattle.expr_pool.specs.Pool.{AreDifferent, tree_at}
use Rattle.expr_pool.specs.declared.cell.Node.{Node}
use Rattle.el_numbers.specs.Rules as numbers_rules
use Rattle.el_numbers.specs.Saturated.{IsMore, IsSaturated}
use Rattle.el_numbers.specs.Table.{Has, HasOnce, TableState, size}
use Rattle.el_numbers.specs.declared.fact.Fact.{Fact}
use Rattle.el_numbers.specs.declared.fact.Fact.TheVariants.{Below, Link}
use Rattle.el_numbers.specs.declared.part.NumberedPart.{NumberedPart}
use Rattle.el_rules.proofs.Transport.{apart, found_at, numbers_found, over, range}
use Rattle.el_rules.specs.Numbering.{IsNumbered, IsOneToOne, Numbering, expr_at, fact_at, role_at}
use Rattle.el_rules.specs.Rules.{Derived, ElFact, ElView, HasLink, IsBelow}
use Rattle.el_part.specs.Part.{FitsPool, IsNodeOf, PartState, view_of}
use Rattle.el_part.proofs.ClassLemmas.{iri_tells}
use Rattle.el_saturate.proofs.RoleLemmas.{place}
use Rattle.el_saturate.specs.Table.{AnswersExclude, AreMore, Facts, IsNumberOfFacts, IsTableOf, SaysBelow, SaysLink}
use Rattle.el_saturate.specs.inner.Numbers.{AreNumbers, same_iri}

-- ---- the facts of a table, as a list

module _ {A : Type 0} (f : ℕ → A → Fact) where
  listed : ℕ → List (List A) → List Fact
  listed k [] = []
  listed k (r ∷ rows) = map (f k) r ++ listed (suc k) rows

  in_listed : (k : ℕ) (rows : List (List A)) (g : Fact) → In g (listed k rows) → (c : ℕ) × (a : A) × (g ≡ f (k + c) a) × In a (row rows c)
  unfolding listed
  in_listed k [] g i = in_none i
  in_listed k (r ∷ rows) g i = elim (in_parts (map (f k) r) i) [
    | inl j ↦ let m = from_map (f k) r j in let e : k ≡ k + 0 = omega arith in (0, m.it, m.is ∙ ap (λ n. f n m.it) e, m.inside)
    | inr j ↦ let m = in_listed (suc k) rows g j in let e : suc k + m.0 ≡ k + suc m.0 = omega arith in (suc m.0, m.1, m.2 ∙ ap (λ n. f n m.1) e, m.3)
  ]

  listed_in : (k : ℕ) (rows : List (List A)) (c : ℕ) (a : A) → In a (row rows c) → In (f (k + c) a) (listed k rows)
  unfolding listed
  listed_in k [] c a i = in_none i
  listed_in k (r ∷ rows) zero a i = let e : k ≡ k + 0 = omega arith in subst (λ n. In (f n a) (map (f k) r ++ listed (suc k) rows)) e (in_left (listed (suc k) rows) (in_map (f k) i))
  listed_in k (r ∷ rows) (suc c) a i = let e : suc k + c ≡ k + suc c = omega arith in subst (λ n. In (f n a) (map (f k) r ++ listed (suc k) rows)) e (in_right (map (f k) r) (listed_in (suc k) rows c a i))

  length_append : (xs ys : List Fact) → length (xs ++ ys) ≡ length xs + length ys
  length_append [] ys = omega arith
  length_append (x ∷ xs) ys = let e = length_append xs ys in omega (arith, e)

  length_map : {B C : Type 0} (g : B → C) (xs : List B) → length (map g xs) ≡ length xs
  length_map g [] = refl
  length_map g (x ∷ xs) = ap suc (length_map g xs)

  listed_long : (k : ℕ) (rows : List (List A)) → length (listed k rows) ≡ sum_by length rows
  unfolding listed
  listed_long k [] = refl
  listed_long k (r ∷ rows) =
      let rest = listed_long (suc k) rows in
      let split = length_append (map (f k) r) (listed (suc k) rows) in
      let first = length_map (f k) r in
      rw (sum_by-cons length r rows) (omega (arith, rest, split, first))

  module _ (tells : (j k : ℕ) (a b : A) → f j a ≡ f k b → (j ≡ k) × (a ≡ b)) where
    map_once : (k : ℕ) {r : List A} → NoRepeats r → NoRepeats (map (f k) r)
    map_once k none = none
    map_once k (more {x} {xs} n r) = more (λ i. let m = from_map (f k) xs i in n (subst (λ y. In y xs) (sym (tells k k x m.it m.is).1) m.inside)) (map_once k r)

    listed_once : (k : ℕ) (rows : List (List A)) → ((c : ℕ) → NoRepeats (row rows c)) → NoRepeats (listed k rows)
    unfolding listed
    listed_once k [] h = none
    listed_once k (r ∷ rows) h = repeats_append (map_once k (h 0)) (listed_once (suc k) rows (λ c. h (suc c))) (λ g i j.
        let m = from_map (f k) r i in
        let o = in_listed (suc k) rows g j in
        let e : k ≡ suc k + o.0 = (tells k (suc k + o.0) m.it o.1 (sym m.is ∙ o.2)).0 in
        absurd (omega (arith, e)))

abbrev link_of : ℕ → ℕ × ℕ → Fact
link_of c p = Link c p.0 p.1

abbrev below_of : ℕ → ℕ → Fact
below_of c d = Below c d

all_facts : TableState → List Fact
all_facts t = listed below_of 0 t.below ++ listed link_of 0 t.links

below_tells : (j k a b : ℕ) → below_of j a ≡ below_of k b → (j ≡ k) × (a ≡ b)
below_tells j k a b e = (cc, cc)

link_tells : (j k : ℕ) (a b : ℕ × ℕ) → link_of j a ≡ link_of k b → (j ≡ k) × (a ≡ b)
link_tells j k a b e =
    let first : a.0 ≡ b.0 = cc in
    let second : a.1 ≡ b.1 = cc in (cc, same_pair a b first second)
  where
    same_pair : (x y : ℕ × ℕ) → x.0 ≡ y.0 → x.1 ≡ y.1 → x ≡ y
    same_pair x y p q = λ i. (p i, q i)

facts_have : (t : TableState) (g : Fact) → In g (all_facts t) → Has t g
unfolding all_facts
facts_have t g i = elim (in_parts (listed below_of 0 t.below) i) [
  | inl j ↦
      let m = in_listed below_of 0 t.below g j in
      let e : 0 + m.0 ≡ m.0 = omega arith in
      subst (Has t) (sym (m.2 ∙ ap (λ n. Below n m.1) e)) m.3
  | inr j ↦
      let m = in_listed link_of 0 t.links g j in
      let e : 0 + m.0 ≡ m.0 = omega arith in
      subst (Has t) (sym (m.2 ∙ ap (λ n. Link n m.1.0 m.1.1) e)) m.3
]

have_facts : (t : TableState) (g : Fact) → Has t g → In g (all_facts t)
unfolding all_facts
have_facts t (Below c d) h = let e : 0 + c ≡ c = omega arith in in_left (listed link_of 0 t.links) (subst (λ n. In (Below n d) (listed below_of 0 t.below)) e (listed_in below_of 0 t.below c d h))
have_facts t (Link c r d) h = let e : 0 + c ≡ c = omega arith in in_right (listed below_of 0 t.below) (subst (λ n. In (Link n r d) (listed link_of 0 t.links)) e (listed_in link_of 0 t.links c (r, d) h))

facts_long : (t : TableState) → length (all_facts t) ≡ size t
unfolding all_facts
facts_long t =
    let a = listed_long below_of 0 t.below in
    let b = listed_long link_of 0 t.links in
    let c = length_append below_of (listed below_of 0 t.below) (listed link_of 0 t.links) in
    omega (arith, a, b, c)

facts_once : (t : TableState) → HasOnce t → NoRepeats (all_facts t)
unfolding all_facts
facts_once t once = repeats_append (listed_once below_of below_tells 0 t.below once.below) (listed_once link_of link_tells 0 t.links once.links) (λ g i j.
    let a = in_listed below_of 0 t.below g i in
    let b = in_listed link_of 0 t.links g j in
    let e : Below (0 + a.0) a.1 ≡ Link (0 + b.0) b.1.0 b.1.1 = sym a.2 ∙ b.2 in
    absurd cc)

-- ---- as facts over expressions

map_apart : {A B : Type 0} (f : A → B) {xs : List A} → NoRepeats xs → ((x y : A) → In x xs → In y xs → f x ≡ f y → x ≡ y) → NoRepeats (map f xs)
map_apart f none h = none
map_apart f (more {x} {xs} n r) h = more
    (λ i. let m = from_map f xs i in n (subst (λ y. In y xs) (sym (h x m.it here (there m.inside) m.is)) m.inside))
    (map_apart f r (λ a b i j e. h a b (there i) (there j) e))

module _ (view : ElView) (part : NumberedPart) (n : Numbering) (is : IsNumbered view part n) where
  exprs_once : (t : TableState) → ((g : Fact) → Has t g → numbers_rules.Derived part g) → HasOnce t → NoRepeats (map (fact_at n) (all_facts t))
  exprs_once t derived once = map_apart (fact_at n) (facts_once t once) (λ g h i j e.
      apart view part n is g h (range view part n is g (derived g (facts_have t g i))) (range view part n is h (derived h (facts_have t h j))) e)

  exprs_long : (t : TableState) → length (map (fact_at n) (all_facts t)) ≡ size t
  exprs_long t = length_map below_of (fact_at n) (all_facts t) ∙ facts_long t

  exprs_derived : (t : TableState) → ((g : Fact) → Has t g → numbers_rules.Derived part g) → (fact : ElFact) → In fact (map (fact_at n) (all_facts t)) → Derived view fact
  exprs_derived t derived fact i =
      let m = from_map (fact_at n) (all_facts t) i in
      subst (Derived view) (sym m.is) (over view part n is (derived m.it (facts_have t m.it m.inside)))

  pub counted : (limit : ℕ) (t : TableState) → IsSaturated part limit t → IsNumberOfFacts view (size t)
  counted limit t s = record {
    facts = map (fact_at n) (all_facts t);
    once = exprs_once t s.sound s.once;
    derived = λ fact. (
      exprs_derived t s.sound fact,
      λ d.
          let g = numbers_found view part n is fact d in
          subst (λ x. In x (map (fact_at n) (all_facts t))) g.2 (in_map (fact_at n) (have_facts t g.0 (s.complete g.0 g.3))),
    );
    are = exprs_long t;
  }

  pub are_more : (limit : ℕ) → IsMore part limit → AreMore view limit
  are_more limit m = record {
    facts = map (fact_at n) (all_facts m.table);
    once = exprs_once m.table m.derived m.once;
    derived = exprs_derived m.table m.derived;
    more = let l = m.more in let e = exprs_long m.table in omega (arith, l, e);
  }

pub exclude : AnswersExclude
exclude part limit count number few many =
    let l = fits many.once number.facts (λ g i. (number.derived g).1 (many.derived g i)) in
    let e = number.are in
    let m = many.more in omega (arith, l, e, few, m)

-- ---- what a table says

-- the role of a number that was found, and the number of a role
first_place : (r : List ℕ) (keys : List (List ℕ)) → position_or_len (same_iri r) keys < length keys → slice_get keys (position_or_len (same_iri r) keys) ≡ Some r
first_place r [] l = absurd (omega (arith, l))
first_place r (k ∷ keys) l = by_bool (same_iri r k)
    (λ (t : same_iri r k ≡ true). rw t (ap Some (sym (iri_tells r k t))))
    (λ (f : same_iri r k ≡ false). rw f (later (position_or_len (same_iri r) keys) (first_place r keys) (rw f at l)))
  where
    later : (m : ℕ) → (m < length keys → slice_get keys m ≡ Some r) → 1 + m < length (k ∷ keys) → slice_get (k ∷ keys) (1 + m) ≡ Some r
    later m h l = let e : suc m ≡ 1 + m = omega arith in subst (λ x. slice_get (k ∷ keys) x ≡ Some r) e (h (omega (arith, l)))

position_found : (r : List ℕ) (keys : List (List ℕ)) (k : ℕ) → position (same_iri r) keys ≡ Some k → slice_get keys k ≡ Some r
position_found r keys k h = by_bool (nat_lt (position_or_len (same_iri r) keys) (length keys))
    (λ (t : nat_lt (position_or_len (same_iri r) keys) (length keys) ≡ true).
    let e : Some (position_or_len (same_iri r) keys) ≡ Some k = sym (ap (λ b. cond b (Some (position_or_len (same_iri r) keys)) None) t) ∙ h in
    let is : position_or_len (same_iri r) keys ≡ k = cc in
    subst (λ m. slice_get keys m ≡ Some r) is (first_place r keys (lt_from (position_or_len (same_iri r) keys) (length keys) t)))
    (λ (f : nat_lt (position_or_len (same_iri r) keys) (length keys) ≡ false).
    let e : None ≡ Some k = sym (ap (λ b. cond b (Some (position_or_len (same_iri r) keys)) None) f) ∙ h in
    absurd cc)

position_of : (r : List ℕ) (keys : List (List ℕ)) (k : ℕ) → slice_get keys k ≡ Some r → IsOneToOne keys → position (same_iri r) keys ≡ Some k
position_of r keys k h once =
    let p = place r keys (in_from_get keys k r h) in
    let is : position_or_len (same_iri r) keys ≡ k = once (position_or_len (same_iri r) keys) k r p.1 h in
    ap (λ b. cond b (Some (position_or_len (same_iri r) keys)) None) (lt_to (position_or_len (same_iri r) keys) (length keys) p.0) ∙ ap Some is

module _ (trees : List ClassExpr) (different : AreDifferent trees) (state : PartState) (fits_pool : FitsPool trees state) (small : length state.occurring < 2 ^ 32) (nums : List ℕ) (are : AreNumbers state.occurring (length trees) nums) (roles : List (List ℕ)) (part : NumberedPart) (is : IsNumbered (view_of trees state) part (record { exprs = map (tree_at trees) state.occurring; roles = roles })) (limit : ℕ) (t : TableState) (s : IsSaturated part limit t) where
  abbrev n : Numbering
  n = record { exprs = map (tree_at trees) state.occurring; roles = roles }

  abbrev view : ElView
  view = view_of trees state

  abbrev facts : Facts
  facts = record { numbers = nums; roles = roles; table = t }

  long_exprs : (ns : List Node) → length (map (tree_at trees) ns) ≡ length ns
  long_exprs [] = refl
  long_exprs (m ∷ ns) = ap suc (long_exprs ns)

  -- the expression of a number that a node has
  reads : (a : Node) (c : ℕ) → a.place < length trees → slice_get nums a.place ≡ Some c → c < length n.exprs → expr_at n c ≡ tree_at trees a
  reads a c la h l =
      let e = long_exprs state.occurring in
      let m = are.only a.place c h (omega (arith, l, e, small)) in
      get_or_from_slice_get n.exprs c (tree_at trees a) expr.Thing (map_at state.occurring c m.0 m.1 ∙ ap (λ p. Some (get_or trees p expr.Thing)) m.2)
    where
      map_at : (ns : List Node) (k : ℕ) (m : Node) → slice_get ns k ≡ Some m → slice_get (map (tree_at trees) ns) k ≡ Some (tree_at trees m)
      map_at [] k m h = absurd cc
      map_at (x ∷ ns) zero m h = let e : x ≡ m = cc in ap (λ y. Some (tree_at trees y)) e
      map_at (x ∷ ns) (suc k) m h = map_at ns k m h

  -- the number of a node whose tree occurs
  number_is : (a : Node) (c : ℕ) (x : ClassExpr) → a.place < length trees → slice_get n.exprs c ≡ Some x → x ≡ tree_at trees a → slice_get nums a.place ≡ Some c
  number_is a c x la h e =
      let m = get_map (tree_at trees) state.occurring c x h in
      let at_m : IsNodeOf trees m.0 x = slice_get-get_or trees m.0.place expr.Thing (fits_pool.within m.0 (in_from_get state.occurring c m.0 m.1)) ∙ ap Some m.2 in
      let at_a : IsNodeOf trees a x = slice_get-get_or trees a.place expr.Thing la ∙ ap Some (sym e) in
      let same : m.0.place ≡ a.place = different m.0.place a.place x at_m at_a in
      ap (slice_get nums) (sym same) ∙ are.number c m.0 m.1

  below_says : (a b : Node) → a.place < length trees → b.place < length trees → SaysBelow facts a b → Derived view (IsBelow (tree_at trees a) (tree_at trees b))
  below_says a b la lb says =
      let d = s.sound (Below says.0 says.1) says.4 in
      let r = range view part n is (Below says.0 says.1) d in
      subst (Derived view) (λ i. IsBelow (reads a says.0 la says.2 r.0 i) (reads b says.1 lb says.3 r.1 i)) (over view part n is d)

  says_below : (a b : Node) → a.place < length trees → b.place < length trees → Derived view (IsBelow (tree_at trees a) (tree_at trees b)) → SaysBelow facts a b
  says_below a b la lb d =
      let f = found_at view part n is d in (
        f.low_number,
        f.high_number,
        number_is a f.low_number (tree_at trees a) la f.is_low refl,
        number_is b f.high_number (tree_at trees b) lb f.is_high refl,
        s.complete (Below f.low_number f.high_number) f.derived,
      )

  link_says : (a : Node) (r : List ℕ) (b : Node) → a.place < length trees → b.place < length trees → SaysLink facts a r b → Derived view (HasLink (tree_at trees a) r (tree_at trees b))
  link_says a r b la lb says =
      let d = s.sound (Link says.0 says.1 says.2) says.6 in
      let w = range view part n is (Link says.0 says.1 says.2) d in
      subst (Derived view) (λ i. HasLink (reads a says.0 la says.3 w.0 i) (role_reads i) (reads b says.2 lb says.5 w.2 i)) (over view part n is d)
    where
      role_reads : role_at n says.1 ≡ r
      role_reads = get_or_from_slice_get roles says.1 r [] (position_found r roles says.1 says.4)

  says_link : (a : Node) (r : List ℕ) (b : Node) → a.place < length trees → b.place < length trees → Derived view (HasLink (tree_at trees a) r (tree_at trees b)) → SaysLink facts a r b
  says_link a r b la lb d =
      let f = found_at view part n is d in (
        f.start_number,
        f.role_number,
        f.end_number,
        number_is a f.start_number (tree_at trees a) la f.is_start refl,
        position_of r roles f.role_number f.is_role (λ i j x g h. is.roles_once i j x g h),
        number_is b f.end_number (tree_at trees b) lb f.is_end refl,
        s.complete (Link f.start_number f.role_number f.end_number) f.derived,
      )

  pub is_table : IsTableOf trees view limit (size t) facts
  is_table = record {
    below = λ a b la lb. (below_says a b la lb, says_below a b la lb);
    link = λ a r b la lb. (link_says a r b la lb, says_link a r b la lb);
    counted = counted view part n is limit t s;
    few = s.few;
  }
