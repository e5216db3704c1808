-- What a finding says of one element, and how it passes through each constructor.
use Rattle.std.proofs.Common.{◌≡◌, ℕ, zero, suc, ◌<◌, ◌≤◌, Bool, true, false, not, cond, ◌&&◌, ◌||◌, refl, sym, ap, subst, ◌∙◌, arith, ◌==◌, nat_le, le-leb, eqb-true, true≢false}
use Rattle.std.proofs.lemmas.Bool.Decides.{nat_tests}
use Rattle.locality_tables.specs.declared.fills.RoleFill.TheVariants as role
use Rattle.locality_tables.specs.declared.finding.Finding.{Finding}
use Rattle.locality_tables.specs.declared.finding.Finding.TheVariants.{Empty, Full, Unknown}
use Rattle.locality_tables.specs.declared.finding.RoleFinding.{RoleFinding}
use Rattle.locality_tables.specs.declared.finding.RoleFinding.TheVariants.{Inside, Filled}
use Rattle.locality_tables.specs.Verdict.{is_empty, is_full, is_empty_role, is_full_role, is_identity, exchanged, some_finding, all_finding, many_finding, min_finding, max_finding, exact_finding, one_finding}
use Rattle.owl_sem.specs.Interp.{number_of}
use Rattle.locality_tables.specs.Fill.{role_holds}
use Rattle.owl_sem.proofs.Counts.{none_of, some_of, one_of}

-- what a finding says of a test of one element
abbrev pub Says : Finding → Bool → Type 0
Says Empty m = m ≡ false
Says Full m = m ≡ true
Says Unknown m = Unit {0}

pub says_exchanged : (c : Finding) (m : Bool) → Says c m → Says (exchanged c) (not m)
says_exchanged Empty m h = ap not h
says_exchanged Full m h = ap not h
says_exchanged Unknown m h = tt

pub says_if : (t : Bool) (x y : Finding) (m : Bool) → (t ≡ true → Says x m) → (t ≡ false → Says y m) → Says (cond t x y) m
says_if true x y m h k = h refl
says_if false x y m h k = k refl

-- what is known of a role, at the pairs (e, f) below n
abbrev pub Knows : RoleFinding → (ℕ → ℕ → Bool) → ℕ → Type 0
Knows Inside holds n = Unit {0}
Knows (Filled fill) holds n = (e f : ℕ) → e < n → f < n → holds e f ≡ role_holds fill e f

pub and_false : (x y : Bool) → y ≡ false → (x && y) ≡ false
and_false true y h = h
and_false false y h = refl

and_true : (x y : Bool) → x ≡ true → y ≡ true → (x && y) ≡ true
and_true true y g h = h
and_true false y g h = g

pub false_and : (x y : Bool) → x ≡ false → (x && y) ≡ false
false_and true y h = absurd (true≢false h)
false_and false y h = refl

pub empty_from : (c : Finding) → is_empty c ≡ true → c ≡ Empty
empty_from Empty h = refl
empty_from Full h = absurd (true≢false (sym h))
empty_from Unknown h = absurd (true≢false (sym h))

pub full_from : (c : Finding) → is_full c ≡ true → c ≡ Full
full_from Full h = refl
full_from Empty h = absurd (true≢false (sym h))
full_from Unknown h = absurd (true≢false (sym h))

pub and_both : (x y : Bool) → (x && y) ≡ true → (x ≡ true) × (y ≡ true)
and_both true y h = (refl, h)
and_both false y h = absurd (true≢false (sym h))

drop_middle : (x y z : Bool) → y ≡ false → (x || y || z) ≡ true → (x || z) ≡ true
drop_middle true y z q h = refl
drop_middle false true z q h = absurd (true≢false q)
drop_middle false false z q h = h

small : (b : Bool) → cond b 1 0 ≤ 1
small true = omega arith
small false = omega arith

one_exactly : (b : Bool) → (cond b 1 0 == 1) ≡ b
one_exactly true = refl
one_exactly false = refl

lt-leb : (a b : ℕ) → b < a → nat_le a b ≡ false
lt-leb a b h = grind (arith, nat_tests)

apart : (a b : ℕ) → a < b → (a == b) ≡ false
apart a b h = grind (arith, nat_tests)

not_some : (k : ℕ) → not (nat_le 1 k) ≡ nat_le k 0
not_some zero = refl
not_some (suc k) = ap not (le-leb 1 (suc k) (omega arith)) ∙ sym (lt-leb (suc k) 0 (omega arith))

none_is_zero : (k : ℕ) → nat_le k 0 ≡ (k == 0)
none_is_zero zero = refl
none_is_zero (suc k) = lt-leb (suc k) 0 (omega arith) ∙ sym (apart' (suc k) 0 (omega arith))
  where
    apart' : (a b : ℕ) → b < a → (a == b) ≡ false
    apart' a b h = grind (arith, nat_tests)

says_if_exchanged : (t : Bool) (m : Bool) → (t ≡ true → m ≡ true) → Says (exchanged (cond t Empty Unknown)) m
says_if_exchanged true m h = h refl
says_if_exchanged false m h = tt

two_or_more : (k : ℕ) → (k == 0) ≡ false → (k == 1) ≡ false → 2 ≤ k
two_or_more k not_none not_one = grind (arith, nat_tests)

module _ (holds : ℕ → ℕ → Bool) (c : Finding) (m : ℕ → Bool) (n e : ℕ) (in' : e < n) (says : (f : ℕ) → f < n → Says c (m f)) where
  -- how many are reached
  abbrev pub count : ℕ
  count = number_of (λ f. holds e f && m f) n

  pub count_empty : c ≡ Empty → count ≡ 0
  count_empty is = none_of _ n (λ f l. and_false (holds e f) (m f) (subst (λ d. Says d (m f)) is (says f l)))

  pub count_none : (r : RoleFinding) → Knows r holds n → is_empty_role r ≡ true → count ≡ 0
  count_none (Filled role.Empty) k t = none_of _ n (λ f l. false_and (holds e f) (m f) (k e f in' l))
  count_none (Filled role.Full) k t = absurd (true≢false (sym t))
  count_none (Filled role.Identity) k t = absurd (true≢false (sym t))
  count_none Inside k t = absurd (true≢false (sym t))

  pub count_full : (r : RoleFinding) → Knows r holds n → is_full_role r ≡ true → c ≡ Full → 1 ≤ count
  count_full (Filled role.Full) k t is = some_of _ n e in' (and_true (holds e e) (m e) (k e e in' in') (subst (λ d. Says d (m e)) is (says e in')))
  count_full (Filled role.Empty) k t is = absurd (true≢false (sym t))
  count_full (Filled role.Identity) k t is = absurd (true≢false (sym t))
  count_full Inside k t is = absurd (true≢false (sym t))

  pub count_one : (r : RoleFinding) → Knows r holds n → is_identity r ≡ true → count ≡ cond (m e) 1 0
  count_one (Filled role.Identity) k t =
      let same : holds e e ≡ true = k e e in' in' ∙ grind (arith, nat_tests) in
      one_of _ n e in' (λ f l other. let apart : holds e f ≡ false = k e f in' l ∙ grind (arith, nat_tests) in false_and (holds e f) (m f) apart)
      ∙ ap (λ b. cond (b && m e) 1 0) same
  count_one (Filled role.Empty) k t = absurd (true≢false (sym t))
  count_one (Filled role.Full) k t = absurd (true≢false (sym t))
  count_one Inside k t = absurd (true≢false (sym t))

  either_empty : (r : RoleFinding) → Knows r holds n → (is_empty_role r || is_empty c) ≡ true → count ≡ 0
  either_empty r k t = by (is_empty_role r) refl
    where
      by : (b : Bool) → is_empty_role r ≡ b → count ≡ 0
      by true q = count_none r k q
      by false q = count_empty (empty_from c (sym (ap (λ b. b || is_empty c) q) ∙ t))

  one_test : (b : Bool) → nat_le 1 (cond b 1 0) ≡ b
  one_test true = refl
  one_test false = refl

  pub says_some : (r : RoleFinding) → Knows r holds n → Says (some_finding r c) (nat_le 1 count)
  says_some r k =
      says_if (is_empty_role r || is_empty c) _ _ _ (λ t. ap (nat_le 1) (either_empty r k t))
      (λ _. says_if (is_full_role r && is_full c) _ _ _ (λ t. let both = and_both (is_full_role r) (is_full c) t in le-leb 1 _ (count_full r k both.0 (full_from c both.1)))
      (λ _. says_if (is_identity r) _ _ _ (λ t. subst (Says c) (sym (ap (nat_le 1) (count_one r k t) ∙ one_test (m e))) (says e in')) (λ _. tt)))

  -- at most one is reached
  at_most_one : (r : RoleFinding) → Knows r holds n → (is_empty_role r || is_identity r || is_empty c) ≡ true → count ≤ 1
  at_most_one r k t = by (is_identity r) refl
    where
      by : (b : Bool) → is_identity r ≡ b → count ≤ 1
      by true q = rw (count_one r k q) (small (m e))
      by false q = let z : count ≡ 0 = either_empty r k (drop_middle (is_empty_role r) (is_identity r) (is_empty c) q t) in rw z (omega arith)

  pub says_many : (k' : ℕ) (r : RoleFinding) → 2 ≤ k' → Knows r holds n → Says (many_finding r c) (nat_le k' count)
  says_many k' r two k =
      says_if (is_empty_role r || is_identity r || is_empty c) _ _ _ (λ t. let few : count ≤ 1 = at_most_one r k t in lt-leb k' _ (omega arith)) (λ _. tt)

  pub says_min : (k' : ℕ) (r : RoleFinding) → Knows r holds n → Says (min_finding k' r c) (nat_le k' count)
  says_min k' r k =
      says_if (k' == 0) _ _ _ (λ t. let none : k' ≡ 0 = eqb-true k' 0 t in le-leb k' _ (omega arith))
      (λ nz. says_if (k' == 1) _ _ _ (λ t. subst (λ x. Says (some_finding r c) (nat_le x count)) (sym (eqb-true k' 1 t)) (says_some r k))
      (λ other. says_many k' r (two_or_more k' nz other) k))

  pub says_max : (k' : ℕ) (r : RoleFinding) → Knows r holds n → Says (max_finding k' r c) (nat_le count k')
  says_max k' r k =
      says_if (k' == 0) _ _ _ (λ t. subst (λ x. Says (exchanged (some_finding r c)) (nat_le count x)) (sym (eqb-true k' 0 t)) (subst (Says (exchanged (some_finding r c))) (not_some count) (says_exchanged (some_finding r c) _ (says_some r k))))
      (λ nz. says_if_exchanged _ _ (λ t. let few : count ≤ 1 = at_most_one r k t in let one : 1 ≤ k' = grind (arith, nat_tests) in le-leb count k' (omega arith)))

  pub says_exact : (k' : ℕ) (r : RoleFinding) → Knows r holds n → Says (exact_finding k' r c) (count == k')
  says_exact k' r k =
      says_if (k' == 0) _ _ _ (λ t. subst (λ x. Says (exchanged (some_finding r c)) (count == x)) (sym (eqb-true k' 0 t)) (subst (Says (exchanged (some_finding r c))) (not_some count ∙ none_is_zero count) (says_exchanged (some_finding r c) _ (says_some r k))))
      (λ nz. says_if (k' == 1) _ _ _ (λ t. subst (λ x. Says (one_finding r c) (count == x)) (sym (eqb-true k' 1 t)) (says_one r k))
      (λ other. says_if (is_empty_role r || is_identity r || is_empty c) _ _ _ (λ t. let few : count ≤ 1 = at_most_one r k t in let two : 2 ≤ k' = two_or_more k' nz other in apart count k' (omega arith)) (λ _. tt)))
    where
      says_one : (r : RoleFinding) → Knows r holds n → Says (one_finding r c) (count == 1)
      says_one r k =
          says_if (is_empty_role r || is_empty c) _ _ _ (λ t. ap (λ x. x == 1) (either_empty r k t))
          (λ _. says_if (is_identity r) _ _ _ (λ t. subst (Says c) (sym (ap (λ x. x == 1) (count_one r k t) ∙ one_exactly (m e))) (says e in')) (λ _. tt))

all_as_some : (r : RoleFinding) (c : Finding) → all_finding r c ≡ exchanged (some_finding r (exchanged c))
all_as_some Inside Empty = refl
all_as_some Inside Full = refl
all_as_some Inside Unknown = refl
all_as_some (Filled role.Empty) c = refl
all_as_some (Filled role.Full) Empty = refl
all_as_some (Filled role.Full) Full = refl
all_as_some (Filled role.Full) Unknown = refl
all_as_some (Filled role.Identity) Empty = refl
all_as_some (Filled role.Identity) Full = refl
all_as_some (Filled role.Identity) Unknown = refl

pub says_all : (holds : ℕ → ℕ → Bool) (c : Finding) (m : ℕ → Bool) (n e : ℕ) → e < n → ((f : ℕ) → f < n → Says c (m f)) → (r : RoleFinding) → Knows r holds n
    → Says (all_finding r c) (number_of (λ f. holds e f && not (m f)) n == 0)
says_all holds c m n e l says r k =
    let k' = number_of (λ f. holds e f && not (m f)) n in
    subst (λ d. Says d (k' == 0)) (sym (all_as_some r c))
    (subst (Says (exchanged (some_finding r (exchanged c)))) (not_some k' ∙ none_is_zero k')
    (says_exchanged (some_finding r (exchanged c)) _ (says_some holds (exchanged c) (λ f. not (m f)) n e l (λ f fl. says_exchanged c (m f) (says f fl)) r k)))
