-- The plain function gives the module, and nothing else is the module.
use Rattle.std.proofs.Common.{◌≡◌, ℕ, zero, suc, ◌<◌, ◌≤◌, ◌⊎◌, inl, inr, Bool, true, false, not, ◌&&◌, ◌||◌, List, [], ◌∷◌, Some, slice_get, length, map, refl, sym, ap, ◌∙◌, arith, true≢false}
use Rattle.owl_axioms.specs.declared.body.Axiom.{Axiom}
use Rattle.owl_axioms.specs.Names.{Scope}
use Rattle.owl_axioms.proofs.Tests.{both, by_either}
use Rattle.rel_io.proofs.Options.{none_there, same_there}
use Rattle.locality_tables.specs.Local.{is_local}
use Rattle.locality_tables.proofs.Monotone.{tests_stay}
use Rattle.module_extract.specs.Laws.{ModuleIsTold}
use Rattle.module_extract.specs.Least.{grown, module_of, round_of, rounds_of}
use Rattle.module_extract.specs.Module.{Fills, IsClosed, IsModule, IsPart, on_count, seed_and}
use Rattle.module_extract.proofs.Counting.{count_most, whole_or_fewer}
use Rattle.module_extract.proofs.Flags.{by_flag, smaller}

not_true : (b : Bool) → not b ≡ true → b ≡ false
not_true true h = absurd (true≢false (sym h))
not_true false h = refl

grown_length : (t : Axiom → Bool) (axioms : List Axiom) (part kept : List Bool) → length part ≡ length axioms → length kept ≡ length axioms → length (grown t axioms part kept) ≡ length axioms
grown_length t [] part kept l m = refl
grown_length t (a ∷ axioms) [] kept l m = absurd (omega (arith, l))
grown_length t (a ∷ axioms) (p ∷ part) [] l m = absurd (omega (arith, m))
grown_length t (a ∷ axioms) (p ∷ part) (f ∷ kept) l m = let rest = grown_length t axioms part kept (omega (arith, l)) (omega (arith, m)) in omega (arith, rest)

-- what is flagged then was flagged, or is of the part and fails the test
grown_at : (t : Axiom → Bool) (axioms : List Axiom) (part kept : List Bool) (i : ℕ) {P : Type 0} → slice_get (grown t axioms part kept) i ≡ Some true
    → (slice_get kept i ≡ Some true → P) → ((a : Axiom) → slice_get axioms i ≡ Some a → slice_get part i ≡ Some true → t a ≡ false → P) → P
grown_at t [] part kept i h old new = absurd (none_there h)
grown_at t (a ∷ axioms) [] kept i h old new = absurd (none_there h)
grown_at t (a ∷ axioms) (p ∷ part) [] i h old new = absurd (none_there h)
grown_at t (a ∷ axioms) (p ∷ part) (f ∷ kept) zero h old new =
    by_either f _ (same_there h) (λ q. old (ap Some q)) (λ q. let qs = both p _ q in new a refl (ap Some qs.0) (not_true (t a) qs.1))
grown_at t (a ∷ axioms) (p ∷ part) (f ∷ kept) (suc i) h old new = grown_at t axioms part kept i h old new

-- and where nothing is flagged anew, what is of the part and not flagged passes the test
grown_still : (t : Axiom → Bool) (axioms : List Axiom) (part kept : List Bool) → grown t axioms part kept ≡ kept → (i : ℕ) (a : Axiom) → slice_get axioms i ≡ Some a → slice_get part i ≡ Some true → slice_get kept i ≡ Some false → t a ≡ true
grown_still t [] part kept e i a h p k = absurd (none_there h)
grown_still t (b ∷ axioms) [] kept e i a h p k = absurd (none_there p)
grown_still t (b ∷ axioms) (q ∷ part) [] e i a h p k = absurd (none_there k)
grown_still t (b ∷ axioms) (q ∷ part) (f ∷ kept) e zero a h p k =
    let head : (f || (q && not (t b))) ≡ f = same_there (ap (λ xs. slice_get xs 0) e) in
    let off : f ≡ false = same_there k in let on : q ≡ true = same_there p in
    let inner : not (t b) ≡ false = sym (λ j. off j || (on j && not (t b))) ∙ head ∙ off in
    ap t (sym (same_there h)) ∙ not_false (t b) inner
  where
    not_false : (x : Bool) → not x ≡ false → x ≡ true
    not_false true h = refl
    not_false false h = absurd (true≢false h)
grown_still t (b ∷ axioms) (q ∷ part) (f ∷ kept) e (suc i) a h p k = grown_still t axioms part kept (ap rest e) i a h p k
  where
    rest : List Bool → List Bool
    rest [] = []
    rest (x ∷ xs) = xs

grown_keeps : (t : Axiom → Bool) (axioms : List Axiom) (part kept : List Bool) → length part ≡ length axioms → length kept ≡ length axioms → IsPart kept (grown t axioms part kept)
grown_keeps t [] part [] l m i h = absurd (none_there h)
grown_keeps t [] part (f ∷ kept) l m i h = absurd (omega (arith, m))
grown_keeps t (a ∷ axioms) [] kept l m i h = absurd (omega (arith, l))
grown_keeps t (a ∷ axioms) (p ∷ part) [] l m i h = absurd (none_there h)
grown_keeps t (a ∷ axioms) (p ∷ part) (f ∷ kept) l m zero h = ap Some (λ j. same_there h j || (p && not (t a)))
grown_keeps t (a ∷ axioms) (p ∷ part) (f ∷ kept) l m (suc i) h = grown_keeps t axioms part kept (omega (arith, l)) (omega (arith, m)) i h

none_length : (axioms : List Axiom) → length (map (λ a. false) axioms) ≡ length axioms
none_length [] = refl
none_length (a ∷ axioms) = let rest = none_length axioms in omega (arith, rest)

none_on : (axioms : List Axiom) (i : ℕ) {P : Type 0} → slice_get (map (λ a. false) axioms) i ≡ Some true → P
none_on [] i h = absurd (none_there h)
none_on (a ∷ axioms) zero h = absurd (true≢false (sym (same_there h)))
none_on (a ∷ axioms) (suc i) h = none_on axioms i h

-- parts of each other are one
same_part : (one two : List Bool) → length one ≡ length two → IsPart one two → IsPart two one → one ≡ two
same_part one two l p q = by (whole_or_fewer one two l p) (whole_or_fewer two one (sym l) q)
  where
    by : (one ≡ two) ⊎ (on_count one < on_count two) → (two ≡ one) ⊎ (on_count two < on_count one) → one ≡ two
    by (inl e) f = e
    by (inr a) (inl e) = sym e
    by (inr a) (inr b) = absurd (omega (arith, a, b))

module _ (k : Fills) (axioms : List Axiom) (part : List Bool) (seed : Scope) (long : length part ≡ length axioms) where
  abbrev run : ℕ → List Bool
  run n = rounds_of k axioms part seed n

  abbrev test : List Bool → Axiom → Bool
  test kept a = is_local k.classes k.roles (seed_and seed axioms kept) a.body

  run_length : (n : ℕ) → length (run n) ≡ length axioms
  unfolding round_of
  run_length zero = none_length axioms
  run_length (suc n) = grown_length (test (run n)) axioms part (run n) long (run_length n)

  run_part : (n : ℕ) → IsPart (run n) part
  unfolding round_of
  run_part zero i h = none_on axioms i h
  run_part (suc n) i h = grown_at (test (run n)) axioms part (run n) i h (λ o. run_part n i o) (λ a here of' outer. of')

  run_least : (n : ℕ) (other : List Bool) → IsClosed k axioms part seed other → IsPart (run n) other
  unfolding round_of
  run_least zero other closed i h = none_on axioms i h
  run_least (suc n) other closed i h =
      grown_at (test (run n)) axioms part (run n) i h (λ o. run_least n other closed i o)
      (λ a here of' outer. by_flag other axioms a i closed.same_length here (λ q. q)
      (λ q. absurd (true≢false (sym (tests_stay k.classes k.roles (seed_and seed axioms (run n)) (seed_and seed axioms other) (smaller axioms seed (run n) other (run_least n other closed)) a.body (closed.outside i a here of' q)) ∙ outer))))

  abbrev Still : List Bool → Type 0
  Still kept = round_of k axioms part seed kept ≡ kept

  step : (n : ℕ) → (run n ≡ run (suc n)) ⊎ (on_count (run n) < on_count (run (suc n)))
  unfolding round_of
  step n = whole_or_fewer (run n) (run (suc n)) (run_length n ∙ sym (run_length (suc n))) (grown_keeps (test (run n)) axioms part (run n) long (run_length n))

  still_or_many : (n : ℕ) → Still (run n) ⊎ (n ≤ on_count (run n))
  still_or_many zero = inr (omega arith)
  still_or_many (suc n) = by (still_or_many n) (step n)
    where
      by : Still (run n) ⊎ (n ≤ on_count (run n)) → (run n ≡ run (suc n)) ⊎ (on_count (run n) < on_count (run (suc n))) → Still (run (suc n)) ⊎ (suc n ≤ on_count (run (suc n)))
      by (inl e) s = inl (ap (round_of k axioms part seed) e)
      by (inr m) (inl e) = inl (ap (round_of k axioms part seed) (sym e))
      by (inr m) (inr l) = inr (omega (arith, m, l))

  still_at_last : Still (run (length axioms))
  still_at_last = by (still_or_many (length axioms)) (step (length axioms))
    where
      by : Still (run (length axioms)) ⊎ (length axioms ≤ on_count (run (length axioms))) → (run (length axioms) ≡ run (suc (length axioms))) ⊎ (on_count (run (length axioms)) < on_count (run (suc (length axioms)))) → Still (run (length axioms))
      by (inl e) s = e
      by (inr m) (inl e) = sym e
      by (inr m) (inr l) = let most = count_most (run (suc (length axioms))) in let size = run_length (suc (length axioms)) in absurd (omega (arith, m, l, most, size))

  pub is_module : IsModule k axioms part seed (module_of k axioms part seed)
  unfolding module_of round_of
  is_module = record {
    closed = record {
      same_length = run_length (length axioms);
      is_part = run_part (length axioms);
      outside = λ i a here of' off. grown_still (test (run (length axioms))) axioms part (run (length axioms)) still_at_last i a here of' off;
    };
    least = run_least (length axioms);
  }

  pub only_module : (kept : List Bool) → IsModule k axioms part seed kept → kept ≡ module_of k axioms part seed
  only_module kept m = same_part kept (module_of k axioms part seed) (m.closed.same_length ∙ sym is_module.closed.same_length) (m.least (module_of k axioms part seed) is_module.closed) (is_module.least kept m.closed)

pub module_is_told : ModuleIsTold
module_is_told k axioms part seed long = (is_module k axioms part seed long, only_module k axioms part seed long)
