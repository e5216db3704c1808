-- A turn keeps what holds while nodes are renewed; where none is due, each node has the verdict of its tree.
use Rattle.std.proofs.Common.{◌≡◌, ℕ, zero, suc, ◌+◌, ◌<◌, ◌≤◌, ◌⊎◌, ◌||◌, Bool, true, false, if◌then◌else◌, List, [], ◌∷◌, ◌++◌, Option, None, Some, inl, inr, get_or, length, map, slice_get, slice_set, refl, sym, ap, subst, ◌∙◌, arith, true≢false}
use Rattle.std.specs.List.{list_any}
use Rattle.std.proofs.lemmas.Option.{get_or_from_slice_get, slice_get-get_or, slice_get_within}
use Rattle.fact_rows.specs.Member.{In, here}
use Rattle.fact_rows.proofs.Members.{any_in, by_bool, in_any, in_cons, in_left, in_none, in_right}
use Rattle.name_lists.proofs.NamedLemmas.{names_tell}
use Rattle.name_lists.specs.Lists.{HasNumber, NamedState, place_of, same_name}
use Rattle.expr_pool.proofs.Lists.{map_get, some_is}
use Rattle.expr_pool.specs.Laws.{PartsHaveNodes}
use Rattle.expr_pool.specs.Part.{deeper, itself, parts_of, layer_parts}
use Rattle.expr_pool.specs.Pool.{AreDifferent}
use Rattle.owl_axioms.proofs.Same.{same_expr-true}
use Rattle.owl_axioms.specs.Names.{Scope}
use Rattle.owl_axioms.specs.contracts.expr.ClassExprEq.TheImpl.Laws as expr_laws
use Rattle.owl_axioms.specs.contracts.expr.ClassExprPartialEq.TheImpl as expr_eq
use Rattle.owl_axioms.specs.declared.expr.ClassExpr.{ClassExpr, out-ClassExpr, size-ClassExpr}
use Rattle.owl_axioms.specs.declared.expr.ClassExpr.TheFolds.{map-ClassExpr}
use Rattle.owl_axioms.specs.declared.expr.ClassExpr.TheVariants as expr
use Rattle.owl_axioms.specs.declared.name.Name.{Name}
use Rattle.owl_sem.specs.Laws.{Within}
use Rattle.locality_tables.proofs.Monotone.{Stays, stays_self, stays_then}
use Rattle.locality_tables.specs.Verdict.{verdict, verdict_step}
use Rattle.locality_tables.specs.declared.fills.ClassFill.{ClassFill}
use Rattle.locality_tables.specs.declared.fills.RoleFill.{RoleFill}
use Rattle.locality_tables.specs.declared.finding.Finding.{Finding}
use Rattle.locality_tables.specs.declared.finding.Finding.TheVariants.{Empty, Full, Unknown}
use Rattle.locality_core.proofs.Falling.{layer_agree, part_smaller, step_same, step_stays, top_mapped}
use Rattle.locality_core.proofs.Layers.{verdict_at}
use Rattle.locality_core.specs.Verdicts.{IsWithName, is_named, top_name, top_name_of}
use Rattle.locality_core.specs.inner.Renewal.{IsDue, IsRenewing, IsTurn, LeadUp, Reads, is_unknown, known_at, known_count, next_at, place_in, reading}

abbrev same_expr : ClassExpr → ClassExpr → Bool
same_expr = expr_eq.ghosts.eq

expr_itself : (t : ClassExpr) → same_expr t t ≡ true
expr_itself t = expr_laws.laws-law.refl t

none_some : {X P : Type 0} (x : X) → None ≡ Some x → P
none_some x h = absurd cc

-- ---- the place of a tree

first_of : (ts : List ClassExpr) (x t : ClassExpr) → x ≡ t → same_expr t x ≡ false → ⊥
first_of ts x t is e = true≢false (sym (subst (λ y. same_expr t y ≡ true) (sym is) (expr_itself t)) ∙ e)

found_by : (ts : List ClassExpr) (x t : ClassExpr) → (same_expr t x ≡ false → slice_get ts (place_in t ts) ≡ Some t) → slice_get (x ∷ ts) (place_in t (x ∷ ts)) ≡ Some t
found_by ts x t later = by_bool (same_expr t x)
    (λ (e : same_expr t x ≡ true). subst (λ b. slice_get (x ∷ ts) (if b then 0 else suc (place_in t ts)) ≡ Some t) (sym e) (ap Some (sym (same_expr-true t x e))))
    (λ (e : same_expr t x ≡ false). subst (λ b. slice_get (x ∷ ts) (if b then 0 else suc (place_in t ts)) ≡ Some t) (sym e) (later e))

placed : (ts : List ClassExpr) (i : ℕ) (t : ClassExpr) → slice_get ts i ≡ Some t → slice_get ts (place_in t ts) ≡ Some t
placed [] i t h = none_some t h
placed (x ∷ ts) zero t h = found_by ts x t (λ e. absurd (first_of ts x t (some_is h) e))
placed (x ∷ ts) (suc i) t h = found_by ts x t (λ e. placed ts i t h)

pub place_is : (ts : List ClassExpr) → AreDifferent ts → (i : ℕ) (t : ClassExpr) → slice_get ts i ≡ Some t → place_in t ts ≡ i
place_is ts different i t h = different (place_in t ts) i t (placed ts i t h) h

pub reading_is : (ts : List ClassExpr) → AreDifferent ts → (found : List Finding) (i : ℕ) (t : ClassExpr) → slice_get ts i ≡ Some t → reading ts found t ≡ known_at found i
reading_is ts different found i t h = ap (known_at found) (place_is ts different i t h)

pub reads : (ts : List ClassExpr) → AreDifferent ts → (found : List Finding) → Reads ts found (reading ts found)
reads ts different found j p h l = slice_get-get_or found j Unknown l ∙ ap Some (sym (reading_is ts different found j p h))

-- ---- one finding that sinks

pub unknown_is : (f : Finding) → is_unknown f ≡ true → f ≡ Unknown
unknown_is Unknown h = refl
unknown_is Empty h = absurd (true≢false (sym h))
unknown_is Full h = absurd (true≢false (sym h))

to_stays : (c d : Finding) → (is_unknown c ≡ false → d ≡ c) → Stays c d
to_stays Unknown d h = tt
to_stays Empty d h = h refl
to_stays Full d h = h refl

from_stays : (c d : Finding) → Stays c d → is_unknown c ≡ false → d ≡ c
from_stays Unknown d s h = absurd (true≢false h)
from_stays Empty d s h = s
from_stays Full d s h = s

below_unknown : (c : Finding) → Stays c Unknown → c ≡ Unknown
below_unknown Unknown s = refl
below_unknown Empty s = sym s
below_unknown Full s = sym s

set_below : (found : List Finding) (at j : ℕ) → Stays (known_at (slice_set found at Unknown) j) (known_at found j)
set_below [] at j = stays_self Unknown
set_below (f ∷ found) zero zero = tt
set_below (f ∷ found) zero (suc j) = stays_self (known_at found j)
set_below (f ∷ found) (suc at) zero = stays_self f
set_below (f ∷ found) (suc at) (suc j) = set_below found at j

set_stays : (found : List Finding) (at i : ℕ) (c : Finding) → Stays c (known_at found i) → (i ≡ at → c ≡ Unknown) → Stays c (known_at (slice_set found at Unknown) i)
set_stays [] at i c s h = s
set_stays (f ∷ found) zero zero c s h = subst (λ x. Stays x Unknown) (sym (h refl)) tt
set_stays (f ∷ found) zero (suc i) c s h = s
set_stays (f ∷ found) (suc at) zero c s h = s
set_stays (f ∷ found) (suc at) (suc i) c s h = set_stays found at i c s (λ e. h (ap suc e))

set_here : (found : List Finding) (at : ℕ) → known_at (slice_set found at Unknown) at ≡ Unknown
set_here [] zero = refl
set_here [] (suc at) = refl
set_here (f ∷ found) zero = refl
set_here (f ∷ found) (suc at) = set_here found at

set_apart : (found : List Finding) (at i : ℕ) → (i ≡ at → ⊥) → known_at (slice_set found at Unknown) i ≡ known_at found i
set_apart [] at i h = refl
set_apart (f ∷ found) zero zero h = absurd (h refl)
set_apart (f ∷ found) zero (suc i) h = refl
set_apart (f ∷ found) (suc at) zero h = refl
set_apart (f ∷ found) (suc at) (suc i) h = set_apart found at i (λ e. h (ap suc e))

pub long_sunk : (found : List Finding) (at : ℕ) → length (slice_set found at Unknown) ≡ length found
long_sunk [] at = refl
long_sunk (f ∷ found) zero = refl
long_sunk (f ∷ found) (suc at) = ap suc (long_sunk found at)

pub count_sunk : (found : List Finding) (at : ℕ) → is_unknown (known_at found at) ≡ false → known_count (slice_set found at Unknown) + 1 ≡ known_count found
count_sunk [] at h = absurd (true≢false h)
count_sunk (Empty ∷ found) zero h = omega arith
count_sunk (Full ∷ found) zero h = omega arith
count_sunk (Unknown ∷ found) zero h = absurd (true≢false h)
count_sunk (f ∷ found) (suc at) h = let e = count_sunk found at h in omega (arith, e)

pub known_most : (found : List Finding) → known_count found ≤ length found
known_most [] = omega arith
known_most (Empty ∷ found) = let e = known_most found in omega (arith, e)
known_most (Full ∷ found) = let e = known_most found in omega (arith, e)
known_most (Unknown ∷ found) = let e = known_most found in omega (arith, e)

by_place : {P : Type 0} (i at : ℕ) → (i ≡ at → P) → ((i ≡ at → ⊥) → P) → P
by_place zero zero is isnt = is refl
by_place zero (suc at) is isnt = isnt (λ e. omega (arith, e))
by_place (suc i) zero is isnt = isnt (λ e. omega (arith, e))
by_place (suc i) (suc at) is isnt = by_place i at (λ e. is (ap suc e)) (λ h. isnt (λ e. h (let k : i ≡ at = omega (arith, e) in k)))

module _ (classes : ClassFill) (roles : RoleFill) (inside : Scope) (ts : List ClassExpr) (different : AreDifferent ts) where
  abbrev next : List Finding → ℕ → Finding
  next = next_at classes roles inside ts

  abbrev tree : ℕ → ClassExpr
  tree i = get_or ts i expr.Thing

  same_scope : Within inside inside
  same_scope k a h = h

  next_falls : (found : List Finding) (at i : ℕ) → Stays (next (slice_set found at Unknown) i) (next found i)
  unfolding next_at
  next_falls found at i = step_stays classes roles inside inside same_scope (reading ts (slice_set found at Unknown)) (reading ts found) (λ c. set_below found at (place_in c ts)) (out-ClassExpr (tree i))

  -- a node without the part that sank
  next_apart : (found : List Finding) (at i : ℕ) (p : ClassExpr) → slice_get ts at ≡ Some p → i < length ts → PartsHaveNodes ts → (In p (parts_of (tree i)) → ⊥) → next (slice_set found at Unknown) i ≡ next found i
  unfolding next_at parts_of
  next_apart found at i p own_is l have h =
      ap (verdict_step classes roles inside) (layer_agree (reading ts (slice_set found at Unknown)) (reading ts found) (out-ClassExpr (tree i)) (λ c is.
      set_apart found at (place_in c ts) (λ e.
      let there : (j : ℕ) × (j ≤ i) × (slice_get ts j ≡ Some c) = have i (tree i) (slice_get-get_or ts i expr.Thing l) c (deeper itself is) in
      let own : slice_get ts at ≡ Some c = subst (λ k. slice_get ts k ≡ Some c) e (placed ts there.0 c there.2) in
      h (subst (λ q. In q (layer_parts (out-ClassExpr (tree i)))) (some_is (sym own ∙ own_is)) is))))

  module _ (wholes : List (List ℕ)) (up : LeadUp ts wholes) (have : PartsHaveNodes ts) (at : ℕ) (within : at < length ts) (rest : List ℕ) (found : List Finding) (waiting : List ℕ)
      (r : IsRenewing classes roles inside ts wholes (at ∷ rest) found waiting) where
    -- it stays
    stayed : ((known_at found at ≡ Unknown) ⊎ (is_unknown (next found at) ≡ false)) → IsRenewing classes roles inside ts wholes rest found waiting
    stayed why = record {
      long = r.long;
      sinks = r.sinks;
      settled = λ i l. elim (r.settled i l) [
        | inl e ↦ inl e
        | inr (inr d) ↦ inr (inr d)
        | inr (inl k) ↦ elim (in_cons k) [
          | inl e ↦ inl (subst (λ j. next found j ≡ known_at found j) (sym e) here_is)
          | inr z ↦ inr (inl z)
        ]
      ];
    }
      where
        by : ((known_at found at ≡ Unknown) ⊎ (is_unknown (next found at) ≡ false)) → next found at ≡ known_at found at
        by (inr k) = sym (r.sinks at within k)
        by (inl u) = below_unknown (next found at) (subst (Stays (next found at)) u (to_stays (next found at) (known_at found at) (r.sinks at within))) ∙ sym u

        here_is : next found at ≡ known_at found at
        here_is = by why

    -- it sinks
    abbrev sunk : List Finding
    sunk = slice_set found at Unknown

    module _ (low : next found at ≡ Unknown) where
      sinks : (i : ℕ) → i < length ts → Stays (next sunk i) (known_at sunk i)
      sinks i l =
          set_stays found at i (next sunk i) (stays_then (next sunk i) (next found i) (known_at found i) (next_falls found at i) (to_stays (next found i) (known_at found i) (r.sinks i l)))
          (λ e. below_unknown (next sunk i) (subst (Stays (next sunk i)) (ap (next found) e ∙ low) (next_falls found at i)))

      here_low : next sunk at ≡ known_at sunk at
      here_low = below_unknown (next sunk at) (subst (Stays (next sunk at)) (set_here found at) (sinks at within)) ∙ sym (set_here found at)

      abbrev Due : ℕ → Type 0
      Due i = IsDue wholes rest (waiting ++ at ∷ []) i

      above : (i : ℕ) → i < length ts → (i ≡ at → ⊥) → next found i ≡ known_at found i → (next sunk i ≡ known_at sunk i) ⊎ Due i
      above i l apart e = by_bool (list_any (same_expr (tree at)) (parts_of (tree i)))
          (λ (t : list_any (same_expr (tree at)) (parts_of (tree i)) ≡ true).
          let is : In (tree at) (parts_of (tree i)) = in_any same_expr same_expr-true expr_itself (tree at) (parts_of (tree i)) t in
          inr (inr (at, in_right waiting here, up i at (tree i) (tree at) (slice_get-get_or ts i expr.Thing l) (slice_get-get_or ts at expr.Thing within) is)))
          (λ (t : list_any (same_expr (tree at)) (parts_of (tree i)) ≡ false).
          inl (next_apart found at i (tree at) (slice_get-get_or ts at expr.Thing within) l have (λ is. absurd (true≢false (sym (any_in same_expr same_expr-true expr_itself (tree at) is) ∙ t))) ∙ e ∙ sym (set_apart found at i apart)))

      due_more : (i : ℕ) → IsDue wholes rest waiting i → Due i
      due_more i (inl k) = inl k
      due_more i (inr (d, w, k)) = inr (d, in_left (at ∷ []) w, k)

      settled_at : (i : ℕ) → i < length ts → (next found i ≡ known_at found i) ⊎ IsDue wholes (at ∷ rest) waiting i → (next sunk i ≡ known_at sunk i) ⊎ Due i
      settled_at i l s = by_place i at
          (λ e. inl (subst (λ j. next sunk j ≡ known_at sunk j) (sym e) here_low))
          (λ apart. elim s [
            | inl e ↦ above i l apart e
            | inr (inr d) ↦ inr (due_more i (inr d))
            | inr (inl k) ↦ elim (in_cons k) [
              | inl e ↦ absurd (apart e)
              | inr z ↦ inr (due_more i (inl z))
            ]
          ])

      sank : IsRenewing classes roles inside ts wholes rest sunk (waiting ++ at ∷ [])
      sank = record {
        long = long_sunk found at ∙ r.long;
        sinks = λ i l. from_stays (next sunk i) (known_at sunk i) (sinks i l);
        settled = λ i l. settled_at i l (r.settled i l);
      }

    pub one_turn : (found' : List Finding) (waiting' : List ℕ) (b : Bool) → IsTurn classes roles inside ts at found waiting found' waiting' b → IsRenewing classes roles inside ts wholes rest found' waiting'
    one_turn found' waiting' true (known, low, f, w) = subst (λ fs. IsRenewing classes roles inside ts wholes rest fs waiting') (sym f) (subst (λ ws. IsRenewing classes roles inside ts wholes rest sunk ws) (sym w) (sank low))
    one_turn found' waiting' false (why, f, w) = subst (λ fs. IsRenewing classes roles inside ts wholes rest fs waiting') (sym f) (subst (λ ws. IsRenewing classes roles inside ts wholes rest found ws) (sym w) (stayed why))

-- ---- the nodes that have a name

pub no_users : {P : Type 0} (uses : NamedState) (name : Name) (i : ℕ) → place_of uses name ≡ None → HasNumber uses name i → P
no_users uses name i none (s, at, h) = none_some s (sym none ∙ at)

pub some_users : (uses : NamedState) (name : Name) (i at : ℕ) → place_of uses name ≡ Some at → HasNumber uses name i → In i (get_or uses.lists at [])
some_users uses name i at here_is (s, there_is, h) = subst (λ k. In i (get_or uses.lists k [])) (some_is (sym there_is ∙ here_is)) h

-- ---- the beginning: a name more

known_map : (v : ClassExpr → Finding) (ts : List ClassExpr) (i : ℕ) (t : ClassExpr) → slice_get ts i ≡ Some t → known_at (map v ts) i ≡ v t
known_map v ts i t h = get_or_from_slice_get (map v ts) i (v t) Unknown (map_get v ts i t h)

module _ (classes : ClassFill) (roles : RoleFill) (before inside : Scope) (name : Name) (more : IsWithName before inside name) (ts : List ClassExpr) (different : AreDifferent ts) (have : PartsHaveNodes ts)
    (found : List Finding) (stands : found ≡ map (verdict classes roles before) ts) where
  abbrev v : ClassExpr → Finding
  v = verdict classes roles before

  abbrev tree_of_place : ℕ → ClassExpr
  tree_of_place i = get_or ts i expr.Thing

  wider : Within before inside
  wider k a h = more k a ∙ ap (λ b. b || is_named name k a) h

  known_is : (i : ℕ) (t : ClassExpr) → slice_get ts i ≡ Some t → known_at found i ≡ v t
  known_is i t h = ap (λ fs. known_at fs i) stands ∙ known_map v ts i t h

  read_is : (i : ℕ) (t p : ClassExpr) → slice_get ts i ≡ Some t → In p (parts_of t) → reading ts found p ≡ v p
  read_is i t p h is = let r : (j : ℕ) × (j ≤ i) × (slice_get ts j ≡ Some p) = have i t h p (deeper itself is) in reading_is ts different found r.0 p r.2 ∙ known_is r.0 p r.2

  begins : (i : ℕ) → i < length ts → next_at classes roles inside ts found i ≡ verdict_step classes roles inside (map-ClassExpr _ _ v (out-ClassExpr (tree_of_place i)))
  unfolding next_at parts_of
  begins i l = ap (verdict_step classes roles inside) (layer_agree (reading ts found) v (out-ClassExpr (tree_of_place i)) (λ c is. read_is i (tree_of_place i) c (slice_get-get_or ts i expr.Thing l) is))

  was : (i : ℕ) → i < length ts → known_at found i ≡ verdict_step classes roles before (map-ClassExpr _ _ v (out-ClassExpr (tree_of_place i)))
  was i l = known_is i (tree_of_place i) (slice_get-get_or ts i expr.Thing l) ∙ verdict_at classes roles before (tree_of_place i) (out-ClassExpr (tree_of_place i)) refl

  sinks_first : (i : ℕ) → i < length ts → Stays (next_at classes roles inside ts found i) (known_at found i)
  sinks_first i l =
      subst (λ x. Stays x (known_at found i)) (sym (begins i l))
      (subst (Stays (verdict_step classes roles inside (map-ClassExpr _ _ v (out-ClassExpr (tree_of_place i))))) (sym (was i l))
      (step_stays classes roles before inside wider v v (λ c. stays_self (v c)) (out-ClassExpr (tree_of_place i))))

  tops : Option Name → Bool
  tops None = false
  tops (Some m) = same_name name m

  tops_is : (o : Option Name) → tops o ≡ true → o ≡ Some name
  unfolding tops
  tops_is None h = absurd (true≢false (sym h))
  tops_is (Some m) h = ap Some (sym (names_tell name m h))

  same_told : (o : Option Name) → tops o ≡ false → (n : Name) → o ≡ Some n → inside n.kind n.iri ≡ before n.kind n.iri
  unfolding tops
  same_told o h n e =
      let apart : is_named name n.kind n.iri ≡ false = sym (ap tops e) ∙ h in
      more n.kind n.iri ∙ ap (λ b. before n.kind n.iri || b) apart ∙ or_none (before n.kind n.iri)
    where
      or_none : (b : Bool) → (b || false) ≡ b
      or_none true = refl
      or_none false = refl

  same_row : (i : ℕ) → i < length ts → tops (top_name (tree_of_place i)) ≡ false → next_at classes roles inside ts found i ≡ known_at found i
  unfolding top_name
  same_row i l h =
      let x = out-ClassExpr (tree_of_place i) in
      begins i l ∙ step_same classes roles inside before (map-ClassExpr _ _ v x) (λ n e. same_told (top_name_of x) h n (sym (top_mapped v x) ∙ e)) ∙ sym (was i l)

  pub starts_with : (wholes : List (List ℕ)) (rest : List ℕ) → ((i : ℕ) (t : ClassExpr) → slice_get ts i ≡ Some t → top_name t ≡ Some name → In i rest) → length found ≡ length ts
      → IsRenewing classes roles inside ts wholes rest found []
  starts_with wholes rest all long = record {
    long = long;
    sinks = λ i l. from_stays (next_at classes roles inside ts found i) (known_at found i) (sinks_first i l);
    settled = λ i l. by_bool (tops (top_name (tree_of_place i)))
        (λ (t : tops (top_name (tree_of_place i)) ≡ true). inr (inl (all i (tree_of_place i) (slice_get-get_or ts i expr.Thing l) (tops_is (top_name (tree_of_place i)) t))))
        (λ (t : tops (top_name (tree_of_place i)) ≡ false). inl (same_row i l t));
  }

-- ---- the end: none is due

same_lists : (xs ys : List Finding) → length xs ≡ length ys → ((i : ℕ) → i < length xs → known_at xs i ≡ known_at ys i) → xs ≡ ys
same_lists [] [] l h = refl
same_lists [] (y ∷ ys) l h = absurd (omega (arith, l))
same_lists (x ∷ xs) [] l h = absurd (omega (arith, l))
same_lists (x ∷ xs) (y ∷ ys) l h = let first : x ≡ y = h 0 (omega arith) in let rest = same_lists xs ys (omega (arith, l)) (λ i w. h (suc i) (omega (arith, w))) in λ i. first i ∷ rest i

pub long_map : (v : ClassExpr → Finding) (ts : List ClassExpr) → length (map v ts) ≡ length ts
long_map v [] = refl
long_map v (t ∷ ts) = ap suc (long_map v ts)

module _ (classes : ClassFill) (roles : RoleFill) (inside : Scope) (ts : List ClassExpr) (different : AreDifferent ts) (have : PartsHaveNodes ts) (wholes : List (List ℕ)) (found : List Finding)
    (r : IsRenewing classes roles inside ts wholes [] found []) where
  none_due : (i : ℕ) → (next_at classes roles inside ts found i ≡ known_at found i) ⊎ IsDue wholes [] [] i → next_at classes roles inside ts found i ≡ known_at found i
  none_due i (inl e) = e
  none_due i (inr (inl k)) = in_none k
  none_due i (inr (inr (d, w, k))) = in_none w

  correct : (k : ℕ) (t : ClassExpr) → size-ClassExpr t < k → (i : ℕ) → slice_get ts i ≡ Some t → known_at found i ≡ verdict classes roles inside t
  unfolding next_at parts_of
  correct zero t l i h = absurd (omega (arith, l))
  correct (suc k) t l i h =
      let within : i < length ts = slice_get_within ts i t h in
      let is : get_or ts i expr.Thing ≡ t = get_or_from_slice_get ts i t expr.Thing h in
      sym (none_due i (r.settled i within))
      ∙ ap (λ u. verdict_step classes roles inside (map-ClassExpr _ _ (reading ts found) (out-ClassExpr u))) is
      ∙ ap (verdict_step classes roles inside) (layer_agree (reading ts found) (verdict classes roles inside) (out-ClassExpr t) (λ c m.
      let less = part_smaller t c m in
      let p : (j : ℕ) × (j ≤ i) × (slice_get ts j ≡ Some c) = have i t h c (deeper itself m) in
      reading_is ts different found p.0 c p.2 ∙ correct k c (omega (arith, l, less)) p.0 p.2))
      ∙ sym (verdict_at classes roles inside t (out-ClassExpr t) refl)

  pub all_settled : found ≡ map (verdict classes roles inside) ts
  all_settled = same_lists found (map (verdict classes roles inside) ts) (r.long ∙ sym (long_map (verdict classes roles inside) ts)) (λ i l.
      let within : i < length ts = let e = r.long in omega (arith, l, e) in
      let here_is : slice_get ts i ≡ Some (get_or ts i expr.Thing) = slice_get-get_or ts i expr.Thing within in
      correct (suc (size-ClassExpr (get_or ts i expr.Thing))) (get_or ts i expr.Thing) (omega arith) i here_is ∙ sym (known_map (verdict classes roles inside) ts i (get_or ts i expr.Thing) here_is))
