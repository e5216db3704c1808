-- Turns, one by one: what they leave of what is known and what waits.
use Rattle.std.proofs.Common.{◌≡◌, ℕ, zero, suc, ◌+◌, ◌<◌, ◌≤◌, ◌⊎◌, Bool, true, false, List, [], ◌∷◌, ◌++◌, inl, inr, drop, get_or, length, refl, sym, ap, subst, ◌∙◌, arith}
use Rattle.fact_rows.specs.Member.{In, here, there}
use Rattle.fact_rows.proofs.Members.{in_cons, in_left, in_none, in_parts}
use Rattle.name_lists.proofs.ListLemmas.{long_more}
use Rattle.expr_pool.specs.Pool.{AreDifferent, tree_at}
use Rattle.expr_pool.specs.declared.cell.Node.{Node}
use Rattle.owl_axioms.specs.Names.{Scope}
use Rattle.owl_axioms.specs.declared.expr.ClassExpr.{ClassExpr, out-ClassExpr}
use Rattle.owl_axioms.specs.declared.expr.ClassExpr.TheFolds.{map-ClassExpr}
use Rattle.owl_axioms.specs.declared.expr.ClassExpr.TheVariants as expr
use Rattle.locality_tables.specs.Verdict.{verdict_step}
use Rattle.locality_tables.specs.declared.fills.ClassFill.{ClassFill}
use Rattle.locality_tables.specs.declared.fills.RoleFill.{RoleFill}
use Rattle.locality_tables.specs.declared.finding.Finding.{Finding}
use Rattle.locality_core.proofs.Renewing.{count_sunk, long_sunk, reads}
use Rattle.locality_core.specs.inner.Renewal.{AllBelow, IsDue, IsRenewing, IsTurn, Reads, known_at, known_count, next_at, reading}

pub in_read : (xs : List ℕ) (i d : ℕ) → i < length xs → In (get_or xs i d) xs
in_read [] i d l = absurd (omega (arith, l))
in_read (x ∷ xs) zero d l = here
in_read (x ∷ xs) (suc i) d l = there (in_read xs i d (omega (arith, l)))

drop_suc : (xs : List ℕ) (i d : ℕ) → i < length xs → drop i xs ≡ get_or xs i d ∷ drop (suc i) xs
drop_suc [] i d l = absurd (omega (arith, l))
drop_suc (x ∷ xs) zero d l = refl
drop_suc (x ∷ xs) (suc i) d l = drop_suc xs i d (omega (arith, l))

pub drop_next : (xs : List ℕ) (i d : ℕ) → i < length xs → drop i xs ≡ get_or xs i d ∷ drop (i + 1) xs
drop_next xs i d l = let e : suc i ≡ i + 1 = omega arith in drop_suc xs i d l ∙ ap (λ k. get_or xs i d ∷ drop k xs) e

pub drop_all : (xs : List ℕ) (i : ℕ) → length xs ≤ i → drop i xs ≡ []
drop_all [] zero l = refl
drop_all [] (suc i) l = refl
drop_all (x ∷ xs) zero l = absurd (omega (arith, l))
drop_all (x ∷ xs) (suc i) l = drop_all xs i (omega (arith, l))

module _ (classes : ClassFill) (roles : RoleFill) (inside : Scope) (ts : List ClassExpr) where
  pub row_is : AreDifferent ts → (found fs : List Finding) (n : Node) (at : ℕ) (row : Finding) → fs ≡ found → n.place ≡ at
      → ((v : ClassExpr → Finding) → Reads ts fs v → row ≡ verdict_step classes roles inside (map-ClassExpr _ _ v (out-ClassExpr (tree_at ts n)))) → row ≡ next_at classes roles inside ts found at
  unfolding next_at
  row_is different found fs n at row same place h =
      h (reading ts fs) (reads ts different fs) ∙ (λ i. verdict_step classes roles inside (map-ClassExpr _ _ (reading ts (same i)) (out-ClassExpr (get_or ts (place i) expr.Thing))))

  module _ (at : ℕ) (found : List Finding) (waiting : List ℕ) (found' : List Finding) (waiting' : List ℕ) where
    pub turn_room : (b : Bool) → IsTurn classes roles inside ts at found waiting found' waiting' b → length waiting' + known_count found' ≡ length waiting + known_count found
    turn_room true (known, low, f, w) = let a = ap known_count f in let b = count_sunk found at known in let c = ap length w in let d = long_more waiting at in omega (arith, a, b, c, d)
    turn_room false (why, f, w) = λ i. length (w i) + known_count (f i)

    pub turn_long : (b : Bool) → IsTurn classes roles inside ts at found waiting found' waiting' b → length found' ≡ length found
    turn_long true (known, low, f, w) = ap length f ∙ long_sunk found at
    turn_long false (why, f, w) = ap length f

    pub turn_within : (n : ℕ) → at < n → AllBelow n waiting → (b : Bool) → IsTurn classes roles inside ts at found waiting found' waiting' b → AllBelow n waiting'
    turn_within n l all true (known, low, f, w) i k = elim (in_parts waiting (subst (λ ws. In i ws) w k)) [
      | inl m ↦ all i m
      | inr m ↦ elim (in_cons m) [
        | inl e ↦ subst (λ j. j < n) (sym e) l
        | inr z ↦ in_none z
      ]
    ]
    turn_within n l all false (why, f, w) i k = all i (subst (λ ws. In i ws) w k)

  pub popped : (wholes : List (List ℕ)) (found : List Finding) (waiting rest : List ℕ) (at : ℕ) → waiting ≡ rest ++ at ∷ [] → IsRenewing classes roles inside ts wholes [] found waiting
      → IsRenewing classes roles inside ts wholes (get_or wholes at []) found rest
  popped wholes found waiting rest at is r = record { long = r.long; sinks = r.sinks; settled = λ i l. by i (r.settled i l) }
    where
      due : (i d : ℕ) → In d (rest ++ at ∷ []) → In i (get_or wholes d []) → IsDue wholes (get_or wholes at []) rest i
      due i d w k = elim (in_parts rest w) [
        | inl m ↦ inr (d, m, k)
        | inr m ↦ elim (in_cons m) [
          | inl e ↦ inl (subst (λ j. In i (get_or wholes j [])) e k)
          | inr z ↦ in_none z
        ]
      ]

      by : (i : ℕ) → (next_at classes roles inside ts found i ≡ known_at found i) ⊎ IsDue wholes [] waiting i → (next_at classes roles inside ts found i ≡ known_at found i) ⊎ IsDue wholes (get_or wholes at []) rest i
      by i (inl e) = inl e
      by i (inr (inl k)) = in_none k
      by i (inr (inr (d, w, k))) = inr (due i d (subst (λ ws. In d ws) is w) k)

in_end : (xs : List ℕ) (at : ℕ) → In at (xs ++ at ∷ [])
in_end [] at = here
in_end (x ∷ xs) at = there (in_end xs at)

pub last_in : (rest waiting : List ℕ) (at n : ℕ) → waiting ≡ rest ++ at ∷ [] → AllBelow n waiting → at < n
last_in rest waiting at n is all = all at (subst (λ ws. In at ws) (sym is) (in_end rest at))

pub rest_in : (rest waiting : List ℕ) (at n : ℕ) → waiting ≡ rest ++ at ∷ [] → AllBelow n waiting → AllBelow n rest
rest_in rest waiting at n is all i k = all i (subst (λ ws. In i ws) (sym is) (in_left (at ∷ []) k))
