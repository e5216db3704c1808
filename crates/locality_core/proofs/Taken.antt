-- The verdicts of the first nodes of a pool.
use Rattle.std.proofs.Common.{◌≡◌, ℕ, zero, suc, ◌+◌, ◌<◌, ◌≤◌, List, [], ◌∷◌, ◌++◌, None, Some, length, map, slice_get, take, refl, ap, subst, ◌∙◌, add-one, arith}
use Rattle.owl_axioms.specs.declared.expr.ClassExpr.{ClassExpr}
use Rattle.locality_tables.specs.declared.finding.Finding.{Finding}
use Rattle.locality_core.specs.inner.Renewal.{Reads}

none_some : {X P : Type 0} (x : X) → None ≡ Some x → P
none_some x h = absurd cc

some_is : {X : Type 0} {x y : X} → Some x ≡ Some y → x ≡ y
some_is h = cc

pub long_taken : (v : ClassExpr → Finding) (ts : List ClassExpr) (at : ℕ) → at ≤ length ts → length (map v (take at ts)) ≡ at
long_taken v ts zero l = refl
long_taken v [] (suc at) l = absurd (omega (arith, l))
long_taken v (t ∷ ts) (suc at) l = ap suc (long_taken v ts at (omega (arith, l)))

read_taken : (v : ClassExpr → Finding) (ts : List ClassExpr) (at j : ℕ) (p : ClassExpr) → slice_get ts j ≡ Some p → j < length (map v (take at ts)) → slice_get (map v (take at ts)) j ≡ Some (v p)
read_taken v [] at j p h l = none_some p h
read_taken v (t ∷ ts) zero j p h l = absurd (omega (arith, l))
read_taken v (t ∷ ts) (suc at) zero p h l = ap (λ q. Some (v q)) (some_is h)
read_taken v (t ∷ ts) (suc at) (suc j) p h l = read_taken v ts at j p h (omega (arith, l))

pub taken_reads : (v : ClassExpr → Finding) (ts : List ClassExpr) (at : ℕ) (fs : List Finding) → fs ≡ map v (take at ts) → Reads ts fs v
taken_reads v ts at fs is j p h l = ap (λ gs. slice_get gs j) is ∙ read_taken v ts at j p h (subst (λ gs. j < length gs) is l)

map_suc : (v : ClassExpr → Finding) (ts : List ClassExpr) (at : ℕ) (t : ClassExpr) → slice_get ts at ≡ Some t → map v (take (suc at) ts) ≡ map v (take at ts) ++ v t ∷ []
map_suc v [] at t h = none_some t h
map_suc v (x ∷ ts) zero t h = ap (λ q. v q ∷ []) (some_is h)
map_suc v (x ∷ ts) (suc at) t h = ap (λ l. v x ∷ l) (map_suc v ts at t h)

pub map_taken : (v : ClassExpr → Finding) (ts : List ClassExpr) (at : ℕ) (t : ClassExpr) → slice_get ts at ≡ Some t → map v (take (at + 1) ts) ≡ map v (take at ts) ++ v t ∷ []
map_taken v ts at t h = ap (λ k. map v (take k ts)) (add-one at) ∙ map_suc v ts at t h

pub take_whole : (ts : List ClassExpr) (at : ℕ) → length ts ≤ at → take at ts ≡ ts
take_whole [] zero l = refl
take_whole [] (suc at) l = refl
take_whole (t ∷ ts) zero l = absurd (omega (arith, l))
take_whole (t ∷ ts) (suc at) l = ap (λ xs. t ∷ xs) (take_whole ts at (omega (arith, l)))
