-- What the loops over operands end with.
use Rattle.std.proofs.Common.{◌≡◌, ℕ, ◌<◌, ◌≤◌, List, [], ◌∷◌, Bool, take, length, map, refl, sym, ap, ◌∙◌, arith, cond, slice_get, get_or, Some, suc, zero}
use Rattle.std.specs.List.{list_any, list_all}
use Rattle.owl_axioms.specs.declared.expr.ClassExpr.{ClassExpr, out-ClassExpr, size-ClassExpr}
use Rattle.owl_axioms.specs.declared.expr.ClassExpr.TheOpen as layer
use Rattle.locality_tables.specs.declared.fills.ClassFill.{ClassFill}
use Rattle.locality_tables.specs.declared.fills.RoleFill.{RoleFill}
use Rattle.locality_tables.specs.declared.finding.Finding.TheVariants.{Empty, Full, Unknown}
use Rattle.locality_tables.specs.Verdict.{verdict, is_empty, is_full}
use Rattle.owl_axioms.specs.Names.{Scope}
use Rattle.locality_core.proofs.Layers.{verdict_at, size_and, size_or}
use Rattle.locality_core.specs.Shows.{operands, operands_of, operand_count, IsOperand}

-- an element that is read is what `get` gives
pub get_from_read : {X : Type 0} (xs : List X) (i : ℕ) (d : X) → i < length xs → d ≡ get_or xs i d → slice_get xs i ≡ Some d
get_from_read [] i d l h = absurd (omega arith)
get_from_read (x ∷ xs) zero d l h = ap Some (sym h)
get_from_read (x ∷ xs) (suc i) d l h = get_from_read xs i d (omega arith) h

pub length_map : {X Y : Type 0} (f : X → Y) (xs : List X) → length (map f xs) ≡ length xs
length_map f [] = refl
length_map f (x ∷ xs) = ap suc (length_map f xs)

take_whole : {X : Type 0} (xs : List X) (n : ℕ) → length xs ≤ n → take n xs ≡ xs
take_whole [] zero h = refl
take_whole [] (suc n) h = refl
take_whole (x ∷ xs) zero h = absurd (omega arith)
take_whole (x ∷ xs) (suc n) h = ap (λ ys. x ∷ ys) (take_whole xs n (omega arith))

module _ (c : ClassExpr) (cs : List ClassExpr) (here : out-ClassExpr c ≡ layer.And cs) where
  pub and_operands : operands c ≡ cs
  unfolding operands
  and_operands = ap operands_of here

  pub and_within : (n at : ℕ) → n ≡ length cs → at < n → at < operand_count c
  unfolding operand_count
  and_within n at e l = let k = ap length and_operands in omega (arith, k)

  pub and_smaller : (d : ClassExpr) (at : ℕ) → IsOperand c at d → size-ClassExpr d < size-ClassExpr c
  unfolding IsOperand
  and_smaller d at h = size_and c d cs at here (rw and_operands at h)

  pub and_verdict : (classes : ClassFill) (roles : RoleFill) (inside : Scope) (n at : ℕ) (a b : Bool) → n ≡ length cs → n ≤ at
      → a ≡ list_any is_empty (map (verdict classes roles inside) (take at (operands c))) → b ≡ list_all is_full (map (verdict classes roles inside) (take at (operands c)))
      → verdict classes roles inside c ≡ cond a Empty (cond b Full Unknown)
  and_verdict classes roles inside n at a b e l any all =
      let whole : take at (operands c) ≡ cs = rw and_operands (take_whole cs at (omega arith)) in
      let v = verdict classes roles inside in
      let p = any ∙ ap (λ xs. list_any is_empty (map v xs)) whole in
      let q = all ∙ ap (λ xs. list_all is_full (map v xs)) whole in
      rw (p, q) (verdict_at classes roles inside c (layer.And cs) here)

module _ (c : ClassExpr) (cs : List ClassExpr) (here : out-ClassExpr c ≡ layer.Or cs) where
  pub or_operands : operands c ≡ cs
  unfolding operands
  or_operands = ap operands_of here

  pub or_within : (n at : ℕ) → n ≡ length cs → at < n → at < operand_count c
  unfolding operand_count
  or_within n at e l = let k = ap length or_operands in omega (arith, k)

  pub or_smaller : (d : ClassExpr) (at : ℕ) → IsOperand c at d → size-ClassExpr d < size-ClassExpr c
  unfolding IsOperand
  or_smaller d at h = size_or c d cs at here (rw or_operands at h)

  pub or_verdict : (classes : ClassFill) (roles : RoleFill) (inside : Scope) (n at : ℕ) (a b : Bool) → n ≡ length cs → n ≤ at
      → a ≡ list_any is_full (map (verdict classes roles inside) (take at (operands c))) → b ≡ list_all is_empty (map (verdict classes roles inside) (take at (operands c)))
      → verdict classes roles inside c ≡ cond a Full (cond b Empty Unknown)
  or_verdict classes roles inside n at a b e l any all =
      let whole : take at (operands c) ≡ cs = rw or_operands (take_whole cs at (omega arith)) in
      let v = verdict classes roles inside in
      let p = any ∙ ap (λ xs. list_any is_full (map v xs)) whole in
      let q = all ∙ ap (λ xs. list_all is_empty (map v xs)) whole in
      rw (p, q) (verdict_at classes roles inside c (layer.Or cs) here)
