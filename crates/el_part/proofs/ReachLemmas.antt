-- What is reached by parts from some nodes is what stands in their trees.
use Rattle.std.proofs.Common.{◌≡◌, ℕ, zero, suc, ◌<◌, Bool, true, false, List, inl, inr, get_or, length, replicate, refl, sym, ap, subst, arith}
use Rattle.std.proofs.lemmas.Option.{get_or_from_slice_get, slice_get-get_or, slice_get_within}
use Rattle.fact_rows.specs.Member.{In}
use Rattle.fact_rows.proofs.MarkLemmas.{no_flag}
use Rattle.owl_axioms.specs.declared.expr.ClassExpr.{ClassExpr}
use Rattle.owl_axioms.specs.declared.expr.ClassExpr.TheVariants as expr
use Rattle.expr_pool.proofs.PartLemmas.{all_in, flag_marks, flag_sound}
use Rattle.expr_pool.specs.Part.{AreBefore, AreSound, HasMark, Inside, IsClosed, IsMarked, Keeps, Reached, deeper, flag_nodes, itself, part, parts_of, start}
use Rattle.expr_pool.specs.Pool.{AreDifferent, tree_at}
use Rattle.expr_pool.specs.declared.cell.Node.{Node}
use Rattle.el_part.specs.inner.Reached.{AreReached}

pub long_replicate : (k : ℕ) → length (replicate k false) ≡ k
long_replicate zero = refl
long_replicate (suc k) = ap suc (long_replicate k)

abbrev IsUnder : List ClassExpr → List Node → ClassExpr → Type 0
IsUnder ts roots t = (r : Node) × In r roots × Inside (tree_at ts r) t

module _ (ts : List ClassExpr) (roots : List Node) (n : ℕ) where
  under : {i : ℕ} → Reached ts (flag_nodes (replicate n false) roots) i → IsUnder ts roots (get_or ts i expr.Thing)
  under (start {i} m) = elim (flag_sound roots (replicate n false) i m) [
    | inl k ↦ absurd (no_flag n i k)
    | inr r ↦ (r.0, r.1, subst (λ k. Inside (tree_at ts r.0) (get_or ts k expr.Thing)) r.2 itself)
  ]
  under (part {i} {j} h k) = let up = under h in (up.0, up.1, deeper up.2 k)

module _ (ts : List ClassExpr) (flags : List Bool) (closed : IsClosed ts flags) where
  marked : {w t : ClassExpr} → HasMark ts flags w → Inside w t → HasMark ts flags t
  marked h itself = h
  marked h (deeper {t = u} {p} inside k) =
      let up = marked h inside in
      let is : get_or ts up.0 expr.Thing ≡ u = get_or_from_slice_get ts up.0 u expr.Thing up.1 in
      closed up.0 (slice_get_within ts up.0 u up.1) up.2 p (subst (λ v. In p (parts_of v)) (sym is) k)

pub reached : (ts : List ClassExpr) (roots : List Node) (first flags : List Bool) → AreDifferent ts → length flags ≡ length ts → AreBefore (length ts) roots → first ≡ flag_nodes (replicate (length ts) false) roots → Keeps first flags → IsClosed ts flags → AreSound ts first flags → AreReached ts roots flags
reached ts roots first flags different long before is kept closed sound i = (
  λ m.
      let within : i < length flags = slice_get_within flags i true m in
      let up = under ts roots (length ts) (subst (λ f. Reached ts f i) is (sound i m)) in
      (up.0, up.1, get_or ts i expr.Thing, slice_get-get_or ts i expr.Thing (omega (arith, within, long)), up.2),
  λ r.
      let in_range : r.0.place < length ts = all_in (length ts) roots r.0 before r.1 in
      let root_mark : IsMarked first r.0.place = subst (λ f. IsMarked f r.0.place) (sym is) (flag_marks roots (replicate (length ts) false) (length ts) r.0 (long_replicate (length ts)) before r.1) in
      let found = marked ts flags closed (r.0.place, slice_get-get_or ts r.0.place expr.Thing in_range, kept r.0.place root_mark) r.4 in
      subst (IsMarked flags) (different found.0 i r.2 found.1 r.3) found.2,
)
