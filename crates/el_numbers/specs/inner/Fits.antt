-- Shapes and operands that fit. (Own.)
use Rattle.std.specs.Prelude.{◌≡◌, ℕ, ◌<◌, List, [], Option, Some}
use Rattle.fact_rows.specs.Member.{In}
use Rattle.el_numbers.specs.declared.part.Shape.{Shape}
use Rattle.el_numbers.specs.declared.part.Shape.TheVariants as shape

-- of n expressions, one of this shape may have the operands xs
pub record Fits (n : ℕ) (s : Option Shape) (xs : List ℕ) : Type 0 where
  pub has_operand : s ≡ Some shape.And → xs ≡ [] → ⊥
  pub is_and : (x : ℕ) → In x xs → s ≡ Some shape.And
  pub operands : (x : ℕ) → In x xs → x < n
  pub filler : (r d : ℕ) → s ≡ Some (shape.Some r d) → d < n
