-- Parts whose numbers fit together. (Own.)
use Rattle.std.specs.Prelude.{◌≡◌, ℕ, ◌<◌, ◌^◌, [], length, slice_get, Some}
use Rattle.fact_rows.specs.Member.{In}
use Rattle.fact_rows.specs.Rows.{row}
use Rattle.el_numbers.specs.declared.part.NumberedPart.{NumberedPart}
use Rattle.el_numbers.specs.declared.part.Shape.TheVariants as shape

-- Thing and Nothing are there, each number is one of an expression or of a role, and an intersection, and it alone,
-- has operands
pub record IsProper (part : NumberedPart) : Type 0 where
  pub small : length part.shapes.items < 2 ^ 32
  pub nothing : 1 < length part.shapes.items
  pub has_operand : (a : ℕ) → slice_get part.shapes.items a ≡ Some shape.And → row part.operands.items a ≡ [] → ⊥
  pub is_and : (a x : ℕ) → In x (row part.operands.items a) → slice_get part.shapes.items a ≡ Some shape.And
  pub operands : (a x : ℕ) → In x (row part.operands.items a) → x < length part.shapes.items
  pub fillers : (s r d : ℕ) → slice_get part.shapes.items s ≡ Some (shape.Some r d) → d < length part.shapes.items
  pub inclusions : (d e : ℕ) → In (d, e) part.inclusions.items → (d < length part.shapes.items) × (e < length part.shapes.items)
  pub disjoints : (d e : ℕ) → In (d, e) part.disjoints.items → (d < length part.shapes.items) × (e < length part.shapes.items)
  pub role_inclusions : (r s : ℕ) → In (r, s) part.role_inclusions.items → (r < part.role_count) × (s < part.role_count)
  pub chains : (r s t : ℕ) → In (r, s, t) part.chains.items → (r < part.role_count) × (s < part.role_count) × (t < part.role_count)
  pub domains : (r e : ℕ) → In (r, e) part.domains.items → (r < part.role_count) × (e < length part.shapes.items)
