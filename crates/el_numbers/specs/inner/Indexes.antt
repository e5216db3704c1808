-- Indexes of the axioms. (Own.)
use Rattle.std.specs.Prelude.{◌≡◌, ℕ, zero, suc, List, [], ◌∷◌, ◌++◌, Option, None, Some, map, slice_get, ◌⊎◌}
use Rattle.fact_rows.specs.Member.{In}
use Rattle.fact_rows.specs.Rows.{row}
use Rattle.el_numbers.specs.declared.index.Indexes.{Indexes}
use Rattle.el_numbers.specs.declared.part.NumberedPart.{NumberedPart}
use Rattle.el_numbers.specs.declared.part.Shape.{Shape}
use Rattle.el_numbers.specs.declared.part.Shape.TheVariants as shape

-- the row of each key has its values
pub record IsIndexOf (pairs : List (ℕ × ℕ)) (rows : List (List ℕ)) : Type 0 where
  pub to : (k v : ℕ) → In (k, v) pairs → In v (row rows k)
  pub from : (k v : ℕ) → In v (row rows k) → In (k, v) pairs

-- the same of pairs of values
pub record IsPairIndexOf (triples : List (ℕ × ℕ × ℕ)) (rows : List (List (ℕ × ℕ))) : Type 0 where
  pub to : (k v w : ℕ) → In (k, v, w) triples → In (v, w) (row rows k)
  pub from : (k v w : ℕ) → In (v, w) (row rows k) → In (k, v, w) triples

-- a pair turned round
abbrev pub swapped : ℕ × ℕ → ℕ × ℕ
swapped p = (p.1, p.0)

-- a chain with its second role first
abbrev pub by_second : ℕ × ℕ × ℕ → ℕ × ℕ × ℕ
by_second c = (c.1, c.0, c.2)

-- a restriction as its filler, its role and its number
abbrev pub restrictions_at : Option Shape → ℕ → List (ℕ × ℕ × ℕ)
restrictions_at None s = []
restrictions_at (Some shape.Name) s = []
restrictions_at (Some shape.And) s = []
restrictions_at (Some (shape.Some r e)) s = (e, r, s) ∷ []

-- the restrictions below n
abbrev pub restrictions : List Shape → ℕ → List (ℕ × ℕ × ℕ)
restrictions shapes zero = []
restrictions shapes (suc s) = restrictions shapes s ++ restrictions_at (slice_get shapes s) s

-- the operands of an intersection, each beside it
abbrev pub intersections_at : ℕ → List ℕ → List (ℕ × ℕ)
intersections_at a xs = map (λ x. (x, a)) xs

-- the operands of the intersections below n
abbrev pub intersections : List (List ℕ) → ℕ → List (ℕ × ℕ)
intersections operands zero = []
intersections operands (suc a) = intersections operands a ++ intersections_at a (row operands a)

-- the indexes hold what the part says
pub record IsIndexed (part : NumberedPart) (ix : Indexes) : Type 0 where
  pub told : IsIndexOf part.inclusions.items ix.told.items
  pub roles : IsIndexOf part.role_inclusions.items ix.roles.items
  pub domains : IsIndexOf part.domains.items ix.domains.items
  pub first : IsPairIndexOf part.chains.items ix.first.items
  pub to_second : (r s t : ℕ) → In (r, s, t) part.chains.items → In (r, t) (row ix.second.items s)
  pub from_second : (r s t : ℕ) → In (r, t) (row ix.second.items s) → In (r, s, t) part.chains.items
  pub to_disjoint : (d e : ℕ) → In (d, e) part.disjoints.items → In e (row ix.disjoint.items d) × In d (row ix.disjoint.items e)
  pub from_disjoint : (d e : ℕ) → In e (row ix.disjoint.items d) → In (d, e) part.disjoints.items ⊎ In (e, d) part.disjoints.items
  pub to_somes : (s r e : ℕ) → slice_get part.shapes.items s ≡ Some (shape.Some r e) → In (r, s) (row ix.somes.items e)
  pub from_somes : (s r e : ℕ) → In (r, s) (row ix.somes.items e) → slice_get part.shapes.items s ≡ Some (shape.Some r e)
  pub to_ands : (a x : ℕ) → In x (row part.operands.items a) → In a (row ix.ands.items x)
  pub from_ands : (a x : ℕ) → In a (row ix.ands.items x) → In x (row part.operands.items a)
