-- Classes by the numbers of a table. (Own.)
use Rattle.std.specs.Prelude.{ℕ, ◌≡◌, ◌<◌, ◌⊎◌, ◌↔◌, Bool, List, Option, None, Some, length, map, slice_get}
use Rattle.fact_rows.specs.Marks.{IsFlagged}
use Rattle.fact_rows.specs.Member.{In}
use Rattle.fact_rows.specs.Rows.{row}
use Rattle.owl_axioms.specs.declared.body.Axiom.{Axiom}
use Rattle.owl_axioms.specs.declared.body.Body.{Body}
use Rattle.owl_axioms.specs.declared.body.Body.TheVariants as body
use Rattle.owl_axioms.specs.declared.expr.ClassExpr.{ClassExpr}
use Rattle.owl_axioms.specs.declared.expr.ClassExpr.TheVariants as expr
use Rattle.owl_axioms.specs.declared.name.Kind.{Kind}
use Rattle.owl_axioms.specs.declared.name.Kind.TheVariants as kind
use Rattle.expr_pool.specs.Pool.{tree_at}
use Rattle.expr_pool.specs.declared.cell.Cell.{Cell}
use Rattle.expr_pool.specs.declared.cell.Cell.TheVariants as cell
use Rattle.el_part.specs.Part.{FitsPool, HasClasses, PartState}
use Rattle.el_rules.specs.Occurs.{IsDeclared}
use Rattle.el_saturate.specs.Table.{Facts, HasRows}
use Rattle.reduce_edges.specs.Edges.{IsEdge}

-- a part and a table over the nodes of a pool
pub record IsGround (trees : List ClassExpr) (part : PartState) (table : Facts) : Type 0 where
  pub fits : FitsPool trees part
  pub classes : HasClasses trees part
  pub rows : HasRows part.occurring table

-- the expressions that occur, in the order of their numbers
abbrev pub exprs_of : List ClassExpr → PartState → List ClassExpr
exprs_of trees part = map (tree_at trees) part.occurring

-- the number is that of the class
abbrev pub IsNumberOf : List ClassExpr → List ℕ → ℕ → Type 0
IsNumberOf exprs class k = slice_get exprs k ≡ Some (expr.Class class)

-- the numbers of classes are flagged
pub record AreClasses (exprs : List ClassExpr) (flags : List Bool) : Type 0 where
  pub long : length flags ≡ length exprs
  pub each : (k : ℕ) → IsFlagged flags k ↔ (class : List ℕ) × IsNumberOf exprs class k

-- those of the declared classes are flagged
pub record AreDeclared (exprs : List ClassExpr) (axioms : List Axiom) (flags : List Bool) : Type 0 where
  pub long : length flags ≡ length exprs
  pub each : (k : ℕ) → IsFlagged flags k ↔ (class : List ℕ) × IsNumberOf exprs class k × IsDeclared axioms class

-- the row of a class has the numbers of the classes that axioms say are above it
pub record AreTold (exprs : List ClassExpr) (axioms : List Axiom) (told : List (List ℕ)) : Type 0 where
  pub long : length told ≡ length exprs
  pub each : (i j : ℕ) → In j (row told i) ↔ (sub super : List ℕ) × IsNumberOf exprs sub i × IsNumberOf exprs super j × IsEdge axioms sub super

-- the class of a cell
unfoldable pub class_in : Cell → Option (List ℕ)
class_in (cell.Class iri) = Some iri
class_in _ = None

-- the class that an axiom declares
abbrev pub declared_as : Kind → List ℕ → Option (List ℕ)
declared_as kind.Class iri = Some iri
declared_as _ iri = None

unfoldable pub declared_in : Body → Option (List ℕ)
declared_in (body.Declaration name) = declared_as name.kind name.iri
declared_in _ = None

-- the two classes of which an axiom says that the first is below the second
abbrev pub both_of : Option (List ℕ) → Option (List ℕ) → Option (List ℕ × List ℕ)
both_of (Some sub) (Some super) = Some (sub, super)
both_of one other = None

unfoldable pub class_name : ClassExpr → Option (List ℕ)
class_name (expr.Class iri) = Some iri
class_name other = None

unfoldable pub told_in : Body → Option (List ℕ × List ℕ)
told_in (body.Sub sub super) = both_of (class_name sub) (class_name super)
told_in _ = None

-- the flag of the number of a class, if there is one and it occurs, is set too
pub record FlagsMore (exprs : List ClassExpr) (class : Option (List ℕ)) (old new : List Bool) : Type 0 where
  pub long : length new ≡ length old
  pub kept : (k : ℕ) → IsFlagged old k → IsFlagged new k
  pub more : (a : List ℕ) → class ≡ Some a → (k : ℕ) → IsNumberOf exprs a k → k < length old → IsFlagged new k
  pub only : (k : ℕ) → IsFlagged new k → IsFlagged old k ⊎ ((a : List ℕ) × (class ≡ Some a) × IsNumberOf exprs a k)

-- the numbers of two classes, if there are two and they occur, are in a row
pub record TellsMore (exprs : List ClassExpr) (pair : Option (List ℕ × List ℕ)) (old new : List (List ℕ)) : Type 0 where
  pub long : length new ≡ length old
  pub kept : (i j : ℕ) → In j (row old i) → In j (row new i)
  pub more : (p : List ℕ × List ℕ) → pair ≡ Some p → (i j : ℕ) → IsNumberOf exprs p.0 i → IsNumberOf exprs p.1 j → i < length old → In j (row new i)
  pub only : (i j : ℕ) → In j (row new i) → In j (row old i) ⊎ ((p : List ℕ × List ℕ) × (pair ≡ Some p) × IsNumberOf exprs p.0 i × IsNumberOf exprs p.1 j)
