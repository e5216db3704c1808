-- An EL part over numbers of expressions and roles, and what it has to do with the part over expressions. (Own.)
use Rattle.std.specs.Prelude.{ℕ, ◌≡◌, ◌<◌, ◌↔◌, List, [], ◌++◌, Some, get_or, length, map, slice_get}
use Rattle.fact_rows.specs.Member.{In}
use Rattle.fact_rows.specs.Rows.{row}
use Rattle.owl_axioms.specs.declared.body.Body.{Body}
use Rattle.owl_axioms.specs.declared.body.Body.TheVariants as body
use Rattle.owl_axioms.specs.declared.expr.ClassExpr.{ClassExpr}
use Rattle.owl_axioms.specs.declared.expr.ClassExpr.TheVariants as expr
use Rattle.el_numbers.specs.Proper.{IsProper}
use Rattle.el_numbers.specs.Rules.{Derived as NumbersDerive}
use Rattle.el_numbers.specs.declared.fact.Fact.{Fact}
use Rattle.el_numbers.specs.declared.fact.Fact.TheVariants.{Below, Link}
use Rattle.el_numbers.specs.declared.part.NumberedPart.{NumberedPart}
use Rattle.el_numbers.specs.declared.part.Shape.TheVariants as shape
use Rattle.el_rules.specs.Rules.{Derived, ElFact, ElView, HasLink, IsBelow}

-- the expression of each number, and the role of each
pub record Numbering : Type 0 where
  pub exprs : List ClassExpr
  pub roles : List (List ℕ)

-- the expression and the role of a number
abbrev pub expr_at : Numbering → ℕ → ClassExpr
expr_at n c = get_or n.exprs c expr.Thing

abbrev pub role_at : Numbering → ℕ → List ℕ
role_at n r = get_or n.roles r []

-- nothing has two numbers
abbrev pub IsOneToOne : {X : Type 0} → List X → Type 0
IsOneToOne {X} xs = (i j : ℕ) (x : X) → slice_get xs i ≡ Some x → slice_get xs j ≡ Some x → i ≡ j

-- the fact over expressions that a fact over numbers stands for
abbrev pub fact_at : Numbering → Fact → ElFact
fact_at n (Below c d) = IsBelow (expr_at n c) (expr_at n d)
fact_at n (Link c r d) = HasLink (expr_at n c) (role_at n r) (expr_at n d)

-- the numbers of a fact are numbers of expressions and of a role
abbrev pub IsFact : Numbering → Fact → Type 0
IsFact n (Below c d) = (c < length n.exprs) × (d < length n.exprs)
IsFact n (Link c r d) = (c < length n.exprs) × (r < length n.roles) × (d < length n.exprs)

-- the axioms of the numbered part, read as axioms over expressions
abbrev pub sub_at : Numbering → ℕ × ℕ → Body
sub_at n p = body.Sub (expr_at n p.0) (expr_at n p.1)

abbrev pub disjoint_at : Numbering → ℕ × ℕ → Body
disjoint_at n p = body.Disjoint (expr_at n p.0) (expr_at n p.1)

abbrev pub sub_role_at : Numbering → ℕ × ℕ → Body
sub_role_at n p = body.SubRole (role_at n p.0) (role_at n p.1)

abbrev pub chain_at : Numbering → ℕ × ℕ × ℕ → Body
chain_at n p = body.Chain (role_at n p.0) (role_at n p.1) (role_at n p.2)

abbrev pub domain_at : Numbering → ℕ × ℕ → Body
domain_at n p = body.Domain (role_at n p.0) (expr_at n p.1)

abbrev pub axioms_at : Numbering → NumberedPart → List Body
axioms_at n part = map (sub_at n) part.inclusions.items ++ (map (disjoint_at n) part.disjoints.items ++ (map (sub_role_at n) part.role_inclusions.items ++ (map (chain_at n) part.chains.items ++ map (domain_at n) part.domains.items)))

-- the numbered part is the part with numbers for its expressions and roles, each of which has one number
pub record IsNumbered (view : ElView) (part : NumberedPart) (n : Numbering) : Type 0 where
  pub proper : IsProper part
  pub expressions : n.exprs ≡ view.occurring
  pub shapes : length part.shapes.items ≡ length n.exprs
  pub roles : part.role_count ≡ length n.roles
  pub once : IsOneToOne n.exprs
  pub roles_once : IsOneToOne n.roles
  pub thing : slice_get n.exprs 0 ≡ Some expr.Thing
  pub nothing : slice_get n.exprs 1 ≡ Some expr.Nothing
  -- shapes are those of the expressions
  pub and : (a : ℕ) (operands : List ClassExpr) → slice_get n.exprs a ≡ Some (expr.And operands) → (slice_get part.shapes.items a ≡ Some shape.And) × (map (expr_at n) (row part.operands.items a) ≡ operands)
  pub is_and : (a : ℕ) → slice_get part.shapes.items a ≡ Some shape.And → (operands : List ClassExpr) × (slice_get n.exprs a ≡ Some (expr.And operands))
  pub some : (a : ℕ) (role : List ℕ) (filler : ClassExpr) → slice_get n.exprs a ≡ Some (expr.Some role filler) → (r d : ℕ) × (slice_get part.shapes.items a ≡ Some (shape.Some r d)) × (slice_get n.roles r ≡ Some role) × (slice_get n.exprs d ≡ Some filler)
  pub is_some : (a r d : ℕ) → slice_get part.shapes.items a ≡ Some (shape.Some r d) → (r < length n.roles) × (slice_get n.exprs a ≡ Some (expr.Some (role_at n r) (expr_at n d)))
  -- and so are the axioms
  pub axioms : (b : Body) → In b view.axioms ↔ In b (axioms_at n part)

-- what is derived of numbers is what is derived of the expressions that they stand for
abbrev pub NumbersDeriveTheSame : Type 0
NumbersDeriveTheSame = (view : ElView) (part : NumberedPart) (n : Numbering) → IsNumbered view part n → (fact : Fact) → IsFact n fact → NumbersDerive part fact ↔ Derived view (fact_at n fact)

-- and each derived fact has numbers
abbrev pub DerivedHasNumbers : Type 0
DerivedHasNumbers = (view : ElView) (part : NumberedPart) (n : Numbering) → IsNumbered view part n → (fact : ElFact) → Derived view fact → (numbers : Fact) × IsFact n numbers × (fact_at n numbers ≡ fact) × NumbersDerive part numbers
