-- A small interpretation, and what holds in it, worked out by hand: each constructor of expressions with an element that
-- it has and one that it has not, and each kind of axiom once satisfied and once not. (Own.)
use Rattle.std.specs.Prelude.{ℕ, ◌≡◌, true, false, List, [], ◌∷◌, codes}
use Rattle.owl_axioms.specs.declared.body.Body.{Body}
use Rattle.owl_axioms.specs.declared.body.Body.TheVariants as body
use Rattle.owl_axioms.specs.declared.expr.ClassExpr.{ClassExpr}
use Rattle.owl_axioms.specs.declared.expr.ClassExpr.TheVariants as expr
use Rattle.owl_sem.specs.Interp.{Interp, individual, member}
use Rattle.owl_sem.specs.Models.{Satisfies}

-- classes: the bicycle, its wheels, its parts, the front wheel, and saddles, of which there is none
abbrev pub whole : List ℕ
whole = codes "whole"

abbrev pub wheel : List ℕ
wheel = codes "wheel"

abbrev pub part : List ℕ
part = codes "part"

abbrev pub front : List ℕ
front = codes "front"

abbrev pub saddle : List ℕ
saddle = codes "saddle"

-- roles
abbrev pub has : List ℕ
has = codes "has"

abbrev pub owns : List ℕ
owns = codes "owns"

abbrev pub of : List ℕ
of = codes "of"

abbrev pub before : List ℕ
before = codes "before"

abbrev pub beside : List ℕ
beside = codes "beside"

abbrev pub same : List ℕ
same = codes "same"

-- individuals
abbrev pub mine : List ℕ
mine = codes "mine"

abbrev pub spare : List ℕ
spare = codes "spare"

abbrev pub nobody : List ℕ
nobody = codes "nobody"

-- 0 is the bicycle, 1 its front wheel, 2 its other wheel. The entry of `front` with 3 is beyond the size, and so is the
-- first one of `mine`, which has another one more than it needs; `has` has the pair of 0 and 2 twice
abbrev pub bicycle : Interp
bicycle = record {
  size = 3;
  classes = (whole, 0) ∷ (wheel, 1) ∷ (wheel, 2) ∷ (part, 2) ∷ (part, 1) ∷ (front, 1) ∷ (front, 3) ∷ [];
  roles =
      (has, 0, 1) ∷ (has, 0, 2) ∷ (has, 0, 2) ∷ (owns, 0, 2) ∷ (owns, 0, 1) ∷ (of, 1, 0) ∷ (of, 2, 0) ∷ (before, 1, 2) ∷ (before, 2, 3) ∷ (beside, 1, 2) ∷ (beside, 2, 1) ∷ (same, 0, 0)
      ∷ (same, 1, 1) ∷ (same, 2, 2) ∷ [];
  individuals = (mine, 5) ∷ (mine, 0) ∷ (mine, 1) ∷ (spare, 2) ∷ [];
}

-- the class of this name
abbrev named : List ℕ → ClassExpr
named a = expr.Class a

-- the expression has the element, or has it not
abbrev Has : ClassExpr → ℕ → Type 0
Has c e = member bicycle c e ≡ true

abbrev Lacks : ClassExpr → ℕ → Type 0
Lacks c e = member bicycle c e ≡ false

-- the constructors
pub record ExpressionTable : Type 0 where
  pub thing : Has expr.Thing 0
  pub nothing : Lacks expr.Nothing 0
  pub class : Has (named front) 1 × Lacks (named front) 2 × Lacks (named front) 3
  pub and : Has (expr.And (named wheel ∷ named front ∷ [])) 1 × Lacks (expr.And (named wheel ∷ named front ∷ [])) 2
  pub or : Has (expr.Or (named whole ∷ named front ∷ [])) 0 × Lacks (expr.Or (named whole ∷ named front ∷ [])) 2
  pub not : Has (expr.Not (named wheel)) 0 × Lacks (expr.Not (named wheel)) 1
  pub some : Has (expr.Some has (named front)) 0 × Lacks (expr.Some has (named front)) 1
  -- 1 has nothing, so only wheels
  pub all : Has (expr.All has (named wheel)) 0 × Has (expr.All has (named wheel)) 1 × Lacks (expr.All has (named front)) 0
  -- the pair that is listed twice is one filler
  pub min : Has (expr.Min 2 has (named wheel)) 0 × Lacks (expr.Min 3 has (named wheel)) 0
  pub max : Has (expr.Max 2 has (named wheel)) 0 × Lacks (expr.Max 1 has (named wheel)) 0
  pub exact : Has (expr.Exact 2 has (named wheel)) 0 × Lacks (expr.Exact 3 has (named wheel)) 0
  -- two pairs lead to 0, and each wheel has one filler
  pub shared : Has (expr.Exact 1 of (named whole)) 1 × Has (expr.Exact 1 of (named whole)) 2

-- the elements that individuals are
pub record IndividualTable : Type 0 where
  pub first : individual bicycle mine ≡ 0
  pub only : individual bicycle spare ≡ 2
  pub none : individual bicycle nobody ≡ 0

-- the interpretation satisfies the axiom, or does not
abbrev Yes : Body → Type 0
Yes b = Satisfies bicycle b

abbrev No : Body → Type 0
No b = ¬ (Satisfies bicycle b)

-- the kinds of axioms
pub record AxiomTable : Type 0 where
  pub sub : Yes (body.Sub (named wheel) (named part)) × No (body.Sub (named part) (named front))
  pub equiv : Yes (body.Equiv (named wheel) (named part)) × No (body.Equiv (named wheel) (named front))
  pub disjoint : Yes (body.Disjoint (named whole) (named wheel)) × No (body.Disjoint (named wheel) (named front))
  pub disjoint_itself : Yes (body.Disjoint (named saddle) (named saddle)) × No (body.Disjoint (named wheel) (named wheel))
  pub sub_role : Yes (body.SubRole before beside) × No (body.SubRole beside before)
  pub chain : Yes (body.Chain has before has) × No (body.Chain of has of)
  pub chain_itself : Yes (body.Chain before before before) × No (body.Chain beside beside beside)
  pub equiv_roles : Yes (body.EquivRoles has owns) × No (body.EquivRoles before beside)
  pub disjoint_roles : Yes (body.DisjointRoles has of) × No (body.DisjointRoles before beside)
  pub inverse : Yes (body.Inverse has of) × No (body.Inverse has before)
  pub inverse_itself : Yes (body.Inverse beside beside) × No (body.Inverse before before)
  pub transitive : Yes (body.Transitive same) × No (body.Transitive beside)
  pub reflexive : Yes (body.Reflexive same) × No (body.Reflexive beside)
  pub symmetric : Yes (body.Symmetric beside) × No (body.Symmetric before)
  pub asymmetric : Yes (body.Asymmetric before) × No (body.Asymmetric beside)
  pub functional : Yes (body.Functional of) × No (body.Functional has)
  pub inverse_functional : Yes (body.InverseFunctional has) × No (body.InverseFunctional of)
  pub domain : Yes (body.Domain has (named whole)) × No (body.Domain of (named front))
  pub range : Yes (body.Range has (named wheel)) × No (body.Range has (named front))
  pub class_assertion : Yes (body.ClassAssertion (named whole) mine) × No (body.ClassAssertion (named wheel) mine)
  pub role_assertion : Yes (body.RoleAssertion has mine spare) × No (body.RoleAssertion of mine spare)
