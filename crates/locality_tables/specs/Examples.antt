-- The tables at small expressions and axioms, worked out by hand: of two classes and two roles one of each is inside. (Own.)
use Rattle.std.specs.Prelude.{ℕ, ◌≡◌, Bool, true, false, List, [], ◌∷◌, codes}
use Rattle.owl_axioms.specs.Names.{Scope, listed, name_of}
use Rattle.owl_axioms.specs.declared.body.Body.{Body}
use Rattle.owl_axioms.specs.declared.body.Body.TheVariants as body
use Rattle.owl_axioms.specs.declared.expr.ClassExpr.{ClassExpr}
use Rattle.owl_axioms.specs.declared.expr.ClassExpr.TheVariants as expr
use Rattle.owl_axioms.specs.declared.name.Kind.TheVariants as kind
use Rattle.locality_tables.specs.Local.{is_local}
use Rattle.locality_tables.specs.Verdict.{verdict}
use Rattle.locality_tables.specs.declared.fills.ClassFill.TheVariants as class
use Rattle.locality_tables.specs.declared.fills.RoleFill.TheVariants as role
use Rattle.locality_tables.specs.declared.finding.Finding.{Finding}
use Rattle.locality_tables.specs.declared.finding.Finding.TheVariants.{Empty, Full, Unknown}

-- the class and the role inside
abbrev pub near_class : List ℕ
near_class = codes "A"

abbrev pub near_role : List ℕ
near_role = codes "r"

-- the class and the role outside
abbrev pub far_class : List ℕ
far_class = codes "B"

abbrev pub far_role : List ℕ
far_role = codes "q"

abbrev pub individual : List ℕ
individual = codes "i"

abbrev pub inside : Scope
inside = listed (name_of kind.Class near_class ∷ name_of kind.Role near_role ∷ [])

abbrev pub A : ClassExpr
A = expr.Class near_class

abbrev pub B : ClassExpr
B = expr.Class far_class

abbrev pub r : List ℕ
r = near_role

abbrev pub q : List ℕ
q = far_role

-- the verdict for bottom, for top, and where outside classes are empty and outside roles the identity
abbrev pub Bot : ClassExpr → Finding → Type 0
Bot c f = verdict class.Empty role.Empty inside c ≡ f

abbrev pub Top : ClassExpr → Finding → Type 0
Top c f = verdict class.Full role.Full inside c ≡ f

abbrev pub Id : ClassExpr → Finding → Type 0
Id c f = verdict class.Empty role.Identity inside c ≡ f

-- the constructors
pub record VerdictTable : Type 0 where
  pub thing : Bot expr.Thing Full × Top expr.Thing Full
  pub nothing : Bot expr.Nothing Empty × Top expr.Nothing Empty
  pub class : Bot A Unknown × Bot B Empty × Top A Unknown × Top B Full
  pub and : Bot (expr.And (A ∷ B ∷ [])) Empty × Top (expr.And (A ∷ B ∷ [])) Unknown × Top (expr.And (B ∷ expr.Thing ∷ [])) Full
  pub or : Bot (expr.Or (A ∷ B ∷ [])) Unknown × Top (expr.Or (A ∷ B ∷ [])) Full × Bot (expr.Or (B ∷ expr.Nothing ∷ [])) Empty
  pub not : Bot (expr.Not B) Full × Top (expr.Not B) Empty × Bot (expr.Not A) Unknown
  pub some_out : Bot (expr.Some q A) Empty × Top (expr.Some q A) Unknown × Top (expr.Some q B) Full × Id (expr.Some q A) Unknown × Id (expr.Some q expr.Thing) Full
  pub some_in : Bot (expr.Some r A) Unknown × Bot (expr.Some r B) Empty × Top (expr.Some r B) Unknown × Id (expr.Some r expr.Thing) Unknown
  pub all_out : Bot (expr.All q A) Full × Top (expr.All q A) Unknown × Top (expr.All q expr.Nothing) Empty × Id (expr.All q B) Empty
  pub all_in : Bot (expr.All r A) Unknown × Bot (expr.All r B) Unknown × Top (expr.All r B) Full × Id (expr.All r B) Unknown
  pub min_none : Bot (expr.Min 0 r A) Full × Top (expr.Min 0 r A) Full
  pub min_one : Bot (expr.Min 1 q A) Empty × Top (expr.Min 1 q B) Full × Id (expr.Min 1 q B) Empty
  pub min_two : Bot (expr.Min 2 r B) Empty × Top (expr.Min 2 q B) Unknown × Id (expr.Min 2 q A) Empty
  pub max_none : Bot (expr.Max 0 q A) Full × Top (expr.Max 0 q B) Empty × Top (expr.Max 0 q A) Unknown
  pub max_one : Bot (expr.Max 1 q A) Full × Bot (expr.Max 1 r B) Full × Top (expr.Max 1 q B) Unknown × Id (expr.Max 1 q A) Full
  pub exact_none : Bot (expr.Exact 0 q A) Full × Top (expr.Exact 0 q B) Empty
  pub exact_one : Bot (expr.Exact 1 r B) Empty × Top (expr.Exact 1 q B) Unknown × Id (expr.Exact 1 q B) Empty × Id (expr.Exact 1 q expr.Thing) Full
  -- the rows that are left, number by number
  pub min_one_more : Id (expr.Min 1 q expr.Thing) Full
  pub min_more : Bot (expr.Min 2 q A) Empty × Bot (expr.Min 3 q A) Empty × Bot (expr.Min 3 r B) Empty × Id (expr.Min 3 q A) Empty × Top (expr.Min 3 q B) Unknown
  pub max_none_more : Bot (expr.Max 0 r B) Full × Id (expr.Max 0 q expr.Thing) Empty
  pub max_more : Bot (expr.Max 2 q A) Full × Bot (expr.Max 2 r B) Full × Id (expr.Max 2 q A) Full × Top (expr.Max 2 q B) Unknown
  pub exact_none_more : Bot (expr.Exact 0 r B) Full × Id (expr.Exact 0 q expr.Thing) Empty
  pub exact_one_more : Bot (expr.Exact 1 q A) Empty
  pub exact_more : Bot (expr.Exact 2 r B) Empty × Bot (expr.Exact 3 q A) Empty × Bot (expr.Exact 3 r B) Empty × Id (expr.Exact 3 q A) Empty × Top (expr.Exact 3 q B) Unknown
  pub exact_two : Bot (expr.Exact 2 q A) Empty × Top (expr.Exact 2 q B) Unknown × Id (expr.Exact 2 q A) Empty

-- whether the axiom is local for bottom, for top and for the identity
abbrev pub BotLocal : Body → Bool → Type 0
BotLocal b t = is_local class.Empty role.Empty inside b ≡ t

abbrev pub TopLocal : Body → Bool → Type 0
TopLocal b t = is_local class.Full role.Full inside b ≡ t

abbrev pub IdLocal : Body → Bool → Type 0
IdLocal b t = is_local class.Empty role.Identity inside b ≡ t

-- the kinds of axioms
pub record LocalTable : Type 0 where
  pub sub : BotLocal (body.Sub B A) true × BotLocal (body.Sub A B) false × TopLocal (body.Sub A B) true × TopLocal (body.Sub B A) false
  pub equiv : BotLocal (body.Equiv B B) true × BotLocal (body.Equiv A B) false × TopLocal (body.Equiv B B) true × TopLocal (body.Equiv A A) false
  pub disjoint : BotLocal (body.Disjoint A A) false × BotLocal (body.Disjoint B B) true × BotLocal (body.Disjoint A B) true × TopLocal (body.Disjoint B B) false
  pub sub_role : BotLocal (body.SubRole q r) true × BotLocal (body.SubRole r q) false × TopLocal (body.SubRole r q) true × TopLocal (body.SubRole q r) false
  pub sub_role_id : IdLocal (body.SubRole q q) true × IdLocal (body.SubRole q r) false
  pub chain : BotLocal (body.Chain r q r) true × BotLocal (body.Chain r r q) false × TopLocal (body.Chain r r q) true × TopLocal (body.Chain q q r) false
  pub chain_id : IdLocal (body.Chain q q q) true × IdLocal (body.Chain q q r) false
  pub equiv_roles : BotLocal (body.EquivRoles q q) true × BotLocal (body.EquivRoles q r) false × TopLocal (body.EquivRoles q q) true
  pub disjoint_roles : BotLocal (body.DisjointRoles r q) true × BotLocal (body.DisjointRoles r r) false × TopLocal (body.DisjointRoles q q) false
  pub inverse : BotLocal (body.Inverse q q) true × BotLocal (body.Inverse r q) false × TopLocal (body.Inverse q q) true
  pub transitive : BotLocal (body.Transitive q) true × BotLocal (body.Transitive r) false × TopLocal (body.Transitive q) true
  pub reflexive : BotLocal (body.Reflexive q) false × TopLocal (body.Reflexive q) true × IdLocal (body.Reflexive q) true × TopLocal (body.Reflexive r) false
  pub symmetric : BotLocal (body.Symmetric q) true × BotLocal (body.Symmetric r) false × TopLocal (body.Symmetric q) true
  pub asymmetric : BotLocal (body.Asymmetric q) true × BotLocal (body.Asymmetric r) false × TopLocal (body.Asymmetric q) false × IdLocal (body.Asymmetric q) false
  pub functional : BotLocal (body.Functional q) true × BotLocal (body.Functional r) false × TopLocal (body.Functional q) false × IdLocal (body.Functional q) true
  pub inverse_functional : BotLocal (body.InverseFunctional q) true × BotLocal (body.InverseFunctional r) false × TopLocal (body.InverseFunctional q) false × IdLocal (body.InverseFunctional q) true
  pub domain : BotLocal (body.Domain q A) true × BotLocal (body.Domain r A) false × TopLocal (body.Domain r B) true × TopLocal (body.Domain q A) false
  pub range : BotLocal (body.Range q A) true × BotLocal (body.Range r A) false × TopLocal (body.Range r B) true × TopLocal (body.Range q A) false
  pub class_assertion : TopLocal (body.ClassAssertion B individual) true × BotLocal (body.ClassAssertion B individual) false × TopLocal (body.ClassAssertion A individual) false
  pub role_assertion : TopLocal (body.RoleAssertion q individual individual) true × BotLocal (body.RoleAssertion q individual individual) false × TopLocal (body.RoleAssertion r individual individual) false
  -- the first part of each row alone, and roles that are the identity
  pub first_parts : BotLocal (body.Disjoint B A) true × BotLocal (body.Chain q r r) true × BotLocal (body.DisjointRoles q r) true
  pub identities : IdLocal (body.EquivRoles q q) true × IdLocal (body.Inverse q q) true × IdLocal (body.Transitive q) true × IdLocal (body.Symmetric q) true
