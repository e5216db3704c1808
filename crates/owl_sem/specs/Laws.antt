-- What the definitions of this crate amount to: what depends on the names alone, that class expressions, axioms and
-- keeping are those of the standard, and how keeping goes on from step to step. (OWL 2 Direct Semantics; keeping: own.)
use Rattle.std.specs.Prelude.{ℕ, ◌≡◌, ◌<◌, ◌↔◌, true, false, ◌&&◌, List, ◌++◌, Contains}
use Rattle.owl_axioms.specs.Names.{Scope, body_names, common, covers, names_in, names_of}
use Rattle.owl_axioms.specs.declared.body.Axiom.{Axiom}
use Rattle.owl_axioms.specs.declared.body.Body.{Body}
use Rattle.owl_axioms.specs.declared.body.Body.TheVariants as body
use Rattle.owl_axioms.specs.declared.expr.ClassExpr.{ClassExpr}
use Rattle.owl_axioms.specs.declared.expr.ClassExpr.TheVariants as expr
use Rattle.owl_axioms.specs.declared.name.Kind.{Kind}
use Rattle.owl_sem.specs.Interp.{Interp, in_role, member}
use Rattle.owl_sem.specs.Models.{Agrees, EntailsAll, IsModel, Keeps, KeepsAll, Satisfies, logical_of}

-- ---- names

-- what members an expression has depends on its names alone
abbrev pub MembersDependOnNames : Type 0
MembersDependOnNames = (s : Scope) (i j : Interp) → Agrees i j s → (c : ClassExpr) → covers s (names_in c) ≡ true → (e : ℕ) → member i c e ≡ member j c e

-- and so does whether an axiom is satisfied
abbrev pub SatisfactionDependsOnNames : Type 0
SatisfactionDependsOnNames = (s : Scope) (i j : Interp) → Agrees i j s → (b : Body) → covers s (body_names b) ≡ true → Satisfies i b → Satisfies j b

-- and which interpretations are models of axioms
abbrev pub ModelsDependOnNames : Type 0
ModelsDependOnNames = (s : Scope) (i j : Interp) → Agrees i j s → (axioms : List Axiom) → covers s (names_of axioms) ≡ true → IsModel i axioms → IsModel j axioms

-- ---- expressions

-- owl:Thing has every element, and owl:Nothing none
pub record ThingAndNothing : Type 0 where
  pub thing : (i : Interp) (e : ℕ) → member i expr.Thing e ≡ true
  pub nothing : (i : Interp) (e : ℕ) → member i expr.Nothing e ≡ false

-- the complement of the complement is the expression itself
abbrev pub TwoComplements : Type 0
TwoComplements = (i : Interp) (c : ClassExpr) (e : ℕ) → member i (expr.Not (expr.Not c)) e ≡ member i c e

-- Some has the elements that the role leads from to some member, and All those that it leads from to members alone, so
-- that All is no Some outside
pub record FillersAre : Type 0 where
  pub some : (i : Interp) (r : List ℕ) (c : ClassExpr) (e : ℕ) → (member i (expr.Some r c) e ≡ true) ↔ (f : ℕ) × (in_role i r e f ≡ true) × (member i c f ≡ true)
  pub all : (i : Interp) (r : List ℕ) (c : ClassExpr) (e : ℕ) → (member i (expr.All r c) e ≡ true) ↔ ((f : ℕ) → in_role i r e f ≡ true → member i c f ≡ true)
  pub all_by_some : (i : Interp) (r : List ℕ) (c : ClassExpr) (e : ℕ) → member i (expr.All r c) e ≡ member i (expr.Not (expr.Some r (expr.Not c))) e

-- at least none is everything, at least one is Some, at most none is no Some, and exactly so many is at least and at most
-- so many
pub record NumbersAre : Type 0 where
  pub min_none : (i : Interp) (r : List ℕ) (c : ClassExpr) (e : ℕ) → member i (expr.Min 0 r c) e ≡ true
  pub min_one : (i : Interp) (r : List ℕ) (c : ClassExpr) (e : ℕ) → member i (expr.Min 1 r c) e ≡ member i (expr.Some r c) e
  pub max_none : (i : Interp) (r : List ℕ) (c : ClassExpr) (e : ℕ) → member i (expr.Max 0 r c) e ≡ member i (expr.Not (expr.Some r c)) e
  pub exact : (i : Interp) (n : ℕ) (r : List ℕ) (c : ClassExpr) (e : ℕ) → member i (expr.Exact n r c) e ≡ (member i (expr.Min n r c) e && member i (expr.Max n r c) e)

-- ---- axioms

-- the axioms that others stand for
pub record AxiomsAre : Type 0 where
  -- equivalent classes are each a subclass of the other
  pub equivalent : (i : Interp) (c d : ClassExpr) → Satisfies i (body.Equiv c d) ↔ (Satisfies i (body.Sub c d) × Satisfies i (body.Sub d c))
  -- a class that is disjoint from itself is empty
  pub disjoint : (i : Interp) (c : ClassExpr) → Satisfies i (body.Disjoint c c) ↔ ((e : ℕ) → e < i.size → member i c e ≡ false)
  -- equivalent roles are each a subrole of the other
  pub equivalent_roles : (i : Interp) (r s : List ℕ) → Satisfies i (body.EquivRoles r s) ↔ (Satisfies i (body.SubRole r s) × Satisfies i (body.SubRole s r))
  -- a transitive role is a chain of itself
  pub transitive : (i : Interp) (r : List ℕ) → Satisfies i (body.Transitive r) ↔ Satisfies i (body.Chain r r r)
  -- a symmetric role is its own inverse
  pub symmetric : (i : Interp) (r : List ℕ) → Satisfies i (body.Symmetric r) ↔ Satisfies i (body.Inverse r r)
  -- an asymmetric role is disjoint from each inverse of it
  pub asymmetric : (i : Interp) (r s : List ℕ) → Satisfies i (body.Inverse r s) → Satisfies i (body.Asymmetric r) ↔ Satisfies i (body.DisjointRoles r s)
  -- a domain has what has a filler, and a range has each filler
  pub domain : (i : Interp) (r : List ℕ) (c : ClassExpr) → Satisfies i (body.Domain r c) ↔ Satisfies i (body.Sub (expr.Some r expr.Thing) c)
  pub range : (i : Interp) (r : List ℕ) (c : ClassExpr) → Satisfies i (body.Range r c) ↔ Satisfies i (body.Sub expr.Thing (expr.All r c))

-- ---- keeping

-- all names of the first scope are in the second
abbrev pub Within : Scope → Scope → Type 0
Within s t = (k : Kind) (a : List ℕ) → s k a ≡ true → t k a ≡ true

-- each keeps all names of the other: they have the same models
abbrev pub KeepBoth : List Axiom → List Axiom → Type 0
KeepBoth axioms others = KeepsAll axioms others × KeepsAll others axioms

-- axioms keep themselves over each scope
abbrev pub KeepingIsReflexive : Type 0
KeepingIsReflexive = (axioms : List Axiom) (s : Scope) → Keeps axioms axioms s

-- keeping goes on over the common names
abbrev pub KeepingComposes : Type 0
KeepingComposes = (axioms part rest : List Axiom) (s t : Scope) → Keeps axioms part s → Keeps part rest t → Keeps axioms rest (common s t)

-- over all names it goes on as it stands
abbrev pub KeepingAllComposes : Type 0
KeepingAllComposes = (axioms part rest : List Axiom) → KeepsAll axioms part → KeepsAll part rest → KeepsAll axioms rest

-- what keeps over a scope keeps over each smaller one
abbrev pub KeepingLess : Type 0
KeepingLess = (axioms part : List Axiom) (s t : Scope) → Within t s → Keeps axioms part s → Keeps axioms part t

-- axioms that follow may be added
abbrev pub AddingEntailedKeeps : Type 0
AddingEntailedKeeps = (axioms more : List Axiom) → EntailsAll axioms more → KeepBoth axioms (axioms ++ more)

-- and what follows from the rest may be taken away
abbrev pub TakingEntailedKeeps : Type 0
TakingEntailedKeeps = (axioms rest : List Axiom) → ((a : Axiom) → Contains rest a → Contains axioms a) → EntailsAll rest axioms → KeepBoth axioms rest

-- order and repeats do not matter
abbrev pub SameAxiomsKeep : Type 0
SameAxiomsKeep = (axioms others : List Axiom) → ((a : Axiom) → Contains axioms a ↔ Contains others a) → KeepBoth axioms others

-- axioms that are not logical do not matter
abbrev pub LogicalKeeps : Type 0
LogicalKeeps = (axioms : List Axiom) → KeepBoth axioms (logical_of axioms)
