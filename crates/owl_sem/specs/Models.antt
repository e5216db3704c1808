-- Satisfaction, models, entailment, agreement and keeping. (OWL 2 Direct Semantics, sections 2.3 to 2.5, on finite
-- domains; model conservativity: Cuenca Grau, Horrocks, Kazakov and Sattler, JAIR 31 (2008), here for finite models.)
use Rattle.std.specs.Prelude.{ℕ, ◌≡◌, ◌<◌, ◌≤◌, Bool, true, false, ◌&&◌, List, Contains, filter}
use Rattle.owl_axioms.specs.Names.{Scope, all_names}
use Rattle.owl_axioms.specs.declared.body.Axiom.{Axiom}
use Rattle.owl_axioms.specs.declared.body.Body.{Body}
use Rattle.owl_axioms.specs.declared.body.Body.TheVariants as body
use Rattle.owl_axioms.specs.declared.name.Kind.TheVariants as kind
use Rattle.owl_sem.specs.Interp.{Interp, in_class, in_role, individual, member}

-- what r and then s lead to, t leads to
abbrev pub SatisfiesChain : Interp → List ℕ → List ℕ → List ℕ → Type 0
SatisfiesChain i r s t = (e f g : ℕ) → in_role i r e f ≡ true → in_role i s f g ≡ true → in_role i t e g ≡ true

-- the interpretation satisfies what an axiom says; what is not logical it always does
unfoldable pub Satisfies : Interp → Body → Type 0
Satisfies i (body.Sub c d) = (e : ℕ) → e < i.size → member i c e ≡ true → member i d e ≡ true
Satisfies i (body.Equiv c d) = (e : ℕ) → e < i.size → member i c e ≡ member i d e
Satisfies i (body.Disjoint c d) = (e : ℕ) → e < i.size → (member i c e && member i d e) ≡ false
Satisfies i (body.SubRole r s) = (e f : ℕ) → in_role i r e f ≡ true → in_role i s e f ≡ true
Satisfies i (body.Chain r s t) = SatisfiesChain i r s t
Satisfies i (body.EquivRoles r s) = (e f : ℕ) → in_role i r e f ≡ in_role i s e f
Satisfies i (body.DisjointRoles r s) = (e f : ℕ) → (in_role i r e f && in_role i s e f) ≡ false
Satisfies i (body.Inverse r s) = (e f : ℕ) → in_role i r e f ≡ in_role i s f e
Satisfies i (body.Transitive r) = SatisfiesChain i r r r
Satisfies i (body.Reflexive r) = (e : ℕ) → e < i.size → in_role i r e e ≡ true
Satisfies i (body.Symmetric r) = (e f : ℕ) → in_role i r e f ≡ true → in_role i r f e ≡ true
Satisfies i (body.Asymmetric r) = (e f : ℕ) → (in_role i r e f && in_role i r f e) ≡ false
Satisfies i (body.Functional r) = (e f g : ℕ) → in_role i r e f ≡ true → in_role i r e g ≡ true → f ≡ g
Satisfies i (body.InverseFunctional r) = (e f g : ℕ) → in_role i r f e ≡ true → in_role i r g e ≡ true → f ≡ g
Satisfies i (body.Domain r c) = (e f : ℕ) → in_role i r e f ≡ true → member i c e ≡ true
Satisfies i (body.Range r c) = (e f : ℕ) → in_role i r e f ≡ true → member i c f ≡ true
Satisfies i (body.ClassAssertion c a) = member i c (individual i a) ≡ true
Satisfies i (body.RoleAssertion r a b) = in_role i r (individual i a) (individual i b) ≡ true
Satisfies i (body.Declaration name) = Unit {0}
Satisfies i (body.Note subject property value) = Unit {0}
Satisfies i (body.OntologyNote property value) = Unit {0}

-- models speak of what an axiom says
unfoldable pub is_logical : Body → Bool
is_logical (body.Declaration name) = false
is_logical (body.Note subject property value) = false
is_logical (body.OntologyNote property value) = false
is_logical _ = true

-- the logical axioms, in their order
abbrev pub logical_of : List Axiom → List Axiom
logical_of axioms = filter (λ a. is_logical a.body) axioms

-- an interpretation with an element that satisfies each axiom
pub record IsModel (i : Interp) (axioms : List Axiom) : Type 0 where
  pub some : 1 ≤ i.size
  pub each : (a : Axiom) → Contains axioms a → Satisfies i a.body

-- each finite model of the axioms satisfies what is said
abbrev pub Entails : List Axiom → Body → Type 0
Entails axioms b = (i : Interp) → IsModel i axioms → Satisfies i b

-- each of the second axioms follows from the first
abbrev pub EntailsAll : List Axiom → List Axiom → Type 0
EntailsAll axioms others = (a : Axiom) → Contains others a → Entails axioms a.body

-- the same elements, and each name of the scope is the same in both
pub record Agrees (i j : Interp) (s : Scope) : Type 0 where
  pub sizes : i.size ≡ j.size
  pub classes : (a : List ℕ) → s kind.Class a ≡ true → (e : ℕ) → in_class i a e ≡ in_class j a e
  pub roles : (r : List ℕ) → s kind.Role r ≡ true → (e f : ℕ) → in_role i r e f ≡ in_role j r e f
  pub individuals : (a : List ℕ) → s kind.Individual a ≡ true → individual i a ≡ individual j a

-- `part` keeps the axioms over the scope: each finite model of the axioms is one of the part, and each finite model of
-- the part agrees over the scope with a finite model of the axioms
pub record Keeps (axioms part : List Axiom) (s : Scope) : Type 0 where
  pub follows : (i : Interp) → IsModel i axioms → IsModel i part
  pub extends : (i : Interp) → IsModel i part → (j : Interp) × (IsModel j axioms × Agrees i j s)

-- the same over every name
abbrev pub KeepsAll : List Axiom → List Axiom → Type 0
KeepsAll axioms part = Keeps axioms part all_names
