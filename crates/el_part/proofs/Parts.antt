-- Parts of EL expressions are EL expressions, and so is all that occurs.
use Rattle.std.proofs.Common.{◌≡◌, ℕ, Bool, true, false, List, [], ◌∷◌, inl, inr, length, nat_eq, nat_le, refl, sym, ap, subst, ◌∙◌, true≢false}
use Rattle.std.specs.Cmp.Lexicographic.{pointwise}
use Rattle.std.specs.List.{flat_map, list_all}
use Rattle.fact_rows.specs.Member.{In, here, there}
use Rattle.fact_rows.proofs.Members.{and_parts, by_bool, from_flat_map, in_cons, in_flat_map, in_none, in_one}
use Rattle.owl_axioms.specs.Classes.{class_named}
use Rattle.owl_axioms.specs.Names.{name_of}
use Rattle.owl_axioms.specs.Vocabulary.{owl_nothing, owl_thing}
use Rattle.owl_axioms.specs.declared.body.Axiom.{Axiom}
use Rattle.owl_axioms.specs.declared.body.Body.{Body}
use Rattle.owl_axioms.specs.declared.body.Body.TheVariants as body
use Rattle.owl_axioms.specs.declared.expr.ClassExpr.{ClassExpr}
use Rattle.owl_axioms.specs.declared.expr.ClassExpr.TheOpen.{ClassExpr-F}
use Rattle.owl_axioms.specs.declared.expr.ClassExpr.TheVariants as expr
use Rattle.owl_axioms.specs.declared.expr.ClassExpr.TheViews.{out-ClassExpr, roll-ClassExpr, roll-out-ClassExpr}
use Rattle.owl_axioms.specs.declared.name.Kind.{Kind}
use Rattle.owl_axioms.specs.declared.name.Kind.TheVariants as kind
use Rattle.owl_axioms.specs.declared.name.Name.{Name}
use Rattle.expr_pool.specs.Part.{Inside, deeper, itself, layer_parts, parts_of}
use Rattle.el_rules.specs.ElPart.{el_bodies, if_el, is_el}
use Rattle.el_rules.specs.Occurs.{IsDeclared, Occurs, declared, exprs_in, nothing, part, standing, thing}
use Rattle.el_part.proofs.ClassLemmas.{iri_itself, iri_tells}
use Rattle.el_part.proofs.Layers.{el_of_all, el_of_and, el_of_class, el_of_exact, el_of_max, el_of_min, el_of_not, el_of_nothing, el_of_or, el_of_some, el_of_thing}
use Rattle.el_part.specs.inner.Made.{declared_as, declared_in, named_trees}

-- ---- parts

all_el : (es : List ClassExpr) → list_all is_el es ≡ true → {p : ClassExpr} → In p es → is_el p ≡ true
all_el [] h i = in_none i
all_el (e ∷ es) h {p} i = elim (in_cons i) [
  | inl s ↦ ap is_el s ∙ (and_parts _ _ h).0
  | inr j ↦ all_el es (and_parts _ _ h).1 j
]

no_el : {P : Type 0} (e : ClassExpr) → is_el e ≡ true → is_el e ≡ false → P
no_el e h k = absurd (true≢false (sym h ∙ k))

layer_el : (x : ClassExpr-F ClassExpr) (p : ClassExpr) → is_el (roll-ClassExpr x) ≡ true → In p (layer_parts x) → is_el p ≡ true
unfolding layer_parts roll-ClassExpr denote.Hole.Carrier.roll
layer_el ClassExpr-F.Thing p h i = in_none i
layer_el ClassExpr-F.Nothing p h i = in_none i
layer_el (ClassExpr-F.Class iri) p h i = in_none i
layer_el (ClassExpr-F.And es) p h i = all_el es (and_parts (nat_le 2 (length es)) (list_all is_el es) (sym (el_of_and es) ∙ h)).1 i
layer_el (ClassExpr-F.Or es) p h i = no_el (expr.Or es) h (el_of_or es)
layer_el (ClassExpr-F.Not e) p h i = no_el (expr.Not e) h (el_of_not e)
layer_el (ClassExpr-F.Some r e) p h i = ap is_el (in_one i) ∙ sym (el_of_some r e) ∙ h
layer_el (ClassExpr-F.All r e) p h i = no_el (expr.All r e) h (el_of_all r e)
layer_el (ClassExpr-F.Min n r e) p h i = no_el (expr.Min n r e) h (el_of_min n r e)
layer_el (ClassExpr-F.Max n r e) p h i = no_el (expr.Max n r e) h (el_of_max n r e)
layer_el (ClassExpr-F.Exact n r e) p h i = no_el (expr.Exact n r e) h (el_of_exact n r e)

part_el : (t p : ClassExpr) → is_el t ≡ true → In p (parts_of t) → is_el p ≡ true
unfolding parts_of
part_el t p h i = layer_el (out-ClassExpr t) p (ap is_el (roll-out-ClassExpr t) ∙ h) i

-- ---- the expressions in the axioms of the part

in_if_el : (exprs : List ClassExpr) (said : List Body) (b : Body) → In b (if_el exprs said) → (list_all is_el exprs ≡ true) × In b said
in_if_el exprs said b i = by (list_all is_el exprs) refl
  where
    by : (t : Bool) → list_all is_el exprs ≡ t → (list_all is_el exprs ≡ true) × In b said
    by true e = (e, subst (λ l. In b l) (rw e refl) i)
    by false e = in_none (subst (λ l. In b l) (rw e refl) i)

two_el : (c d : ClassExpr) → list_all is_el (c ∷ d ∷ []) ≡ true → {x : ClassExpr} → In x (c ∷ d ∷ []) → is_el x ≡ true
two_el c d h i = all_el (c ∷ d ∷ []) h i

swap : (c d : ClassExpr) → {x : ClassExpr} → In x (d ∷ c ∷ []) → In x (c ∷ d ∷ [])
swap c d {x} i = elim (in_cons i) [
  | inl e ↦ subst (λ y. In y (c ∷ d ∷ [])) (sym e) (there here)
  | inr j ↦ subst (λ y. In y (c ∷ d ∷ [])) (sym (in_one j)) here
]

only_in : (b d : Body) (x : ClassExpr) → In b (d ∷ []) → In x (exprs_in b) → In x (exprs_in d)
only_in b d x i j = subst (λ y. In x (exprs_in y)) (in_one i) j

body_el : (a b : Body) (x : ClassExpr) → In b (el_bodies a) → In x (exprs_in b) → is_el x ≡ true
unfolding el_bodies exprs_in
body_el (body.Sub c d) b x i j = let p = in_if_el (c ∷ d ∷ []) (body.Sub c d ∷ []) b i in two_el c d p.0 (only_in b (body.Sub c d) x p.1 j)
body_el (body.Equiv c d) b x i j =
    let p = in_if_el (c ∷ d ∷ []) (body.Sub c d ∷ body.Sub d c ∷ []) b i in
    elim (in_cons p.1) [
      | inl e ↦ two_el c d p.0 (subst (λ y. In x (exprs_in y)) e j)
      | inr k ↦ two_el c d p.0 (swap c d (only_in b (body.Sub d c) x k j))
    ]
body_el (body.Disjoint c d) b x i j = let p = in_if_el (c ∷ d ∷ []) (body.Disjoint c d ∷ []) b i in two_el c d p.0 (only_in b (body.Disjoint c d) x p.1 j)
body_el (body.Domain r c) b x i j = let p = in_if_el (c ∷ []) (body.Domain r c ∷ []) b i in all_el (c ∷ []) p.0 (only_in b (body.Domain r c) x p.1 j)
body_el (body.SubRole r s) b x i j = in_none (only_in b (body.SubRole r s) x i j)
body_el (body.Chain r s t) b x i j = in_none (only_in b (body.Chain r s t) x i j)
body_el (body.EquivRoles r s) b x i j = elim (in_cons i) [
  | inl e ↦ in_none (subst (λ y. In x (exprs_in y)) e j)
  | inr k ↦ in_none (only_in b (body.SubRole s r) x k j)
]
body_el (body.Transitive r) b x i j = in_none (only_in b (body.Chain r r r) x i j)
body_el (body.DisjointRoles r s) b x i j = in_none i
body_el (body.Inverse r s) b x i j = in_none i
body_el (body.Reflexive r) b x i j = in_none i
body_el (body.Symmetric r) b x i j = in_none i
body_el (body.Asymmetric r) b x i j = in_none i
body_el (body.Functional r) b x i j = in_none i
body_el (body.InverseFunctional r) b x i j = in_none i
body_el (body.Range r c) b x i j = in_none i
body_el (body.ClassAssertion c a) b x i j = in_none i
body_el (body.RoleAssertion r y z) b x i j = in_none i
body_el (body.Declaration name) b x i j = in_none i
body_el (body.Note s p v) b x i j = in_none i
body_el (body.OntologyNote p v) b x i j = in_none i

-- all that occurs is an EL expression
pub occurs_el : (axioms : List Axiom) {t : ClassExpr} → Occurs axioms t → is_el t ≡ true
occurs_el axioms thing = el_of_thing
occurs_el axioms nothing = el_of_nothing
occurs_el axioms (declared {a} d n m) = el_of_class a
occurs_el axioms (standing {b} {c} i j) = let f = from_flat_map (λ (a : Axiom). el_bodies a.body) axioms i in body_el f.it.body b c f.out j
occurs_el axioms (part {c} {p} o i) = part_el c p (occurs_el axioms o) i

-- ---- declared classes

-- the class of an IRI, by cases
pub named_by : (P : ClassExpr → Type 0) (iri : List ℕ) → (iri ≡ owl_thing → P expr.Thing) → (iri ≡ owl_nothing → P expr.Nothing) → (¬ (iri ≡ owl_thing) → ¬ (iri ≡ owl_nothing) → P (expr.Class iri)) → P (class_named iri)
unfolding class_named
named_by P iri one two three = by_bool (pointwise nat_eq iri owl_thing)
    (λ (t : pointwise nat_eq iri owl_thing ≡ true). rw t (one (iri_tells iri owl_thing t)))
    (λ (f : pointwise nat_eq iri owl_thing ≡ false).
    rw f (by_bool (pointwise nat_eq iri owl_nothing)
    (λ (t : pointwise nat_eq iri owl_nothing ≡ true). rw t (two (iri_tells iri owl_nothing t)))
    (λ (g : pointwise nat_eq iri owl_nothing ≡ false). rw g (three
    (λ e. true≢false (sym (subst (λ x. pointwise nat_eq x owl_thing ≡ true) (sym e) (iri_itself owl_thing)) ∙ f))
    (λ e. true≢false (sym (subst (λ x. pointwise nat_eq x owl_nothing ≡ true) (sym e) (iri_itself owl_nothing)) ∙ g))))))

pub class_is_named : (iri : List ℕ) → ¬ (iri ≡ owl_thing) → ¬ (iri ≡ owl_nothing) → class_named iri ≡ expr.Class iri
class_is_named iri n m = named_by (λ c. c ≡ expr.Class iri) iri (λ e. absurd (n e)) (λ e. absurd (m e)) (λ a b. refl)

-- a class among those that an entity or an axiom declares
as_class : (k : Kind) (iri : List ℕ) (c : ClassExpr) → In c (declared_as k iri) → (k ≡ kind.Class) × (c ≡ class_named iri)
unfolding declared_as
as_class kind.Class iri c i = (refl, in_one i)
as_class kind.Role iri c i = in_none i
as_class kind.Individual iri c i = in_none i
as_class kind.AnnotationProperty iri c i = in_none i

same_name : (n : Name) (iri : List ℕ) → n.kind ≡ kind.Class → n.iri ≡ iri → n ≡ name_of kind.Class iri
same_name n iri e f = λ i. record { kind = e i; iri = f i }

in_class : (b : Body) (c : ClassExpr) → In c (declared_in b) → (a : List ℕ) × (b ≡ body.Declaration (name_of kind.Class a)) × (c ≡ class_named a)
unfolding declared_in
in_class (body.Declaration name) c i = let p = as_class name.kind name.iri c i in (name.iri, ap (λ n. body.Declaration n) (same_name name name.iri p.0 refl), p.1)
in_class (body.Sub d e) c i = in_none i
in_class (body.Equiv d e) c i = in_none i
in_class (body.Disjoint d e) c i = in_none i
in_class (body.SubRole r s) c i = in_none i
in_class (body.Chain r s t) c i = in_none i
in_class (body.EquivRoles r s) c i = in_none i
in_class (body.DisjointRoles r s) c i = in_none i
in_class (body.Inverse r s) c i = in_none i
in_class (body.Transitive r) c i = in_none i
in_class (body.Reflexive r) c i = in_none i
in_class (body.Symmetric r) c i = in_none i
in_class (body.Asymmetric r) c i = in_none i
in_class (body.Functional r) c i = in_none i
in_class (body.InverseFunctional r) c i = in_none i
in_class (body.Domain r d) c i = in_none i
in_class (body.Range r d) c i = in_none i
in_class (body.ClassAssertion d a) c i = in_none i
in_class (body.RoleAssertion r y z) c i = in_none i
in_class (body.Note s p v) c i = in_none i
in_class (body.OntologyNote p v) c i = in_none i

class_in : (a : List ℕ) → In (class_named a) (declared_in (body.Declaration (name_of kind.Class a)))
unfolding declared_in declared_as
class_in a = here

-- ---- roots

-- what is named occurs
pub named_occurs : (axioms : List Axiom) (t : ClassExpr) → In t (named_trees axioms) → Occurs axioms t
named_occurs axioms t i = elim (in_cons i) [
  | inl e ↦ subst (Occurs axioms) (sym e) thing
  | inr j ↦ elim (in_cons j) [
    | inl e ↦ subst (Occurs axioms) (sym e) nothing
    | inr k ↦
        let f = from_flat_map (λ (a : Axiom). declared_in a.body) axioms k in
        let d = in_class f.it.body t f.out in
        subst (Occurs axioms) (sym d.2) (named_by (Occurs axioms) d.0 (λ e. thing) (λ e. nothing) (λ n m. declared (f.it, f.inside, d.1) n m))
  ]
]

pub declared_named : (axioms : List Axiom) (a : List ℕ) → IsDeclared axioms a → ¬ (a ≡ owl_thing) → ¬ (a ≡ owl_nothing) → In (expr.Class a) (named_trees axioms)
declared_named axioms a d n m =
    let here_in : In (class_named a) (declared_in d.0.body) = subst (λ b. In (class_named a) (declared_in b)) (sym d.2) (class_in a) in
    there (there (subst (λ c. In c (flat_map (λ (x : Axiom). declared_in x.body) axioms)) (class_is_named a n m) (in_flat_map (λ (x : Axiom). declared_in x.body) d.1 here_in)))

pub inside_occurs : (axioms : List Axiom) {w t : ClassExpr} → Occurs axioms w → Inside w t → Occurs axioms t
inside_occurs axioms o itself = o
inside_occurs axioms o (deeper h i) = part (inside_occurs axioms o h) i
