-- What occurs in proper axioms is proper.
use Rattle.std.proofs.Common.{◌≡◌, true, false, Bool, inl, inr, List, [], ◌∷◌, ℕ, refl, sym, ap, subst, ◌∙◌}
use Rattle.std.specs.List.{list_all}
use Rattle.fact_rows.specs.Member.{In}
use Rattle.fact_rows.proofs.Members.{and_parts, contains_from_in, from_flat_map, in_cons, in_none, in_one}
use Rattle.owl_axioms.proofs.Layers.{proper_of_all, proper_of_exact, proper_of_max, proper_of_min, proper_of_not, proper_of_nothing, proper_of_or, proper_of_some, proper_of_thing}
use Rattle.owl_axioms.proofs.Making.{are_proper_operands-is}
use Rattle.owl_axioms.proofs.Members.{In-contains, passes}
use Rattle.owl_axioms.proofs.NamedClasses.{is_proper-named}
use Rattle.owl_axioms.specs.Names.{name_of}
use Rattle.owl_axioms.specs.Proper.{AreProper, is_proper, is_proper_body, is_proper_expr, is_proper_name}
use Rattle.rel_io.specs.Texts.{is_clean_iri}
use Rattle.owl_axioms.specs.declared.body.Axiom.{Axiom}
use Rattle.owl_axioms.specs.declared.body.Body.{Body}
use Rattle.owl_axioms.specs.declared.body.Body.TheVariants as body
use Rattle.owl_axioms.specs.declared.expr.ClassExpr.{ClassExpr}
use Rattle.owl_axioms.specs.declared.expr.ClassExpr.TheOpen.{ClassExpr-F}
use Rattle.owl_axioms.specs.declared.expr.ClassExpr.TheVariants as expr
use Rattle.owl_axioms.specs.declared.expr.ClassExpr.TheViews.{out-ClassExpr, roll-ClassExpr, roll-out-ClassExpr}
use Rattle.owl_axioms.specs.declared.name.Kind.TheVariants as kind
use Rattle.expr_pool.specs.Part.{layer_parts, parts_of}
use Rattle.el_rules.specs.ElPart.{el_bodies, if_el, is_el}
use Rattle.el_rules.specs.Occurs.{Occurs, declared, exprs_in, nothing, part, standing, thing}
use Rattle.el_part.proofs.Parts.{class_is_named}
use Rattle.relax_axioms.proofs.Wanted.{body_proper, operands_proper, pair_proper}

abbrev IsOk : ClassExpr → Type 0
IsOk c = is_proper_expr c ≡ true

-- ---- what stands in axioms

of_if : (exprs : List ClassExpr) (said : List Body) (b : Body) → In b (if_el exprs said) → In b said
of_if exprs said b i = by (list_all is_el exprs) refl
  where
    by : (t : Bool) → list_all is_el exprs ≡ t → In b said
    by true e = subst (λ l. In b l) (rw e refl) i
    by false e = in_none (subst (λ l. In b l) (rw e refl) i)

of_two : (c d : ClassExpr) → IsOk c → IsOk d → {x : ClassExpr} → In x (c ∷ d ∷ []) → IsOk x
of_two c d one other {x} i = elim (in_cons i) [
  | inl e ↦ subst IsOk (sym e) one
  | inr j ↦ subst IsOk (sym (in_one j)) other
]

only_in : (b d : Body) (x : ClassExpr) → In b (d ∷ []) → In x (exprs_in b) → In x (exprs_in d)
only_in b d x i j = subst (λ y. In x (exprs_in y)) (in_one i) j

body_exprs : (a b : Body) (x : ClassExpr) → is_proper_body a ≡ true → In b (el_bodies a) → In x (exprs_in b) → IsOk x
unfolding el_bodies exprs_in is_proper_body
body_exprs (body.Sub c d) b x ok i j = let p = and_parts (is_proper_expr c) (is_proper_expr d) ok in of_two c d p.0 p.1 (only_in b (body.Sub c d) x (of_if (c ∷ d ∷ []) (body.Sub c d ∷ []) b i) j)
body_exprs (body.Equiv c d) b x ok i j =
    let p = pair_proper c d ok in
    elim (in_cons (of_if (c ∷ d ∷ []) (body.Sub c d ∷ body.Sub d c ∷ []) b i)) [
      | inl e ↦ of_two c d p.0 p.1 (subst (λ y. In x (exprs_in y)) e j)
      | inr k ↦ of_two d c p.1 p.0 (only_in b (body.Sub d c) x k j)
    ]
body_exprs (body.Disjoint c d) b x ok i j = let p = pair_proper c d ok in of_two c d p.0 p.1 (only_in b (body.Disjoint c d) x (of_if (c ∷ d ∷ []) (body.Disjoint c d ∷ []) b i) j)
body_exprs (body.Domain r c) b x ok i j = let p = and_parts (is_clean_iri r) (is_proper_expr c) ok in subst IsOk (sym (in_one (only_in b (body.Domain r c) x (of_if (c ∷ []) (body.Domain r c ∷ []) b i) j))) p.1
body_exprs (body.SubRole r s) b x ok i j = in_none (only_in b (body.SubRole r s) x i j)
body_exprs (body.Chain r s t) b x ok i j = in_none (only_in b (body.Chain r s t) x i j)
body_exprs (body.EquivRoles r s) b x ok i j = elim (in_cons i) [
  | inl e ↦ in_none (subst (λ y. In x (exprs_in y)) e j)
  | inr k ↦ in_none (only_in b (body.SubRole s r) x k j)
]
body_exprs (body.Transitive r) b x ok i j = in_none (only_in b (body.Chain r r r) x i j)
body_exprs (body.DisjointRoles r s) b x ok i j = in_none i
body_exprs (body.Inverse r s) b x ok i j = in_none i
body_exprs (body.Reflexive r) b x ok i j = in_none i
body_exprs (body.Symmetric r) b x ok i j = in_none i
body_exprs (body.Asymmetric r) b x ok i j = in_none i
body_exprs (body.Functional r) b x ok i j = in_none i
body_exprs (body.InverseFunctional r) b x ok i j = in_none i
body_exprs (body.Range r c) b x ok i j = in_none i
body_exprs (body.ClassAssertion c a) b x ok i j = in_none i
body_exprs (body.RoleAssertion r y z) b x ok i j = in_none i
body_exprs (body.Declaration name) b x ok i j = in_none i
body_exprs (body.Note s p v) b x ok i j = in_none i
body_exprs (body.OntologyNote p v) b x ok i j = in_none i

-- ---- parts

of_all : (es : List ClassExpr) (p : ClassExpr) → list_all is_proper_expr es ≡ true → In p es → IsOk p
of_all es p all i = passes is_proper_expr p es all (In-contains p es (contains_from_in i))

or_operands : (es : List ClassExpr) → IsOk (expr.Or es) → list_all is_proper_expr es ≡ true
or_operands es ok = (and_parts _ _ (sym (are_proper_operands-is es) ∙ sym (proper_of_or es) ∙ ok)).1

only_part_of : (e p : ClassExpr) → In p (e ∷ []) → IsOk e → IsOk p
only_part_of e p i ok = subst IsOk (sym (in_one i)) ok

layer_proper : (x : ClassExpr-F ClassExpr) (p : ClassExpr) → IsOk (roll-ClassExpr x) → In p (layer_parts x) → IsOk p
unfolding layer_parts roll-ClassExpr denote.Hole.Carrier.roll
layer_proper ClassExpr-F.Thing p ok i = in_none i
layer_proper ClassExpr-F.Nothing p ok i = in_none i
layer_proper (ClassExpr-F.Class a) p ok i = in_none i
layer_proper (ClassExpr-F.And es) p ok i = of_all es p (operands_proper es ok) i
layer_proper (ClassExpr-F.Or es) p ok i = of_all es p (or_operands es ok) i
layer_proper (ClassExpr-F.Not e) p ok i = only_part_of e p i (sym (proper_of_not e) ∙ ok)
layer_proper (ClassExpr-F.Some r e) p ok i = only_part_of e p i (and_parts _ _ (sym (proper_of_some r e) ∙ ok)).1
layer_proper (ClassExpr-F.All r e) p ok i = only_part_of e p i (and_parts _ _ (sym (proper_of_all r e) ∙ ok)).1
layer_proper (ClassExpr-F.Min n r e) p ok i = only_part_of e p i (and_parts _ _ (sym (proper_of_min n r e) ∙ ok)).1
layer_proper (ClassExpr-F.Max n r e) p ok i = only_part_of e p i (and_parts _ _ (sym (proper_of_max n r e) ∙ ok)).1
layer_proper (ClassExpr-F.Exact n r e) p ok i = only_part_of e p i (and_parts _ _ (sym (proper_of_exact n r e) ∙ ok)).1

part_proper : (c p : ClassExpr) → IsOk c → In p (parts_of c) → IsOk p
unfolding parts_of
part_proper c p ok i = layer_proper (out-ClassExpr c) p (ap is_proper_expr (roll-out-ClassExpr c) ∙ ok) i

-- ---- what occurs

axiom_proper : (axioms : List Axiom) (a : Axiom) → AreProper axioms → In a axioms → is_proper_body a.body ≡ true
axiom_proper axioms a all i = body_proper a (passes is_proper a axioms all (In-contains a axioms (contains_from_in i)))

declared_clean : (a : List ℕ) (said : Body) → said ≡ body.Declaration (name_of kind.Class a) → is_proper_body said ≡ true → is_clean_iri a ≡ true
unfolding is_proper_body is_proper_name
declared_clean a said is ok = sym (ap is_proper_body is) ∙ ok

pub occurs_proper : (axioms : List Axiom) {c : ClassExpr} → AreProper axioms → Occurs axioms c → IsOk c
occurs_proper axioms all thing = proper_of_thing
occurs_proper axioms all nothing = proper_of_nothing
occurs_proper axioms all (declared {a} d no_thing no_nothing) =
    subst IsOk (class_is_named a no_thing no_nothing) (is_proper-named a (declared_clean a d.0.body d.2 (axiom_proper axioms d.0 all d.1)))
occurs_proper axioms all (standing {b} {c} i j) = let f = from_flat_map (λ (a : Axiom). el_bodies a.body) axioms i in body_exprs f.it.body b c (axiom_proper axioms f.it all f.inside) f.out j
occurs_proper axioms all (part {c} {p} o i) = part_proper c p (occurs_proper axioms all o) i
