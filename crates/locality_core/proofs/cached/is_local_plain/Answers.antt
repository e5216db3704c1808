use Rattle.std.proofs.Common.{◌≡◌, sym, ap, subst, ◌∙◌, ◌&&◌, ◌||◌}
use Rattle.std.proofs.lemmas.Option.{get_or_from_slice_get}
use Rattle.owl_axioms.specs.Signature.{scope_of}
use Rattle.owl_axioms.specs.declared.body.Body.TheVariants as body
use Rattle.locality_tables.specs.Local.{is_local, local_by}
use Rattle.locality_tables.specs.Verdict.{is_empty, is_empty_role, is_full, verdict}
use Rattle.locality_core.specs.Plain.{AreNodesOf, IsNodeIn, IsPlainOf}
use Rattle.locality_core.proofs.cached.is_local_plain.Goals as goal

pub returns-in-Sub : goal.returns-in-Sub
unfolding is_local local_by
returns-in-Sub g c =
    let ts = c.args.pool.now in
    let v = verdict g.L.Locality.CLASSES g.L.Locality.ROLES (scope_of c.args.sig.now) in
    let p : AreNodesOf ts c.in-Sub.c c.in-Sub.d (λ x y. body.Sub x y) c.args.body.now = subst (IsPlainOf ts c.args.body.now) c.in-Sub.is c.requires.nodes in
    let first : c.kept.result ≡ v p.0 = c.kept.ensures ∙ ap v (get_or_from_slice_get ts c.in-Sub.c.place p.0 _ p.3) in
    let second : c.kept-in-Sub.result ≡ v p.1 = c.kept-in-Sub.ensures ∙ ap v (get_or_from_slice_get ts c.in-Sub.d.place p.1 _ p.4) in
    c.sub_local.ensures ∙ (λ i. is_empty (first i) || is_full (second i)) ∙ sym (ap (is_local g.L.Locality.CLASSES g.L.Locality.ROLES (scope_of c.args.sig.now)) p.2)

pub returns-in-Equiv : goal.returns-in-Equiv
unfolding is_local local_by
returns-in-Equiv g c =
    let ts = c.args.pool.now in
    let v = verdict g.L.Locality.CLASSES g.L.Locality.ROLES (scope_of c.args.sig.now) in
    let p : AreNodesOf ts c.in-Equiv.c c.in-Equiv.d (λ x y. body.Equiv x y) c.args.body.now = subst (IsPlainOf ts c.args.body.now) c.in-Equiv.is c.requires.nodes in
    let first : c.kept-in-Equiv.result ≡ v p.0 = c.kept-in-Equiv.ensures ∙ ap v (get_or_from_slice_get ts c.in-Equiv.c.place p.0 _ p.3) in
    let second : c.kept-in-Equiv-2.result ≡ v p.1 = c.kept-in-Equiv-2.ensures ∙ ap v (get_or_from_slice_get ts c.in-Equiv.d.place p.1 _ p.4) in
    c.equiv_local.ensures ∙ (λ i. (is_empty (first i) && is_empty (second i)) || (is_full (first i) && is_full (second i))) ∙ sym (ap (is_local g.L.Locality.CLASSES g.L.Locality.ROLES (scope_of c.args.sig.now)) p.2)

pub returns-in-Disjoint : goal.returns-in-Disjoint
unfolding is_local local_by
returns-in-Disjoint g c =
    let ts = c.args.pool.now in
    let v = verdict g.L.Locality.CLASSES g.L.Locality.ROLES (scope_of c.args.sig.now) in
    let p : AreNodesOf ts c.in-Disjoint.c c.in-Disjoint.d (λ x y. body.Disjoint x y) c.args.body.now = subst (IsPlainOf ts c.args.body.now) c.in-Disjoint.is c.requires.nodes in
    let first : c.kept-in-Disjoint.result ≡ v p.0 = c.kept-in-Disjoint.ensures ∙ ap v (get_or_from_slice_get ts c.in-Disjoint.c.place p.0 _ p.3) in
    let second : c.kept-in-Disjoint-2.result ≡ v p.1 = c.kept-in-Disjoint-2.ensures ∙ ap v (get_or_from_slice_get ts c.in-Disjoint.d.place p.1 _ p.4) in
    c.disjoint_local.ensures ∙ (λ i. is_empty (first i) || is_empty (second i)) ∙ sym (ap (is_local g.L.Locality.CLASSES g.L.Locality.ROLES (scope_of c.args.sig.now)) p.2)

pub returns-in-Domain : goal.returns-in-Domain
unfolding is_local local_by
returns-in-Domain g c =
    let ts = c.args.pool.now in
    let v = verdict g.L.Locality.CLASSES g.L.Locality.ROLES (scope_of c.args.sig.now) in
    let p : IsNodeIn ts c.in-Domain.c (λ x. body.Domain c.in-Domain.role x) c.args.body.now = subst (IsPlainOf ts c.args.body.now) c.in-Domain.is c.requires.nodes in
    let first : c.kept-in-Domain.result ≡ v p.0 = c.kept-in-Domain.ensures ∙ ap v (get_or_from_slice_get ts c.in-Domain.c.place p.0 _ p.2) in
    c.filled_local.ensures ∙ (λ i. is_empty_role (c.role_of.ensures i) || is_full (first i)) ∙ sym (ap (is_local g.L.Locality.CLASSES g.L.Locality.ROLES (scope_of c.args.sig.now)) p.1)

pub returns-in-Range : goal.returns-in-Range
unfolding is_local local_by
returns-in-Range g c =
    let ts = c.args.pool.now in
    let v = verdict g.L.Locality.CLASSES g.L.Locality.ROLES (scope_of c.args.sig.now) in
    let p : IsNodeIn ts c.in-Range.c (λ x. body.Range c.in-Range.role x) c.args.body.now = subst (IsPlainOf ts c.args.body.now) c.in-Range.is c.requires.nodes in
    let first : c.kept-in-Range.result ≡ v p.0 = c.kept-in-Range.ensures ∙ ap v (get_or_from_slice_get ts c.in-Range.c.place p.0 _ p.2) in
    c.filled_local-in-Range.ensures ∙ (λ i. is_empty_role (c.role_of-in-Range.ensures i) || is_full (first i)) ∙ sym (ap (is_local g.L.Locality.CLASSES g.L.Locality.ROLES (scope_of c.args.sig.now)) p.1)

pub returns-in-ClassAssertion : goal.returns-in-ClassAssertion
unfolding is_local local_by
returns-in-ClassAssertion g c =
    let ts = c.args.pool.now in
    let v = verdict g.L.Locality.CLASSES g.L.Locality.ROLES (scope_of c.args.sig.now) in
    let p : IsNodeIn ts c.in-ClassAssertion.c (λ x. body.ClassAssertion x c.in-ClassAssertion.field-1) c.args.body.now = subst (IsPlainOf ts c.args.body.now) c.in-ClassAssertion.is c.requires.nodes in
    let first : c.kept-in-ClassAssertion.result ≡ v p.0 = c.kept-in-ClassAssertion.ensures ∙ ap v (get_or_from_slice_get ts c.in-ClassAssertion.c.place p.0 _ p.2) in
    c.is_full.ensures ∙ (λ i. is_full (first i)) ∙ sym (ap (is_local g.L.Locality.CLASSES g.L.Locality.ROLES (scope_of c.args.sig.now)) p.1)
