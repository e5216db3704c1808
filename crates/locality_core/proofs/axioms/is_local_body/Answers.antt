use Rattle.std.proofs.Common.{sym, ap, ◌∙◌, ◌&&◌, ◌||◌}
use Rattle.owl_axioms.specs.Signature.{scope_of}
use Rattle.locality_tables.specs.Local.{is_local, local_by}
use Rattle.locality_tables.specs.Verdict.{is_empty, is_empty_role, is_full}
use Rattle.locality_core.proofs.axioms.is_local_body.Goals as goal

pub returns-in-Sub : goal.returns-in-Sub
unfolding is_local local_by
returns-in-Sub g c = c.sub_local.ensures ∙ (λ i. is_empty (c.found.ensures i) || is_full (c.found-in-Sub.ensures i)) ∙ sym (ap (is_local g.L.Locality.CLASSES g.L.Locality.ROLES (scope_of c.args.sig.now)) c.in-Sub.is)

pub returns-in-Equiv : goal.returns-in-Equiv
unfolding is_local local_by
returns-in-Equiv g c = c.equiv_local.ensures ∙ (λ i. (is_empty (c.found-in-Equiv.ensures i) && is_empty (c.found-in-Equiv-2.ensures i)) || (is_full (c.found-in-Equiv.ensures i) && is_full (c.found-in-Equiv-2.ensures i))) ∙ sym (ap (is_local g.L.Locality.CLASSES g.L.Locality.ROLES (scope_of c.args.sig.now)) c.in-Equiv.is)

pub returns-in-Disjoint : goal.returns-in-Disjoint
unfolding is_local local_by
returns-in-Disjoint g c = c.disjoint_local.ensures ∙ (λ i. is_empty (c.found-in-Disjoint.ensures i) || is_empty (c.found-in-Disjoint-2.ensures i)) ∙ sym (ap (is_local g.L.Locality.CLASSES g.L.Locality.ROLES (scope_of c.args.sig.now)) c.in-Disjoint.is)

pub returns-in-Domain : goal.returns-in-Domain
unfolding is_local local_by
returns-in-Domain g c = c.filled_local.ensures ∙ (λ i. is_empty_role (c.role_of-in-Domain.ensures i) || is_full (c.found-in-Domain.ensures i)) ∙ sym (ap (is_local g.L.Locality.CLASSES g.L.Locality.ROLES (scope_of c.args.sig.now)) c.in-Domain.is)

pub returns-in-Range : goal.returns-in-Range
unfolding is_local local_by
returns-in-Range g c = c.filled_local-in-Range.ensures ∙ (λ i. is_empty_role (c.role_of-in-Range.ensures i) || is_full (c.found-in-Range.ensures i)) ∙ sym (ap (is_local g.L.Locality.CLASSES g.L.Locality.ROLES (scope_of c.args.sig.now)) c.in-Range.is)

pub returns-in-ClassAssertion : goal.returns-in-ClassAssertion
unfolding is_local local_by
returns-in-ClassAssertion g c = c.is_full.ensures ∙ (λ i. is_full (c.found-in-ClassAssertion.ensures i)) ∙ sym (ap (is_local g.L.Locality.CLASSES g.L.Locality.ROLES (scope_of c.args.sig.now)) c.in-ClassAssertion.is)
