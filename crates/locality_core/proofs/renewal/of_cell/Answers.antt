use Rattle.std.proofs.Common.{sym, ap, ◌∙◌, map}
use Rattle.expr_pool.specs.declared.cell.Node.{Node}
use Rattle.owl_axioms.specs.Signature.{scope_of}
use Rattle.locality_tables.specs.Verdict.{and_finding, or_finding, verdict_step}
use Rattle.locality_core.specs.inner.Renewal.{known_at, known_layer}
use Rattle.locality_core.proofs.renewal.of_cell.Goals as goal

pub returns-in-And : goal.returns-in-And
unfolding known_layer
returns-in-And g c =
    c.and_of.ensures ∙ ap (λ ns. and_finding (map (λ (n : Node). known_at c.args.found.now n.place) ns)) c.as_slice.ensures
    ∙ sym (ap (λ d. verdict_step g.L.Locality.CLASSES g.L.Locality.ROLES (scope_of c.args.sig.now) (known_layer c.args.found.now d)) c.in-And.is)

pub returns-in-Or : goal.returns-in-Or
unfolding known_layer
returns-in-Or g c =
    c.or_of.ensures ∙ ap (λ ns. or_finding (map (λ (n : Node). known_at c.args.found.now n.place) ns)) c.as_slice-in-Or.ensures
    ∙ sym (ap (λ d. verdict_step g.L.Locality.CLASSES g.L.Locality.ROLES (scope_of c.args.sig.now) (known_layer c.args.found.now d)) c.in-Or.is)
