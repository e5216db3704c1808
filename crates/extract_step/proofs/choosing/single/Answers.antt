use Rattle.std.proofs.Common.{ap, length, subst, ◌∙◌}
use Rattle.module_extract.specs.Module.{IsModule, fills_of, logical_flags}
use Rattle.module_extract.proofs.Counting.{flags_length}
use Rattle.module_extract.proofs.Starting.{axioms_length}
use Rattle.module_extract.proofs.Told.{only_module}
use Rattle.owl_axioms.specs.Signature.{scope_of}
use Rattle.owl_ontology.specs.Ontology.{axioms_of}
use Rattle.extract_step.proofs.choosing.single.Goals as goal

pub module-requires : goal.module-requires
module-requires g c = ap length c.in_ok-part.ensures ∙ flags_length (axioms_of c.args.ontology.now.entries) ∙ axioms_length c.args.ontology.now.entries

pub returns-clause-kept : goal.returns-clause-kept
returns-clause-kept g c =
    let axioms = axioms_of c.args.ontology.now.entries in
    let k = fills_of g.L.Locality.CLASSES g.L.Locality.ROLES in
    only_module k axioms (logical_flags axioms) (scope_of c.args.sig.now) (flags_length axioms) c.in_ok-kept.kept.items
    (subst (λ part. IsModule k axioms part (scope_of c.args.sig.now) c.in_ok-kept.kept.items) c.in_ok-part.ensures c.in_ok-kept.ensures.exact)
