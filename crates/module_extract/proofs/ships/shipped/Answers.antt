use Rattle.std.proofs.Common.{sym, subst, ◌∙◌}
use Rattle.owl_axioms.specs.Signature.{scope_of}
use Rattle.owl_ontology.specs.Ontology.{axioms_of}
use Rattle.module_extract.specs.Laws.{KeepsWith}
use Rattle.module_extract.proofs.Shipping.{shipped_by, shipped_keeps}
use Rattle.module_extract.proofs.Starting.{axioms_length}
use Rattle.module_extract.proofs.ships.shipped.Goals as goal

pub returns-clause-exact : goal.returns-clause-exact
returns-clause-exact c =
    c.in_ok-flags.ensures ∙ shipped_by c.args.sig.now c.in_ok-names.names (axioms_of c.args.ontology.now.entries) c.args.kept.now.items c.in_ok-names.ensures

pub returns-clause-keeps : goal.returns-clause-keeps
returns-clause-keeps c =
    let all = axioms_of c.args.ontology.now.entries in
    let exact = c.in_ok-flags.ensures ∙ shipped_by c.args.sig.now c.in_ok-names.names all c.args.kept.now.items c.in_ok-names.ensures in
    subst (KeepsWith all c.args.kept.now.items) (sym exact) (shipped_keeps all (scope_of c.args.sig.now) c.args.kept.now.items (c.requires ∙ sym (axioms_length c.args.ontology.now.entries)))
