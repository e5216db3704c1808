use Rattle.std.proofs.Common.{◌<◌, Some, ap, arith, length, refl, sym, ◌∙◌}
use Rattle.owl_axioms.proofs.Adding.{get_from_read}
use Rattle.owl_ontology.specs.Ontology.{axioms_of}
use Rattle.module_extract.proofs.Starting.{axioms_length}
use Rattle.module_extract.proofs.Telling.{within_all}
use Rattle.module_extract.proofs.growing.test_at.Goals as goal

pub returns-clause-tested : goal.returns-clause-tested
returns-clause-tested g c =
    let w = c.requires.work in
    let a = within_all (axioms_of c.args.ontology.now.entries) c.args.at w.0 w.1 in
    let b = axioms_length c.args.ontology.now.entries in
    let l = c.requires.long in
    let within : c.args.at < length c.args.kept.now.items = omega (arith, a, b, l) in (
      c.get-one.result.now,
      c.get-one.ensures.found,
      get_from_read c.args.kept.now.items c.args.at c.index.result.now within c.index.ensures ∙ ap Some c.if-index.false,
      sym c.is_local.ensures.table ∙ c.if-is_local.false,
      refl,
      c.in_ok-enter_all.ensures.front,
      c.in_ok-enter_all.ensures.entered,
    )
