use Rattle.std.proofs.Common.{◌<◌, ◌≡◌, Some, false, arith, get_or, length, slice_get}
use Rattle.std.proofs.lemmas.Option.{slice_get-get_or}
use Rattle.owl_ontology.specs.Ontology.{axioms_of}
use Rattle.module_extract.proofs.Starting.{axioms_length}
use Rattle.module_extract.proofs.Telling.{setting_all, setting_next, setting_none}
use Rattle.module_extract.proofs.setting.setting_of.Goals as goal

pub axioms-init : goal.axioms-init
axioms-init c =
    setting_none (axioms_of c.args.ontology.now.entries) c.args.part.now.items c.in_ok-pool.pool c.new-plains.result.items c.in_ok-table.table c.new-all.result.items
    c.new-plains.ensures.items c.in_ok-table.ensures.lists c.new-all.ensures.items

pub axioms-preserved : goal.axioms-preserved
axioms-preserved c =
    let fs = c.args.part.now.items in
    let at = c.axioms.at in
    let w = c.axioms-test.true in
    let e = c.len-at-end.ensures.len in
    let r = c.requires in
    let within : at < length fs = omega (arith, w, e, r) in
    let flag : slice_get fs at ≡ Some (get_or fs at false) = slice_get-get_or fs at false within in
    setting_next (axioms_of c.args.ontology.now.entries) fs at c.get-one.result.now (get_or fs at false) c.is_work-of.result c.get-one.ensures.found flag (c.is_work-of.ensures (get_or fs at false) flag)
    c.axioms.pool c.axioms.plains.items c.axioms.table c.axioms.all.items c.axioms.invariant c.add_axiom.new.pool c.add_axiom.new.plains.items c.add_axiom.new.table c.add_axiom.new.all.items c.in_ok-add_axiom.ensures

pub returns : goal.returns
returns c =
    let w = c.axioms-test.false in
    let e = c.len-at-end.ensures.len in
    let r = c.requires in
    let l = axioms_length c.args.ontology.now.entries in
    setting_all (axioms_of c.args.ontology.now.entries) c.args.part.now.items c.axioms.pool c.axioms.plains.items c.axioms.table c.axioms.all.items c.axioms.at (omega (arith, w, e, l)) (omega (arith, w, e, r)) c.axioms.invariant
