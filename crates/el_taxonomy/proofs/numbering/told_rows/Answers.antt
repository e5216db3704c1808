use Rattle.std.proofs.Common.{subst, sym, take, ◌∙◌}
use Rattle.std.proofs.lemmas.List.{length-map}
use Rattle.expr_pool.specs.Pool.{tree_at}
use Rattle.owl_ontology.specs.Ontology.{axioms_of}
use Rattle.el_taxonomy.specs.inner.Numbers.{AreTold, exprs_of}
use Rattle.el_taxonomy.proofs.Flags.{none_told, told_next}
use Rattle.relax_axioms.proofs.Lists.{take_at}
use Rattle.el_taxonomy.proofs.numbering.told_rows.Goals as goal

pub loop-at-init : goal.loop-at-init
loop-at-init c trees ground = none_told (exprs_of trees c.args.part.now) c.in_ok-told.told.items _ c.in_ok-told.ensures (c.occurring.ensures ∙ sym (length-map c.args.part.now.occurring (tree_at trees)))

pub loop-at-preserved : goal.loop-at-preserved
loop-at-preserved c trees ground =
    let axioms = axioms_of c.args.ontology.now.entries in
    let one = c.get.result.now in
    let exprs = exprs_of trees c.args.part.now in
    subst (λ l. AreTold exprs l c.push_told.new.told.items) (sym (take_at axioms c.loop-at.at one c.get.ensures.found))
    (told_next exprs (take c.loop-at.at axioms) one c.loop-at.told.items c.push_told.new.told.items (c.in_ok-push_told.ensures trees ground) (c.loop-at.invariant trees ground))
