use Rattle.std.proofs.Common.{◌+◌, ◌++◌, sym, subst, take}
use Rattle.expr_pool.proofs.Lists.{grew_more}
use Rattle.owl_ontology.specs.Ontology.{axioms_of}
use Rattle.el_rules.specs.ElPart.{el_axioms}
use Rattle.el_part.proofs.Standing.{stand_next}
use Rattle.el_part.specs.inner.Made.{Stand}
use Rattle.el_part.proofs.axioms.part_axioms.Goals as goal

pub loop-at-preserved : goal.loop-at-preserved
loop-at-preserved c =
    let all = axioms_of c.args.ontology.now.entries in
    let next : Stand c.of_body.new.pool (c.loop-at.axioms.items ++ c.in_ok-more.more.items) (el_axioms (take (c.loop-at.at + 1) all)) =
    stand_next c.loop-at.pool c.of_body.new.pool c.loop-at.axioms.items c.in_ok-more.more.items all c.loop-at.at c.get.result.now c.in_ok-more.ensures.kept c.loop-at.invariant.1 c.in_ok-more.ensures.made c.get.ensures.found in (
      grew_more c.args.pool.now c.loop-at.pool c.of_body.new.pool c.loop-at.invariant.0 c.in_ok-more.ensures.kept,
      subst (λ xs. Stand c.of_body.new.pool xs (el_axioms (take (c.loop-at.at + 1) all))) (sym c.in_ok-append.ensures.items) next,
    )
