use Rattle.std.proofs.Common.{ap, subst, ◌∙◌}
use Rattle.direct_above.specs.Direct.{AreDirect}
use Rattle.owl_ontology.specs.Ontology.{axioms_of}
use Rattle.el_taxonomy.specs.inner.Named.{edges_numbered}
use Rattle.el_taxonomy.specs.inner.Numbers.{exprs_of}
use Rattle.el_taxonomy.proofs.Bridge.{ground_of}
use Rattle.el_taxonomy.proofs.Naming.{direct_edges}
use Rattle.el_taxonomy.proofs.direct.direct_edges.Goals as goal

pub returns : goal.returns
returns c =
    let axioms = axioms_of c.args.ontology.now.entries in
    let trees = c.args.pool.now in
    let part = c.args.part.now in
    let table = c.args.table.now in
    let are = c.requires.1 in
    let ground = ground_of axioms trees part c.requires.0 table are in
    let told = c.in_ok-told.told.items in
    let classes = c.in_ok-classes.classes.items in
    let declared = c.in_ok-declared.declared.items in
    let pairs = c.in_ok-pairs.pairs.items in
    let direct =
    subst (λ d. AreDirect table.table.below told classes d pairs) c.as_slice-3.ensures.value
    (subst (λ l. AreDirect table.table.below told l c.as_slice-3.result.now pairs) c.as_slice-2.ensures.value
    (subst (λ t. AreDirect table.table.below t c.as_slice-2.result.now c.as_slice-3.result.now pairs) c.as_slice.ensures.value
    (subst (λ r. AreDirect r c.as_slice.result.now c.as_slice-2.result.now c.as_slice-3.result.now pairs) c.rows.ensures c.in_ok-pairs.ensures))) in
    direct_edges axioms trees part c.requires.0 table are told classes declared c.in_ok-classes.ensures (c.in_ok-declared.ensures trees ground) (c.in_ok-told.ensures trees ground)
    pairs direct c.len-proper.ensures.proper c.in_ok-edges.edges.items c.sort_unstable.new.self.items
    (c.in_ok-edges.ensures ∙ ap (edges_numbered (exprs_of trees part)) c.as_slice-4.ensures.value)
    c.sort_unstable.ensures.permutation c.sort_unstable.ensures.sorted
