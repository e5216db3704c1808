use Rattle.std.proofs.Common.{ap, ◌∙◌, length}
use Rattle.expr_pool.proofs.PoolLemmas.{is_before_more}
use Rattle.owl_axioms.specs.Signature.{scope_of}
use Rattle.locality_tables.specs.Verdict.{verdict_step}
use Rattle.locality_core.proofs.Known.{known_is}
use Rattle.locality_core.proofs.renewal.renewed.Goals as goal

pub returns : goal.returns
returns g c = λ v reads.
    c.of_cell.ensures ∙ ap (verdict_step g.L.Locality.CLASSES g.L.Locality.ROLES (scope_of c.args.sig.now))
    (known_is c.args.pool.now c.args.found.now v reads c.args.node c.requires.inside c.requires.parts c.node.result.now c.node.ensures.cell c.node.ensures.before)

pub of_cell-requires : goal.of_cell-requires
of_cell-requires g c = is_before_more c.args.node.place (length c.args.found.now) c.requires.parts c.node.result.now c.node.ensures.before
