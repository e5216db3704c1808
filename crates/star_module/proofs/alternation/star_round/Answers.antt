use Rattle.std.proofs.Common.{arith}
use Rattle.owl_ontology.specs.Ontology.{axioms_of}
use Rattle.module_extract.proofs.Weights.{bound_less}
use Rattle.star_module.proofs.alternation.star_round.Goals as goal

pub returns-clause-ticks : goal.returns-clause-ticks
returns-clause-ticks g c =
    let a = c.in_ok-bottom.ensures.ticks in
    let b = c.module-2.ensures.ticks in
    let d = bound_less (axioms_of c.args.ontology.now.entries) c.in_ok-bottom.bottom.items c.args.part.now.items c.in_ok-bottom.ensures.exact.closed.is_part in
    omega (arith, a, b, d)
