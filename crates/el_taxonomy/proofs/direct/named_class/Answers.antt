use Rattle.el_taxonomy.specs.inner.Numbers.{exprs_of}
use Rattle.el_taxonomy.proofs.Naming.{not_numbered, numbered}
use Rattle.el_taxonomy.proofs.Numbers.{match_more}
use Rattle.el_taxonomy.proofs.direct.named_class.Goals as goal

pub returns : goal.returns
returns c =
    let exprs = exprs_of c.args.pool.now c.args.part.now in
    match_more c.class_of.result (not_numbered exprs c.args.number) (λ iri. numbered exprs iri.now c.args.number) c.class_of.ensures
