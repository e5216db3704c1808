use Rattle.std.proofs.Common.{◌+◌, subst, sym, take}
use Rattle.fact_rows.proofs.Places.{put_back}
use Rattle.owl_ontology.specs.Ontology.{axioms_of}
use Rattle.el_taxonomy.specs.inner.Numbers.{AreDeclared, FlagsMore, declared_in, exprs_of}
use Rattle.el_taxonomy.proofs.Flags.{declared_next}
use Rattle.relax_axioms.proofs.Lists.{take_at}
use Rattle.el_taxonomy.proofs.numbering.declared_flags.Goals as goal

pub loop-at-preserved : goal.loop-at-preserved
loop-at-preserved c trees ground =
    let axioms = axioms_of c.args.ontology.now.entries in
    let one = c.get.result.now in
    let exprs = exprs_of trees c.args.part.now in
    let old = c.loop-at.flags.items in
    let new = c.flag_declared.new.flags in
    let more = subst (λ o. FlagsMore exprs (declared_in one.body) o new) c.as_mut_slice.ensures.value (c.flag_declared.ensures trees ground) in
    subst (AreDeclared exprs (take (c.loop-at.at + 1) axioms)) (sym (put_back old new c.loop-at.flags.len c.loop-at.flags.ok.0 more.long))
    (subst (λ l. AreDeclared exprs l new) (sym (take_at axioms c.loop-at.at one c.get.ensures.found)) (declared_next exprs (take c.loop-at.at axioms) one old new more (c.loop-at.invariant trees ground)))
