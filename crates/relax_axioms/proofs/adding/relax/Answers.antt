use Rattle.relax_axioms.proofs.Entailed.{relaxing_keeps}
use Rattle.relax_axioms.proofs.Missing.{relax_by, relaxes}
use Rattle.relax_axioms.proofs.adding.relax.Goals as goal

pub returns-clause-exact : goal.returns-clause-exact
returns-clause-exact c = relax_by c.args.ontology.now c.add_all.new.ontology c.in_ok-missing.missing.keys c.len.result c.in_ok-missing.ensures.exact c.len.ensures.len c.in_ok-add_all.ensures.added

pub returns-clause-relaxed : goal.returns-clause-relaxed
returns-clause-relaxed c = relaxes c.args.ontology.now c.add_all.new.ontology c.len.result
    (relax_by c.args.ontology.now c.add_all.new.ontology c.in_ok-missing.missing.keys c.len.result c.in_ok-missing.ensures.exact c.len.ensures.len c.in_ok-add_all.ensures.added)

pub returns-clause-keeps : goal.returns-clause-keeps
returns-clause-keeps c = relaxing_keeps c.args.ontology.now c.add_all.new.ontology c.len.result
    (relaxes c.args.ontology.now c.add_all.new.ontology c.len.result
    (relax_by c.args.ontology.now c.add_all.new.ontology c.in_ok-missing.missing.keys c.len.result c.in_ok-missing.ensures.exact c.len.ensures.len c.in_ok-add_all.ensures.added))
