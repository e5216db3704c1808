use Rattle.owl_ontology.proofs.Adding.{add_entry-held, add_entry-new, add_entry-other}
use Rattle.owl_ontology.proofs.laws.adding_keeps_the_lesser_origin.Goals as goal

pub returns : goal.returns
returns c = record {
  new = add_entry-new c.args.ontology.now.entries c.args.added.now c.args.origin.now;
  held = λ at e. add_entry-held c.args.ontology.now.entries c.args.added.now c.args.origin.now at e c.len-different.ensures.different;
  other = λ at e. add_entry-other c.args.ontology.now.entries c.args.added.now c.args.origin.now at e;
}
