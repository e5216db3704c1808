use Rattle.release_chain.proofs.Reasonings.{tells_empty}
use Rattle.release_chain.proofs.inference.empty_class.Goals as goal

pub returns-clause-told : goal.returns-clause-told
returns-clause-told c =
    tells_empty c.args.ontology.now.entries c.args.at c.args.files.now c.get.result.now c.origin-origin.result c.in_ok-class.class c.in_ok-file.file
    c.get.ensures.found c.origin-origin.ensures c.in_ok-class.ensures c.in_ok-file.ensures.made
