use Rattle.owl_axioms.specs.Signature.{scope_of}
use Rattle.module_extract.proofs.Fronts.{with_meant}
use Rattle.engine_examples.proofs.tests.verdicts.enter.Goals as goal

pub grow-requires : goal.grow-requires
grow-requires c = (scope_of c.args.sig.now, with_meant c.args.sig.now c.add.new.self c.args.name.now c.in_ok-add.ensures.names c.requires.meant, c.requires.stand)
