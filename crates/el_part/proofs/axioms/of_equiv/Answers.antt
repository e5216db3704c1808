use Rattle.el_part.proofs.Standing.{equiv_made, equiv_none}
use Rattle.el_part.proofs.axioms.of_equiv.Goals as goal

pub returns-in_ok-made-in-None-clause-made : goal.returns-in_ok-made-in-None-clause-made
returns-in_ok-made-in-None-clause-made c =
    equiv_none c.el_pair.new.pool c.args.c.now c.args.d.now c.in_ok-el_pair.field-0 c.in_ok-made-in-None.made.items c.in_ok-el_pair.ensures.pair c.in-None.is c.in_ok-made-in-None.ensures

pub returns-in_ok-made-in-Some-clause-made : goal.returns-in_ok-made-in-Some-clause-made
returns-in_ok-made-in-Some-clause-made c =
    equiv_made c.el_pair.new.pool c.args.c.now c.args.d.now c.in_ok-el_pair.field-0 c.in-Some.pair c.in_ok-made-in-Some.made.items c.in_ok-el_pair.ensures.pair c.in-Some.is c.in_ok-made-in-Some.ensures
