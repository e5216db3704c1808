use Rattle.el_numbers.proofs.MetLemmas.{found_more, found_all, has_all}
use Rattle.std.proofs.Common.{arith, sym, ◌∙◌}
use Rattle.el_numbers.proofs.met.first_missing.Goals as goal
use Rattle.fact_rows.specs.Rows.{row}

pub loop-place-preserved : goal.loop-place-preserved
loop-place-preserved c = found_more c.args.numbers.now (row c.args.rows.now c.args.at) c.loop-place.place (omega arith) (sym c.set_has.ensures ∙ c.if-not-set_has.false) c.loop-place.invariant

pub returns-clause-all : goal.returns-clause-all
returns-clause-all c = has_all c.args.numbers.now (row c.args.rows.now c.args.at) (found_all c.args.numbers.now (row c.args.rows.now c.args.at) c.loop-place.place (let l = c.loop-place-test.false in omega arith) c.loop-place.invariant)
