use Rattle.std.proofs.Common.{◌≡◌, ◌||◌, ◌&&◌, false, true, is_some, drop, ◌∙◌, ap, sym}
use Rattle.obo_clause.specs.Reading.{behind_sign, ending_at, stops_run}
use Rattle.obo_clause.proofs.FreeLemmas.{ending-end, free-end, free-on, free-stop, slice-rest}
use Rattle.clause_reader.proofs.blocks.free_run.Goals as goal

pub returns-then-stops_run-clause-run : goal.returns-then-stops_run-clause-run
returns-then-stops_run-clause-run c =
    let marks = c.args.marks.now in
    let told : c.in_ok-qualifiers.qualifiers ≡ ending_at (drop c.loop-end.end marks) = c.in_ok-qualifiers.ensures ∙ ap ending_at (slice-rest marks c.loop-end.end) in
    let tested : true ≡ (is_some c.in_ok-qualifiers.qualifiers || (c.args.at_quote && is_some (behind_sign 34 (drop c.loop-end.end marks)))) = rw (slice-rest marks c.loop-end.end) at c.if-stops_run.ensures in
    let stops : stops_run c.args.at_quote (drop c.loop-end.end marks) ≡ true = sym (rw told at tested) in
    rw (slice-rest marks c.loop-end.end) (free-stop c.args.at_quote marks c.loop-end.end c.loop-end.invariant stops)

pub loop-end-preserved : goal.loop-end-preserved
loop-end-preserved c =
    let marks = c.args.marks.now in
    let told : c.in_ok-qualifiers.qualifiers ≡ ending_at (drop c.loop-end.end marks) = c.in_ok-qualifiers.ensures ∙ ap ending_at (slice-rest marks c.loop-end.end) in
    let tested : false ≡ (is_some c.in_ok-qualifiers.qualifiers || (c.args.at_quote && is_some (behind_sign 34 (drop c.loop-end.end marks)))) = rw (slice-rest marks c.loop-end.end) at c.if-stops_run.ensures in
    let goes : stops_run c.args.at_quote (drop c.loop-end.end marks) ≡ false = sym (rw told at tested) in
    free-on c.args.at_quote marks c.loop-end.end c.loop-end.invariant c.loop-end-test.true goes

pub returns-clause-run : goal.returns-clause-run
returns-clause-run c =
    rw (c.split_at.ensures.front, c.split_at.ensures.back) (free-end c.args.at_quote c.args.marks.now c.loop-end.end c.loop-end.invariant c.loop-end-test.false)

pub returns-clause-ending : goal.returns-clause-ending
returns-clause-ending c =
    rw (c.split_at.ensures.back, c.from_vec.ensures, c.new.ensures.items) (ending-end c.args.at_quote c.args.marks.now c.loop-end.end c.loop-end-test.false)
