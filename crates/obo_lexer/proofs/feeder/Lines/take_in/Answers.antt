-- Each turn ends one line, and feeding what is left then is feeding the whole piece.
use Rattle.std.proofs.Common.{◌≡◌, ◌+◌, ◌∙◌, ◌++◌, [], ◌∷◌, ap, arith, length, length-drop, take}
use Rattle.std.specs.List.{list_any}
use Rattle.std.proofs.lemmas.List.{take_rest}
use Rattle.std.proofs.lemmas.Result.{err_from_is_err_and}
use Rattle.obo_lexer.specs.Feeding.{ended_with, fed_with}
use Rattle.obo_lexer.specs.inner.Held.{progress_of}
use Rattle.rel_io.specs.Texts.{is_line_feed}
use Rattle.obo_lexer.proofs.FeedingLemmas.{fed_with-none, fed_with-one}
use Rattle.obo_lexer.proofs.feeder.Lines.take_in.Goals as goal

pub loop-at-preserved : goal.loop-at-preserved
loop-at-preserved c =
    let p = progress_of c.loop-at.self in
    let left = c.loop-at.left.now in
    let at = c.in-Some.at in
    let later = take_rest left (at + 1) in
    let line = p.rest ++ take at left in
    let is : progress_of c.end_line.new.self ≡ ended_with (record p { rest = line }) (line ∷ []) [] = c.in_ok-end_line.ensures.ok ∙ ap (λ l. ended_with (record p { rest = l }) (l ∷ []) []) c.in_ok-extend_from_slice.ensures.items in
    let within = c.in-Some.ensures.0.high in
    record {
      same = ap (fed_with (progress_of c.end_line.new.self)) later ∙ fed_with-one p _ left at c.loop-at.invariant.no_feed c.in-Some.ensures is ∙ c.loop-at.invariant.same;
      limit = c.in_ok-end_line.ensures.limit ∙ c.loop-at.invariant.limit;
      no_feed = ap (λ q. list_any is_line_feed q.rest) is;
      counted = omega (arith, ap length later, length-drop (at + 1) left, ap (λ q. q.ended) is, ap (λ q. length q.rest) is, within, c.loop-at.invariant.counted);
      few = omega (arith, ap length later, length-drop (at + 1) left, ap (λ q. q.ended) is, within, c.loop-at.invariant.few);
    }

pub returns-clause-ok : goal.returns-clause-ok
returns-clause-ok c =
    let end = fed_with-none (progress_of c.loop-at.self) c.loop-at.left.now c.loop-at.invariant.no_feed c.in_default.ensures in
    ap (λ l. record (progress_of c.loop-at.self) { rest = l }) c.in_ok-extend_from_slice-2.ensures.items ∙ end.0 ∙ c.loop-at.invariant.same

pub returns-clause-no_feed : goal.returns-clause-no_feed
returns-clause-no_feed c =
    let end = fed_with-none (progress_of c.loop-at.self) c.loop-at.left.now c.loop-at.invariant.no_feed c.in_default.ensures in
    ap (list_any is_line_feed) c.in_ok-extend_from_slice-2.ensures.items ∙ end.1

pub returns-in_err-extend_from_slice-clause-ok : goal.returns-in_err-extend_from_slice-clause-ok
returns-in_err-extend_from_slice-clause-ok c =
    rw ((err_from_is_err_and c.from_residual.result c.from_residual.ensures.1).1) tt

pub returns-in_err-extend_from_slice-clause-no_feed : goal.returns-in_err-extend_from_slice-clause-no_feed
returns-in_err-extend_from_slice-clause-no_feed c =
    rw ((err_from_is_err_and c.from_residual.result c.from_residual.ensures.1).1) tt

pub returns-in_err-extend_from_slice-clause-counted : goal.returns-in_err-extend_from_slice-clause-counted
returns-in_err-extend_from_slice-clause-counted c =
    rw ((err_from_is_err_and c.from_residual.result c.from_residual.ensures.1).1) tt

pub returns-in_err-end_line-clause-ok : goal.returns-in_err-end_line-clause-ok
returns-in_err-end_line-clause-ok c =
    rw ((err_from_is_err_and c.from_residual-in_err-end_line.result c.from_residual-in_err-end_line.ensures.1).1) tt

pub returns-in_err-end_line-clause-no_feed : goal.returns-in_err-end_line-clause-no_feed
returns-in_err-end_line-clause-no_feed c =
    rw ((err_from_is_err_and c.from_residual-in_err-end_line.result c.from_residual-in_err-end_line.ensures.1).1) tt

pub returns-in_err-end_line-clause-counted : goal.returns-in_err-end_line-clause-counted
returns-in_err-end_line-clause-counted c =
    rw ((err_from_is_err_and c.from_residual-in_err-end_line.result c.from_residual-in_err-end_line.ensures.1).1) tt

pub returns-in_err-extend_from_slice-2-clause-ok : goal.returns-in_err-extend_from_slice-2-clause-ok
returns-in_err-extend_from_slice-2-clause-ok c =
    rw ((err_from_is_err_and c.from_residual-in_err-extend_from_slice-2.result c.from_residual-in_err-extend_from_slice-2.ensures.1).1) tt

pub returns-in_err-extend_from_slice-2-clause-no_feed : goal.returns-in_err-extend_from_slice-2-clause-no_feed
returns-in_err-extend_from_slice-2-clause-no_feed c =
    rw ((err_from_is_err_and c.from_residual-in_err-extend_from_slice-2.result c.from_residual-in_err-extend_from_slice-2.ensures.1).1) tt

pub returns-in_err-extend_from_slice-2-clause-counted : goal.returns-in_err-extend_from_slice-2-clause-counted
returns-in_err-extend_from_slice-2-clause-counted c =
    rw ((err_from_is_err_and c.from_residual-in_err-extend_from_slice-2.result c.from_residual-in_err-extend_from_slice-2.ensures.1).1) tt
