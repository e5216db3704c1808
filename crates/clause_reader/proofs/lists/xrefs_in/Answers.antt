use Rattle.std.proofs.Common.{◌+◌, ◌<◌, ◌≤◌, List, length, suc, arith, rules, subst, sym, ap, ◌∙◌}
use Rattle.std.specs.Option.{option_copied}
use Rattle.obo_clause.specs.declared.clause.Xref.{Xref}
use Rattle.obo_clause.specs.declared.mark.MarkedByte.{MarkedByte}
use Rattle.clause_reader.specs.inner.Results.{GivesWith}
use Rattle.obo_clause.specs.Reading.{Answer, list_end}
use Rattle.clause_reader.proofs.LoopLemmas.{ListsOn, lists-end, lists-fail, lists-none, lists-on}
use Rattle.clause_reader.proofs.lists.xrefs_in.Goals as goal

pub returns-in_err-slot : goal.returns-in_err-slot
returns-in_err-slot c =
    let less : c.loop.counter < suc (length c.args.marks.now) = omega arith in
    rw (lists-fail c.args.marks.now (suc (length c.args.marks.now)) c.loop.xrefs.items c.loop.rest.now c.loop.counter c.in_err-slot.field-0.0 c.loop.invariant less c.in_err-slot.ensures) (search rules)

pub returns-in-None : goal.returns-in-None
returns-in-None c =
    let marks = c.args.marks.now in
    let less : c.loop.counter < suc (length c.args.marks.now) = omega arith in
    let e = lists-end marks (suc (length marks)) c.loop.xrefs.items c.loop.rest.now c.loop.counter c.in_ok-slot.slot.id.now (option_copied c.in_ok-slot.slot.label) c.in_ok-slot.slot.rest.now c.loop.invariant less c.in_ok-slot.ensures (sym c.in-None.ensures) in
    let same = e ∙ ap (λ xrefs. list_end xrefs c.in_ok-slot.slot.rest.now) (sym c.in_ok-push_xref.ensures) in
    subst (λ (answer : Answer (List Xref × List MarkedByte)). GivesWith answer c.list_end.result) (sym same) c.list_end.ensures

pub loop-preserved : goal.loop-preserved
loop-preserved c =
    let marks = c.args.marks.now in
    let less : c.loop.counter < suc (length c.args.marks.now) = omega arith in
    let on = lists-on marks (suc (length marks)) c.loop.xrefs.items c.loop.rest.now c.loop.counter c.in_ok-slot.slot.id.now (option_copied c.in_ok-slot.slot.label) c.in_ok-slot.slot.rest.now c.in-Some.more.now c.loop.invariant less c.in_ok-slot.ensures (sym c.in-Some.ensures) in
    subst (λ (xrefs : List Xref). ListsOn marks (suc (length marks)) xrefs c.in-Some.more.now (c.loop.counter + 1)) (sym c.in_ok-push_xref.ensures) on

pub returns : goal.returns
returns c =
    let least : suc (length c.args.marks.now) ≤ c.loop.counter = omega arith in
    lists-none c.args.marks.now (suc (length c.args.marks.now)) c.loop.xrefs.items c.loop.rest.now c.loop.counter c.loop.invariant least
