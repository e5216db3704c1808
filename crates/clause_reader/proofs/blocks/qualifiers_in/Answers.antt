use Rattle.std.proofs.Common.{◌≡◌, ◌+◌, ◌<◌, ◌≤◌, List, [], ◌∷◌, ◌++◌, Option, length, suc, arith, subst, sym, ap, ◌∙◌}
use Rattle.obo_clause.specs.declared.clause.Qualifier.{Qualifier}
use Rattle.obo_clause.specs.declared.mark.MarkedByte.{MarkedByte}
use Rattle.clause_reader.specs.inner.Results.{FindsWith}
use Rattle.obo_clause.specs.Reading.{Field, behind_blanks, block_end, qualifier_of}
use Rattle.clause_reader.proofs.LoopLemmas.{BlocksOn, blocks-end, blocks-fail, blocks-none, blocks-on}
use Rattle.clause_reader.proofs.blocks.qualifiers_in.Goals as goal

pub returns-in-None : goal.returns-in-None
returns-in-None c =
    let less : c.loop.counter < suc (length c.args.marks.now) = omega arith in
    blocks-fail c.args.marks.now (suc (length c.args.marks.now)) c.loop.qualifiers.items c.loop.rest.now c.loop.counter c.loop.invariant less c.in-None.ensures

pub returns-in-None-behind_sign : goal.returns-in-None-behind_sign
returns-in-None-behind_sign c =
    let marks = c.args.marks.now in
    let field : Field = (c.in-Some.field.key.now, c.in-Some.field.value.now, c.in-Some.field.rest.now) in
    let less : c.loop.counter < suc (length c.args.marks.now) = omega arith in
    let e = blocks-end marks (suc (length marks)) c.loop.qualifiers.items c.loop.rest.now c.loop.counter field c.loop.invariant less c.in-Some.ensures (sym c.in-None-behind_sign.ensures) in
    let pushed : c.push.new.self.items ≡ c.loop.qualifiers.items ++ qualifier_of field ∷ [] = c.in_ok-push.ensures.items ∙ ap (λ one. c.loop.qualifiers.items ++ one ∷ []) c.in_ok-qualifier_of.ensures in
    let same = e ∙ ap (λ qualifiers. block_end qualifiers c.in-Some.field.rest.now) (sym pushed) in
    subst (λ (found : Option (List Qualifier × List MarkedByte)). FindsWith found c.block_end.result) (sym same) c.block_end.ensures

pub loop-preserved : goal.loop-preserved
loop-preserved c =
    let marks = c.args.marks.now in
    let field : Field = (c.in-Some.field.key.now, c.in-Some.field.value.now, c.in-Some.field.rest.now) in
    let less : c.loop.counter < suc (length c.args.marks.now) = omega arith in
    let on = blocks-on marks (suc (length marks)) c.loop.qualifiers.items c.loop.rest.now c.loop.counter field c.in-Some-behind_sign.more.now c.loop.invariant less c.in-Some.ensures (sym c.in-Some-behind_sign.ensures) in
    let pushed : c.push.new.self.items ≡ c.loop.qualifiers.items ++ qualifier_of field ∷ [] = c.in_ok-push.ensures.items ∙ ap (λ one. c.loop.qualifiers.items ++ one ∷ []) c.in_ok-qualifier_of.ensures in
    let moved = subst (λ (qualifiers : List Qualifier). BlocksOn marks (suc (length marks)) qualifiers (behind_blanks c.in-Some-behind_sign.more.now) (c.loop.counter + 1)) (sym pushed) on in
    subst (λ (rest : List MarkedByte). BlocksOn marks (suc (length marks)) c.push.new.self.items rest (c.loop.counter + 1)) (sym c.behind_blanks-rest.ensures) moved

pub returns : goal.returns
returns c =
    let least : suc (length c.args.marks.now) ≤ c.loop.counter = omega arith in
    blocks-none c.args.marks.now (suc (length c.args.marks.now)) c.loop.qualifiers.items c.loop.rest.now c.loop.counter c.loop.invariant least
