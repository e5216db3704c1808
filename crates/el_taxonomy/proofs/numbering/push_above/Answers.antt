use Rattle.std.proofs.Common.{refl, subst, sym, Some, List, ℕ}
use Rattle.std.proofs.lemmas.Option.{MatchOption-at_none, MatchOption-at_some}
use Rattle.rel_io.proofs.Options.{same_there}
use Rattle.el_taxonomy.specs.inner.Numbers.{IsNumberOf, exprs_of}
use Rattle.el_taxonomy.proofs.Bridge.{one_number}
use Rattle.el_taxonomy.proofs.Flags.{tells_same, tells_set}
use Rattle.el_taxonomy.proofs.Numbers.{on_ok_both}
use Rattle.el_taxonomy.proofs.numbering.push_above.Goals as goal

pub returns-in-None : goal.returns-in-None
returns-in-None c trees ground sub number =
    let exprs = exprs_of trees c.args.part.now in
    let super = c.args.sup.now in
    let none = MatchOption-at_none ((k : ℕ) → ¬ (IsNumberOf exprs super k)) (IsNumberOf exprs super) c.in-None.is (c.number_of.ensures trees ground) in
    tells_same exprs (Some (sub, super)) c.args.told.now.items c.args.told.now.items refl (λ p is i j first second. none j (subst (λ (q : List ℕ × List ℕ). IsNumberOf exprs q.1 j) (sym (same_there is)) second))

pub returns-in-Some : goal.returns-in-Some
returns-in-Some c =
    on_ok_both c.push_number.result
    (λ within past trees ground sub number.
    let part = c.args.part.now in
    let table = c.args.table.now in
    let exprs = exprs_of trees part in
    let super = c.args.sup.now in
    let upper = MatchOption-at_some ((k : ℕ) → ¬ (IsNumberOf exprs super k)) (IsNumberOf exprs super) c.in-Some.upper c.in-Some.is (c.number_of.ensures trees ground) in
    tells_set exprs sub super c.args.told.now.items c.push_number.new.told.items c.args.lower c.in-Some.upper within past number upper
    (λ k other. one_number trees part table ground sub k c.args.lower other number)
    (λ k other. one_number trees part table ground super k c.in-Some.upper other upper))
    c.push_number.ensures.within
    c.push_number.ensures.past
