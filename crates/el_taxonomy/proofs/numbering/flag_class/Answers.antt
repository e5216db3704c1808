use Rattle.std.proofs.Common.{refl, subst, sym, Some, ℕ}
use Rattle.std.proofs.lemmas.Option.{MatchOption-at_none, MatchOption-at_some}
use Rattle.rel_io.proofs.Options.{same_there}
use Rattle.el_taxonomy.specs.inner.Numbers.{IsNumberOf, exprs_of}
use Rattle.el_taxonomy.proofs.Bridge.{one_number}
use Rattle.el_taxonomy.proofs.Flags.{flag_set, flags_same}
use Rattle.el_taxonomy.proofs.numbering.flag_class.Goals as goal

pub returns-in-None : goal.returns-in-None
returns-in-None c trees ground =
    let exprs = exprs_of trees c.args.part.now in
    let class = c.args.class.now in
    let none = MatchOption-at_none ((k : ℕ) → ¬ (IsNumberOf exprs class k)) (IsNumberOf exprs class) c.in-None.is (c.number_of.ensures trees ground) in
    flags_same exprs (Some class) c.args.flags.now c.args.flags.now refl (λ a is k number. none k (subst (λ b. IsNumberOf exprs b k) (sym (same_there is)) number))

pub returns-in-Some : goal.returns-in-Some
returns-in-Some c trees ground =
    let exprs = exprs_of trees c.args.part.now in
    let class = c.args.class.now in
    let number = MatchOption-at_some ((k : ℕ) → ¬ (IsNumberOf exprs class k)) (IsNumberOf exprs class) c.in-Some.number c.in-Some.is (c.number_of.ensures trees ground) in
    flag_set exprs class c.args.flags.now c.flag_at.new.flags c.in-Some.number c.flag_at.ensures.within c.flag_at.ensures.past number
    (λ k other. one_number trees c.args.part.now c.args.table.now ground class k c.in-Some.number other number)
