use Rattle.std.proofs.Common.{subst, sym, ◌∙◌, MatchOption, ℕ}
use Rattle.el_taxonomy.specs.inner.Numbers.{IsNumberOf, exprs_of}
use Rattle.el_taxonomy.proofs.Numbers.{number_found, number_none}
use Rattle.el_taxonomy.proofs.numbering.number_of.Goals as goal

pub returns-in-None : goal.returns-in-None
returns-in-None c trees ground = number_none trees c.args.part.now c.args.table.now c.args.class.now ground (sym c.class_node.ensures ∙ c.in-None.is)

pub returns-in-Some : goal.returns-in-Some
returns-in-Some c trees ground =
    let f = number_found trees c.args.part.now c.args.table.now c.args.class.now c.in-Some.node ground (sym c.class_node.ensures ∙ c.in-Some.is) in
    subst (λ r. MatchOption r ((k : ℕ) → ¬ (IsNumberOf (exprs_of trees c.args.part.now) c.args.class.now k)) (IsNumberOf (exprs_of trees c.args.part.now) c.args.class.now)) (sym (c.number.ensures ∙ f.1)) f.2
