use Rattle.std.proofs.Common.{◌<◌, ℕ, sym, true≢false, ◌∙◌}
use Rattle.std.proofs.lemmas.Option.{MatchOption-at_none, MatchOption-at_some}
use Rattle.el_taxonomy.specs.inner.Least.{Declared, IsEmptyAt, IsLeastAt}
use Rattle.el_taxonomy.proofs.Least.{chooses, empty_there, skips, starts, there_empty}
use Rattle.el_taxonomy.proofs.unsatisfiable.least.Goals as goal

pub returns-then-not-declares_empty : goal.returns-then-not-declares_empty
returns-then-not-declares_empty c =
    let entries = c.args.ontology.now.entries in
    let part = c.args.part.now in
    let table = c.args.table.now in
    skips entries part table c.args.at c.args.found
    (λ d empty. true≢false (sym (c.declares_empty.ensures.1 (there_empty entries part table c.args.at c.get.result.now d c.get.ensures.found empty)) ∙ c.if-not-declares_empty.true))
    c.requires.before

pub returns-in-None : goal.returns-in-None
returns-in-None c =
    let entries = c.args.ontology.now.entries in
    let part = c.args.part.now in
    let table = c.args.table.now in
    let at = c.args.at in
    let d = empty_there entries part table at c.get.result.now c.get.ensures.found (c.declares_empty.ensures.0 c.if-not-declares_empty.false) in
    starts entries part table at d.0 d.1
    (MatchOption-at_none ((i : ℕ) (other : Declared) → i < at → IsEmptyAt entries part table i other → ⊥) (IsLeastAt entries part table at) c.in-None.is c.requires.before)

pub returns-in-Some : goal.returns-in-Some
returns-in-Some c =
    let entries = c.args.ontology.now.entries in
    let part = c.args.part.now in
    let table = c.args.table.now in
    let at = c.args.at in
    let before = c.in-Some.before in
    let d = empty_there entries part table at c.get.result.now c.get.ensures.found (c.declares_empty.ensures.0 c.if-not-declares_empty.false) in
    let found = MatchOption-at_some ((i : ℕ) (other : Declared) → i < at → IsEmptyAt entries part table i other → ⊥) (IsLeastAt entries part table at) before c.in-Some.is c.requires.before in
    chooses entries part table at before c.lesser.result d.0 d.1 found (c.lesser.ensures d.0 found.one d.1.declared found.is.declared)
