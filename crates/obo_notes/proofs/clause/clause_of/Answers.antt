use Rattle.std.proofs.Common.{◌≡◌, sym, ◌∙◌}
use Rattle.text_sets.specs.Parts.{first_some}
use Rattle.obo_notes.specs.Context.{writing_in}
use Rattle.obo_notes.specs.Notes.{spelling}
use Rattle.obo_notes.specs.inner.Rows.{clause_in}
use Rattle.obo_notes.proofs.LoopLemmas.{first_found, first_missing, first_none, of_each_kind}
use Rattle.obo_notes.proofs.clause.clause_of.Goals as goal

pub loop-row-init : goal.loop-row-init
loop-row-init c =
    of_each_kind (λ kind. first_some (clause_in (writing_in c.args.space.now) kind c.args.note.now) c.rows-table.result.now ≡ spelling (writing_in c.args.space.now) kind c.args.note.now)
    (c.rows-table.ensures.clauses (writing_in c.args.space.now) c.args.note.now) c.args.kind

pub loop-row-preserved : goal.loop-row-preserved
loop-row-preserved c =
    first_none (clause_in (writing_in c.args.space.now) c.args.kind c.args.note.now) c.rows-table.result.now c.loop-row.row-index _ (spelling (writing_in c.args.space.now) c.args.kind c.args.note.now) c.loop-row-test.true (sym c.in_ok-clause.ensures ∙ c.in-None.is) c.loop-row.invariant

pub returns-in-Some : goal.returns-in-Some
returns-in-Some c = record {
  exact = first_found (clause_in (writing_in c.args.space.now) c.args.kind c.args.note.now) c.rows-table.result.now c.loop-row.row-index _ c.in-Some.clause (spelling (writing_in c.args.space.now) c.args.kind c.args.note.now) c.loop-row-test.true (sym c.in_ok-clause.ensures ∙ c.in-Some.is) c.loop-row.invariant;
}

pub returns : goal.returns
returns c = record {
  exact = first_missing (clause_in (writing_in c.args.space.now) c.args.kind c.args.note.now) c.rows-table.result.now c.loop-row.row-index (spelling (writing_in c.args.space.now) c.args.kind c.args.note.now) c.loop-row-test.false c.loop-row.invariant;
}
