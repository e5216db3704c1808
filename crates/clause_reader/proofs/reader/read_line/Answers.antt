use Rattle.std.proofs.Common.{List, ℕ, subst}
use Rattle.clause_reader.specs.inner.Results.{Gives}
use Rattle.obo_clause.specs.ReadingLines.{answer_to}
use Rattle.clause_reader.proofs.AnswerLemmas.{gives-failed, gives-faults, gives-said, gives-says}
use Rattle.clause_reader.proofs.reader.read_line.Goals as goal

pub returns-clause-says : goal.returns-clause-says
returns-clause-says c =
    let gives = subst (λ (line : List ℕ). Gives (answer_to c.args.kind c.args.first line) c.answer_to.result) c.as_slice.ensures c.answer_to.ensures in
    gives-says c.args.kind c.args.first c.args.line.now c.answer_to.result gives

pub returns-clause-read : goal.returns-clause-read
returns-clause-read c =
    let gives = subst (λ (line : List ℕ). Gives (answer_to c.args.kind c.args.first line) c.answer_to.result) c.as_slice.ensures c.answer_to.ensures in
    gives-said c.args.kind c.args.first c.args.line.now c.answer_to.result gives

pub returns-clause-fails : goal.returns-clause-fails
returns-clause-fails c =
    let gives = subst (λ (line : List ℕ). Gives (answer_to c.args.kind c.args.first line) c.answer_to.result) c.as_slice.ensures c.answer_to.ensures in
    gives-faults c.args.kind c.args.first c.args.line.now c.answer_to.result gives

pub returns-clause-refused : goal.returns-clause-refused
returns-clause-refused c =
    let gives = subst (λ (line : List ℕ). Gives (answer_to c.args.kind c.args.first line) c.answer_to.result) c.as_slice.ensures c.answer_to.ensures in
    gives-failed c.args.kind c.args.first c.args.line.now c.answer_to.result gives
