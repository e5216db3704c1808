-- A line that is answered as the reading function has it is answered by what it says, or by what is wrong with it.
use Rattle.std.proofs.Common.{◌≡◌, ℕ, Bool, List, Result, Ok, Err, refl, sym, ap, ◌∙◌, inl, inr}
use Rattle.std.specs.Result.{IfErr, IfOk}
use Rattle.obo_tags.specs.declared.kind.FrameKind.{FrameKind}
use Rattle.obo_clause.specs.declared.line.Line.{Line}
use Rattle.obo_clause.specs.declared.line.LineFault.{LineFault}
use Rattle.obo_clause.specs.declared.line.LineFault.TheVariants as fault
use Rattle.obo_clause.specs.Reading.{Answer}
use Rattle.obo_clause.specs.ReadingLines.{answer_to}
use Rattle.obo_clause.specs.Spelling.{Says}
use Rattle.clause_reader.specs.Answers.{AnswersWhatFails, AnswersWhatIsSaid, IsFaultOfLine}
use Rattle.clause_reader.specs.inner.Results.{Gives}
use Rattle.obo_clause.proofs.AnswerLemmas.{answer-is-fault, answer-is-said, fault-is-answer, said-is-answer}
use Rattle.obo_clause.proofs.WordLemmas.{same-ok}

module _ (kind : FrameKind) (first : Bool) (line : List ℕ) where
  pub gives-says : (result : Result Line LineFault) → Gives (answer_to kind first line) result → IfOk result (Says kind first line)
  gives-says (Ok said) gives = answer-is-said kind first line said gives
  gives-says (Err f) gives = tt

  pub gives-faults : (result : Result Line LineFault) → Gives (answer_to kind first line) result → IfErr result (IsFaultOfLine kind first line)
  gives-faults (Ok said) gives = tt
  gives-faults (Err (fault.Syntax one)) gives = answer-is-fault kind first line one gives
  gives-faults (Err fault.NoMemory) gives = tt

  pub gives-said : (result : Result Line LineFault) → Gives (answer_to kind first line) result → AnswersWhatIsSaid kind first line result
  gives-said (Ok one) gives said is =
      let same = same-ok one said (sym gives ∙ said-is-answer kind first line said is) in inl (ap Ok same)
  gives-said (Err (fault.Syntax one)) gives said is =
      let both : Ok said ≡ Err one = sym (said-is-answer kind first line said is) ∙ gives in cc
  gives-said (Err fault.NoMemory) gives said is = inr refl

  pub gives-failed : (result : Result Line LineFault) → Gives (answer_to kind first line) result → AnswersWhatFails kind first line result
  gives-failed (Ok said) gives one is =
      let both : Ok said ≡ Err one = sym gives ∙ fault-is-answer kind first line one is in cc
  gives-failed (Err (fault.Syntax two)) gives one is =
      let same : ◌≡◌ {A = Answer Line} (Err two) (Err one) = sym gives ∙ fault-is-answer kind first line one is in
      let one_way : two ≡ one = cc in inl (ap (λ k. Err (fault.Syntax k)) one_way)
  gives-failed (Err fault.NoMemory) gives one is = inr refl
