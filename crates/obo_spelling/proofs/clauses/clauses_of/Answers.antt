use Rattle.std.proofs.Common.{ap, sym, ◌∙◌}
use Rattle.std.proofs.lemmas.Result.{IfOk-weaker}
use Rattle.obo_notes.specs.Context.{writing_in}
use Rattle.obo_notes.specs.Forms.{note_of}
use Rattle.obo_mapping.specs.Axioms.{home_at}
use Rattle.obo_spelling.specs.inner.Clauses.{note_at}
use Rattle.obo_spelling.proofs.ClauseLemmas.{said_declaration, said_note, said_otherwise, said_remark}
use Rattle.obo_spelling.proofs.clauses.clauses_of.Goals as goal

pub returns-in-Declaration : goal.returns-in-Declaration
returns-in-Declaration c = record {
  exact = IfOk-weaker c.declaring.result _ _ (λ found is. is ∙ sym (said_declaration (writing_in c.args.space.now) c.args.declared.now c.args.stated.now c.in-Declaration.name c.in-Declaration.is)) c.declaring.ensures;
}

pub returns-in_ok-home-in-Note : goal.returns-in_ok-home-in-Note
returns-in_ok-home-in-Note c =
    let writing = writing_in c.args.space.now in
    let note = note_of c.in-Note.property c.in-Note.value c.args.stated.now.sides in
    let home = c.in_ok-home-in-Note.ensures ∙ ap (home_at writing c.args.declared.now) c.in_ok-copy-in-Note.ensures in
    record {
      exact = IfOk-weaker c.of_entity.result _ _ (λ found is. is ∙ ap (λ home. note_at writing home note) home ∙ sym (said_note writing c.args.declared.now c.args.stated.now c.in-Note.subject c.in-Note.property c.in-Note.value c.in-Note.is)) c.of_entity.ensures;
    }

pub returns-in-OntologyNote : goal.returns-in-OntologyNote
returns-in-OntologyNote c = record {
  exact = IfOk-weaker c.of_ontology.result _ _ (λ found is. is ∙ sym (said_remark (writing_in c.args.space.now) c.args.declared.now c.args.stated.now c.in-OntologyNote.property c.in-OntologyNote.value c.in-OntologyNote.is)) c.of_ontology.ensures;
}

pub returns-in_default : goal.returns-in_default
returns-in_default c = record {
  exact = IfOk-weaker c.of_statement.result _ _ (λ found is. is ∙ sym (said_otherwise (writing_in c.args.space.now) c.args.declared.now c.args.stated.now (record {
    declaration = c.in_default.not-Declaration;
    note = c.in_default.not-Note;
    remark = c.in_default.not-OntologyNote;
  }))) c.of_statement.ensures;
}
