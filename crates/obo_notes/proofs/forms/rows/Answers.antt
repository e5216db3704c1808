-- What the rows say computes.
use Rattle.std.proofs.Common.{refl}
use Rattle.obo_tags.specs.Table.{tags_of}
use Rattle.owl_axioms.specs.Vocabulary.{rdfs_label}
use Rattle.obo_notes.specs.Notes.{clause_by, form_of, rows, spelling, tags_tried}
use Rattle.obo_notes.specs.Vocabulary.{iao_definition, iao_replaced_by, obo_in_owl, owl_deprecated, rdfs_comment}
use Rattle.obo_notes.proofs.forms.rows.Goals as goal

pub returns-clause-forms : goal.returns-clause-forms
unfolding form_of rows rdfs_label iao_definition iao_replaced_by obo_in_owl owl_deprecated rdfs_comment
returns-clause-forms c = λ tag. refl

pub returns-clause-clauses : goal.returns-clause-clauses
unfolding spelling clause_by tags_tried tags_of form_of rows rdfs_label iao_definition iao_replaced_by obo_in_owl owl_deprecated rdfs_comment
returns-clause-clauses c = λ writing note. (refl, refl, refl, refl)
