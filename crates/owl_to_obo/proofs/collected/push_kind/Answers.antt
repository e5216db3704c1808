use Rattle.std.proofs.Common.{◌≡◌, ◌++◌, OnOk, map, subst, sym}
use Rattle.std.specs.Option.{option_to_list}
use Rattle.obo_notes.specs.Context.{writing_in}
use Rattle.owl_to_obo.specs.Clashes.{given_meant}
use Rattle.owl_to_obo.proofs.CollectLemmas.{metadata_given, role_given}
use Rattle.owl_to_obo.proofs.collected.push_kind.Goals as goal

pub returns-in-Role : goal.returns-in-Role
returns-in-Role c = λ declared.
    subst (λ o. OnOk c.push_truth.result (map given_meant c.push_truth.new.all.items ≡ map given_meant c.args.all.now.items ++ option_to_list o)) (sym (role_given (writing_in c.args.space.now) declared c.args.origin c.args.stated.now c.in-Declaration.name c.in-Declaration.is c.in-Role.is)) (c.push_truth.ensures declared)

pub returns-in-AnnotationProperty : goal.returns-in-AnnotationProperty
returns-in-AnnotationProperty c = λ declared.
    subst (λ o. OnOk c.push_truth-in-AnnotationProperty.result (map given_meant c.push_truth-in-AnnotationProperty.new.all.items ≡ map given_meant c.args.all.now.items ++ option_to_list o)) (sym (metadata_given (writing_in c.args.space.now) declared c.args.origin c.args.stated.now c.in-Declaration.name c.in-Declaration.is c.in-AnnotationProperty.is)) (c.push_truth-in-AnnotationProperty.ensures declared)
