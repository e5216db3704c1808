use Rattle.std.proofs.Common.{◌≡◌, true, [], ◌∷◌, ◌++◌, None, ap, refl, subst, sym, ◌∙◌}
use Rattle.owl_axioms.specs.Proper.{are_proper_sides}
use Rattle.owl_axioms.specs.declared.annotation.NoteValue.TheVariants as note
use Rattle.owl_axioms.specs.declared.annotation.Side.{Side}
use Rattle.owl_axioms.specs.declared.name.Kind.TheVariants as kind
use Rattle.owl_axioms.proofs.ProperAxioms.{IsProper-declaration, are_proper_sides-text}
use Rattle.run_examples.proofs.tests.ontologies.annotated.Goals as goal

pub returns : goal.returns
returns c =
    let side : Side = record { property = c.in_ok-property.property; value = note.Text c.from_vec.result; label = None } in
    let all : c.from_vec-2.result ≡ side ∷ [] = c.from_vec-2.ensures ∙ c.in_ok-push.ensures.items ∙ ap (λ sides. sides ++ side ∷ []) c.new-sides.ensures.items in
    IsProper-declaration (record { kind = kind.Class; iri = c.in_ok-iri.iri }) c.from_vec-2.result c.in_ok-iri.ensures
    (subst (λ sides. are_proper_sides sides ≡ true) (sym all) (are_proper_sides-text side c.from_vec.result refl c.in_ok-property.ensures))
