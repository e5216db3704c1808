use Rattle.std.proofs.Common.{◌≡◌, true, subst, sym, ◌∙◌}
use Rattle.owl_axioms.specs.Proper.{are_proper_sides}
use Rattle.owl_axioms.specs.declared.name.Kind.TheVariants as kind
use Rattle.owl_axioms.proofs.ProperAxioms.{IsProper-declaration, are_proper_sides-none}
use Rattle.run_examples.proofs.tests.ontologies.plain.Goals as goal

pub returns : goal.returns
returns c = IsProper-declaration (record { kind = kind.Class; iri = c.in_ok-iri.iri }) c.from_vec.result c.in_ok-iri.ensures
    (subst (λ sides. are_proper_sides sides ≡ true) (sym (c.from_vec.ensures ∙ c.new.ensures.items)) are_proper_sides-none)
