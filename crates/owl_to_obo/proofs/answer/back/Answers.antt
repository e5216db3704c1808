-- Without two values, no name stands for two and no class has two groups.
use Rattle.std.proofs.Common.{ap, sym, ◌∙◌}
use Rattle.std.specs.Option.{option_map}
use Rattle.owl_to_obo.specs.Clashes.{two_meant}
use Rattle.owl_to_obo.proofs.ToldFrom.{is_told}
use Rattle.owl_to_obo.proofs.answer.back.Goals as goal

pub document_of-requires-clause-told : goal.document_of-requires-clause-told
document_of-requires-clause-told c =
    is_told c.args.ontology.now.name c.args.check c.args.ontology.now.entries c.requires.spellable (sym c.in_ok-two.ensures.exact ∙ ap (option_map two_meant) c.in-None.is)
