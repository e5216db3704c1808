-- The namespaces of the names so far are added.
use Rattle.std.proofs.Common.{[], ◌∷◌, take}
use Rattle.std.specs.List.{flat_map}
use Rattle.obo_to_owl.specs.inner.Adding.{AreAdded}
use Rattle.obo_to_owl.specs.inner.Spacing.{entry_spaced}
use Rattle.obo_to_owl.proofs.names.add_each.Given as goal

abbrev pub invariant-loop-name : goal.invariant-loop-name
invariant-loop-name l = AreAdded l.fn.ontology l.ontology (flat_map (λ name. entry_spaced l.file l.space l.lines name ∷ []) (take l.name-index l.names))
