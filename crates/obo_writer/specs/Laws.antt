-- What writing an ontology amounts to. (Own.)
use Rattle.std.specs.Prelude.{◌≡◌, ◌⊎◌, ℕ, Bool, List, [], None, Option, map}
use Rattle.std.specs.List.{filter_map}
use Rattle.text_sets.specs.Sets.{In, SameMembers}
use Rattle.owl_axioms.specs.declared.body.Axiom.{Axiom}
use Rattle.owl_axioms.specs.declared.name.Name.{Name}
use Rattle.obo_frames.specs.Framed.{unlined}
use Rattle.obo_frames.specs.Soundness.{IsSound}
use Rattle.obo_frames.specs.declared.placed.Placed.{Placed}
use Rattle.owl_ontology.specs.Ontology.{OntologyState, axioms_of}
use Rattle.obo_mapping.specs.Back.{IsSpellable, IsTold, back, writing_of}
use Rattle.obo_mapping.specs.Documents.{declared_in, default_in, is_namespace, norm, spaced}
use Rattle.obo_mapping.specs.TwoValues.{two_values}
use Rattle.obo_writer.specs.Text.{ReadsBack}

-- where each axiom has a form, and no frame would have two values of a tag that stands once, the text of the document that
-- says the axioms is read as them
abbrev pub TextsReadBack : Type 0
TextsReadBack =
    (o : OntologyState) (check : Bool) (placed : List Placed) → IsSound placed → map unlined placed ≡ back o.name (axioms_of o.entries) → IsSpellable o.name (axioms_of o.entries)
    → two_values o.name check o.entries ≡ None → ReadsBack o

-- the normal form of the document of axioms is the document of the axioms with the namespaces of frames that have none: a
-- document that says axioms is in normal form but for default namespaces
abbrev pub BackIsNormal : Type 0
BackIsNormal =
    (name : Option (List ℕ)) (axioms : List Axiom) → IsSpellable name axioms → IsTold (writing_of name) axioms → SameMembers (norm (back name axioms)) (back name (spaced [] [] axioms))

-- there is no default namespace, or each declared entity has a namespace
abbrev pub NoneLacksSpace : List Axiom → Type 0
NoneLacksSpace axioms = (filter_map default_in axioms ≡ []) ⊎ ((name : Name) → In name (filter_map declared_in axioms) → In name (filter_map is_namespace axioms))

-- then it is its own normal form
abbrev pub SpacedBackIsNormal : Type 0
SpacedBackIsNormal =
    (name : Option (List ℕ)) (axioms : List Axiom) → IsSpellable name axioms → IsTold (writing_of name) axioms → NoneLacksSpace axioms → SameMembers (norm (back name axioms)) (back name axioms)
