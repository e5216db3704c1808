-- What is shipped with a part of the logical axioms. (Own.)
use Rattle.std.specs.Prelude.{Bool, true, not, ◌||◌, List, [], ◌∷◌}
use Rattle.owl_axioms.specs.Names.{Scope, is_signed}
use Rattle.owl_axioms.specs.declared.body.Axiom.{Axiom}
use Rattle.owl_axioms.specs.declared.body.Body.{Body}
use Rattle.owl_axioms.specs.declared.body.Body.TheVariants as body
use Rattle.owl_axioms.specs.declared.name.Name.{Name}
use Rattle.module_extract.specs.Module.{seed_and}

-- what is declared of a name, and said of it in words, is shipped: of each name in the scope, and of each that no signature
-- has, which are annotation properties, owl:Thing and owl:Nothing
unfoldable pub is_said : Scope → Name → Bool
is_said s name = s name.kind name.iri || not (is_signed name.kind name.iri)

-- a declaration and an annotation goes by its subject, an annotation of the ontology always goes along, and a logical axiom
-- where it is of the part
unfoldable pub ships : Scope → Bool → Body → Bool
ships s kept (body.Declaration name) = is_said s name
ships s kept (body.Note subject property value) = is_said s subject
ships s kept (body.OntologyNote property value) = true
ships s kept _ = kept

-- the flags of what is shipped, in a scope
abbrev pub ships_each : Scope → List Axiom → List Bool → List Bool
ships_each s [] flags = []
ships_each s (a ∷ axioms) [] = []
ships_each s (a ∷ axioms) (f ∷ flags) = ships s f a.body ∷ ships_each s axioms flags

-- with a part, for the seed and its own names
abbrev pub shipped_flags : Scope → List Axiom → List Bool → List Bool
shipped_flags seed axioms kept = ships_each (seed_and seed axioms kept) axioms kept
