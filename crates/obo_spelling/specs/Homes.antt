-- Frames of entities, as the program has them. (Own.)
use Rattle.obo_mapping.specs.Axioms as spec
use Rattle.obo_spelling.specs.declared.home.Home.{Home}

-- the entity and the id of its frame
abbrev pub home_meant : Home → spec.Home
home_meant home = record { entity = home.entity; id = home.id }
