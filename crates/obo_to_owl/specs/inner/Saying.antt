-- What a clause says, by the kind of the entity of its frame. (Own.)
use Rattle.std.specs.Prelude.{ℕ, Bool, List, [], if◌then◌else◌, Option, None, Some}
use Rattle.obo_tags.specs.declared.kind.FrameKind.{FrameKind}
use Rattle.obo_tags.specs.declared.kind.FrameKind.TheVariants.{Header, Instance, Term, Typedef}
use Rattle.owl_axioms.specs.declared.body.Axiom.{Axiom}
use Rattle.owl_axioms.specs.declared.body.Body.TheVariants as body
use Rattle.owl_axioms.specs.declared.name.Kind.{Kind}
use Rattle.owl_axioms.specs.declared.name.Kind.TheVariants as kinds
use Rattle.owl_axioms.specs.declared.name.Name.{Name}
use Rattle.obo_notes.specs.Context.{reading_in}
use Rattle.obo_mapping.specs.Axioms.{Situation}

-- ids are read in an ontology of this name
abbrev pub read_in : List ℕ → Situation
read_in space = record { reading = reading_in space; metadata = [] }

-- the kind of the entity of a frame
abbrev pub kind_of : FrameKind → Bool → Option Kind
kind_of Header is_metadata = None
kind_of Term is_metadata = Some kinds.Class
kind_of Instance is_metadata = Some kinds.Individual
kind_of Typedef is_metadata = if is_metadata then Some kinds.AnnotationProperty else Some kinds.Role

-- that an entity is there
abbrev pub declaration : Name → Axiom
declaration name = record { body = body.Declaration name; sides = [] }
