-- What the laws of the mapping ask of a set of clauses holds of every document. (Own.)
use Rattle.std.specs.Prelude.{List, map}
use Rattle.text_sets.specs.Sets.{In}
use Rattle.owl_axioms.specs.Proper.{IsProper}
use Rattle.owl_axioms.specs.declared.body.Axiom.{Axiom}
use Rattle.obo_frames.specs.Framed.{unlined}
use Rattle.obo_frames.specs.Soundness as documents
use Rattle.obo_frames.specs.declared.placed.Placed.{Placed}
use Rattle.obo_mapping.specs.Documents.{owl}
use Rattle.obo_mapping.specs.Sound.{IsSound}

-- the clauses of every document are sound as a set
abbrev pub DocumentsAreSound : Type 0
DocumentsAreSound = (placed : List Placed) → documents.IsSound placed → ∥ IsSound (map unlined placed) ∥₁

-- so each axiom that a document says is proper
abbrev pub SaidIsProper : Type 0
SaidIsProper = (placed : List Placed) → documents.IsSound placed → (said : Axiom) → In said (owl (map unlined placed)) → IsProper said
