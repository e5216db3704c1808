-- Which axioms stay, by a flag for each edge. (Own.)
use Rattle.std.specs.Prelude.{Bool, true, false, not, ◌&&◌, ◌||◌, List, [], ◌∷◌, Option, None, Some, drop}
use Rattle.owl_axioms.specs.declared.annotation.Side.{Side}
use Rattle.owl_axioms.specs.declared.body.Axiom.{Axiom}
use Rattle.owl_ontology.specs.Ontology.{first_flag}
use Rattle.reduce_edges.specs.Edges.{Pair, edge_in}

abbrev pub has_some : List Side → Bool
has_some [] = false
has_some (side ∷ sides) = true

-- an axiom stays that is no edge, or whose edge is not redundant, or that has annotations where such stay
abbrev pub stays_by : Bool → Option Pair → List Side → List Bool → Bool
stays_by keep None sides flags = true
stays_by keep (Some pair) sides flags = not (first_flag flags) || (keep && has_some sides)

-- the flags of the edges behind it
abbrev pub flags_behind : Option Pair → List Bool → List Bool
flags_behind None flags = flags
flags_behind (Some pair) flags = drop 1 flags

abbrev pub stays_of : Bool → List Axiom → List Bool → List Bool
stays_of keep [] flags = []
stays_of keep (a ∷ axioms) flags = stays_by keep (edge_in a.body) a.sides flags ∷ stays_of keep axioms (flags_behind (edge_in a.body) flags)

-- the flags that are left behind some axioms
abbrev pub flags_left : List Axiom → List Bool → List Bool
flags_left [] flags = flags
flags_left (a ∷ axioms) flags = flags_left axioms (flags_behind (edge_in a.body) flags)
