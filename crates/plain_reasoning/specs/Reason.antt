-- The answer of the step `reason` as a plain function of an ontology. (Own.)
use Rattle.std.specs.Prelude.{ℕ, ◌++◌, if◌then◌else◌, List, Option, None, Some, length, map, nat_lt}
use Rattle.owl_ontology.specs.Ontology.{OntologyState, axioms_of}
use Rattle.el_rules.specs.ElPart.{unused_of}
use Rattle.el_taxonomy.specs.Reason.{inclusion_of}
use Rattle.el_taxonomy.specs.declared.edge.Edge.{Edge}
use Rattle.relax_axioms.specs.Relax.{step_entries}
use Rattle.plain_reasoning.specs.Edges.{edges_of, facts_in}
use Rattle.plain_reasoning.specs.Unsatisfiable.{unsatisfiable_of}

-- the ontology after reasoning, how many axioms were added, and how many logical axioms are outside the EL part; or the place
-- of the declaration at which the step is refused, or the limit that is passed
pub data Reasoning : Type 0 where
  Reasoned : OntologyState → ℕ → ℕ → Reasoning
  Unsatisfiable : ℕ → Reasoning
  TooManyFacts : ℕ → Reasoning

-- an ontology with the inclusions of edges behind its own axioms
unfoldable pub with_edges : OntologyState → List Edge → OntologyState
with_edges before edges = record before { entries = before.entries ++ step_entries (map inclusion_of edges) }

-- refused at a declaration, or with all direct edges that are not stated
abbrev pub reason_at : OntologyState → Option ℕ → Reasoning
reason_at before (Some at) = Unsatisfiable at
reason_at before None = Reasoned (with_edges before (edges_of (axioms_of before.entries))) (length (edges_of (axioms_of before.entries))) (unused_of (axioms_of before.entries))

-- the answer: too many facts come first, and then a declared class in which nothing is
unfoldable pub reason_of : OntologyState → ℕ → Reasoning
reason_of before limit =
    if nat_lt limit (length (facts_in (axioms_of before.entries)))
    then TooManyFacts limit
    else reason_at before (unsatisfiable_of before.entries)
