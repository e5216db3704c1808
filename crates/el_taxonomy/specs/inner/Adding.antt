-- The inclusions of edges as they are added, and refusals on the way. (Own.)
use Rattle.std.specs.Prelude.{List, [], map}
use Rattle.indexmap.specs.IndexSet.{insert_all}
use Rattle.owl_axioms.specs.declared.body.Body.{Body}
use Rattle.owl_ontology.specs.Ontology.{Entry}
use Rattle.el_rules.specs.Rules.{ElView}
use Rattle.el_saturate.specs.declared.fault.SatFault.{SatFault}
use Rattle.el_saturate.specs.declared.fault.SatFault.TheVariants as sat
use Rattle.el_taxonomy.specs.Reason.{IsUnsatisfiable}
use Rattle.el_taxonomy.specs.declared.edge.Edge.{Edge}
use Rattle.el_taxonomy.specs.declared.fault.ReasonFault.{ReasonFault}
use Rattle.el_taxonomy.specs.declared.fault.ReasonFault.TheVariants as fault
use Rattle.reduce_edges.specs.Edges.{edge}
use Rattle.relax_axioms.specs.Implied.{same_body}

-- the inclusion that an edge stands for
abbrev pub said_of : Edge → Body
said_of e = edge e.sub e.sup

-- those of edges, put into a set in their order
abbrev pub said_of_all : List Edge → List Body
said_of_all edges = insert_all same_body [] (map said_of edges)

-- the fault that one of the table stands for
abbrev pub told_as : SatFault → ReasonFault
told_as (sat.TooManyFacts limit) = fault.TooManyFacts limit
told_as sat.NoMemory = fault.NoMemory

-- what a refusal says once there is a table
abbrev pub IsJudged : List Entry → ElView → ReasonFault → Type 0
IsJudged entries view (fault.Unsatisfiable at) = IsUnsatisfiable entries view at
IsJudged entries view (fault.TooManyFacts limit) = ⊥
IsJudged entries view fault.NoMemory = Unit {0}
