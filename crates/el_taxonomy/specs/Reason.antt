-- An ontology before reasoning and after, and when reasoning is refused. (Own; the role of the command `reason` of ROBOT.)
use Rattle.std.specs.Prelude.{ℕ, ◌≡◌, ◌≤◌, ◌↔◌, ◌++◌, true, List, Contains, Some, length, map, slice_get}
use Rattle.std.specs.List.{IsDistinct}
use Rattle.owl_axioms.specs.Names.{name_of}
use Rattle.owl_axioms.specs.Proper.{in_order}
use Rattle.owl_axioms.specs.Same.{same_axiom}
use Rattle.owl_axioms.specs.declared.body.Axiom.{Axiom}
use Rattle.owl_axioms.specs.declared.body.Body.TheVariants as body
use Rattle.owl_axioms.specs.declared.name.Kind.TheVariants as kind
use Rattle.owl_ontology.specs.Ontology.{Entry, OntologyState, axioms_of}
use Rattle.owl_ontology.specs.Origins.{comes_before}
use Rattle.el_rules.specs.ElPart.{unused_of}
use Rattle.el_rules.specs.Rules.{ElView, IsElPartOf}
use Rattle.el_saturate.specs.Table.{AreMore, IsNumberOfFacts}
use Rattle.el_taxonomy.specs.Direct.{AreDirectEdges}
use Rattle.el_taxonomy.specs.Taxonomy.{IsDeclaredClass, IsDirectEdge, IsEmpty}
use Rattle.el_taxonomy.specs.declared.edge.Edge.{Edge}
use Rattle.el_taxonomy.specs.declared.fault.ReasonFault.{ReasonFault}
use Rattle.el_taxonomy.specs.declared.fault.ReasonFault.TheVariants as fault
use Rattle.reduce_edges.specs.Edges.{edge}
use Rattle.relax_axioms.specs.Relax.{step_entries}
use Rattle.relax_axioms.specs.Relaxed.{plain}

-- what is derived in axioms: their EL part as the rules see it, in which no more facts are derived than the limit
pub record IsReasoned (axioms : List Axiom) (limit : ℕ) (view : ElView) : Type 0 where
  pub part : IsElPartOf axioms view
  pub count : ℕ
  pub facts : IsNumberOfFacts view count
  pub few : count ≤ limit

-- an axiom that reasoning adds: a direct edge that is not stated, without annotations
pub record IsInferred (axioms : List Axiom) (view : ElView) (added : Axiom) : Type 0 where
  pub sub : List ℕ
  pub super : List ℕ
  pub direct : IsDirectEdge axioms view sub super
  pub is : added ≡ plain (edge sub super)

-- the inclusion that an edge stands for, without annotations
abbrev pub inclusion_of : Edge → Axiom
inclusion_of e = plain (edge e.sub e.sup)

-- what was there stays as it is and in its place; behind it come the inclusions of the direct edges that are not stated, in
-- the order of the names of these: so exactly the inferred axioms, each once, and so many
pub record Infers (view : ElView) (before after : OntologyState) (count : ℕ) : Type 0 where
  pub edges : List Edge
  pub are : AreDirectEdges (axioms_of before.entries) view edges
  pub added : List Axiom
  pub added_are : added ≡ map inclusion_of edges
  pub name : after.name ≡ before.name
  pub entries : after.entries ≡ before.entries ++ step_entries added
  pub exactly : (a : Axiom) → Contains added a ↔ IsInferred (axioms_of before.entries) view a
  pub once : IsDistinct same_axiom added
  pub counted : count ≡ length added

-- no declared class is empty; the inferred axioms are added; and so many logical axioms are outside the EL part
pub record Reasons (before after : OntologyState) (limit count unused : ℕ) : Type 0 where
  pub view : ElView
  pub reasoned : IsReasoned (axioms_of before.entries) limit view
  pub satisfiable : (class : List ℕ) → IsDeclaredClass (axioms_of before.entries) class → ¬ (IsEmpty view class)
  pub infers : Infers view before after count
  pub left_out : unused ≡ unused_of (axioms_of before.entries)

-- the entry at a place declares the class
pub record DeclaresAt (entries : List Entry) (class : List ℕ) (at : ℕ) (entry : Entry) : Type 0 where
  pub found : slice_get entries at ≡ Some entry
  pub says : entry.axiom.body ≡ body.Declaration (name_of kind.Class class)

-- the first declaration of a class, by their origins, and of one origin by their places
pub record IsFirstDeclaration (entries : List Entry) (class : List ℕ) (at : ℕ) : Type 0 where
  pub entry : Entry
  pub declares : DeclaresAt entries class at entry
  pub first : (i : ℕ) (other : Entry) → DeclaresAt entries class i other → ¬ (comes_before other.origin entry.origin ≡ true)
  pub place : (i : ℕ) (other : Entry) → DeclaresAt entries class i other → other.origin ≡ entry.origin → at ≤ i

-- the place of the first declaration of the least declared class, by the bytes of its IRI, that is empty
pub record IsUnsatisfiable (entries : List Entry) (view : ElView) (at : ℕ) : Type 0 where
  pub class : List ℕ
  pub declared : IsDeclaredClass (axioms_of entries) class
  pub empty : IsEmpty view class
  pub least : (other : List ℕ) → IsDeclaredClass (axioms_of entries) other → IsEmpty view other → in_order class other ≡ true
  pub first : IsFirstDeclaration entries class at

-- more facts are derived in axioms than the limit
pub record HasTooMany (axioms : List Axiom) (limit : ℕ) : Type 0 where
  pub view : ElView
  pub part : IsElPartOf axioms view
  pub more : AreMore view limit

-- a declared class is empty, where no more facts are derived than the limit
pub record IsRefusedAt (before : OntologyState) (limit at : ℕ) : Type 0 where
  pub view : ElView
  pub reasoned : IsReasoned (axioms_of before.entries) limit view
  pub place : IsUnsatisfiable before.entries view at

-- what a refusal says; running out of memory says nothing
abbrev pub IsRefused : OntologyState → ℕ → ReasonFault → Type 0
IsRefused before limit (fault.Unsatisfiable at) = IsRefusedAt before limit at
IsRefused before limit (fault.TooManyFacts n) = (n ≡ limit) × HasTooMany (axioms_of before.entries) limit
IsRefused before limit fault.NoMemory = Unit {0}
