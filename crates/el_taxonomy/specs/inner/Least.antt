-- Declarations of classes that nothing is in, and the least of them. (Own.)
use Rattle.std.specs.Prelude.{ℕ, ◌≡◌, ◌<◌, ◌≤◌, Bool, false, List, MatchOption, Option, Some, slice_get}
use Rattle.std.specs.Cmp.Lexicographic.{slice_cmp}
use Rattle.std.specs.Ordering.{is_lt, nat_cmp, ordering_then}
use Rattle.std.specs.declared.cmp.Ordering.{Ordering}
use Rattle.expr_pool.specs.declared.cell.Node.{Node}
use Rattle.owl_ontology.specs.Ontology.{Entry}
use Rattle.owl_ontology.specs.declared.origin.Origin.{Origin}
use Rattle.el_part.specs.Part.{PartState, class_at}
use Rattle.el_saturate.specs.Table.{Facts, SaysBelow}
use Rattle.el_taxonomy.specs.inner.Numbers.{declared_in}

-- the table says that the node is below that of owl:Nothing, the second that occurs
abbrev pub IsEmptyNode : PartState → Facts → Node → Type 0
IsEmptyNode part table node = (nothing : Node) × (slice_get part.occurring 1 ≡ Some nothing) × SaysBelow table node nothing

-- it says so of the node of the class
abbrev pub IsEmptyClass : PartState → Facts → List ℕ → Type 0
IsEmptyClass part table class = (node : Node) × (class_at part class ≡ Some node) × IsEmptyNode part table node

-- what is said declares such a class
abbrev pub DeclaresEmpty : PartState → Facts → Option (List ℕ) → Type 0
DeclaresEmpty part table declared = (class : List ℕ) × (declared ≡ Some class) × IsEmptyClass part table class

-- a declaration: its class, and where it comes from
pub record Declared : Type 0 where
  pub class : List ℕ
  pub origin : Origin

-- by class, and of one class by origin
abbrev pub declared_cmp : Declared → Declared → Ordering
declared_cmp one other =
    ordering_then (slice_cmp nat_cmp one.class other.class) (ordering_then (nat_cmp one.origin.file other.origin.file) (nat_cmp one.origin.line other.origin.line))

abbrev pub is_lesser : Declared → Declared → Bool
is_lesser one other = is_lt (declared_cmp one other)

-- the entry at a place declares the class, with the origin
pub record IsDeclaredAt (entries : List Entry) (at : ℕ) (one : Declared) : Type 0 where
  pub entry : Entry
  pub found : slice_get entries at ≡ Some entry
  pub class : declared_in entry.axiom.body ≡ Some one.class
  pub origin : entry.origin ≡ one.origin

-- and the table says that nothing is in it
pub record IsEmptyAt (entries : List Entry) (part : PartState) (table : Facts) (at : ℕ) (one : Declared) : Type 0 where
  pub declared : IsDeclaredAt entries at one
  pub empty : IsEmptyClass part table one.class

-- of those among the first entries it is the least, and the first of the least
pub record IsLeastAt (entries : List Entry) (part : PartState) (table : Facts) (count at : ℕ) : Type 0 where
  pub one : Declared
  pub within : at < count
  pub is : IsEmptyAt entries part table at one
  pub least : (i : ℕ) (other : Declared) → i < count → IsEmptyAt entries part table i other → is_lesser other one ≡ false
  pub first : (i : ℕ) (other : Declared) → i < count → IsEmptyAt entries part table i other → is_lesser one other ≡ false → at ≤ i

-- what is found among the first entries: that one, or none where there is none
abbrev pub IsFound : List Entry → PartState → Facts → ℕ → Option ℕ → Type 0
IsFound entries part table count found =
    MatchOption found ((i : ℕ) (other : Declared) → i < count → IsEmptyAt entries part table i other → ⊥) (IsLeastAt entries part table count)
