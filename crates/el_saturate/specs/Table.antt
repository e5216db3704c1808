-- The table of the facts that are derived in an EL part, over the nodes of a pool, and when there is none. (Own.)
use Rattle.std.specs.Prelude.{ℕ, ◌≡◌, ◌<◌, ◌≤◌, ◌^◌, ◌↔◌, List, Some, length, nat_eq, position, slice_get}
use Rattle.std.specs.Cmp.Lexicographic.{pointwise}
use Rattle.fact_rows.specs.Member.{In, NoRepeats}
use Rattle.owl_axioms.specs.declared.expr.ClassExpr.{ClassExpr}
use Rattle.expr_pool.specs.Pool.{tree_at}
use Rattle.expr_pool.specs.declared.cell.Node.{Node}
use Rattle.el_numbers.specs.Laws.{RowsAreOrdered}
use Rattle.el_numbers.specs.Table.{Has, TableState, below_fact, link_fact}
use Rattle.el_numbers.specs.declared.fault.SaturationFault.{SaturationFault}
use Rattle.el_numbers.specs.declared.fault.SaturationFault.TheVariants as numbers_fault
use Rattle.el_rules.specs.Rules.{Derived, ElFact, ElView, HasLink, IsBelow}
use Rattle.el_saturate.specs.declared.fault.SatFault.{SatFault}
use Rattle.el_saturate.specs.declared.fault.SatFault.TheVariants as fault

-- a table: the number of the expression of each place of the pool, the role of each number, and the facts over numbers
pub record Facts : Type 0 where
  pub numbers : List ℕ
  pub roles : List (List ℕ)
  pub table : TableState

-- the table says that one node is below another
abbrev pub SaysBelow : Facts → Node → Node → Type 0
SaysBelow t a b = (c d : ℕ) × (slice_get t.numbers a.place ≡ Some c) × (slice_get t.numbers b.place ≡ Some d) × Has t.table (below_fact c d)

-- the table says that one node has a link by a role to another
abbrev pub SaysLink : Facts → Node → List ℕ → Node → Type 0
SaysLink t a r b =
    (c k d : ℕ) × (slice_get t.numbers a.place ≡ Some c) × (position (pointwise nat_eq r) t.roles ≡ Some k) × (slice_get t.numbers b.place ≡ Some d) × Has t.table (link_fact c k d)

-- so many facts are derived
pub record IsNumberOfFacts (part : ElView) (count : ℕ) : Type 0 where
  pub facts : List ElFact
  pub once : NoRepeats facts
  pub derived : (g : ElFact) → In g facts ↔ Derived part g
  pub are : length facts ≡ count

-- the table has exactly the derived facts, and they number no more than the limit
pub record IsTableOf (trees : List ClassExpr) (part : ElView) (limit count : ℕ) (t : Facts) : Type 0 where
  pub below : (a b : Node) → a.place < length trees → b.place < length trees → SaysBelow t a b ↔ Derived part (IsBelow (tree_at trees a) (tree_at trees b))
  pub link : (a : Node) (r : List ℕ) (b : Node) → a.place < length trees → b.place < length trees → SaysLink t a r b ↔ Derived part (HasLink (tree_at trees a) r (tree_at trees b))
  pub counted : IsNumberOfFacts part count
  pub few : count ≤ limit

-- the number of each expression that occurs is its place among them, and the rows of numbers are a reflexive and transitive
-- relation on these numbers
pub record HasRows (occurring : List Node) (t : Facts) : Type 0 where
  pub number : (k : ℕ) (n : Node) → slice_get occurring k ≡ Some n → slice_get t.numbers n.place ≡ Some k
  pub long : length t.table.below ≡ length occurring
  pub small : length occurring < 2 ^ 32
  pub ordered : RowsAreOrdered t.table

-- more facts are derived than the limit
pub record AreMore (part : ElView) (limit : ℕ) : Type 0 where
  pub facts : List ElFact
  pub once : NoRepeats facts
  pub derived : (g : ElFact) → In g facts → Derived part g
  pub more : limit < length facts

-- the fault that one over numbers stands for
abbrev pub told : SaturationFault → SatFault
told (numbers_fault.TooManyFacts n) = fault.TooManyFacts n
told numbers_fault.NoMemory = fault.NoMemory

-- what a fault says: the limit, and that more facts are derived; running out of memory says nothing
abbrev pub IsFaultOf : ElView → ℕ → SatFault → Type 0
IsFaultOf part limit (fault.TooManyFacts n) = (n ≡ limit) × AreMore part limit
IsFaultOf part limit fault.NoMemory = Unit {0}

-- the two answers of a saturation exclude each other
abbrev pub AnswersExclude : Type 0
AnswersExclude = (part : ElView) (limit count : ℕ) → IsNumberOfFacts part count → count ≤ limit → AreMore part limit → ⊥
