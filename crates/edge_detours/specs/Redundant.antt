-- Edges that other edges make redundant, in a graph that may have cycles. (Own; without cycles the edges of the
-- transitive reduction are those that are not redundant: Aho, Garey and Ullman 1972.)
use Rattle.std.specs.Prelude.{◌≡◌, ℕ, Bool, List, Some, length, slice_get, ◌⊎◌}
use Rattle.fact_rows.specs.Marks.{IsFlagged}
use Rattle.edge_detours.specs.Reach.{Edges, Reach}

-- b is strictly between a and c: a reaches b, b reaches c, b does not reach a, and c does not reach b
pub record IsStrictlyBetween (es : Edges) (a b c : ℕ) : Type 0 where
  pub from : Reach es a b
  pub to : Reach es b c
  pub no_back : Reach es b a → ⊥
  pub no_return : Reach es c b → ⊥

-- an edge from a to c is redundant: a is c, or some node is strictly between
abbrev pub IsRedundant : Edges → ℕ → ℕ → Type 0
IsRedundant es a c = (a ≡ c) ⊎ ((b : ℕ) × IsStrictlyBetween es a b c)

-- there is a flag for each edge, and it is set exactly where the edge is redundant
pub record AreRedundant (es : Edges) (flags : List Bool) : Type 0 where
  pub long : length flags ≡ length es
  pub on : (i a c : ℕ) → slice_get es i ≡ Some (a, c) → IsFlagged flags i → IsRedundant es a c
  pub off : (i a c : ℕ) → slice_get es i ≡ Some (a, c) → IsRedundant es a c → IsFlagged flags i
