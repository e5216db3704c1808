-- Edges that other edges make redundant, in a graph that may have cycles. (Own; without cycles the edges of the transitive
-- reduction are those that are not redundant: Aho, Garey and Ullman 1972.)
use Rattle.std.specs.Prelude.{ℕ, ◌≡◌, ◌⊎◌, List, [], Bool, IsTrue}
use Rattle.owl_axioms.specs.declared.body.Axiom.{Axiom}
use Rattle.reduce_edges.specs.Edges.{Reach, edge}

-- a class is strictly between two: the first reaches it, it reaches the second, and neither the other way round
pub record IsStrictlyBetween (axioms : List Axiom) (sub between super : List ℕ) : Type 0 where
  pub from : Reach axioms sub between
  pub to : Reach axioms between super
  pub no_back : ¬ (Reach axioms between sub)
  pub no_return : ¬ (Reach axioms super between)

-- an edge is redundant: its ends are one class, or some class is strictly between them
abbrev pub IsRedundant : List Axiom → List ℕ → List ℕ → Type 0
IsRedundant axioms sub super = (sub ≡ super) ⊎ ((between : List ℕ) × IsStrictlyBetween axioms sub between super)

-- an axiom that goes: it says a redundant edge, and has no annotations where those with annotations are to stay
pub record Goes (axioms : List Axiom) (keep_annotated : Bool) (one : Axiom) : Type 0 where
  pub sub : List ℕ
  pub super : List ℕ
  pub says : one.body ≡ edge sub super
  pub redundant : IsRedundant axioms sub super
  pub plain : IsTrue keep_annotated → one.sides ≡ []
