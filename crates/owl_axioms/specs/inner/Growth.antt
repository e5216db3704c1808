-- Signatures that only grow, as the functions that add names say of themselves. (Own.)
use Rattle.std.specs.Prelude.{ℕ, ◌≡◌, List, flat_map, length, take}
use Rattle.owl_axioms.specs.Names.{names_in}
use Rattle.owl_axioms.specs.Signature.{SigState}
use Rattle.owl_axioms.specs.declared.expr.ClassExpr.{ClassExpr}
use Rattle.owl_axioms.specs.declared.name.Name.{Name}

-- the texts begin with the first ones
abbrev pub Begins : List (List ℕ) → List (List ℕ) → Type 0
Begins first texts = take (length first) texts ≡ first

-- all that is in the first signature stands in the same places in the second
unfoldable pub IsMore : SigState → SigState → Type 0
IsMore s t = Begins s.classes t.classes × Begins s.roles t.roles × Begins s.individuals t.individuals

-- the names in each of some expressions
abbrev pub names_list : List ClassExpr → List Name
names_list exprs = flat_map names_in exprs
