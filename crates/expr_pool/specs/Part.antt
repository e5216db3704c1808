-- The parts of trees, and marks on the nodes of a pool: a list of truth values, one for each node in its place. (Own.)
use Rattle.std.specs.Prelude.{ℕ, ◌≡◌, ◌<◌, ◌⊎◌, Bool, true, List, [], ◌∷◌, length, ◌≤◌, ◌+◌, Some, get_or, fold, nat_lt, slice_get, slice_set}
use Rattle.std.specs.List.{list_all}
use Rattle.owl_axioms.specs.declared.expr.ClassExpr.{ClassExpr}
use Rattle.owl_axioms.specs.declared.expr.ClassExpr.TheOpen.{ClassExpr-F}
use Rattle.owl_axioms.specs.declared.expr.ClassExpr.TheVariants as expr
use Rattle.owl_axioms.specs.declared.expr.ClassExpr.TheViews.{out-ClassExpr}
use Rattle.fact_rows.specs.Member.{In}
use Rattle.expr_pool.specs.declared.cell.Node.{Node}

-- the flags with those of some nodes raised
abbrev pub flag_nodes : List Bool → List Node → List Bool
flag_nodes flags nodes = fold (λ fs (n : Node). slice_set fs n.place true) flags nodes

-- nodes that are all below a place
abbrev pub AreBefore : ℕ → List Node → Type 0
AreBefore place nodes = list_all (λ (n : Node). nat_lt n.place place) nodes ≡ true

-- the place is marked
abbrev pub IsMarked : List Bool → ℕ → Type 0
IsMarked flags i = slice_get flags i ≡ Some true

-- the parts of a layer
unfoldable pub layer_parts : ClassExpr-F ClassExpr → List ClassExpr
layer_parts ClassExpr-F.Thing = []
layer_parts ClassExpr-F.Nothing = []
layer_parts (ClassExpr-F.Class iri) = []
layer_parts (ClassExpr-F.And parts) = parts
layer_parts (ClassExpr-F.Or parts) = parts
layer_parts (ClassExpr-F.Not part) = part ∷ []
layer_parts (ClassExpr-F.Some role part) = part ∷ []
layer_parts (ClassExpr-F.All role part) = part ∷ []
layer_parts (ClassExpr-F.Min n role part) = part ∷ []
layer_parts (ClassExpr-F.Max n role part) = part ∷ []
layer_parts (ClassExpr-F.Exact n role part) = part ∷ []

-- the parts of a tree
unfoldable pub parts_of : ClassExpr → List ClassExpr
parts_of tree = layer_parts (out-ClassExpr tree)

-- a tree itself, its parts, and theirs
pub data Inside (whole : ClassExpr) : ClassExpr → Type 0 where
  itself : Inside whole whole
  deeper : {t p : ClassExpr} → Inside whole t → In p (parts_of t) → Inside whole p

-- the parts of the tree in a place
abbrev pub parts_at : List ClassExpr → ℕ → List ClassExpr
parts_at trees at = parts_of (get_or trees at expr.Thing)

-- a tree whose node is marked
abbrev pub HasMark : List ClassExpr → List Bool → ClassExpr → Type 0
HasMark trees flags t = (i : ℕ) × (slice_get trees i ≡ Some t) × IsMarked flags i

-- trees that all have a node that is marked
abbrev pub AreMarked : List ClassExpr → List Bool → List ClassExpr → Type 0
AreMarked trees flags parts = (t : ClassExpr) → In t parts → HasMark trees flags t

-- what was marked is marked
abbrev pub Keeps : List Bool → List Bool → Type 0
Keeps old new = (i : ℕ) → IsMarked old i → IsMarked new i

-- what is marked was marked, or is a part of what was
abbrev pub AreReached : List ClassExpr → ℕ → List Bool → List Bool → Type 0
AreReached trees at old new = (i : ℕ) → IsMarked new i → IsMarked old i ⊎ ((i < at) × IsMarked old at × In (get_or trees i expr.Thing) (parts_at trees at))

-- a node that was marked, or is a part of one that is reached
pub data Reached (trees : List ClassExpr) (old : List Bool) : ℕ → Type 0 where
  start : {i : ℕ} → IsMarked old i → Reached trees old i
  part : {i j : ℕ} → Reached trees old i → In (get_or trees j expr.Thing) (parts_at trees i) → Reached trees old j

-- what is marked is reached from what was marked
abbrev pub AreSound : List ClassExpr → List Bool → List Bool → Type 0
AreSound trees old new = (i : ℕ) → IsMarked new i → Reached trees old i

-- of the last places, those that are marked have all their parts marked
abbrev pub AreClosed : List ClassExpr → List Bool → ℕ → Type 0
AreClosed trees flags done = (i : ℕ) → i < length trees → length trees ≤ i + done → IsMarked flags i → AreMarked trees flags (parts_at trees i)

-- with each node that is marked, all parts of its tree are marked
abbrev pub IsClosed : List ClassExpr → List Bool → Type 0
IsClosed trees flags = (i : ℕ) → i < length trees → IsMarked flags i → AreMarked trees flags (parts_at trees i)
