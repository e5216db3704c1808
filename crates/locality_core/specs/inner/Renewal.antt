-- How verdicts are renewed: what the rows give for a node by what is known of its parts, and what holds while some nodes
-- wait. (Own.)
use Rattle.std.specs.Prelude.{ℕ, suc, ◌≡◌, ◌+◌, ◌<◌, ◌⊎◌, Bool, true, false, if◌then◌else◌, List, [], ◌∷◌, ◌++◌, Option, None, Some, get_or, length, map, slice_get, slice_set}
use Rattle.fact_rows.specs.Member.{In}
use Rattle.name_lists.specs.Lists.{HasNumber, HaveLists, IsAdded, NamedState}
use Rattle.expr_pool.specs.Part.{parts_of}
use Rattle.expr_pool.specs.declared.cell.Cell.{Cell}
use Rattle.expr_pool.specs.declared.cell.Cell.TheVariants as cell
use Rattle.expr_pool.specs.declared.cell.Node.{Node}
use Rattle.owl_axioms.specs.Names.{Scope, name_of}
use Rattle.owl_axioms.specs.contracts.expr.ClassExprPartialEq.TheImpl as expr_eq
use Rattle.owl_axioms.specs.declared.expr.ClassExpr.{ClassExpr, out-ClassExpr}
use Rattle.owl_axioms.specs.declared.expr.ClassExpr.TheOpen.{ClassExpr-F}
use Rattle.owl_axioms.specs.declared.expr.ClassExpr.TheFolds.{map-ClassExpr}
use Rattle.owl_axioms.specs.declared.expr.ClassExpr.TheVariants as expr
use Rattle.owl_axioms.specs.declared.name.Kind.TheVariants as kind
use Rattle.owl_axioms.specs.declared.name.Name.{Name}
use Rattle.locality_tables.specs.Verdict.{verdict_step}
use Rattle.locality_tables.specs.declared.fills.ClassFill.{ClassFill}
use Rattle.locality_tables.specs.declared.fills.RoleFill.{RoleFill}
use Rattle.locality_tables.specs.declared.finding.Finding.{Finding}
use Rattle.locality_tables.specs.declared.finding.Finding.TheVariants.{Empty, Full, Unknown}
use Rattle.locality_core.specs.Verdicts.{top_name}

-- what is known of the node at a place
abbrev pub known_at : List Finding → ℕ → Finding
known_at found i = get_or found i Unknown

abbrev pub is_unknown : Finding → Bool
is_unknown Empty = false
is_unknown Full = false
is_unknown Unknown = true

-- the layer of a cell, by what is known of its nodes
unfoldable pub known_layer : List Finding → Cell → ClassExpr-F Finding
known_layer found cell.Thing = ClassExpr-F.Thing
known_layer found cell.Nothing = ClassExpr-F.Nothing
known_layer found (cell.Class iri) = ClassExpr-F.Class iri
known_layer found (cell.And ns) = ClassExpr-F.And (map (λ (n : Node). known_at found n.place) ns)
known_layer found (cell.Or ns) = ClassExpr-F.Or (map (λ (n : Node). known_at found n.place) ns)
known_layer found (cell.Not n) = ClassExpr-F.Not (known_at found n.place)
known_layer found (cell.Some r n) = ClassExpr-F.Some r (known_at found n.place)
known_layer found (cell.All r n) = ClassExpr-F.All r (known_at found n.place)
known_layer found (cell.Min k r n) = ClassExpr-F.Min k r (known_at found n.place)
known_layer found (cell.Max k r n) = ClassExpr-F.Max k r (known_at found n.place)
known_layer found (cell.Exact k r n) = ClassExpr-F.Exact k r (known_at found n.place)

-- the findings are those that a function tells of the trees
abbrev pub Reads : List ClassExpr → List Finding → (ClassExpr → Finding) → Type 0
Reads trees found v = (j : ℕ) (p : ClassExpr) → slice_get trees j ≡ Some p → j < length found → slice_get found j ≡ Some (v p)

-- the place of a tree among trees, and what is known of it there
abbrev pub place_in : ClassExpr → List ClassExpr → ℕ
place_in t [] = 0
place_in t (x ∷ ts) = if expr_eq.ghosts.eq t x then 0 else suc (place_in t ts)

abbrev pub reading : List ClassExpr → List Finding → ClassExpr → Finding
reading trees found t = known_at found (place_in t trees)

-- what the row of a node gives, by what is known of its parts
unfoldable pub next_at : ClassFill → RoleFill → Scope → List ClassExpr → List Finding → ℕ → Finding
next_at classes roles inside trees found i = verdict_step classes roles inside (map-ClassExpr _ _ (reading trees found) (out-ClassExpr (get_or trees i expr.Thing)))

-- how many findings are known
abbrev pub known_count : List Finding → ℕ
known_count [] = 0
known_count (f ∷ found) = (if is_unknown f then 0 else 1) + known_count found

-- the turn of a node: it sinks to Unknown where its row gives that, and waits then for what it is a part of
abbrev pub IsTurn : ClassFill → RoleFill → Scope → List ClassExpr → ℕ → List Finding → List ℕ → List Finding → List ℕ → Bool → Type 0
IsTurn classes roles inside trees at found waiting found' waiting' true =
    (is_unknown (known_at found at) ≡ false) × (next_at classes roles inside trees found at ≡ Unknown) × (found' ≡ slice_set found at Unknown) × (waiting' ≡ waiting ++ at ∷ [])
IsTurn classes roles inside trees at found waiting found' waiting' false =
    ((known_at found at ≡ Unknown) ⊎ (is_unknown (next_at classes roles inside trees found at) ≡ false)) × (found' ≡ found) × (waiting' ≡ waiting)

-- a node is to be looked at: it is in a list, or a part of it waits
abbrev pub IsDue : List (List ℕ) → List ℕ → List ℕ → ℕ → Type 0
IsDue wholes rest waiting i = In i rest ⊎ ((d : ℕ) × In d waiting × In i (get_or wholes d []))

-- while nodes are renewed: what is known is never less than what the rows give, and is what they give but for those due
pub record IsRenewing (classes : ClassFill) (roles : RoleFill) (inside : Scope) (trees : List ClassExpr) (wholes : List (List ℕ)) (rest : List ℕ) (found : List Finding) (waiting : List ℕ) : Type 0 where
  pub long : length found ≡ length trees
  pub sinks : (i : ℕ) → i < length trees → is_unknown (next_at classes roles inside trees found i) ≡ false → known_at found i ≡ next_at classes roles inside trees found i
  pub settled : (i : ℕ) → i < length trees → (next_at classes roles inside trees found i ≡ known_at found i) ⊎ IsDue wholes rest waiting i

-- with each node its parts lead to it
abbrev pub LeadUp : List ClassExpr → List (List ℕ) → Type 0
LeadUp trees wholes = (i j : ℕ) (t p : ClassExpr) → slice_get trees i ≡ Some t → slice_get trees j ≡ Some p → In p (parts_of t) → In i (get_or wholes j [])

-- all numbers of a list are below a number
abbrev pub AllBelow : ℕ → List ℕ → Type 0
AllBelow n xs = (i : ℕ) → In i xs → i < n

-- ---- the index, node by node

-- the number was added to the lists of these nodes
pub record IsAbove (old : List (List ℕ)) (nodes : List Node) (at : ℕ) (new : List (List ℕ)) : Type 0 where
  pub long : length new ≡ length old
  pub has : (n : Node) → In n nodes → In at (get_or new n.place [])
  pub kept : (j i : ℕ) → In i (get_or old j []) → In i (get_or new j [])
  pub from : (j i : ℕ) → In i (get_or new j []) → In i (get_or old j []) ⊎ (i ≡ at)

-- the name in a cell
unfoldable pub cell_name : Cell → Option Name
cell_name (cell.Class a) = Some (name_of kind.Class a)
cell_name (cell.Some r n) = Some (name_of kind.Role r)
cell_name (cell.All r n) = Some (name_of kind.Role r)
cell_name (cell.Min k r n) = Some (name_of kind.Role r)
cell_name (cell.Max k r n) = Some (name_of kind.Role r)
cell_name (cell.Exact k r n) = Some (name_of kind.Role r)
cell_name _ = None

-- the number was added to the list of the name, if there is one
abbrev pub IsUsedBy : Option Name → NamedState → ℕ → NamedState → Type 0
IsUsedBy None old at new = new ≡ old
IsUsedBy (Some n) old at new = HaveLists old × IsAdded old n at new

-- the index of the first nodes of a pool
pub record IsIndexTo (trees : List ClassExpr) (to : ℕ) (wholes : List (List ℕ)) (uses : NamedState) : Type 0 where
  pub parts : (i j : ℕ) (t p : ClassExpr) → i < to → slice_get trees i ≡ Some t → slice_get trees j ≡ Some p → In p (parts_of t) → In i (get_or wholes j [])
  pub names : (i : ℕ) (t : ClassExpr) (n : Name) → i < to → slice_get trees i ≡ Some t → top_name t ≡ Some n → HasNumber uses n i
  pub many : length wholes ≡ length trees
  pub above : (j i : ℕ) → In i (get_or wholes j []) → i < length trees
  pub using : (s i : ℕ) → In i (get_or uses.lists s []) → i < length trees
