-- Trees and axioms that are made from parts in any order: what has no order is sorted by its text, each text once, and the
-- text-least of a pair stands first. (Own.)
use Rattle.std.specs.Prelude.{ℕ, ◌≡◌, ◌↔◌, Bool, false, not, ◌&&◌, List, [], ◌∷◌, IsTrue, Contains, if◌then◌else◌, map}
use Rattle.std.specs.List.{list_all}
use Rattle.owl_axioms.specs.Proper.{in_order, is_proper_body, is_proper_expr, rises}
use Rattle.rel_io.specs.Texts.{is_clean_iri}
use Rattle.owl_axioms.specs.Text.{expr_text, iri_text, side_text}
use Rattle.owl_axioms.specs.declared.annotation.Side.{Side}
use Rattle.owl_axioms.specs.declared.body.Axiom.{Axiom}
use Rattle.owl_axioms.specs.declared.body.Body.{Body}
use Rattle.owl_axioms.specs.declared.body.Body.TheVariants as body
use Rattle.owl_axioms.specs.declared.expr.ClassExpr.{ClassExpr}

-- what is kept of what was given: the same members and no other, each once, in the order of their texts
pub record IsSortedSet {X : Type 0} (text : X → List ℕ) (given kept : List X) : Type 0 where
  pub rising : IsTrue (rises (map text kept))
  pub same : (x : X) → Contains kept x ↔ Contains given x

-- the group of some operands, and of one alone that operand itself
abbrev pub group_or_one : (List ClassExpr → ClassExpr) → List ClassExpr → ClassExpr
group_or_one group (one ∷ []) = one
group_or_one group operands = group operands

-- the group of the operands given, whatever their order and their repeats
pub record IsGroup (group : List ClassExpr → ClassExpr) (given : List ClassExpr) (made : ClassExpr) : Type 0 where
  pub operands : List ClassExpr
  pub sorted : IsSortedSet expr_text given operands
  pub is : made ≡ group_or_one group operands

-- whether what an axiom says is a pair of which the text-least stands second
unfoldable pub is_reversed : Body → Bool
is_reversed (body.Equiv c d) = not (in_order (expr_text c) (expr_text d))
is_reversed (body.Disjoint c d) = not (in_order (expr_text c) (expr_text d))
is_reversed (body.EquivRoles r s) = not (in_order (iri_text r) (iri_text s))
is_reversed (body.DisjointRoles r s) = not (in_order (iri_text r) (iri_text s))
is_reversed (body.Inverse r s) = not (in_order (iri_text r) (iri_text s))
is_reversed other = false

-- the same pair the other way round
unfoldable pub swapped : Body → Body
swapped (body.Equiv c d) = body.Equiv d c
swapped (body.Disjoint c d) = body.Disjoint d c
swapped (body.EquivRoles r s) = body.EquivRoles s r
swapped (body.DisjointRoles r s) = body.DisjointRoles s r
swapped (body.Inverse r s) = body.Inverse s r
swapped other = other

-- what an axiom says, its pair in order
unfoldable pub ordered : Body → Body
ordered given = if is_reversed given then swapped given else given

-- what an axiom says, proper but for the order of its pair
unfoldable pub is_proper_unordered : Body → Bool
is_proper_unordered (body.Equiv c d) = is_proper_expr c && is_proper_expr d
is_proper_unordered (body.Disjoint c d) = is_proper_expr c && is_proper_expr d
is_proper_unordered (body.EquivRoles r s) = is_clean_iri r && is_clean_iri s
is_proper_unordered (body.DisjointRoles r s) = is_clean_iri r && is_clean_iri s
is_proper_unordered (body.Inverse r s) = is_clean_iri r && is_clean_iri s
is_proper_unordered other = is_proper_body other

-- an axiom that says what was given, with the annotations that were given
pub record IsAxiomOf (given : Body) (given_sides : List Side) (made : Axiom) : Type 0 where
  pub body : made.body ≡ ordered given
  pub sides : IsSortedSet side_text given_sides made.sides

-- a proper expression, and expressions that are all proper
abbrev pub IsProperExpr : ClassExpr → Type 0
IsProperExpr expr = IsTrue (is_proper_expr expr)

abbrev pub AreProperExprs : List ClassExpr → Type 0
AreProperExprs exprs = IsTrue (list_all is_proper_expr exprs)
