-- Proper trees and axioms: one way to write what has no order and no repeats, and IRIs that can be printed. Each part is
-- a test. (Own; the order is that of the functional-style text, OWL 2 Structural Specification and Functional-Style Syntax.)
use Rattle.std.specs.Prelude.{ℕ, ◌^◌, Bool, true, not, ◌&&◌, ◌||◌, List, [], ◌∷◌, IsTrue, length, map, nat_le, nat_lt, nat_eq}
use Rattle.std.specs.Cmp.Lexicographic.{pointwise, slice_cmp}
use Rattle.std.specs.List.{list_all}
use Rattle.std.specs.Ordering.{is_gt, is_lt, nat_cmp}
use Rattle.rel_io.specs.Texts.{is_clean_iri}
use Rattle.owl_axioms.specs.Text.{expr_text, iri_text, side_text}
use Rattle.owl_axioms.specs.Vocabulary.{owl_nothing, owl_thing}
use Rattle.owl_axioms.specs.declared.annotation.NoteValue.{NoteValue}
use Rattle.owl_axioms.specs.declared.annotation.NoteValue.TheVariants as note
use Rattle.owl_axioms.specs.declared.annotation.Side.{Side}
use Rattle.owl_axioms.specs.declared.body.Axiom.{Axiom}
use Rattle.owl_axioms.specs.declared.body.Body.{Body}
use Rattle.owl_axioms.specs.declared.body.Body.TheVariants as body
use Rattle.owl_axioms.specs.declared.expr.ClassExpr.{ClassExpr}
use Rattle.owl_axioms.specs.declared.expr.ClassExpr.TheOpen.{ClassExpr-F}
use Rattle.owl_axioms.specs.declared.expr.ClassExpr.TheFolds.{para-ClassExpr}
use Rattle.owl_axioms.specs.declared.name.Name.{Name}

-- the IRI of a class that is neither owl:Thing nor owl:Nothing, which are trees of their own
unfoldable pub is_class_iri : List ℕ → Bool
is_class_iri iri = is_clean_iri iri && not (pointwise nat_eq iri owl_thing || pointwise nat_eq iri owl_nothing)

-- a number of fillers: it fits in 32 bits
unfoldable pub is_count : ℕ → Bool
is_count n = nat_lt n (2 ^ 32)

-- two texts of which the first is not above the second, byte by byte
unfoldable pub in_order : List ℕ → List ℕ → Bool
in_order one other = not (is_gt (slice_cmp nat_cmp one other))

-- texts that rise from each to the next: sorted, and without repeats
unfoldable pub rises : List (List ℕ) → Bool
rises [] = true
rises (one ∷ rest) = rises_from one rest
  where
    rises_from : List ℕ → List (List ℕ) → Bool
    rises_from one [] = true
    rises_from one (next ∷ rest) = is_lt (slice_cmp nat_cmp one next) && rises_from next rest

-- operands with the test of each: at least two, all different and sorted by their text, all proper
unfoldable pub are_proper_operands : List (ClassExpr × Bool) → Bool
are_proper_operands operands = nat_le 2 (length operands) && rises (map (λ p. expr_text p.0) operands) && list_all (λ p. p.1) operands

-- one layer of an expression, with the test of each part beside the part
unfoldable pub proper_step : ClassExpr-F (ClassExpr × Bool) → Bool
proper_step ClassExpr-F.Thing = true
proper_step ClassExpr-F.Nothing = true
proper_step (ClassExpr-F.Class iri) = is_class_iri iri
proper_step (ClassExpr-F.And operands) = are_proper_operands operands
proper_step (ClassExpr-F.Or operands) = are_proper_operands operands
proper_step (ClassExpr-F.Not part) = part.1
proper_step (ClassExpr-F.Some role part) = is_clean_iri role && part.1
proper_step (ClassExpr-F.All role part) = is_clean_iri role && part.1
proper_step (ClassExpr-F.Min n role part) = is_count n && is_clean_iri role && part.1
proper_step (ClassExpr-F.Max n role part) = is_count n && is_clean_iri role && part.1
proper_step (ClassExpr-F.Exact n role part) = is_count n && is_clean_iri role && part.1

-- a class expression that is proper at each place in it
unfoldable pub is_proper_expr : ClassExpr → Bool
is_proper_expr = para-ClassExpr Bool proper_step

-- an entity with a clean IRI
unfoldable pub is_proper_name : Name → Bool
is_proper_name name = is_clean_iri name.iri

-- a value whose IRIs are clean
unfoldable pub is_proper_value : NoteValue → Bool
is_proper_value (note.Text text) = true
is_proper_value (note.Typed text datatype) = is_clean_iri datatype
is_proper_value (note.Link iri) = is_clean_iri iri

-- an annotation whose IRIs are clean
unfoldable pub is_proper_side : Side → Bool
is_proper_side side = is_clean_iri side.property && is_proper_value side.value

-- annotations: sorted by their text, without repeats, all proper
unfoldable pub are_proper_sides : List Side → Bool
are_proper_sides sides = rises (map side_text sides) && list_all is_proper_side sides

-- two expressions that stand for each other: both proper, and the text-least first
unfoldable pub is_proper_pair : ClassExpr → ClassExpr → Bool
is_proper_pair c d = is_proper_expr c && is_proper_expr d && in_order (expr_text c) (expr_text d)

-- two properties that stand for each other: both clean, and the text-least first
unfoldable pub is_proper_role_pair : List ℕ → List ℕ → Bool
is_proper_role_pair r s = is_clean_iri r && is_clean_iri s && in_order (iri_text r) (iri_text s)

-- what an axiom says, proper at each place in it
unfoldable pub is_proper_body : Body → Bool
is_proper_body (body.Sub c d) = is_proper_expr c && is_proper_expr d
is_proper_body (body.Equiv c d) = is_proper_pair c d
is_proper_body (body.Disjoint c d) = is_proper_pair c d
is_proper_body (body.SubRole r s) = is_clean_iri r && is_clean_iri s
is_proper_body (body.Chain r s t) = is_clean_iri r && is_clean_iri s && is_clean_iri t
is_proper_body (body.EquivRoles r s) = is_proper_role_pair r s
is_proper_body (body.DisjointRoles r s) = is_proper_role_pair r s
is_proper_body (body.Inverse r s) = is_proper_role_pair r s
is_proper_body (body.Transitive r) = is_clean_iri r
is_proper_body (body.Reflexive r) = is_clean_iri r
is_proper_body (body.Symmetric r) = is_clean_iri r
is_proper_body (body.Asymmetric r) = is_clean_iri r
is_proper_body (body.Functional r) = is_clean_iri r
is_proper_body (body.InverseFunctional r) = is_clean_iri r
is_proper_body (body.Domain r c) = is_clean_iri r && is_proper_expr c
is_proper_body (body.Range r c) = is_clean_iri r && is_proper_expr c
is_proper_body (body.ClassAssertion c i) = is_proper_expr c && is_clean_iri i
is_proper_body (body.RoleAssertion r i j) = is_clean_iri r && is_clean_iri i && is_clean_iri j
is_proper_body (body.Declaration name) = is_proper_name name
is_proper_body (body.Note subject property value) = is_proper_name subject && is_clean_iri property && is_proper_value value
is_proper_body (body.OntologyNote property value) = is_clean_iri property && is_proper_value value

-- an axiom that is proper at each place in it
unfoldable pub is_proper : Axiom → Bool
is_proper a = is_proper_body a.body && are_proper_sides a.sides

-- the same, as a fact
abbrev pub IsProper : Axiom → Type 0
IsProper a = IsTrue (is_proper a)

-- axioms that are all proper
abbrev pub AreProper : List Axiom → Type 0
AreProper axioms = IsTrue (list_all is_proper axioms)
