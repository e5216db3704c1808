-- Axioms over nodes, on the way. (Own.)
use Rattle.std.specs.Prelude.{ℕ, ◌≡◌, ◌<◌, true, false, List, [], ◌∷◌, Option, None, Some, flat_map, length, map}
use Rattle.std.specs.List.{list_all}
use Rattle.fact_rows.specs.Member.{In}
use Rattle.owl_axioms.specs.Classes.{class_named}
use Rattle.owl_axioms.specs.declared.body.Axiom.{Axiom}
use Rattle.owl_axioms.specs.declared.body.Body.{Body}
use Rattle.owl_axioms.specs.declared.body.Body.TheVariants as body
use Rattle.owl_axioms.specs.declared.expr.ClassExpr.{ClassExpr}
use Rattle.owl_axioms.specs.declared.expr.ClassExpr.TheVariants as expr
use Rattle.owl_axioms.specs.declared.name.Kind.{Kind}
use Rattle.owl_axioms.specs.declared.name.Kind.TheVariants as kind
use Rattle.expr_pool.specs.declared.cell.Node.{Node}
use Rattle.el_rules.specs.ElPart.{is_el}
use Rattle.el_part.specs.Part.{IsNodeOf, body_of, nodes_in}
use Rattle.el_part.specs.declared.el_axiom.ElAxiom.{ElAxiom}

-- the nodes of axioms are there
abbrev pub AreWithin : List ClassExpr → List ElAxiom → Type 0
AreWithin trees axioms = (a : ElAxiom) → In a axioms → (n : Node) → In n (nodes_in a) → n.place < length trees

-- axioms over nodes that are there stand for these
abbrev pub Stand : List ClassExpr → List ElAxiom → List Body → Type 0
Stand trees axioms bodies = (map (body_of trees) axioms ≡ bodies) × AreWithin trees axioms

-- the nodes of two expressions, where both are EL expressions
abbrev pub IsPair : List ClassExpr → ClassExpr → ClassExpr → Option (Node × Node) → Type 0
IsPair trees c d None = list_all is_el (c ∷ d ∷ []) ≡ false
IsPair trees c d (Some p) = (list_all is_el (c ∷ d ∷ []) ≡ true) × IsNodeOf trees p.0 c × IsNodeOf trees p.1 d

-- the classes that are declared, as expressions
unfoldable pub declared_as : Kind → List ℕ → List ClassExpr
declared_as kind.Class iri = class_named iri ∷ []
declared_as _ iri = []

unfoldable pub declared_in : Body → List ClassExpr
declared_in (body.Declaration name) = declared_as name.kind name.iri
declared_in _ = []

-- Thing, Nothing and the declared classes
abbrev pub named_trees : List Axiom → List ClassExpr
named_trees axioms = expr.Thing ∷ expr.Nothing ∷ flat_map (λ a. declared_in a.body) axioms

-- the items of an option
abbrev pub items_of : {X : Type 0} → Option X → List X
items_of None = []
items_of (Some x) = x ∷ []
