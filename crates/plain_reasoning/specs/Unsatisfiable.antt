-- The declaration at which reasoning is refused, as a plain function of entries. (Own.)
use Rattle.std.specs.Prelude.{ℕ, zero, suc, Bool, not, ◌&&◌, if◌then◌else◌, List, [], ◌∷◌, Option, None, Some, filter}
use Rattle.std.specs.List.{list_any}
use Rattle.std.specs.Option.{option_map}
use Rattle.std.specs.Str.{bytes_eq}
use Rattle.text_sets.specs.Sorted.{sorted_by}
use Rattle.owl_axioms.specs.declared.body.Axiom.{Axiom}
use Rattle.owl_axioms.specs.declared.expr.ClassExpr.TheVariants as expr
use Rattle.owl_ontology.specs.Ontology.{Entry, axioms_of}
use Rattle.owl_ontology.specs.Origins.{comes_before}
use Rattle.el_rules.specs.Rules.{IsBelow}
use Rattle.plain_reasoning.specs.Edges.{facts_in}
use Rattle.plain_reasoning.specs.Facts.{knows}
use Rattle.plain_reasoning.specs.Occurring.{class_declared, declared_classes}

-- whether nothing is in a class
unfoldable pub is_empty : List Axiom → List ℕ → Bool
is_empty axioms class = knows (facts_in axioms) (IsBelow (expr.Class class) expr.Nothing)

-- the declared classes in which nothing is, in the order of their IRIs
unfoldable pub empty_classes : List Axiom → List (List ℕ)
empty_classes axioms = sorted_by (λ class. class) (filter (is_empty axioms) (declared_classes axioms))

-- the first place of an item that passes a test
unfoldable pub first_place : {A : Type 0} → (A → Bool) → List A → Option ℕ
first_place test [] = None
first_place test (x ∷ xs) = if test x then Some zero else option_map suc (first_place test xs)

-- whether an entry declares a class
unfoldable pub declares : List ℕ → Entry → Bool
declares class entry = list_any (bytes_eq class) (class_declared entry.axiom.body)

-- whether it does, and no declaration of the class has an origin before its own
unfoldable pub is_first : List Entry → List ℕ → Entry → Bool
is_first entries class entry = declares class entry && not (list_any (λ other. declares class other && comes_before other.origin entry.origin) entries)

-- of the first class, the first place of such a declaration
unfoldable pub first_declared : List Entry → List (List ℕ) → Option ℕ
first_declared entries [] = None
first_declared entries (class ∷ classes) = first_place (is_first entries class) entries

-- the place of the declaration at which reasoning is refused, if there is one
unfoldable pub unsatisfiable_of : List Entry → Option ℕ
unsatisfiable_of entries = first_declared entries (empty_classes (axioms_of entries))
