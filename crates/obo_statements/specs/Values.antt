-- Statements by their values: what a value says of the entity of its frame, and the value that says it. (OBO Flat File
-- Format 1.4, its mapping to OWL 2, in our own profile.)
use Rattle.std.specs.Prelude.{ℕ, true, ◌&&◌, List, [], ◌∷◌, if◌then◌else◌, Option, None, Some}
use Rattle.std.specs.Option.{option_and_then, option_map}
use Rattle.std.specs.Str.{bytes_eq}
use Rattle.obo_clause.specs.declared.clause.Qualifier.{Qualifier}
use Rattle.obo_clause.specs.declared.clause.Value.{Value}
use Rattle.obo_clause.specs.declared.clause.Value.TheVariants as value
use Rattle.owl_axioms.specs.Proper.{in_order}
use Rattle.owl_axioms.specs.Text.{iri_text}
use Rattle.owl_axioms.specs.declared.body.Body.{Body}
use Rattle.owl_axioms.specs.declared.body.Body.TheVariants as body
use Rattle.owl_axioms.specs.declared.expr.ClassExpr.{ClassExpr}
use Rattle.obo_notes.specs.Context.{Reading, Writing, where_true}
use Rattle.owl_axioms.specs.Classes.{class_named}
use Rattle.obo_statements.specs.Classes.{as_id, class_id, class_iri, class_read, is_class}
use Rattle.obo_statements.specs.Restrictions.{restriction, restriction_words}
use Rattle.obo_statements.specs.Extras.{Worded, worded_plainly}

-- the characters of a property
pub data Character : Type 0 where
  transitive reflexive symmetric asymmetric functional inverse_functional : Character

abbrev pub character_body : Character → List ℕ → Body
character_body transitive role = body.Transitive role
character_body reflexive role = body.Reflexive role
character_body symmetric role = body.Symmetric role
character_body asymmetric role = body.Asymmetric role
character_body functional role = body.Functional role
character_body inverse_functional role = body.InverseFunctional role

-- what is said of two in the order of their texts
abbrev pub pair_of : (List ℕ → List ℕ → Body) → List ℕ → List ℕ → Body
pair_of make one other = if in_order (iri_text one) (iri_text other) then make one other else make other one

abbrev pub same_classes : List ℕ → List ℕ → Body
same_classes one other = body.Equiv (class_named one) (class_named other)

abbrev pub disjoint_classes : List ℕ → List ℕ → Body
disjoint_classes one other = body.Disjoint (class_named one) (class_named other)

-- what clauses say
pub data Statement : Type 0 where
  -- is_a, relationship, equivalent_to and disjoint_from of a Term
  below_class restricted same_class disjoint_class : Statement
  -- is_a, equivalent_to, disjoint_from and inverse_of of a relation
  below_role same_role disjoint_role inverse_role : Statement
  has_character : Character → Statement
  has_domain has_range : Statement
  -- transitive_over and holds_over_chain
  over chain : Statement
  -- instance_of and relationship of an Instance
  member related : Statement

-- what a value says of the entity with this IRI, without qualifiers that have a meaning of their own
unfoldable pub stated_plainly : Reading → List ℕ → Statement → Value → Option Body
stated_plainly reading x below_class (value.Id id) = Some (body.Sub (class_named x) (class_read reading id))
stated_plainly reading x restricted (value.Pair role id) = Some (body.Sub (class_named x) (restriction reading role id))
stated_plainly reading x same_class (value.Id id) = Some (pair_of same_classes x (reading.iri id))
stated_plainly reading x disjoint_class (value.Id id) = Some (pair_of disjoint_classes x (reading.iri id))
stated_plainly reading x below_role (value.Id id) = Some (body.SubRole x (reading.role_iri id))
stated_plainly reading x same_role (value.Id id) = Some (pair_of body.EquivRoles x (reading.role_iri id))
stated_plainly reading x disjoint_role (value.Id id) = Some (pair_of body.DisjointRoles x (reading.role_iri id))
stated_plainly reading x inverse_role (value.Id id) = Some (pair_of body.Inverse x (reading.role_iri id))
stated_plainly reading x (has_character character) (value.Bool true) = Some (character_body character x)
stated_plainly reading x has_domain (value.Id id) = Some (body.Domain x (class_read reading id))
stated_plainly reading x has_range (value.Id id) = Some (body.Range x (class_read reading id))
stated_plainly reading x over (value.Id id) = Some (body.Chain x (reading.role_iri id) x)
stated_plainly reading x chain (value.Pair first second) = Some (body.Chain (reading.role_iri first) (reading.role_iri second) x)
stated_plainly reading x member (value.Id id) = Some (body.ClassAssertion (class_read reading id) x)
stated_plainly reading x related (value.Pair role id) = Some (body.RoleAssertion (reading.role_iri role) x (reading.iri id))
stated_plainly reading x _ _ = None

-- what a value says together with such qualifiers: with any of them, nothing yet
unfoldable pub stated : Reading → List ℕ → Statement → List Qualifier → Value → Option Body
stated reading x statement [] one = stated_plainly reading x statement one
stated reading x statement (extra ∷ extras) one = None

-- the other one of a pair
abbrev pub other_of : List ℕ → List ℕ → List ℕ → Option (List ℕ)
other_of x one two = if bytes_eq x one then Some two else (if bytes_eq x two then Some one else None)

-- the other class of two
abbrev pub other_class : List ℕ → ClassExpr → ClassExpr → Option (List ℕ)
other_class x c d = option_and_then (λ one. option_and_then (λ two. other_of x one two) (class_iri d)) (class_iri c)

-- the value by which the entity with this IRI states what an axiom says, without qualifiers that have a meaning of their own
unfoldable pub value_plainly : Writing → List ℕ → Statement → Body → Option Value
value_plainly writing x below_class (body.Sub c d) = where_true (is_class x c) (as_id (class_id writing d))
value_plainly writing x restricted (body.Sub c d) = where_true (is_class x c) (restriction_words writing d)
value_plainly writing x same_class (body.Equiv c d) =
    option_and_then (λ one. as_id (writing.id one)) (other_class x c d)
value_plainly writing x disjoint_class (body.Disjoint c d) =
    option_and_then (λ one. as_id (writing.id one)) (other_class x c d)
value_plainly writing x below_role (body.SubRole r s) = where_true (bytes_eq x r) (as_id (writing.role_id s))
value_plainly writing x same_role (body.EquivRoles r s) = option_and_then (λ one. as_id (writing.role_id one)) (other_of x r s)
value_plainly writing x disjoint_role (body.DisjointRoles r s) = option_and_then (λ one. as_id (writing.role_id one)) (other_of x r s)
value_plainly writing x inverse_role (body.Inverse r s) = option_and_then (λ one. as_id (writing.role_id one)) (other_of x r s)
value_plainly writing x (has_character transitive) (body.Transitive r) = where_true (bytes_eq x r) (Some (value.Bool true))
value_plainly writing x (has_character reflexive) (body.Reflexive r) = where_true (bytes_eq x r) (Some (value.Bool true))
value_plainly writing x (has_character symmetric) (body.Symmetric r) = where_true (bytes_eq x r) (Some (value.Bool true))
value_plainly writing x (has_character asymmetric) (body.Asymmetric r) = where_true (bytes_eq x r) (Some (value.Bool true))
value_plainly writing x (has_character functional) (body.Functional r) = where_true (bytes_eq x r) (Some (value.Bool true))
value_plainly writing x (has_character inverse_functional) (body.InverseFunctional r) = where_true (bytes_eq x r) (Some (value.Bool true))
value_plainly writing x has_domain (body.Domain r c) = where_true (bytes_eq x r) (as_id (class_id writing c))
value_plainly writing x has_range (body.Range r c) = where_true (bytes_eq x r) (as_id (class_id writing c))
value_plainly writing x over (body.Chain r s t) = where_true (bytes_eq x r && bytes_eq x t) (as_id (writing.role_id s))
value_plainly writing x chain (body.Chain r s t) =
    where_true (bytes_eq x t) (option_and_then (λ one. option_map (λ two. value.Pair one two) (writing.role_id s)) (writing.role_id r))
value_plainly writing x member (body.ClassAssertion c i) = where_true (bytes_eq x i) (as_id (class_id writing c))
value_plainly writing x related (body.RoleAssertion r i j) =
    where_true (bytes_eq x i) (option_and_then (λ role. option_map (λ id. value.Pair role id) (writing.id j)) (writing.role_id r))
value_plainly writing x _ _ = None

-- the value by which the entity states what an axiom says, with such qualifiers: none yet
unfoldable pub value_stating : Writing → List ℕ → Statement → Body → Option Worded
value_stating writing x statement one = option_map worded_plainly (value_plainly writing x statement one)
