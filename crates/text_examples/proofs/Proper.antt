-- What is made of proper parts is proper: expressions, annotations, and what axioms say.
use Rattle.std.proofs.Common.{◌≡◌, ◌≤◌, true, ◌&&◌, List, [], ◌∷◌, ◌++◌, ℕ, Option, IsTrue, ◌∙◌, refl}
use Rattle.std.specs.List.{list_all}
use Rattle.std.proofs.lemmas.Bool.{and_from}
use Rattle.std.proofs.lemmas.List.Folds.{list_all-append}
use Rattle.rel_io.specs.Texts.{is_clean_iri}
use Rattle.owl_axioms.proofs.Layers.{proper_of_all, proper_of_exact, proper_of_max, proper_of_min, proper_of_not, proper_of_some}
use Rattle.owl_axioms.proofs.ProperAxioms.{is_clean_iri-letter}
use Rattle.owl_axioms.specs.Made.{AreProperExprs, IsProperExpr, is_proper_unordered}
use Rattle.owl_axioms.specs.Proper.{is_count, is_proper_body, is_proper_expr, is_proper_name, is_proper_side, is_proper_value}
use Rattle.owl_axioms.specs.declared.annotation.NoteValue.{NoteValue}
use Rattle.owl_axioms.specs.declared.annotation.NoteValue.TheVariants as note
use Rattle.owl_axioms.specs.declared.annotation.Side.{Side}
use Rattle.owl_axioms.specs.declared.body.Body.TheVariants as body
use Rattle.owl_axioms.specs.declared.expr.ClassExpr.{ClassExpr}
use Rattle.owl_axioms.specs.declared.expr.ClassExpr.TheVariants as expr
use Rattle.owl_axioms.specs.declared.name.Name.{Name}

pub letter_clean : (letter : ℕ) → 97 ≤ letter → IsTrue (is_clean_iri (letter ∷ []))
letter_clean letter small = is_clean_iri-letter letter small

-- expressions
pub not_proper : (part : ClassExpr) → IsProperExpr part → IsProperExpr (expr.Not part)
not_proper part proper = proper_of_not part ∙ proper

pub some_proper : (role : List ℕ) (part : ClassExpr) → IsTrue (is_clean_iri role) → IsProperExpr part → IsProperExpr (expr.Some role part)
some_proper role part clean proper = proper_of_some role part ∙ and_from (is_clean_iri role) (is_proper_expr part) clean proper

pub all_proper : (role : List ℕ) (part : ClassExpr) → IsTrue (is_clean_iri role) → IsProperExpr part → IsProperExpr (expr.All role part)
all_proper role part clean proper = proper_of_all role part ∙ and_from (is_clean_iri role) (is_proper_expr part) clean proper

counted : (n : ℕ) (role : List ℕ) (part : ClassExpr) → is_count n ≡ true → IsTrue (is_clean_iri role) → IsProperExpr part → IsTrue (is_count n && is_clean_iri role && is_proper_expr part)
counted n role part counts clean proper = and_from (is_count n && is_clean_iri role) (is_proper_expr part) (and_from (is_count n) (is_clean_iri role) counts clean) proper

two : is_count 2 ≡ true
unfolding is_count
two = refl

thirty : is_count 30 ≡ true
unfolding is_count
thirty = refl

most : is_count 4294967295 ≡ true
unfolding is_count
most = refl

pub min_proper : (role : List ℕ) (part : ClassExpr) → IsTrue (is_clean_iri role) → IsProperExpr part → IsProperExpr (expr.Min 2 role part)
min_proper role part clean proper = proper_of_min 2 role part ∙ counted 2 role part two clean proper

pub max_proper : (role : List ℕ) (part : ClassExpr) → IsTrue (is_clean_iri role) → IsProperExpr part → IsProperExpr (expr.Max 30 role part)
max_proper role part clean proper = proper_of_max 30 role part ∙ counted 30 role part thirty clean proper

pub exact_proper : (role : List ℕ) (part : ClassExpr) → IsTrue (is_clean_iri role) → IsProperExpr part → IsProperExpr (expr.Exact 4294967295 role part)
exact_proper role part clean proper = proper_of_exact 4294967295 role part ∙ counted 4294967295 role part most clean proper

pub ruleset proper_restrictions = (some_proper, all_proper, min_proper, max_proper, exact_proper)

pub one_more : (exprs : List ClassExpr) (one : ClassExpr) → AreProperExprs exprs → IsProperExpr one → AreProperExprs (exprs ++ one ∷ [])
one_more exprs one all proper =
    list_all-append is_proper_expr exprs (one ∷ []) ∙ and_from (list_all is_proper_expr exprs) (is_proper_expr one && true) all (and_from (is_proper_expr one) true proper (let h : true ≡ true = λ i. true in h))

-- annotations
pub text_proper : (text : List ℕ) → IsTrue (is_proper_value (note.Text text))
unfolding is_proper_value
text_proper text = let h : true ≡ true = λ i. true in h

pub typed_proper : (text datatype : List ℕ) → IsTrue (is_clean_iri datatype) → IsTrue (is_proper_value (note.Typed text datatype))
unfolding is_proper_value
typed_proper text datatype clean = clean

pub link_proper : (iri : List ℕ) → IsTrue (is_clean_iri iri) → IsTrue (is_proper_value (note.Link iri))
unfolding is_proper_value
link_proper iri clean = clean

pub side_proper : (property : List ℕ) (value : NoteValue) (label : Option (List ℕ)) → IsTrue (is_clean_iri property) → IsTrue (is_proper_value value) → IsTrue (is_proper_side (record { property = property; value = value; label = label }))
unfolding is_proper_side
side_proper property value label clean proper = and_from (is_clean_iri property) (is_proper_value value) clean proper

pub one_side_more : (sides : List Side) (one : Side) → IsTrue (list_all is_proper_side sides) → IsTrue (is_proper_side one) → IsTrue (list_all is_proper_side (sides ++ one ∷ []))
one_side_more sides one all proper =
    list_all-append is_proper_side sides (one ∷ []) ∙ and_from (list_all is_proper_side sides) (is_proper_side one && true) all (and_from (is_proper_side one) true proper (let h : true ≡ true = λ i. true in h))

-- what axioms say
pub sub_proper : (one other : ClassExpr) → IsProperExpr one → IsProperExpr other → IsTrue (is_proper_unordered (body.Sub one other))
unfolding is_proper_body is_proper_unordered
sub_proper one other first second = and_from (is_proper_expr one) (is_proper_expr other) first second

pub equiv_proper : (one other : ClassExpr) → IsProperExpr one → IsProperExpr other → IsTrue (is_proper_unordered (body.Equiv one other))
unfolding is_proper_body is_proper_unordered
equiv_proper one other first second = and_from (is_proper_expr one) (is_proper_expr other) first second

pub disjoint_proper : (one other : ClassExpr) → IsProperExpr one → IsProperExpr other → IsTrue (is_proper_unordered (body.Disjoint one other))
unfolding is_proper_body is_proper_unordered
disjoint_proper one other first second = and_from (is_proper_expr one) (is_proper_expr other) first second

pub ruleset proper_of_exprs = (sub_proper, equiv_proper, disjoint_proper)

pub domain_proper : (iri : List ℕ) (class : ClassExpr) → IsTrue (is_clean_iri iri) → IsProperExpr class → IsTrue (is_proper_unordered (body.Domain iri class))
unfolding is_proper_body is_proper_unordered
domain_proper iri class clean proper = and_from (is_clean_iri iri) (is_proper_expr class) clean proper

pub range_proper : (iri : List ℕ) (class : ClassExpr) → IsTrue (is_clean_iri iri) → IsProperExpr class → IsTrue (is_proper_unordered (body.Range iri class))
unfolding is_proper_body is_proper_unordered
range_proper iri class clean proper = and_from (is_clean_iri iri) (is_proper_expr class) clean proper

pub member_proper : (iri : List ℕ) (class : ClassExpr) → IsTrue (is_clean_iri iri) → IsProperExpr class → IsTrue (is_proper_unordered (body.ClassAssertion class iri))
unfolding is_proper_body is_proper_unordered
member_proper iri class clean proper = and_from (is_proper_expr class) (is_clean_iri iri) proper clean

pub ruleset proper_of_expr = (domain_proper, range_proper, member_proper)

pub chain_proper : (first second third : List ℕ) → IsTrue (is_clean_iri first) → IsTrue (is_clean_iri second) → IsTrue (is_clean_iri third) → IsTrue (is_proper_unordered (body.Chain first second third))
unfolding is_proper_body is_proper_unordered
chain_proper first second third a b c = and_from (is_clean_iri first && is_clean_iri second) (is_clean_iri third) (and_from (is_clean_iri first) (is_clean_iri second) a b) c

pub related_proper : (first second third : List ℕ) → IsTrue (is_clean_iri first) → IsTrue (is_clean_iri second) → IsTrue (is_clean_iri third) → IsTrue (is_proper_unordered (body.RoleAssertion first second third))
unfolding is_proper_body is_proper_unordered
related_proper first second third a b c = and_from (is_clean_iri first && is_clean_iri second) (is_clean_iri third) (and_from (is_clean_iri first) (is_clean_iri second) a b) c

pub ruleset proper_of_three = (chain_proper, related_proper)

pub sub_role_proper : (one other : List ℕ) → IsTrue (is_clean_iri one) → IsTrue (is_clean_iri other) → IsTrue (is_proper_unordered (body.SubRole one other))
unfolding is_proper_body is_proper_unordered
sub_role_proper one other a b = and_from (is_clean_iri one) (is_clean_iri other) a b

pub equiv_roles_proper : (one other : List ℕ) → IsTrue (is_clean_iri one) → IsTrue (is_clean_iri other) → IsTrue (is_proper_unordered (body.EquivRoles one other))
unfolding is_proper_body is_proper_unordered
equiv_roles_proper one other a b = and_from (is_clean_iri one) (is_clean_iri other) a b

pub disjoint_roles_proper : (one other : List ℕ) → IsTrue (is_clean_iri one) → IsTrue (is_clean_iri other) → IsTrue (is_proper_unordered (body.DisjointRoles one other))
unfolding is_proper_body is_proper_unordered
disjoint_roles_proper one other a b = and_from (is_clean_iri one) (is_clean_iri other) a b

pub inverse_proper : (one other : List ℕ) → IsTrue (is_clean_iri one) → IsTrue (is_clean_iri other) → IsTrue (is_proper_unordered (body.Inverse one other))
unfolding is_proper_body is_proper_unordered
inverse_proper one other a b = and_from (is_clean_iri one) (is_clean_iri other) a b

pub ruleset proper_of_roles = (sub_role_proper, equiv_roles_proper, disjoint_roles_proper, inverse_proper)

pub transitive_proper : (role : List ℕ) → IsTrue (is_clean_iri role) → IsTrue (is_proper_unordered (body.Transitive role))
unfolding is_proper_body is_proper_unordered
transitive_proper role clean = clean

pub reflexive_proper : (role : List ℕ) → IsTrue (is_clean_iri role) → IsTrue (is_proper_unordered (body.Reflexive role))
unfolding is_proper_body is_proper_unordered
reflexive_proper role clean = clean

pub symmetric_proper : (role : List ℕ) → IsTrue (is_clean_iri role) → IsTrue (is_proper_unordered (body.Symmetric role))
unfolding is_proper_body is_proper_unordered
symmetric_proper role clean = clean

pub asymmetric_proper : (role : List ℕ) → IsTrue (is_clean_iri role) → IsTrue (is_proper_unordered (body.Asymmetric role))
unfolding is_proper_body is_proper_unordered
asymmetric_proper role clean = clean

pub functional_proper : (role : List ℕ) → IsTrue (is_clean_iri role) → IsTrue (is_proper_unordered (body.Functional role))
unfolding is_proper_body is_proper_unordered
functional_proper role clean = clean

pub inverse_functional_proper : (role : List ℕ) → IsTrue (is_clean_iri role) → IsTrue (is_proper_unordered (body.InverseFunctional role))
unfolding is_proper_body is_proper_unordered
inverse_functional_proper role clean = clean

pub ruleset proper_of_role = (transitive_proper, reflexive_proper, symmetric_proper, asymmetric_proper, functional_proper, inverse_functional_proper)

pub declared_proper : (name : Name) → IsTrue (is_clean_iri name.iri) → IsTrue (is_proper_unordered (body.Declaration name))
unfolding is_proper_body is_proper_unordered is_proper_name
declared_proper name clean = clean

pub noted_proper : (name : Name) (property : List ℕ) (value : NoteValue) → IsTrue (is_clean_iri name.iri) → IsTrue (is_clean_iri property) → IsTrue (is_proper_value value) → IsTrue (is_proper_unordered (body.Note name property value))
unfolding is_proper_body is_proper_unordered is_proper_name
noted_proper name property value clean one proper = and_from (is_clean_iri name.iri && is_clean_iri property) (is_proper_value value) (and_from (is_clean_iri name.iri) (is_clean_iri property) clean one) proper

pub of_ontology_proper : (property : List ℕ) (value : NoteValue) → IsTrue (is_clean_iri property) → IsTrue (is_proper_value value) → IsTrue (is_proper_unordered (body.OntologyNote property value))
unfolding is_proper_body is_proper_unordered
of_ontology_proper property value clean proper = and_from (is_clean_iri property) (is_proper_value value) clean proper
