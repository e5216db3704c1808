-- What is made of proper parts is proper: restrictions, lists, annotations, and what axioms say and declare.
use Rattle.std.proofs.Common.{◌≡◌, true, ◌&&◌, List, [], ◌∷◌, ◌++◌, ℕ, IsTrue, None, ap, ◌∙◌}
use Rattle.std.specs.List.{list_all}
use Rattle.std.proofs.lemmas.Bool.{and_from}
use Rattle.std.proofs.lemmas.List.Folds.{list_all-append}
use Rattle.rel_io.specs.Texts.{is_clean_iri}
use Rattle.owl_axioms.proofs.Layers.{proper_of_some}
use Rattle.owl_axioms.specs.Made.{AreProperExprs, IsProperExpr, is_proper_unordered}
use Rattle.owl_axioms.specs.Proper.{is_proper_body, is_proper_expr, is_proper_name, is_proper_side, is_proper_value}
use Rattle.owl_axioms.specs.Vocabulary.{owl_thing}
use Rattle.owl_axioms.specs.declared.annotation.NoteValue.TheVariants as note
use Rattle.owl_axioms.specs.declared.annotation.Side.{Side}
use Rattle.owl_axioms.specs.declared.body.Body.TheVariants as body
use Rattle.owl_axioms.specs.declared.expr.ClassExpr.{ClassExpr}
use Rattle.owl_axioms.specs.declared.expr.ClassExpr.TheVariants as expr
use Rattle.owl_axioms.specs.declared.name.Name.{Name}

pub some_proper : (role : List ℕ) (part : ClassExpr) → IsTrue (is_clean_iri role) → IsProperExpr part → IsProperExpr (expr.Some role part)
some_proper role part clean proper = proper_of_some role part ∙ and_from (is_clean_iri role) (is_proper_expr part) clean proper

pub one_more : (exprs : List ClassExpr) (one : ClassExpr) → AreProperExprs exprs → IsProperExpr one → AreProperExprs (exprs ++ one ∷ [])
one_more exprs one all proper =
    list_all-append is_proper_expr exprs (one ∷ []) ∙ and_from (list_all is_proper_expr exprs) (is_proper_expr one && true) all (and_from (is_proper_expr one) true proper (let h : true ≡ true = λ i. true in h))

pub text_proper : (property text : List ℕ) → IsTrue (is_clean_iri property) → IsTrue (is_proper_side (record { property = property; value = note.Text text; label = None }))
unfolding is_proper_side is_proper_value
text_proper property text clean = and_from (is_clean_iri property) true clean (let h : true ≡ true = λ i. true in h)

pub one_side : (side : Side) → IsTrue (is_proper_side side) → list_all is_proper_side (side ∷ []) ≡ true
one_side side proper = and_from (is_proper_side side) true proper (let h : true ≡ true = λ i. true in h)

pub sub_proper : (sub super : ClassExpr) → IsProperExpr sub → IsProperExpr super → IsTrue (is_proper_unordered (body.Sub sub super))
unfolding is_proper_body is_proper_unordered
sub_proper sub super one other = and_from (is_proper_expr sub) (is_proper_expr super) one other

pub equiv_proper : (sub super : ClassExpr) → IsProperExpr sub → IsProperExpr super → IsTrue (is_proper_unordered (body.Equiv sub super))
unfolding is_proper_unordered
equiv_proper sub super one other = and_from (is_proper_expr sub) (is_proper_expr super) one other

pub declared_proper : (name : Name) → IsTrue (is_clean_iri name.iri) → IsTrue (is_proper_unordered (body.Declaration name))
unfolding is_proper_body is_proper_unordered is_proper_name
declared_proper name clean = clean

pub noted_proper : (name : Name) (property text : List ℕ) → IsTrue (is_clean_iri name.iri) → IsTrue (is_clean_iri property) → IsTrue (is_proper_unordered (body.Note name property (note.Text text)))
unfolding is_proper_body is_proper_unordered is_proper_name is_proper_value
noted_proper name property text clean one = and_from (is_clean_iri name.iri && is_clean_iri property) true (and_from (is_clean_iri name.iri) (is_clean_iri property) clean one) (let h : true ≡ true = λ i. true in h)

pub of_ontology_proper : (property text : List ℕ) → IsTrue (is_clean_iri property) → IsTrue (is_proper_unordered (body.OntologyNote property (note.Text text)))
unfolding is_proper_body is_proper_unordered is_proper_value
of_ontology_proper property text clean = and_from (is_clean_iri property) true clean (let h : true ≡ true = λ i. true in h)

pub clean_thing : (iri : List ℕ) → iri ≡ owl_thing → IsTrue (is_clean_iri iri)
unfolding is_clean_iri owl_thing
clean_thing iri is = ap is_clean_iri is
