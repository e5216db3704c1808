-- What the folds over class expressions say of each variant: its text, and when it is proper.
use Rattle.std.proofs.Common.{◌≡◌, ℕ, Bool, true, ◌&&◌, List, [], ◌∷◌, codes, map}
use Rattle.std.specs.Fmt.{decimal}
use Rattle.rel_io.specs.Texts.{is_clean_iri}
use Rattle.owl_axioms.specs.Proper.{are_proper_operands, is_class_iri, is_count, is_proper_expr, proper_step}
use Rattle.owl_axioms.specs.Text.{expr_text, iri_text, phrase, text_step}
use Rattle.owl_axioms.specs.Vocabulary.{owl_nothing, owl_thing}
use Rattle.owl_axioms.specs.declared.expr.ClassExpr.{ClassExpr}
use Rattle.owl_axioms.specs.declared.expr.ClassExpr.TheFolds.{fold-roll-ClassExpr, para-roll-ClassExpr}
use Rattle.owl_axioms.specs.declared.expr.ClassExpr.TheOpen.{ClassExpr-F}
use Rattle.owl_axioms.specs.declared.expr.ClassExpr.TheVariants as expr
use Rattle.owl_axioms.specs.declared.expr.ClassExpr.TheViews.{roll-ClassExpr}

pub text_of_thing : expr_text expr.Thing ≡ iri_text owl_thing
unfolding expr_text text_step roll-ClassExpr denote.Hole.Carrier.roll
text_of_thing = fold-roll-ClassExpr (List ℕ) text_step ClassExpr-F.Thing

pub text_of_nothing : expr_text expr.Nothing ≡ iri_text owl_nothing
unfolding expr_text text_step roll-ClassExpr denote.Hole.Carrier.roll
text_of_nothing = fold-roll-ClassExpr (List ℕ) text_step ClassExpr-F.Nothing

pub text_of_class : (iri : List ℕ) → expr_text (expr.Class iri) ≡ iri_text iri
unfolding expr_text text_step roll-ClassExpr denote.Hole.Carrier.roll
text_of_class iri = fold-roll-ClassExpr (List ℕ) text_step (ClassExpr-F.Class iri)

pub text_of_and : (es : List ClassExpr) → expr_text (expr.And es) ≡ phrase (codes "ObjectIntersectionOf") (map expr_text es)
unfolding expr_text text_step roll-ClassExpr denote.Hole.Carrier.roll
text_of_and es = fold-roll-ClassExpr (List ℕ) text_step (ClassExpr-F.And es)

pub text_of_or : (es : List ClassExpr) → expr_text (expr.Or es) ≡ phrase (codes "ObjectUnionOf") (map expr_text es)
unfolding expr_text text_step roll-ClassExpr denote.Hole.Carrier.roll
text_of_or es = fold-roll-ClassExpr (List ℕ) text_step (ClassExpr-F.Or es)

pub text_of_not : (e : ClassExpr) → expr_text (expr.Not e) ≡ phrase (codes "ObjectComplementOf") (expr_text e ∷ [])
unfolding expr_text text_step roll-ClassExpr denote.Hole.Carrier.roll
text_of_not e = fold-roll-ClassExpr (List ℕ) text_step (ClassExpr-F.Not e)

pub text_of_some : (role : List ℕ) (e : ClassExpr) → expr_text (expr.Some role e) ≡ phrase (codes "ObjectSomeValuesFrom") (iri_text role ∷ expr_text e ∷ [])
unfolding expr_text text_step roll-ClassExpr denote.Hole.Carrier.roll
text_of_some role e = fold-roll-ClassExpr (List ℕ) text_step (ClassExpr-F.Some role e)

pub text_of_all : (role : List ℕ) (e : ClassExpr) → expr_text (expr.All role e) ≡ phrase (codes "ObjectAllValuesFrom") (iri_text role ∷ expr_text e ∷ [])
unfolding expr_text text_step roll-ClassExpr denote.Hole.Carrier.roll
text_of_all role e = fold-roll-ClassExpr (List ℕ) text_step (ClassExpr-F.All role e)

pub text_of_min : (n : ℕ) (role : List ℕ) (e : ClassExpr) → expr_text (expr.Min n role e) ≡ phrase (codes "ObjectMinCardinality") (decimal n ∷ iri_text role ∷ expr_text e ∷ [])
unfolding expr_text text_step roll-ClassExpr denote.Hole.Carrier.roll
text_of_min n role e = fold-roll-ClassExpr (List ℕ) text_step (ClassExpr-F.Min n role e)

pub text_of_max : (n : ℕ) (role : List ℕ) (e : ClassExpr) → expr_text (expr.Max n role e) ≡ phrase (codes "ObjectMaxCardinality") (decimal n ∷ iri_text role ∷ expr_text e ∷ [])
unfolding expr_text text_step roll-ClassExpr denote.Hole.Carrier.roll
text_of_max n role e = fold-roll-ClassExpr (List ℕ) text_step (ClassExpr-F.Max n role e)

pub text_of_exact : (n : ℕ) (role : List ℕ) (e : ClassExpr) → expr_text (expr.Exact n role e) ≡ phrase (codes "ObjectExactCardinality") (decimal n ∷ iri_text role ∷ expr_text e ∷ [])
unfolding expr_text text_step roll-ClassExpr denote.Hole.Carrier.roll
text_of_exact n role e = fold-roll-ClassExpr (List ℕ) text_step (ClassExpr-F.Exact n role e)

-- an expression beside its test
abbrev pub tested : ClassExpr → ClassExpr × Bool
tested e = (e, is_proper_expr e)

pub proper_of_thing : is_proper_expr expr.Thing ≡ true
unfolding is_proper_expr proper_step roll-ClassExpr denote.Hole.Carrier.roll
proper_of_thing = para-roll-ClassExpr Bool proper_step ClassExpr-F.Thing

pub proper_of_nothing : is_proper_expr expr.Nothing ≡ true
unfolding is_proper_expr proper_step roll-ClassExpr denote.Hole.Carrier.roll
proper_of_nothing = para-roll-ClassExpr Bool proper_step ClassExpr-F.Nothing

pub proper_of_class : (iri : List ℕ) → is_proper_expr (expr.Class iri) ≡ is_class_iri iri
unfolding is_proper_expr proper_step roll-ClassExpr denote.Hole.Carrier.roll
proper_of_class iri = para-roll-ClassExpr Bool proper_step (ClassExpr-F.Class iri)

pub proper_of_and : (es : List ClassExpr) → is_proper_expr (expr.And es) ≡ are_proper_operands (map tested es)
unfolding is_proper_expr proper_step roll-ClassExpr denote.Hole.Carrier.roll
proper_of_and es = para-roll-ClassExpr Bool proper_step (ClassExpr-F.And es)

pub proper_of_or : (es : List ClassExpr) → is_proper_expr (expr.Or es) ≡ are_proper_operands (map tested es)
unfolding is_proper_expr proper_step roll-ClassExpr denote.Hole.Carrier.roll
proper_of_or es = para-roll-ClassExpr Bool proper_step (ClassExpr-F.Or es)

pub proper_of_not : (e : ClassExpr) → is_proper_expr (expr.Not e) ≡ is_proper_expr e
unfolding is_proper_expr proper_step roll-ClassExpr denote.Hole.Carrier.roll
proper_of_not e = para-roll-ClassExpr Bool proper_step (ClassExpr-F.Not e)

pub proper_of_some : (role : List ℕ) (e : ClassExpr) → is_proper_expr (expr.Some role e) ≡ (is_clean_iri role && is_proper_expr e)
unfolding is_proper_expr proper_step roll-ClassExpr denote.Hole.Carrier.roll
proper_of_some role e = para-roll-ClassExpr Bool proper_step (ClassExpr-F.Some role e)

pub proper_of_all : (role : List ℕ) (e : ClassExpr) → is_proper_expr (expr.All role e) ≡ (is_clean_iri role && is_proper_expr e)
unfolding is_proper_expr proper_step roll-ClassExpr denote.Hole.Carrier.roll
proper_of_all role e = para-roll-ClassExpr Bool proper_step (ClassExpr-F.All role e)

pub proper_of_min : (n : ℕ) (role : List ℕ) (e : ClassExpr) → is_proper_expr (expr.Min n role e) ≡ (is_count n && is_clean_iri role && is_proper_expr e)
unfolding is_proper_expr proper_step roll-ClassExpr denote.Hole.Carrier.roll
proper_of_min n role e = para-roll-ClassExpr Bool proper_step (ClassExpr-F.Min n role e)

pub proper_of_max : (n : ℕ) (role : List ℕ) (e : ClassExpr) → is_proper_expr (expr.Max n role e) ≡ (is_count n && is_clean_iri role && is_proper_expr e)
unfolding is_proper_expr proper_step roll-ClassExpr denote.Hole.Carrier.roll
proper_of_max n role e = para-roll-ClassExpr Bool proper_step (ClassExpr-F.Max n role e)

pub proper_of_exact : (n : ℕ) (role : List ℕ) (e : ClassExpr) → is_proper_expr (expr.Exact n role e) ≡ (is_count n && is_clean_iri role && is_proper_expr e)
unfolding is_proper_expr proper_step roll-ClassExpr denote.Hole.Carrier.roll
proper_of_exact n role e = para-roll-ClassExpr Bool proper_step (ClassExpr-F.Exact n role e)

-- the texts of all variants
pub ruleset layer_texts = (text_of_thing, text_of_nothing, text_of_class, text_of_and, text_of_or, text_of_not, text_of_some, text_of_all, text_of_min, text_of_max, text_of_exact)
