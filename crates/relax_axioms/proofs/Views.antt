-- The layer that stands at the top of an expression, for each variant.
use Rattle.std.proofs.Common.{◌≡◌, ℕ, List}
use Rattle.owl_axioms.specs.declared.expr.ClassExpr.{ClassExpr}
use Rattle.owl_axioms.specs.declared.expr.ClassExpr.TheOpen.{ClassExpr-F}
use Rattle.owl_axioms.specs.declared.expr.ClassExpr.TheVariants as expr
use Rattle.owl_axioms.specs.declared.expr.ClassExpr.TheViews.{out-ClassExpr, out-roll-ClassExpr, roll-ClassExpr}

pub out_thing : out-ClassExpr expr.Thing ≡ ClassExpr-F.Thing
unfolding roll-ClassExpr denote.Hole.Carrier.roll
out_thing = out-roll-ClassExpr ClassExpr-F.Thing

pub out_nothing : out-ClassExpr expr.Nothing ≡ ClassExpr-F.Nothing
unfolding roll-ClassExpr denote.Hole.Carrier.roll
out_nothing = out-roll-ClassExpr ClassExpr-F.Nothing

pub out_class : (iri : List ℕ) → out-ClassExpr (expr.Class iri) ≡ ClassExpr-F.Class iri
unfolding roll-ClassExpr denote.Hole.Carrier.roll
out_class iri = out-roll-ClassExpr (ClassExpr-F.Class iri)

pub out_and : (es : List ClassExpr) → out-ClassExpr (expr.And es) ≡ ClassExpr-F.And es
unfolding roll-ClassExpr denote.Hole.Carrier.roll
out_and es = out-roll-ClassExpr (ClassExpr-F.And es)

pub out_or : (es : List ClassExpr) → out-ClassExpr (expr.Or es) ≡ ClassExpr-F.Or es
unfolding roll-ClassExpr denote.Hole.Carrier.roll
out_or es = out-roll-ClassExpr (ClassExpr-F.Or es)

pub out_not : (e : ClassExpr) → out-ClassExpr (expr.Not e) ≡ ClassExpr-F.Not e
unfolding roll-ClassExpr denote.Hole.Carrier.roll
out_not e = out-roll-ClassExpr (ClassExpr-F.Not e)

pub out_some : (r : List ℕ) (e : ClassExpr) → out-ClassExpr (expr.Some r e) ≡ ClassExpr-F.Some r e
unfolding roll-ClassExpr denote.Hole.Carrier.roll
out_some r e = out-roll-ClassExpr (ClassExpr-F.Some r e)

pub out_all : (r : List ℕ) (e : ClassExpr) → out-ClassExpr (expr.All r e) ≡ ClassExpr-F.All r e
unfolding roll-ClassExpr denote.Hole.Carrier.roll
out_all r e = out-roll-ClassExpr (ClassExpr-F.All r e)

pub out_min : (n : ℕ) (r : List ℕ) (e : ClassExpr) → out-ClassExpr (expr.Min n r e) ≡ ClassExpr-F.Min n r e
unfolding roll-ClassExpr denote.Hole.Carrier.roll
out_min n r e = out-roll-ClassExpr (ClassExpr-F.Min n r e)

pub out_max : (n : ℕ) (r : List ℕ) (e : ClassExpr) → out-ClassExpr (expr.Max n r e) ≡ ClassExpr-F.Max n r e
unfolding roll-ClassExpr denote.Hole.Carrier.roll
out_max n r e = out-roll-ClassExpr (ClassExpr-F.Max n r e)

pub out_exact : (n : ℕ) (r : List ℕ) (e : ClassExpr) → out-ClassExpr (expr.Exact n r e) ≡ ClassExpr-F.Exact n r e
unfolding roll-ClassExpr denote.Hole.Carrier.roll
out_exact n r e = out-roll-ClassExpr (ClassExpr-F.Exact n r e)

-- all of them
pub ruleset views = (out_thing, out_nothing, out_class, out_and, out_or, out_not, out_some, out_all, out_min, out_max, out_exact)
