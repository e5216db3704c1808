-- The numbers of classes.
use Rattle.std.proofs.Common.{◌≡◌, ℕ, ◌<◌, zero, suc, List, [], ◌∷◌, Option, None, Some, length, map, slice_get, refl, sym, ap, ◌∙◌, MatchOption, OnOk, Result, Ok, Err}
use Rattle.std.specs.Option.{option_map}
use Rattle.std.proofs.lemmas.Option.{get_or_from_slice_get, slice_get-map, slice_get_within}
use Rattle.fact_rows.specs.Member.{In}
use Rattle.fact_rows.proofs.Places.{get_read, in_from_get, place_of}
use Rattle.rel_io.proofs.Options.{none_there, same_there}
use Rattle.owl_axioms.specs.Names.{name_of}
use Rattle.owl_axioms.specs.declared.body.Body.{Body}
use Rattle.owl_axioms.specs.declared.body.Body.TheVariants as body
use Rattle.owl_axioms.specs.declared.expr.ClassExpr.{ClassExpr}
use Rattle.owl_axioms.specs.declared.expr.ClassExpr.TheVariants as expr
use Rattle.owl_axioms.specs.declared.name.Kind.{Kind}
use Rattle.owl_axioms.specs.declared.name.Kind.TheVariants as kind
use Rattle.owl_axioms.specs.declared.name.Name.{Name}
use Rattle.expr_pool.specs.Pool.{tree_at, tree_of}
use Rattle.expr_pool.specs.declared.cell.Cell.{Cell}
use Rattle.expr_pool.specs.declared.cell.Cell.TheVariants as cell
use Rattle.expr_pool.specs.declared.cell.Node.{Node}
use Rattle.el_part.specs.Part.{IsNodeOf, PartState, class_at}
use Rattle.el_saturate.specs.Table.{Facts}
use Rattle.el_taxonomy.specs.inner.Numbers.{IsGround, IsNumberOf, both_of, class_in, class_name, declared_as, declared_in, exprs_of, told_in}
use Rattle.reduce_edges.specs.Edges.{edge}

pub match_more : {X P R : Type 0} {Q S : X → Type 0} (o : Option X) → (P → R) → ((x : X) → Q x → S x) → MatchOption o P Q → MatchOption o R S
match_more None f g h = f h
match_more (Some x) f g h = g x h

pub on_ok_both : {A E P Q R : Type 0} (r : Result A E) → (P → Q → R) → OnOk r P → OnOk r Q → OnOk r R
on_ok_both (Ok x) f p q = f p q
on_ok_both (Err x) f p q = tt

-- ---- expressions and nodes

pub from_map_at : {A B : Type 0} (f : A → B) (xs : List A) (k : ℕ) (y : B) → slice_get (map f xs) k ≡ Some y → (x : A) × (slice_get xs k ≡ Some x) × (f x ≡ y)
from_map_at f [] k y h = absurd (none_there h)
from_map_at f (x ∷ xs) zero y h = (x, refl, same_there h)
from_map_at f (x ∷ xs) (suc k) y h = from_map_at f xs k y h

expr_there : (trees : List ClassExpr) (part : PartState) (k : ℕ) (n : Node) → slice_get part.occurring k ≡ Some n → slice_get (exprs_of trees part) k ≡ Some (tree_at trees n)
expr_there trees part k n h = slice_get-map (tree_at trees) part.occurring k ∙ ap (option_map (tree_at trees)) h

pub node_there : (trees : List ClassExpr) (part : PartState) (k : ℕ) (c : ClassExpr) → slice_get (exprs_of trees part) k ≡ Some c → (n : Node) × (slice_get part.occurring k ≡ Some n) × (tree_at trees n ≡ c)
node_there trees part k c h = from_map_at (tree_at trees) part.occurring k c h

pub tree_there : (trees : List ClassExpr) (n : Node) (c : ClassExpr) → IsNodeOf trees n c → tree_at trees n ≡ c
tree_there trees n c h = get_or_from_slice_get trees n.place c expr.Thing h

pub there_tree : (trees : List ClassExpr) (n : Node) → n.place < length trees → IsNodeOf trees n (tree_at trees n)
there_tree trees n low = get_read trees n.place expr.Thing low

-- ---- numbers

pub number_found : (trees : List ClassExpr) (part : PartState) (table : Facts) (class : List ℕ) (n : Node) → IsGround trees part table → class_at part class ≡ Some n → (k : ℕ) × (slice_get table.numbers n.place ≡ Some k) × IsNumberOf (exprs_of trees part) class k
number_found trees part table class n ground at =
    let is = (ground.classes class n).0 at in
    let k = place_of is.0 in
    (k.at, ground.rows.number k.at n k.is, expr_there trees part k.at n k.is ∙ ap Some (tree_there trees n (expr.Class class) is.1))

pub number_none : (trees : List ClassExpr) (part : PartState) (table : Facts) (class : List ℕ) → IsGround trees part table → class_at part class ≡ None → (k : ℕ) → ¬ (IsNumberOf (exprs_of trees part) class k)
number_none trees part table class ground at k is =
    let n = node_there trees part k (expr.Class class) is in
    let inside : In n.0 part.occurring = in_from_get part.occurring k n.0 n.1 in
    let node : IsNodeOf trees n.0 (expr.Class class) = there_tree trees n.0 (ground.fits.within n.0 inside) ∙ ap Some n.2 in
    none_there (sym at ∙ (ground.classes class n.0).1 (inside, node))

-- ---- the class of a cell

class_tree : (trees : List ClassExpr) (c : Cell) → class_name (tree_of trees c) ≡ class_in c
unfolding tree_of class_name class_in
class_tree trees cell.Thing = refl
class_tree trees cell.Nothing = refl
class_tree trees (cell.Class iri) = refl
class_tree trees (cell.And nodes) = refl
class_tree trees (cell.Or nodes) = refl
class_tree trees (cell.Not part) = refl
class_tree trees (cell.Some role part) = refl
class_tree trees (cell.All role part) = refl
class_tree trees (cell.Min n role part) = refl
class_tree trees (cell.Max n role part) = refl
class_tree trees (cell.Exact n role part) = refl

tree_class : (trees : List ClassExpr) (c : Cell) (class : List ℕ) → class_in c ≡ Some class → tree_of trees c ≡ expr.Class class
unfolding tree_of class_in
tree_class trees cell.Thing class h = absurd (none_there h)
tree_class trees cell.Nothing class h = absurd (none_there h)
tree_class trees (cell.Class iri) class h = ap expr.Class (same_there h)
tree_class trees (cell.And nodes) class h = absurd (none_there h)
tree_class trees (cell.Or nodes) class h = absurd (none_there h)
tree_class trees (cell.Not part) class h = absurd (none_there h)
tree_class trees (cell.Some role part) class h = absurd (none_there h)
tree_class trees (cell.All role part) class h = absurd (none_there h)
tree_class trees (cell.Min n role part) class h = absurd (none_there h)
tree_class trees (cell.Max n role part) class h = absurd (none_there h)
tree_class trees (cell.Exact n role part) class h = absurd (none_there h)

pub named_class : (class : List ℕ) → class_name (expr.Class class) ≡ Some class
unfolding class_name
named_class class = refl

pub classes_same : (one other : List ℕ) → expr.Class one ≡ expr.Class other → one ≡ other
classes_same one other h = same_there (sym (named_class one) ∙ ap class_name h ∙ named_class other)

pub cell_number : (trees : List ClassExpr) (part : PartState) (k : ℕ) (n : Node) (c : Cell) (class : List ℕ) → slice_get part.occurring k ≡ Some n → slice_get trees n.place ≡ Some (tree_of trees c) → class_in c ≡ Some class → IsNumberOf (exprs_of trees part) class k
cell_number trees part k n c class at node is = expr_there trees part k n at ∙ ap Some (tree_there trees n (tree_of trees c) node ∙ tree_class trees c class is)

pub cell_none : (trees : List ClassExpr) (part : PartState) (k : ℕ) (n : Node) (c : Cell) → slice_get part.occurring k ≡ Some n → slice_get trees n.place ≡ Some (tree_of trees c) → class_in c ≡ None → (class : List ℕ) → ¬ (IsNumberOf (exprs_of trees part) class k)
cell_none trees part k n c at node is class number =
    let same : tree_of trees c ≡ expr.Class class = same_there (ap Some (sym (tree_there trees n (tree_of trees c) node)) ∙ sym (expr_there trees part k n at) ∙ number) in
    none_there (sym is ∙ sym (class_tree trees c) ∙ ap class_name same ∙ named_class class)

pub past_none : (trees : List ClassExpr) (part : PartState) (k : ℕ) → (k < length part.occurring → ⊥) → (class : List ℕ) → ¬ (IsNumberOf (exprs_of trees part) class k)
past_none trees part k past class number =
    let n = node_there trees part k (expr.Class class) number in
    past (slice_get_within part.occurring k n.0 n.1)

-- ---- what axioms declare and say

pub declared_is : (said : Body) (class : List ℕ) → declared_in said ≡ Some class → said ≡ body.Declaration (name_of kind.Class class)
unfolding declared_in
declared_is (body.Declaration name) class h = ap body.Declaration (by name h)
  where
    by : (name : Name) → declared_as name.kind name.iri ≡ Some class → name ≡ name_of kind.Class class
    by name h = of_kind name.kind refl h
      where
        of_kind : (k : Kind) → name.kind ≡ k → declared_as k name.iri ≡ Some class → name ≡ name_of kind.Class class
        of_kind kind.Class e h = λ i. record { kind = e i; iri = same_there h i }
        of_kind kind.Role e h = absurd (none_there h)
        of_kind kind.Individual e h = absurd (none_there h)
        of_kind kind.AnnotationProperty e h = absurd (none_there h)
declared_is said class h = absurd (none_there h)

pub is_declared : (said : Body) (class : List ℕ) → said ≡ body.Declaration (name_of kind.Class class) → declared_in said ≡ Some class
unfolding declared_in
is_declared said class h = ap declared_in h

pub name_is : (c : ClassExpr) (class : List ℕ) → class_name c ≡ Some class → c ≡ expr.Class class
unfolding class_name
name_is (expr.Class iri) class h = ap expr.Class (same_there h)
name_is c class h = absurd (none_there h)

both_are : (sub super : List ℕ) (one other : Option (List ℕ)) → (let p : List ℕ × List ℕ = (sub, super) in both_of one other ≡ Some p) → (one ≡ Some sub) × (other ≡ Some super)
both_are sub super (Some a) (Some b) h = (ap (λ (p : List ℕ × List ℕ). Some p.0) (same_there h), ap (λ (p : List ℕ × List ℕ). Some p.1) (same_there h))
both_are sub super None other h = absurd (none_there h)
both_are sub super (Some a) None h = absurd (none_there h)

pub told_is : (said : Body) (sub super : List ℕ) → (let p : List ℕ × List ℕ = (sub, super) in told_in said ≡ Some p) → said ≡ edge sub super
unfolding told_in
told_is (body.Sub c d) sub super h = let p = both_are sub super (class_name c) (class_name d) h in λ i. body.Sub (name_is c sub p.0 i) (name_is d super p.1 i)
told_is said sub super h = absurd (none_there h)

pub is_told : (said : Body) (sub super : List ℕ) → said ≡ edge sub super → (let p : List ℕ × List ℕ = (sub, super) in told_in said ≡ Some p)
unfolding told_in class_name
is_told said sub super h = ap told_in h
