-- Classes that occur, and those that nothing is in.
use Rattle.std.proofs.Common.{◌≡◌, ℕ, ◌<◌, Bool, true, false, not, ◌||◌, List, Some, length, slice_get, nat_eq, sym, ap, subst, ◌∙◌, true≢false}
use Rattle.std.specs.Cmp.Lexicographic.{pointwise}
use Rattle.std.proofs.lemmas.Cmp.{nat_list_eq_equiv}
use Rattle.fact_rows.specs.Member.{In}
use Rattle.fact_rows.proofs.Members.{and_parts, from_map, in_map}
use Rattle.fact_rows.proofs.Places.{in_from_get}
use Rattle.rel_io.proofs.Options.{same_there}
use Rattle.rel_io.specs.Texts.{is_clean_iri}
use Rattle.owl_axioms.proofs.Layers.{proper_of_class}
use Rattle.owl_axioms.specs.Proper.{AreProper, is_class_iri}
use Rattle.owl_axioms.specs.Vocabulary.{owl_nothing, owl_thing}
use Rattle.owl_axioms.specs.declared.body.Axiom.{Axiom}
use Rattle.owl_axioms.specs.declared.expr.ClassExpr.{ClassExpr}
use Rattle.owl_axioms.specs.declared.expr.ClassExpr.TheVariants as expr
use Rattle.expr_pool.specs.Pool.{tree_at}
use Rattle.expr_pool.specs.declared.cell.Node.{Node}
use Rattle.el_part.specs.Part.{PartState, class_at, view_of}
use Rattle.el_rules.proofs.Sound.{derived_occurs}
use Rattle.el_rules.specs.Laws.{HasExprsIn}
use Rattle.el_rules.specs.Rules.{Derived, ElView, IsBelow}
use Rattle.el_saturate.specs.Table.{Facts}
use Rattle.el_taxonomy.specs.Direct.{AreFactsOf}
use Rattle.el_taxonomy.specs.Taxonomy.{IsEmpty}
use Rattle.el_taxonomy.specs.inner.Least.{IsEmptyClass}
use Rattle.el_taxonomy.proofs.Numbers.{there_tree, tree_there}
use Rattle.el_taxonomy.proofs.Proper.{occurs_proper}

-- a proper class is neither owl:Thing nor owl:Nothing
class_not_owl : (iri : List ℕ) → is_class_iri iri ≡ true → ¬ (iri ≡ owl_thing) × ¬ (iri ≡ owl_nothing)
unfolding is_class_iri
class_not_owl iri h =
    let p = (and_parts (is_clean_iri iri) (not (pointwise nat_eq iri owl_thing || pointwise nat_eq iri owl_nothing)) h).1 in (
      λ e. neither_one _ _ p (ap (pointwise nat_eq iri) (sym e) ∙ nat_list_eq_equiv.refl iri),
      λ e. neither_other _ _ p (ap (pointwise nat_eq iri) (sym e) ∙ nat_list_eq_equiv.refl iri),
    )
  where
    neither_one : (a b : Bool) → not (a || b) ≡ true → a ≡ true → ⊥
    neither_one true b n t = true≢false (sym n)
    neither_one false b n t = true≢false (sym t)

    neither_other : (a b : Bool) → not (a || b) ≡ true → b ≡ true → ⊥
    neither_other true b n t = true≢false (sym n)
    neither_other false true n t = true≢false (sym n)
    neither_other false false n t = true≢false (sym t)

module _ (axioms : List Axiom) (trees : List ClassExpr) (part : PartState) (limit : ℕ) (table : Facts) (are : AreFactsOf axioms trees part limit table) where
  abbrev view : ElView
  view = view_of trees part

  pub class_not_special : AreProper axioms → (class : List ℕ) → In (expr.Class class) view.occurring → ¬ (class ≡ owl_thing) × ¬ (class ≡ owl_nothing)
  class_not_special all class stands = class_not_owl class (sym (proper_of_class class) ∙ occurs_proper axioms all ((are.part_is.occurring_are (expr.Class class)).0 stands))

  pub node_class : (class : List ℕ) (n : Node) → class_at part class ≡ Some n → In n part.occurring × (tree_at trees n ≡ expr.Class class)
  node_class class n at = let is = (are.classes class n).0 at in (is.0, tree_there trees n (expr.Class class) is.1)

  pub class_occurs : (class : List ℕ) (n : Node) → class_at part class ≡ Some n → In (expr.Class class) view.occurring
  class_occurs class n at = let is = node_class class n at in subst (λ c. In c view.occurring) is.1 (in_map (tree_at trees) is.0)

  class_node : (class : List ℕ) → In (expr.Class class) view.occurring → (n : Node) × In n part.occurring × (class_at part class ≡ Some n) × (tree_at trees n ≡ expr.Class class)
  class_node class stands =
      let f = from_map (tree_at trees) part.occurring stands in
      (f.it, f.inside, (are.classes class f.it).1 (f.inside, there_tree trees f.it (are.fits.within f.it f.inside) ∙ ap Some (sym f.is)), sym f.is)

  nothing_node : (m : Node) → slice_get part.occurring 1 ≡ Some m → tree_at trees m ≡ expr.Nothing
  nothing_node m at =
      let s = are.fits.second in
      let e : s.0 ≡ m = same_there (sym s.1 ∙ at) in
      subst (λ x. tree_at trees x ≡ expr.Nothing) e (tree_there trees s.0 expr.Nothing s.2)

  node_low : (m : Node) (k : ℕ) → slice_get part.occurring k ≡ Some m → m.place < length trees
  node_low m k at = are.fits.within m (in_from_get part.occurring k m at)

  -- the table says what is derived
  pub empty_derived : (class : List ℕ) → IsEmptyClass part table class → IsEmpty view class
  empty_derived class empty =
      let n = empty.0 in
      let m = empty.2.0 in
      let is = node_class class n empty.1 in
      let derived = (are.table_is.below n m (are.fits.within n is.0) (node_low m 1 empty.2.1)).0 empty.2.2 in
      subst (λ c. Derived view (IsBelow c expr.Nothing)) is.1 (subst (λ d. Derived view (IsBelow (tree_at trees n) d)) (nothing_node m empty.2.1) derived)

  empty_occurs : (class : List ℕ) → IsEmpty view class → In (expr.Class class) view.occurring
  unfolding HasExprsIn
  empty_occurs class empty = (derived_occurs axioms view are.part_is (IsBelow (expr.Class class) expr.Nothing) empty).0

  pub derived_empty : (class : List ℕ) → IsEmpty view class → IsEmptyClass part table class
  derived_empty class empty =
      let n = class_node class (empty_occurs class empty) in
      let s = are.fits.second in
      let m = s.0 in
      let derived = subst (λ c. Derived view (IsBelow c (tree_at trees m))) (sym n.3) (subst (λ d. Derived view (IsBelow (expr.Class class) d)) (sym (nothing_node m s.1)) empty) in
      (n.0, n.2, (m, s.1, (are.table_is.below n.0 m (are.fits.within n.0 n.1) (node_low m 1 s.1)).1 derived))
