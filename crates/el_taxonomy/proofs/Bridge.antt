-- Direct edges between numbers are direct edges between classes.
use Rattle.std.proofs.Common.{◌≡◌, ℕ, ◌↔◌, List, Bool, Some, slice_get, sym, ap, subst, ◌∙◌}
use Rattle.fact_rows.specs.Member.{In}
use Rattle.fact_rows.specs.Rows.{row}
use Rattle.fact_rows.proofs.Places.{in_from_get, place_of}
use Rattle.rel_io.proofs.Options.{same_there}
use Rattle.owl_axioms.specs.declared.body.Axiom.{Axiom}
use Rattle.owl_axioms.specs.declared.expr.ClassExpr.{ClassExpr}
use Rattle.owl_axioms.specs.declared.expr.ClassExpr.TheVariants as expr
use Rattle.expr_pool.specs.Pool.{tree_at}
use Rattle.expr_pool.specs.declared.cell.Node.{Node}
use Rattle.direct_above.specs.Direct.{IsDirect}
use Rattle.el_part.specs.Part.{IsNodeOf, PartState, view_of}
use Rattle.el_rules.specs.Rules.{Derived, ElView, IsBelow}
use Rattle.el_saturate.specs.Table.{Facts}
use Rattle.reduce_edges.specs.Edges.{IsEdge}
use Rattle.el_taxonomy.specs.Direct.{AreFactsOf}
use Rattle.el_taxonomy.specs.Taxonomy.{AreBelow, IsDeclaredClass, IsDirectEdge}
use Rattle.el_taxonomy.specs.inner.Numbers.{AreClasses, AreDeclared, AreTold, IsGround, IsNumberOf, exprs_of}
use Rattle.el_taxonomy.proofs.Adding.{both_occur}
use Rattle.el_taxonomy.proofs.Numbers.{classes_same, node_there, there_tree}

pub ground_of : (axioms : List Axiom) (trees : List ClassExpr) (part : PartState) (limit : ℕ) (table : Facts) → AreFactsOf axioms trees part limit table → IsGround trees part table
ground_of axioms trees part limit table are = record { fits = are.fits; classes = are.classes; rows = are.rows }

-- a class has one number
pub one_number : (trees : List ClassExpr) (part : PartState) (table : Facts) → IsGround trees part table → (class : List ℕ) (i j : ℕ) → IsNumberOf (exprs_of trees part) class i → IsNumberOf (exprs_of trees part) class j → i ≡ j
one_number trees part table ground class i j one other =
    let n = node_there trees part i (expr.Class class) one in
    let m = node_there trees part j (expr.Class class) other in
    let node : (x : Node) (k : ℕ) → slice_get part.occurring k ≡ Some x → tree_at trees x ≡ expr.Class class → In x part.occurring × IsNodeOf trees x (expr.Class class) = λ x k at is. (
      in_from_get part.occurring k x at,
      there_tree trees x (ground.fits.within x (in_from_get part.occurring k x at)) ∙ ap Some is,
    ) in
    let same : n.0 ≡ m.0 = same_there (sym ((ground.classes class n.0).1 (node n.0 i n.1 n.2)) ∙ (ground.classes class m.0).1 (node m.0 j m.1 m.2)) in
    same_there (sym (ground.rows.number i n.0 n.1) ∙ ap (λ (x : Node). slice_get table.numbers x.place) same ∙ ground.rows.number j m.0 m.1)

module _ (axioms : List Axiom) (trees : List ClassExpr) (part : PartState) (limit : ℕ) (table : Facts) (are : AreFactsOf axioms trees part limit table) where
  abbrev exprs : List ClassExpr
  exprs = exprs_of trees part

  abbrev view : ElView
  view = view_of trees part

  abbrev rows : List (List ℕ)
  rows = table.table.below

  -- a row has what is derived
  pub says : (a b : List ℕ) (i j : ℕ) → IsNumberOf exprs a i → IsNumberOf exprs b j → In j (row rows i) ↔ AreBelow view a b
  says a b i j one other =
      let n = node_there trees part i (expr.Class a) one in
      let m = node_there trees part j (expr.Class b) other in
      let low = are.fits.within n.0 (in_from_get part.occurring i n.0 n.1) in
      let high = are.fits.within m.0 (in_from_get part.occurring j m.0 m.1) in
      let at_n = are.rows.number i n.0 n.1 in
      let at_m = are.rows.number j m.0 m.1 in
      let both = are.table_is.below n.0 m.0 low high in (
        λ held. subst (λ c. Derived view (IsBelow c (expr.Class b))) n.2 (subst (λ d. Derived view (IsBelow (tree_at trees n.0) d)) m.2 (both.0 (i, j, at_n, at_m, held))),
        λ below.
            let s = both.1 (subst (λ c. Derived view (IsBelow c (tree_at trees m.0))) (sym n.2) (subst (λ d. Derived view (IsBelow (expr.Class a) d)) (sym m.2) below)) in
            let x : s.0 ≡ i = same_there (sym s.2 ∙ at_n) in
            let y : s.1 ≡ j = same_there (sym s.3 ∙ at_m) in
            subst (λ k. In k (row rows i)) y (subst (λ k. In s.1 (row rows k)) x s.4),
      )

  -- what is below something or above it has a number
  number_of_class : (a : List ℕ) → In (expr.Class a) view.occurring → (i : ℕ) × IsNumberOf exprs a i
  number_of_class a stands = let p = place_of stands in (p.at, p.is)

  pub numbers_below : (a b : List ℕ) → AreBelow view a b → ((i : ℕ) × IsNumberOf exprs a i) × ((j : ℕ) × IsNumberOf exprs b j)
  numbers_below a b below = let o = both_occur axioms view are.part_is a b below in (number_of_class a o.0, number_of_class b o.1)

  module _ (told : List (List ℕ)) (classes declareds : List Bool) (are_classes : AreClasses exprs classes) (are_declared : AreDeclared exprs axioms declareds) (are_told : AreTold exprs axioms told) where
    pub direct_there : (i j : ℕ) (a b : List ℕ) → IsNumberOf exprs a i → IsNumberOf exprs b j → IsDeclaredClass axioms a → IsDirect rows told classes i j → IsDirectEdge axioms view a b
    direct_there i j a b one other is_declared direct = record {
      declared = is_declared;
      other = λ same. direct.other (one_number trees part table (ground_of axioms trees part limit table are) b j i other (subst (λ c. IsNumberOf exprs c i) same one));
      below = (says a b i j one other).0 direct.above;
      unsaid = λ said. direct.untold ((are_told.each i j).1 (a, b, one, other, said));
      none = λ x between.
          let k = (numbers_below a x between.low).1 in
          direct.none k.0 (record {
            is_class = (are_classes.each k.0).1 (x, k.1);
            low = (says a x i k.0 one k.1).1 between.low;
            high = (says x b k.0 j k.1 other).1 between.high;
            not_back = λ back. between.no_back ((says x a k.0 i k.1 one).0 back);
            not_return = λ back. between.no_return ((says b x j k.0 other k.1).0 back);
          });
    }

    pub there_direct : (i j : ℕ) (a b : List ℕ) → IsNumberOf exprs a i → IsNumberOf exprs b j → IsDirectEdge axioms view a b → IsDirect rows told classes i j
    there_direct i j a b one other direct = record {
      is_class = (are_classes.each j).1 (b, other);
      above = (says a b i j one other).1 direct.below;
      other = λ same. direct.other (one_class i j a b one other (sym same));
      untold = λ said.
          let t = (are_told.each i j).0 said in
          let first : t.0 ≡ a = class_is (same_there (sym t.2 ∙ one)) in
          let second : t.1 ≡ b = class_is (same_there (sym t.3 ∙ other)) in
          direct.unsaid (subst (λ c. IsEdge axioms c b) first (subst (λ c. IsEdge axioms t.0 c) second t.4));
      none = λ k between.
          let x = (are_classes.each k).0 between.is_class in
          direct.none x.0 (record {
            low = (says a x.0 i k one x.1).0 between.low;
            high = (says x.0 b k j x.1 other).0 between.high;
            no_back = λ back. between.not_back ((says x.0 a k i x.1 one).1 back);
            no_return = λ back. between.not_return ((says b x.0 j k other x.1).1 back);
          });
    }
      where
        class_is : {c d : List ℕ} → expr.Class c ≡ expr.Class d → c ≡ d
        class_is {c} {d} h = classes_same c d h

        one_class : (i j : ℕ) (a b : List ℕ) → IsNumberOf exprs a i → IsNumberOf exprs b j → i ≡ j → a ≡ b
        one_class i j a b one other same = class_is (same_there (sym one ∙ ap (slice_get exprs) same ∙ other))
