-- The plain edges are the direct edges that are not stated, and there is no other list of them.
use Rattle.std.proofs.Common.{◌≡◌, ℕ, Bool, true, false, not, ◌&&◌, ◌||◌, List, Contains, filter, map, refl, sym, ap, subst, ◌∙◌, true≢false}
use Rattle.std.specs.List.{list_any}
use Rattle.std.specs.Str.{bytes_eq}
use Rattle.fact_rows.specs.Member.{In}
use Rattle.fact_rows.proofs.Members.{and_parts, contains_from_in, from_filter, from_flat_map, from_map, in_filter, in_flat_map, in_from_contains, in_map}
use Rattle.text_sets.proofs.KeyLemmas.{RisesOn-sorted_on, same_risingOn, sorted_on-each, sorted_on-only}
use Rattle.text_sets.proofs.SetLemmas.{In-from_contains, contains-from_In}
use Rattle.text_sets.specs.Sorted.{sorted_on}
use Rattle.owl_axioms.specs.declared.body.Axiom.{Axiom}
use Rattle.owl_axioms.specs.declared.expr.ClassExpr.TheVariants as expr
use Rattle.reduce_edges.specs.Edges.{edge}
use Rattle.relax_axioms.specs.Implied.{is_said}
use Rattle.el_rules.specs.Rules.{ElView, IsBelow, IsElPartOf}
use Rattle.el_taxonomy.specs.Direct.{AreDirectEdges, edge_of}
use Rattle.el_taxonomy.specs.Taxonomy.{AreBelow, IsDirectEdge, IsStrictlyBetween}
use Rattle.el_taxonomy.specs.declared.edge.Edge.{Edge}
use Rattle.plain_reasoning.specs.Edges.{classes_in, edge_cmp, edges_of, facts_in, is_between, is_direct, pairs_in, says_below}
use Rattle.plain_reasoning.specs.Laws.{EdgesOfAreDirect}
use Rattle.plain_reasoning.specs.Occurring.{declared_classes}
use Rattle.plain_reasoning.proofs.Lists.{any_from, from_some}
use Rattle.plain_reasoning.proofs.Occurring.{from_declared, in_declared}
use Rattle.plain_reasoning.proofs.Rising.{edge_order, follow_rising, rising_follow}
use Rattle.plain_reasoning.proofs.Told.{above_occurs, derived, edge_said, is_not, not_true, own_name, said_edge, same_name, told}

module _ (axioms : List Axiom) (view : ElView) (of : IsElPartOf axioms view) where
  below_told : (sub super : List ℕ) → AreBelow view sub super → says_below (facts_in axioms) sub super ≡ true
  below_told sub super d = told axioms view of (IsBelow (expr.Class sub) (expr.Class super)) d

  told_below : (sub super : List ℕ) → says_below (facts_in axioms) sub super ≡ true → AreBelow view sub super
  told_below sub super h = derived axioms view of (IsBelow (expr.Class sub) (expr.Class super)) h

  -- ---- strictly between

  between_told : (sub super between : List ℕ) → IsStrictlyBetween view sub between super → is_between (facts_in axioms) sub super between ≡ true
  between_told sub super between b =
      both (below_told sub between b.low) (below_told between super b.high) (λ h. b.no_back (told_below between sub h)) (λ h. b.no_return (told_below super between h))
    where
      both : {x y z w : Bool} → x ≡ true → y ≡ true → (z ≡ true → ⊥) → (w ≡ true → ⊥) → ((x && y) && not (z || w)) ≡ true
      both {x} {y} {z} {w} e f g h = λ i. (e i && f i) && neither z w g h i
        where
          neither : (z w : Bool) → (z ≡ true → ⊥) → (w ≡ true → ⊥) → not (z || w) ≡ true
          neither true w g h = absurd (g refl)
          neither false true g h = absurd (h refl)
          neither false false g h = refl

  told_between : (sub super between : List ℕ) → is_between (facts_in axioms) sub super between ≡ true → IsStrictlyBetween view sub between super
  told_between sub super between h =
      let facts = facts_in axioms in
      let halves = and_parts (says_below facts sub between && says_below facts between super) (not (says_below facts between sub || says_below facts super between)) h in
      let ways = and_parts (says_below facts sub between) (says_below facts between super) halves.0 in
      record {
        low = told_below sub between ways.0;
        high = told_below between super ways.1;
        no_back = λ d. first (says_below facts between sub) (says_below facts super between) halves.1 (below_told between sub d);
        no_return = λ d. second (says_below facts between sub) (says_below facts super between) halves.1 (below_told super between d);
      }
    where
      first : (x y : Bool) → not (x || y) ≡ true → x ≡ true → ⊥
      first x y h e = true≢false (sym h ∙ ap (λ z. not (z || y)) e)

      second : (x y : Bool) → not (x || y) ≡ true → y ≡ true → ⊥
      second true y h e = true≢false (sym h)
      second false y h e = true≢false (sym h ∙ ap not e)

  -- ---- direct edges

  told_direct : (e : Edge) → In e.sub (declared_classes axioms) → is_direct axioms e ≡ true → IsDirectEdge axioms view e.sub e.sup
  unfolding is_direct
  told_direct e i h =
      let facts = facts_in axioms in
      let halves = and_parts (not (bytes_eq e.sub e.sup) && says_below facts e.sub e.sup) (not (is_said axioms (edge e.sub e.sup)) && not (list_any (is_between facts e.sub e.sup) (classes_in axioms))) h in
      let up = and_parts (not (bytes_eq e.sub e.sup)) (says_below facts e.sub e.sup) halves.0 in
      let rest = and_parts (not (is_said axioms (edge e.sub e.sup))) (not (list_any (is_between facts e.sub e.sup) (classes_in axioms))) halves.1 in
      record {
        declared = from_declared axioms e.sub i;
        other = λ same. not_true (bytes_eq e.sub e.sup) up.0 (own_name e.sub e.sup same);
        below = told_below e.sub e.sup up.1;
        unsaid = λ said. not_true (is_said axioms (edge e.sub e.sup)) rest.0 (edge_said axioms e.sub e.sup said);
        none = λ between b. not_true (list_any (is_between facts e.sub e.sup) (classes_in axioms)) rest.1
            (any_from (is_between facts e.sub e.sup) (above_occurs axioms view of e.sub between b.low) (between_told e.sub e.sup between b));
      }

  direct_told : (e : Edge) → IsDirectEdge axioms view e.sub e.sup → is_direct axioms e ≡ true
  unfolding is_direct
  direct_told e d =
      let facts = facts_in axioms in
      let apart = is_not (bytes_eq e.sub e.sup) (λ h. d.other (same_name e.sub e.sup h)) in
      let up = below_told e.sub e.sup d.below in
      let unsaid = is_not (is_said axioms (edge e.sub e.sup)) (λ h. d.unsaid (said_edge axioms e.sub e.sup h)) in
      let free = is_not (list_any (is_between facts e.sub e.sup) (classes_in axioms)) (λ h. let found = from_some (is_between facts e.sub e.sup) (classes_in axioms) h in d.none found.it (told_between e.sub e.sup found.it found.passes)) in
      λ i. (apart i && up i) && (unsaid i && free i)

  in_pairs : (e : Edge) → In e.sub (declared_classes axioms) → In e.sup (classes_in axioms) → In e (pairs_in axioms)
  unfolding pairs_in
  in_pairs e i j = in_flat_map (λ sub. map (edge_of sub) (classes_in axioms)) i (in_map (edge_of e.sub) j)

  from_pairs : (e : Edge) → In e (pairs_in axioms) → In e.sub (declared_classes axioms)
  unfolding pairs_in
  from_pairs e i =
      let r = from_flat_map (λ sub. map (edge_of sub) (classes_in axioms)) (declared_classes axioms) i in
      let s = from_map (edge_of r.it) (classes_in axioms) r.out in
      subst (λ (f : Edge). In f.sub (declared_classes axioms)) (sym s.is) r.inside

  abbrev unsorted : List Edge
  unsorted = filter (is_direct axioms) (pairs_in axioms)

  has_direct : (e : Edge) → Contains (edges_of axioms) e → IsDirectEdge axioms view e.sub e.sup
  unfolding edges_of
  has_direct e there =
      let in_set = sorted_on-only edge_cmp edge_order (λ (f : Edge). f) unsorted e (In-from_contains e (sorted_on edge_cmp (λ (f : Edge). f) unsorted) there) in
      let f = from_filter (is_direct axioms) (pairs_in axioms) (in_from_contains unsorted e (contains-from_In e unsorted in_set)) in
      told_direct e (from_pairs e f.0) f.1

  direct_there : (e : Edge) → IsDirectEdge axioms view e.sub e.sup → Contains (edges_of axioms) e
  unfolding edges_of
  direct_there e d =
      let pair = in_pairs e (in_declared axioms e.sub d.declared.declared d.declared.no_thing d.declared.no_nothing) (above_occurs axioms view of e.sub e.sup d.below) in
      let inside = In-from_contains e unsorted (contains_from_in (in_filter (is_direct axioms) pair (direct_told e d))) in
      contains-from_In e (sorted_on edge_cmp (λ (f : Edge). f) unsorted) (sorted_on-each edge_cmp edge_order (λ (f : Edge). f) unsorted (λ a b p q same. same) e inside)

pub edges_are_direct : (axioms : List Axiom) (view : ElView) → IsElPartOf axioms view → AreDirectEdges axioms view (edges_of axioms)
unfolding edges_of
edges_are_direct axioms view of = record {
  exactly = λ sub super. (has_direct axioms view of (edge_of sub super), direct_there axioms view of (edge_of sub super));
  sorted = rising_follow (edges_of axioms) (RisesOn-sorted_on edge_cmp edge_order (λ (f : Edge). f) (filter (is_direct axioms) (pairs_in axioms)));
}

pub direct_edges_are_one : (axioms : List Axiom) (view : ElView) (edges : List Edge) → IsElPartOf axioms view → AreDirectEdges axioms view edges → edges ≡ edges_of axioms
direct_edges_are_one axioms view edges of are =
    let own = edges_are_direct axioms view of in
    let mine = edges_of axioms in
    same_risingOn edge_cmp edge_order (λ (f : Edge). f) edges mine (follow_rising edges are.sorted) (follow_rising mine own.sorted)
    (λ e. (
      (λ i. In-from_contains e mine ((own.exactly e.sub e.sup).1 ((are.exactly e.sub e.sup).0 (contains-from_In e edges i)))),
      (λ i. In-from_contains e edges ((are.exactly e.sub e.sup).1 ((own.exactly e.sub e.sup).0 (contains-from_In e mine i)))),
    ))

pub edges_of_are_direct : EdgesOfAreDirect
edges_of_are_direct axioms view edges of = (
  λ are. direct_edges_are_one axioms view edges of are,
  λ is. subst (AreDirectEdges axioms view) (sym is) (edges_are_direct axioms view of),
)
