-- The inclusions of the direct edges are what is inferred.
use Rattle.std.proofs.Common.{◌≡◌, ℕ, suc, ◌<◌, Bool, true, false, ◌||◌, cond, arith, List, [], ◌∷◌, ◌++◌, Contains, Some, length, map, slice_get, refl, sym, ap, subst, ◌∙◌, append_assoc, append-nil, true≢false}
use Rattle.std.specs.List.{AllByRecursion, IsDistinct, list_any}
use Rattle.std.specs.Cmp.{tied_itself}
use Rattle.std.specs.Cmp.Lexicographic.{slice_cmp}
use Rattle.std.specs.Ordering.{is_lt, nat_cmp, ordering_then}
use Rattle.std.proofs.lemmas.Cmp.{nat_list_cmp_total}
use Rattle.indexmap.specs.IndexSet.{insert_all}
use Rattle.fact_rows.proofs.Members.{by_bool}
use Rattle.fact_rows.specs.Member.{In as InList}
use Rattle.owl_axioms.proofs.Members.{Contains-in, In, In-contains, In-from_map, In-map}
use Rattle.owl_axioms.specs.Proper.{AreProper, IsProper}
use Rattle.owl_axioms.specs.Same.{same_axiom}
use Rattle.owl_axioms.specs.declared.body.Axiom.{Axiom}
use Rattle.owl_axioms.specs.declared.body.Body.{Body}
use Rattle.owl_axioms.specs.declared.expr.ClassExpr.TheVariants as expr
use Rattle.owl_ontology.specs.Ontology.{OntologyState, axioms_of}
use Rattle.el_rules.specs.Rules.{ElView, IsBelow, IsElPartOf}
use Rattle.el_rules.specs.Laws.{HasExprsIn}
use Rattle.el_rules.proofs.Sound.{derived_occurs}
use Rattle.relax_axioms.specs.Implied.{same_body}
use Rattle.relax_axioms.specs.Relax.{step_entries}
use Rattle.relax_axioms.specs.Relaxed.{plain}
use Rattle.relax_axioms.proofs.Lists.{any_push}
use Rattle.relax_axioms.proofs.Missing.{distinct_plain, length_map}
use Rattle.relax_axioms.proofs.Wanted.{below_proper, same_body-true, same_itself}
use Rattle.el_taxonomy.specs.Direct.{AreDirectEdges, comes_first, edge_of}
use Rattle.el_taxonomy.specs.Reason.{Infers, IsInferred, inclusion_of}
use Rattle.el_taxonomy.specs.Taxonomy.{AreBelow}
use Rattle.el_taxonomy.specs.declared.edge.Edge.{Edge}
use Rattle.el_taxonomy.specs.inner.Adding.{said_of, said_of_all}
use Rattle.el_taxonomy.specs.inner.Numbers.{told_in}
use Rattle.el_taxonomy.proofs.Numbers.{is_told}
use Rattle.el_taxonomy.proofs.Proper.{occurs_proper}
use Rattle.rel_io.proofs.Options.{same_there}

pub both_occur : (axioms : List Axiom) (view : ElView) → IsElPartOf axioms view → (sub super : List ℕ) → AreBelow view sub super → InList (expr.Class sub) view.occurring × InList (expr.Class super) view.occurring
unfolding HasExprsIn
both_occur axioms view of sub super below = derived_occurs axioms view of (IsBelow (expr.Class sub) (expr.Class super)) below

-- ---- edges that are sorted strictly are put into a set as they are

said_apart : (one other : Edge) → said_of one ≡ said_of other → comes_first one other ≡ true → ⊥
said_apart one other same first =
    let q = same_there (sym (is_told (said_of one) one.sub one.sup refl) ∙ ap told_in same ∙ is_told (said_of other) other.sub other.sup refl) in
    let sub : one.sub ≡ other.sub = ap (λ (x : List ℕ × List ℕ). x.0) q in
    let super : one.sup ≡ other.sup = ap (λ (x : List ℕ × List ℕ). x.1) q in
    let alike : comes_first one other ≡ is_lt (ordering_then (slice_cmp nat_cmp other.sub other.sub) (slice_cmp nat_cmp other.sup other.sup)) =
    λ i. is_lt (ordering_then (slice_cmp nat_cmp (sub i) other.sub) (slice_cmp nat_cmp (super i) other.sup)) in
    let itself : is_lt (ordering_then (slice_cmp nat_cmp other.sub other.sub) (slice_cmp nat_cmp other.sup other.sup)) ≡ false =
    λ i. is_lt (ordering_then (tied_itself nat_list_cmp_total other.sub i) (tied_itself nat_list_cmp_total other.sup i)) in
    true≢false (sym first ∙ alike ∙ itself)

abbrev RiseStrictly : List Edge → Type 0
RiseStrictly edges = (i j : ℕ) (one other : Edge) → slice_get edges i ≡ Some one → slice_get edges j ≡ Some other → i < j → comes_first one other ≡ true

abbrev AreOther : Body → List Body → Type 0
AreOther x ys = AllByRecursion (λ y. same_body x y ≡ false) ys

others_apart : (e : Edge) (edges : List Edge) → ((j : ℕ) (other : Edge) → slice_get edges j ≡ Some other → comes_first e other ≡ true) → AreOther (said_of e) (map said_of edges)
others_apart e [] first = tt
others_apart e (other ∷ edges) first = (
  by_bool (same_body (said_of e) (said_of other)) (λ same. absurd (said_apart e other (same_body-true (said_of e) (said_of other) same) (first 0 other refl))) (λ isnt. isnt),
  others_apart e edges (λ j one at. first (suc j) one at),
)

bodies_apart : (edges : List Edge) → RiseStrictly edges → IsDistinct same_body (map said_of edges)
unfolding IsDistinct
bodies_apart [] rise = tt
bodies_apart (e ∷ edges) rise = (
  others_apart e edges (λ j other at. rise 0 (suc j) e other refl at (omega arith)),
  bodies_apart edges (λ i j one other here there low. rise (suc i) (suc j) one other here there (omega (arith, low))),
)

-- none of these is among the keys
abbrev AreNew : List Body → List Body → Type 0
AreNew keys xs = AllByRecursion (λ x. list_any (same_body x) keys ≡ false) xs

turned : (x y : Body) → same_body x y ≡ false → same_body y x ≡ false
turned x y isnt = by_bool (same_body y x) (λ is. absurd (true≢false (sym (same_itself x y (sym (same_body-true y x is))) ∙ isnt))) (λ other. other)

new_behind : (keys : List Body) (x : Body) (ys : List Body) → AreNew keys ys → AreOther x ys → AreNew (keys ++ x ∷ []) ys
new_behind keys x [] new other = tt
new_behind keys x (y ∷ ys) new other = (
  any_push (same_body y) keys x ∙ (λ i. new.0 i || turned x y other.0 i),
  new_behind keys x ys new.1 other.1,
)

put_behind : (keys xs : List Body) → IsDistinct same_body xs → AreNew keys xs → insert_all same_body keys xs ≡ keys ++ xs
unfolding IsDistinct
put_behind keys [] apart new = sym (append-nil keys)
put_behind keys (x ∷ xs) apart new =
    ap (λ (t : Bool). insert_all same_body (cond t keys (keys ++ x ∷ [])) xs) new.0
    ∙ put_behind (keys ++ x ∷ []) xs apart.1 (new_behind keys x xs new.1 apart.0)
    ∙ append_assoc keys (x ∷ []) xs

none_among : (xs : List Body) → AreNew [] xs
none_among [] = tt
none_among (x ∷ xs) = (refl, none_among xs)

keys_are : (edges : List Edge) → RiseStrictly edges → said_of_all edges ≡ map said_of edges
keys_are edges rise = put_behind [] (map said_of edges) (bodies_apart edges rise) (none_among (map said_of edges))

-- ---- what is added

plain_said : (edges : List Edge) → map plain (map said_of edges) ≡ map inclusion_of edges
plain_said [] = refl
plain_said (e ∷ edges) = ap (λ rest. inclusion_of e ∷ rest) (plain_said edges)

module _ (before : OntologyState) (view : ElView) (of : IsElPartOf (axioms_of before.entries) view) (edges : List Edge) (are : AreDirectEdges (axioms_of before.entries) view edges) (keys : List Body) (put : keys ≡ said_of_all edges) where
  abbrev axioms : List Axiom
  axioms = axioms_of before.entries

  same_keys : keys ≡ map said_of edges
  same_keys = put ∙ keys_are edges are.sorted

  key_edge : (b : Body) → Contains keys b → (e : Edge) × Contains edges e × (said_of e ≡ b)
  key_edge b here =
      let m = In-from_map said_of b edges (subst (In b) same_keys (In-contains b keys here)) in
      (m.0, Contains-in m.0 edges m.1, m.2)

  pub key_proper : AreProper axioms → (b : Body) → Contains keys b → IsProper (plain b)
  key_proper all b here =
      let k = key_edge b here in
      let direct = (are.exactly k.0.sub k.0.sup).0 k.1 in
      let both = both_occur axioms view of k.0.sub k.0.sup direct.below in
      subst (λ c. IsProper (plain c)) k.2
      (below_proper k.0.sub (expr.Class k.0.sup) (occurs_proper axioms all ((of.occurring_are (expr.Class k.0.sub)).0 both.0)) (occurs_proper axioms all ((of.occurring_are (expr.Class k.0.sup)).0 both.1)))

  pub key_absent : (b : Body) → Contains keys b → Contains axioms (plain b) → ⊥
  key_absent b here held =
      let k = key_edge b here in
      ((are.exactly k.0.sub k.0.sup).0 k.1).unsaid (record { one = plain b; stands = held; says = sym k.2 })

  added_inferred : (a : Axiom) → Contains (map inclusion_of edges) a → IsInferred axioms view a
  added_inferred a here =
      let m = In-from_map inclusion_of a edges (In-contains a (map inclusion_of edges) here) in
      record { sub = m.0.sub; super = m.0.sup; direct = (are.exactly m.0.sub m.0.sup).0 (Contains-in m.0 edges m.1); is = sym m.2 }

  inferred_added : (a : Axiom) → IsInferred axioms view a → Contains (map inclusion_of edges) a
  inferred_added a one =
      let e = edge_of one.sub one.super in
      Contains-in a (map inclusion_of edges)
      (subst (λ c. In c (map inclusion_of edges)) (sym one.is) (In-map inclusion_of e edges (In-contains e edges ((are.exactly one.sub one.super).1 one.direct))))

  pub infers : (after : OntologyState) (count : ℕ) → count ≡ length keys → after ≡ record before { entries = before.entries ++ step_entries (map plain keys) } → Infers view before after count
  infers after count counted is = record {
    edges = edges;
    are = are;
    added = map inclusion_of edges;
    added_are = refl;
    name = ap (λ (o : OntologyState). o.name) is;
    entries = ap (λ (o : OntologyState). o.entries) is ∙ ap (λ added. before.entries ++ step_entries added) (ap (map plain) same_keys ∙ plain_said edges);
    exactly = λ a. (added_inferred a, inferred_added a);
    once = subst (IsDistinct same_axiom) (plain_said edges) (distinct_plain (map said_of edges) (bodies_apart edges are.sorted));
    counted = counted ∙ ap length same_keys ∙ length_map (map said_of edges) ∙ ap length (plain_said edges);
  }
