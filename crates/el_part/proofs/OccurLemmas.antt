-- The nodes whose flags are raised.
use Rattle.std.proofs.Common.{◌≡◌, ℕ, zero, suc, ◌<◌, ◌==◌, Bool, true, false, not, ◌&&◌, List, [], ◌∷◌, Some, inl, inr, get_or, if◌then◌else◌, length, slice_get, refl, sym, ap, subst, ◌∙◌, arith, true≢false}
use Rattle.std.proofs.lemmas.Bool.{cases_eq}
use Rattle.std.proofs.lemmas.Bool.Decides.{nat_tests}
use Rattle.std.proofs.lemmas.Option.{get_or_from_slice_get, slice_get_within}
use Rattle.fact_rows.specs.Member.{In, NoRepeats, here, more, none, there}
use Rattle.fact_rows.proofs.Members.{and_parts, by_bool, in_cons, in_left, in_none, in_one, in_parts, in_right}
use Rattle.fact_rows.proofs.Repeats.{repeats_append}
use Rattle.owl_axioms.specs.declared.expr.ClassExpr.{ClassExpr}
use Rattle.owl_axioms.specs.declared.expr.ClassExpr.TheVariants as expr
use Rattle.expr_pool.proofs.Lists.{lt_to}
use Rattle.expr_pool.specs.Laws.{PartsHaveNodes}
use Rattle.expr_pool.specs.Part.{AreBefore, Inside, IsMarked, deeper, itself, parts_of}
use Rattle.expr_pool.specs.Pool.{AreDifferent, tree_at}
use Rattle.expr_pool.specs.declared.cell.Node.{Node}
use Rattle.el_part.proofs.ClassLemmas.{same_node}
use Rattle.el_part.specs.Part.{IsNodeOf}
use Rattle.el_part.specs.inner.Reached.{AreOccurring, AreReached, IsReached, StartWithNames, is_other, node_at, others}

-- ---- nodes of the places that pass

if_one : (b : Bool) (x n : Node) → In n (if b then x ∷ [] else []) → (b ≡ true) × (n ≡ x)
if_one true x n i = (refl, in_one i)
if_one false x n i = in_none i

in_others : (p : ℕ → Bool) (k : ℕ) (n : Node) → In n (others p k) → (n.place < k) × (p n.place ≡ true)
in_others p zero n i = in_none i
in_others p (suc k) n i = elim (in_parts (others p k) i) [
  | inl j ↦ let r = in_others p k n j in (omega (arith, r.0), r.1)
  | inr j ↦ let r = if_one (p k) (node_at k) n j in let e : n.place ≡ k = ap (λ m. m.place) r.1 in (omega (arith, e), ap p e ∙ r.0)
]

if_in : (b : Bool) (x : Node) → b ≡ true → In x (if b then x ∷ [] else [])
if_in true x h = here
if_in false x h = absurd (true≢false (sym h))

others_in : (p : ℕ → Bool) (k : ℕ) (n : Node) → n.place < k → p n.place ≡ true → In n (others p k)
others_in p zero n l h = absurd (omega (arith, l))
others_in p (suc k) n l h = elim (cases_eq n.place k) [
  | inl e ↦ in_right (others p k) (subst (λ m. In m (if p k then node_at k ∷ [] else [])) (sym (same_node n (node_at k) e)) (if_in (p k) (node_at k) (sym (ap p e) ∙ h)))
  | inr ne ↦ in_left _ (others_in p k n (below n.place k l ne) h)
]
  where
    below : (a b : ℕ) → a < suc b → (a ≡ b → ⊥) → a < b
    below a b l ne = grind arith

if_once : (b : Bool) (x : Node) → NoRepeats (if b then x ∷ [] else [])
if_once true x = more (λ i. in_none i) none
if_once false x = none

others_once : (p : ℕ → Bool) (k : ℕ) → NoRepeats (others p k)
others_once p zero = none
others_once p (suc k) = repeats_append (others_once p k) (if_once (p k) (node_at k)) (λ n i j.
    let l = (in_others p k n i).0 in
    let e : n.place ≡ k = ap (λ m. m.place) (if_one (p k) (node_at k) n j).1 in
    absurd (omega (arith, l, e)))

-- ---- the flag of a place that is none of two

other_parts : (flags : List Bool) (a b k : ℕ) → is_other flags a b k ≡ true → (get_or flags k false ≡ true) × (not (k == a) ≡ true) × (not (k == b) ≡ true)
other_parts flags a b k h =
    let p = and_parts (get_or flags k false && not (k == a)) (not (k == b)) h in
    let q = and_parts (get_or flags k false) (not (k == a)) p.0 in
    (q.0, q.1, p.1)

differs : (j k : ℕ) → not (j == k) ≡ true → j ≡ k → ⊥
differs j k h e = grind (arith, nat_tests)

differ : (j k : ℕ) → (j ≡ k → ⊥) → not (j == k) ≡ true
differ j k ne = by_bool (j == k)
    (λ (t : (j == k) ≡ true). absurd (ne (grind (arith, nat_tests))))
    (λ (t : (j == k) ≡ false). ap not t)

other_from : (flags : List Bool) (a b k : ℕ) → get_or flags k false ≡ true → (k ≡ a → ⊥) → (k ≡ b → ⊥) → is_other flags a b k ≡ true
other_from flags a b k h na nb =
    let x = differ k a na in
    let y = differ k b nb in λ i. h i && x i && y i

flag_raised : (flags : List Bool) (k : ℕ) → get_or flags k false ≡ true → IsMarked flags k
flag_raised [] k h = absurd (true≢false (sym h))
flag_raised (f ∷ flags) zero h = ap Some h
flag_raised (f ∷ flags) (suc k) h = flag_raised flags k h

pub before_all : (m : ℕ) (ns : List Node) → ((n : Node) → In n ns → n.place < m) → AreBefore m ns
before_all m [] h = refl
before_all m (n ∷ ns) h =
    let first = lt_to n.place m (h n here) in
    let rest = before_all m ns (λ k i. h k (there i)) in λ i. first i && rest i

-- ---- all that is reached

module _ (ts : List ClassExpr) (different : AreDifferent ts) (there_too : PartsHaveNodes ts) (roots : List Node) (start : StartWithNames ts roots) (flags : List Bool) (long : length flags ≡ length ts) (reached : AreReached ts roots flags) (one two : Node) (is_one : slice_get roots 0 ≡ Some one) (is_two : slice_get roots 1 ≡ Some two) where
  some_is : {X : Type 0} {x y : X} → Some x ≡ Some y → x ≡ y
  some_is h = cc

  thing_node : IsNodeOf ts one expr.Thing
  thing_node = subst (λ n. IsNodeOf ts n expr.Thing) (some_is (sym start.first.1 ∙ is_one)) start.first.2

  nothing_node : IsNodeOf ts two expr.Nothing
  nothing_node = subst (λ n. IsNodeOf ts n expr.Nothing) (some_is (sym start.second.1 ∙ is_two)) start.second.2

  in_roots : (k : ℕ) (n : Node) (xs : List Node) → slice_get xs k ≡ Some n → In n xs
  in_roots k n [] h = absurd cc
  in_roots zero n (x ∷ xs) h = subst (λ m. In m (x ∷ xs)) (some_is h) here
  in_roots (suc k) n (x ∷ xs) h = there (in_roots k n xs h)

  root_reached : (n : Node) (t : ClassExpr) → In n roots → IsNodeOf ts n t → IsReached ts roots n.place
  root_reached n t i at = (n, i, t, at, subst (λ u. Inside u t) (sym (get_or_from_slice_get ts n.place t expr.Thing at)) itself)

  one_reached : IsReached ts roots one.place
  one_reached = root_reached one expr.Thing (in_roots 0 one roots is_one) thing_node

  two_reached : IsReached ts roots two.place
  two_reached = root_reached two expr.Nothing (in_roots 1 two roots is_two) nothing_node

  abbrev rest : List Node
  rest = others (is_other flags one.place two.place) (length ts)

  abbrev all : List Node
  all = one ∷ two ∷ rest

  in_all : (n : Node) → In n all → IsReached ts roots n.place
  in_all n i = elim (in_cons i) [
    | inl e ↦ subst (λ m. IsReached ts roots m.place) (sym e) one_reached
    | inr j ↦ elim (in_cons j) [
      | inl e ↦ subst (λ m. IsReached ts roots m.place) (sym e) two_reached
      | inr k ↦ (reached n.place).0 (flag_raised flags n.place (other_parts flags one.place two.place n.place (in_others (is_other flags one.place two.place) (length ts) n k).1).0)
    ]
  ]

  all_in : (n : Node) → IsReached ts roots n.place → In n all
  all_in n r = elim (cases_eq n.place one.place) [
    | inl e ↦ subst (λ m. In m all) (sym (same_node n one e)) here
    | inr na ↦ elim (cases_eq n.place two.place) [
      | inl e ↦ subst (λ m. In m all) (sym (same_node n two e)) (there here)
      | inr nb ↦
          let mark : IsMarked flags n.place = (reached n.place).1 r in
          let within : n.place < length flags = slice_get_within flags n.place true mark in
          there (there (others_in (is_other flags one.place two.place) (length ts) n (omega (arith, within, long)) (other_from flags one.place two.place n.place (get_or_from_slice_get flags n.place true false mark) na nb)))
    ]
  ]

  abbrev no_name : expr.Thing ≡ expr.Nothing → Type 0
  no_name e = ⊥

  apart : (expr.Thing ≡ expr.Nothing → ⊥) → one ≡ two → ⊥
  apart names e = names (some_is (sym thing_node ∙ subst (λ n. IsNodeOf ts n expr.Nothing) (sym e) nothing_node))

  once : (expr.Thing ≡ expr.Nothing → ⊥) → NoRepeats all
  once names =
      let p = is_other flags one.place two.place in
      more
      (λ i. elim (in_cons i) [
        | inl e ↦ apart names e
        | inr j ↦ differs one.place one.place (other_parts flags one.place two.place one.place (in_others p (length ts) one j).1).1 refl
      ])
      (more (λ j. differs two.place two.place (other_parts flags one.place two.place two.place (in_others p (length ts) two j).1).2 refl) (others_once p (length ts)))

  reached_within : (n : Node) → IsReached ts roots n.place → n.place < length ts
  reached_within n r = slice_get_within ts n.place r.2 r.3

  parts_reached : (n : Node) → In n all → (p : ClassExpr) → In p (parts_of (tree_at ts n)) → (m : Node) × In m all × IsNodeOf ts m p
  parts_reached n i p k =
      let r = in_all n i in
      let is : tree_at ts n ≡ r.2 = get_or_from_slice_get ts n.place r.2 expr.Thing r.3 in
      let below = there_too n.place r.2 r.3 p (deeper itself (subst (λ t. In p (parts_of t)) is k)) in
      (node_at below.0, all_in (node_at below.0) (r.0, r.1, p, below.2, deeper r.4 (subst (λ t. In p (parts_of t)) is k)), below.2)

  pub occurring : (expr.Thing ≡ expr.Nothing → ⊥) → (nodes : List Node) → nodes ≡ all → AreOccurring ts roots nodes
  occurring names nodes is = subst (AreOccurring ts roots) (sym is) (record {
    once = once names;
    before = before_all (length ts) all (λ n i. reached_within n (in_all n i));
    start = record { first = (one, refl, thing_node); second = (two, refl, nothing_node) };
    sound = in_all;
    complete = all_in;
    parts = parts_reached;
  })
