-- The plain functions tell what is reached, and which axioms go.
use Rattle.std.proofs.Common.{◌≡◌, ◌⊎◌, ℕ, ◌+◌, zero, suc, Bool, true, false, not, ◌&&◌, ◌||◌, cond, List, [], ◌∷◌, None, Some, Option, Contains, length, map, slice_get, inl, inr, ⊎_elim, refl, sym, ap, subst, ◌∙◌, arith, true≢false, if◌then◌else◌}
use Rattle.std.specs.Cmp.Lexicographic.{same_text}
use Rattle.std.specs.List.{list_any}
use Rattle.std.specs.Option.{option_map}
use Rattle.std.specs.Prelude.{filter}
use Rattle.std.specs.Str.{bytes_eq}
use Rattle.std.proofs.lemmas.Bool.{and_from, and_parts, or_left, or_parts, or_right}
use Rattle.std.proofs.lemmas.List.{length-map}
use Rattle.std.proofs.lemmas.Option.{slice_get-map}
use Rattle.owl_axioms.proofs.Listed.{here, in_flat, later, own_bytes}
use Rattle.owl_axioms.proofs.Members as list
use Rattle.owl_axioms.specs.declared.annotation.Side.{Side}
use Rattle.owl_axioms.specs.declared.body.Axiom.{Axiom}
use Rattle.owl_ontology.specs.Ontology.{Entry, OntologyState, axioms_of, flagged}
use Rattle.reduce_edges.specs.Edges.{IsEdge, Pair, Reach, edge_in, edges_of, go, stay}
use Rattle.reduce_edges.specs.Going.{ends_of, goes, goes_by, has_none, is_between, is_redundant, reaches, reaches_with}
use Rattle.reduce_edges.specs.Laws.{GoesIsGoes, ReachesIsReach, ReduceOfReduces}
use Rattle.reduce_edges.specs.Reduce.{Reduces, reduce_of}
use Rattle.reduce_edges.specs.Redundant.{Goes, IsRedundant, IsStrictlyBetween}
use Rattle.reduce_edges.proofs.Numbers.{edge_said, in_edges, none_some, said_edge, some_same}
use Rattle.reduce_edges.proofs.Walks.{reach_more}

-- ---- tests

-- one of two that are tested
either_true : {P : Type 0} (x y : Bool) → (x || y) ≡ true → (x ≡ true → P) → (y ≡ true → P) → P
either_true true y h one other = one refl
either_true false y h one other = other h

not_true : (x : Bool) → not x ≡ true → x ≡ false
not_true true h = absurd (true≢false (sym h))
not_true false h = refl

not_false : (x : Bool) → (x ≡ true → ⊥) → x ≡ false
not_false true h = absurd (h refl)
not_false false h = refl

from_any : {X : Type 0} (p : X → Bool) (xs : List X) → list_any p xs ≡ true → (x : X) × (p x ≡ true)
from_any {X = X} p [] h = absurd (true≢false (sym h))
from_any {X = X} p (x ∷ xs) h =
    elim (p x) as (λ b. p x ≡ b → (b || list_any p xs) ≡ true → (y : X) × (p y ≡ true)) [
      | true ↦ λ is _. (x, is)
      | false ↦ λ _ rest. from_any p xs rest
    ] refl h

any_in : {X : Type 0} (p : X → Bool) (x : X) (xs : List X) → list.In x xs → p x ≡ true → list_any p xs ≡ true
any_in p x [] there passes = absurd there
any_in p x (y ∷ ys) (inl is) passes = or_left (p y) (list_any p ys) (ap p is ∙ passes)
any_in p x (y ∷ ys) (inr rest) passes = or_right (p y) (list_any p ys) (any_in p x ys rest passes)

-- ---- walks

join : (axioms : List Axiom) (a b c : List ℕ) → Reach axioms a b → Reach axioms b c → Reach axioms a c
join axioms a b c stay second = second
join axioms a b c (go {b = m} e rest) second = go e (join axioms m b c rest second)

-- with an axiom more
more : (one : Axiom) (axioms : List Axiom) (a b : List ℕ) → Reach axioms a b → Reach (one ∷ axioms) a b
more one axioms a b walk = reach_more (one ∷ axioms) axioms (λ other there. later one other axioms there) a b walk

-- a walk goes along the first axiom, or it does not
abbrev Through : List Axiom → Pair → List ℕ → List ℕ → Type 0
Through axioms e a b = Reach axioms a b ⊎ (Reach axioms a e.0 × Reach axioms e.1 b)

-- an edge is the first axiom, or stands behind it
by_edge : {P : Type 0} (one : Axiom) (axioms : List Axiom) (a b : List ℕ) → IsEdge (one ∷ axioms) a b → (edge_in one.body ≡ Some (a, b) → P) → (IsEdge axioms a b → P) → P
by_edge one axioms a b e first second =
    ⊎_elim
    (λ is. first (ap (λ (x : Axiom). edge_in x.body) is ∙ ap edge_in e.says ∙ edge_said a b))
    (λ there. second (record { one = e.one; stands = list.Contains-in e.one axioms there; says = e.says }))
    (list.In-contains e.one (one ∷ axioms) e.stands)

through : (one : Axiom) (axioms : List Axiom) (e : Pair) → edge_in one.body ≡ Some e → (a b : List ℕ) → Reach (one ∷ axioms) a b → Through axioms e a b
through one axioms e is a b stay = inl stay
through one axioms e is a b (go {b = m} step rest) =
    by_edge one axioms a m step
    (λ said.
    let p : Pair = (a, m) in
    let same : p ≡ e = some_same p e (sym said ∙ is) in
    let from : Reach axioms a e.0 = subst (λ (q : Pair). Reach axioms a q.0) same stay in
    ⊎_elim
    (λ walk. inr (from, subst (λ (q : Pair). Reach axioms q.1 b) same walk))
    (λ walks. inr (from, walks.1))
    (through one axioms e is m b rest))
    (λ behind.
    ⊎_elim (λ walk. inl (go behind walk)) (λ walks. inr (go behind walks.0, walks.1)) (through one axioms e is m b rest))

without : (one : Axiom) (axioms : List Axiom) → edge_in one.body ≡ None → (a b : List ℕ) → Reach (one ∷ axioms) a b → Reach axioms a b
without one axioms isnt a b stay = stay
without one axioms isnt a b (go {b = m} step rest) =
    by_edge one axioms a m step
    (λ said. let p : Pair = (a, m) in none_some p (sym isnt ∙ said))
    (λ behind. go behind (without one axioms isnt m b rest))

-- ---- the plain function tells where there is a walk

abbrev AreWalks : List Axiom → Type 0
AreWalks axioms = (a b : List ℕ) → reaches axioms a b ≡ true → Reach axioms a b

walk_with : (one : Axiom) (axioms : List Axiom) (said : Option Pair) → edge_in one.body ≡ said → AreWalks axioms → (a b : List ℕ) → reaches_with said (reaches axioms) a b ≡ true → Reach (one ∷ axioms) a b
walk_with one axioms None is walks a b told = more one axioms a b (walks a b told)
walk_with one axioms (Some e) is walks a b told =
    either_true (reaches axioms a b) (reaches axioms a e.0 && reaches axioms e.1 b) told
    (λ one_way. more one axioms a b (walks a b one_way))
    (λ both.
    let parts = and_parts (reaches axioms a e.0) (reaches axioms e.1 b) both in
    let step : IsEdge (one ∷ axioms) e.0 e.1 = record { one = one; stands = here one axioms; says = said_edge one.body e is } in
    join (one ∷ axioms) a e.0 b (more one axioms a e.0 (walks a e.0 parts.0)) (go step (more one axioms e.1 b (walks e.1 b parts.1))))

walk_of : (axioms : List Axiom) → AreWalks axioms
unfolding reaches
walk_of [] a b h = subst (Reach [] a) (same_text a b (sym h)) stay
walk_of (one ∷ axioms) a b h = walk_with one axioms (edge_in one.body) refl (walk_of axioms) a b h

no_edge : (a b : List ℕ) → Reach [] a b → bytes_eq a b ≡ true
no_edge a b stay = own_bytes a
no_edge a b (go e rest) = absurd (list.In-contains e.one [] e.stands)

abbrev AreTold : List Axiom → Type 0
AreTold axioms = (a b : List ℕ) → Reach axioms a b → reaches axioms a b ≡ true

told_with : (one : Axiom) (axioms : List Axiom) (said : Option Pair) → edge_in one.body ≡ said → AreTold axioms → (a b : List ℕ) → Reach (one ∷ axioms) a b → reaches_with said (reaches axioms) a b ≡ true
told_with one axioms None is told a b walk = told a b (without one axioms is a b walk)
told_with one axioms (Some e) is told a b walk =
    ⊎_elim
    (λ way. or_left (reaches axioms a b) (reaches axioms a e.0 && reaches axioms e.1 b) (told a b way))
    (λ ways. or_right (reaches axioms a b) (reaches axioms a e.0 && reaches axioms e.1 b) (and_from (reaches axioms a e.0) (reaches axioms e.1 b) (told a e.0 ways.0) (told e.1 b ways.1)))
    (through one axioms e is a b walk)

told_of : (axioms : List Axiom) → AreTold axioms
unfolding reaches
told_of [] a b walk = no_edge a b walk
told_of (one ∷ axioms) a b walk = told_with one axioms (edge_in one.body) refl (told_of axioms) a b walk

pub reaches_is_reach : ReachesIsReach
reaches_is_reach axioms a b = (walk_of axioms a b, told_of axioms a b)

-- ---- the plain function tells which edges are redundant

between_of : (axioms : List Axiom) (sub between super : List ℕ) → is_between axioms sub between super ≡ true → IsStrictlyBetween axioms sub between super
unfolding is_between
between_of axioms sub between super told =
    let halves = and_parts (reaches axioms sub between && reaches axioms between super) (not (reaches axioms between sub || reaches axioms super between)) told in
    let ways = and_parts (reaches axioms sub between) (reaches axioms between super) halves.0 in
    let backs = or_parts (reaches axioms between sub) (reaches axioms super between) (not_true (reaches axioms between sub || reaches axioms super between) halves.1) in
    record {
      from = walk_of axioms sub between ways.0;
      to = walk_of axioms between super ways.1;
      no_back = λ walk. true≢false (sym (told_of axioms between sub walk) ∙ backs.0);
      no_return = λ walk. true≢false (sym (told_of axioms super between walk) ∙ backs.1);
    }

of_between : (axioms : List Axiom) (sub between super : List ℕ) → IsStrictlyBetween axioms sub between super → is_between axioms sub between super ≡ true
unfolding is_between
of_between axioms sub between super one =
    let back : reaches axioms between sub ≡ false = not_false (reaches axioms between sub) (λ h. one.no_back (walk_of axioms between sub h)) in
    let return : reaches axioms super between ≡ false = not_false (reaches axioms super between) (λ h. one.no_return (walk_of axioms super between h)) in
    λ i. (told_of axioms sub between one.from i && told_of axioms between super one.to i) && not (back i || return i)

-- a walk of an edge or more ends at the end of an edge
last_end : (axioms : List Axiom) (a b : List ℕ) → Reach axioms a b → (a ≡ b) ⊎ Contains (ends_of axioms) b
last_end axioms a b stay = inl refl
last_end axioms a b (go {b = m} e rest) =
    ⊎_elim
    (λ same.
    let p : Pair = (a, m) in
    let said : edge_in e.one.body ≡ Some p = ap edge_in e.says ∙ edge_said a m in
    let there = list.Contains-in p (edges_of axioms) (in_edges axioms e.one p (list.In-contains e.one axioms e.stands) said) in
    let end : Contains (ends_of axioms) m = in_flat (λ (q : Pair). q.0 ∷ q.1 ∷ []) p m (edges_of axioms) there (later a m (m ∷ []) (here m [])) in
    inr (subst (Contains (ends_of axioms)) same end))
    (λ there. inr there)
    (last_end axioms m b rest)

between_end : (axioms : List Axiom) (sub between super : List ℕ) → IsStrictlyBetween axioms sub between super → Contains (ends_of axioms) between
between_end axioms sub between super one =
    ⊎_elim
    (λ same. absurd (one.no_back (subst (λ c. Reach axioms c sub) same stay)))
    (λ there. there)
    (last_end axioms sub between one.from)

redundant_of : (axioms : List Axiom) (sub super : List ℕ) → is_redundant axioms sub super ≡ true → IsRedundant axioms sub super
unfolding is_redundant
redundant_of axioms sub super told =
    either_true (bytes_eq sub super) (list_any (λ between. is_between axioms sub between super) (ends_of axioms)) told
    (λ same. inl (same_text sub super (sym same)))
    (λ some. let found = from_any (λ between. is_between axioms sub between super) (ends_of axioms) some in inr (found.0, between_of axioms sub found.0 super found.1))

of_redundant : (axioms : List Axiom) (sub super : List ℕ) → IsRedundant axioms sub super → is_redundant axioms sub super ≡ true
unfolding is_redundant
of_redundant axioms sub super (inl same) =
    or_left (bytes_eq sub super) (list_any (λ between. is_between axioms sub between super) (ends_of axioms)) (subst (λ c. bytes_eq sub c ≡ true) same (own_bytes sub))
of_redundant axioms sub super (inr one) =
    or_right (bytes_eq sub super) (list_any (λ between. is_between axioms sub between super) (ends_of axioms))
    (any_in (λ between. is_between axioms sub between super) one.0 (ends_of axioms) (list.In-contains one.0 (ends_of axioms) (between_end axioms sub one.0 super one.1)) (of_between axioms sub one.0 super one.1))

-- ---- and which axioms go

plain_of : (keep : Bool) (sides : List Side) → (not keep || has_none sides) ≡ true → keep ≡ true → sides ≡ []
plain_of keep [] h kept = refl
plain_of true (side ∷ sides) h kept = absurd (true≢false (sym h))
plain_of false (side ∷ sides) h kept = absurd (true≢false (sym kept))

of_plain : (keep : Bool) (sides : List Side) → (keep ≡ true → sides ≡ []) → (not keep || has_none sides) ≡ true
of_plain true sides plain = ap has_none (plain refl)
of_plain false sides plain = refl

gone_of : (axioms : List Axiom) (keep : Bool) (one : Axiom) → goes axioms keep one ≡ true → Goes axioms keep one
unfolding goes
gone_of axioms keep one told = by (edge_in one.body) refl told
  where
    by : (said : Option Pair) → edge_in one.body ≡ said → goes_by axioms keep said one.sides ≡ true → Goes axioms keep one
    by None is h = absurd (true≢false (sym h))
    by (Some e) is h =
        let parts = and_parts (is_redundant axioms e.0 e.1) (not keep || has_none one.sides) h in
        record {
          sub = e.0;
          super = e.1;
          says = said_edge one.body e is;
          redundant = redundant_of axioms e.0 e.1 parts.0;
          plain = λ kept. plain_of keep one.sides parts.1 kept;
        }

of_gone : (axioms : List Axiom) (keep : Bool) (one : Axiom) → Goes axioms keep one → goes axioms keep one ≡ true
unfolding goes
of_gone axioms keep one gone =
    let e : Pair = (gone.sub, gone.super) in
    let is : edge_in one.body ≡ Some e = ap edge_in gone.says ∙ edge_said gone.sub gone.super in
    ap (λ said. goes_by axioms keep said one.sides) is
    ∙ and_from (is_redundant axioms gone.sub gone.super) (not keep || has_none one.sides) (of_redundant axioms gone.sub gone.super gone.redundant) (of_plain keep one.sides (λ kept. gone.plain kept))

pub goes_is_goes : GoesIsGoes
goes_is_goes axioms keep one = (gone_of axioms keep one, of_gone axioms keep one)

-- ---- the ontology that is left

flagged_map : {X : Type 0} (p : X → Bool) (xs : List X) → flagged (map p xs) xs ≡ filter p xs
flagged_map p [] = refl
flagged_map p (x ∷ xs) = ap (λ rest. if p x then x ∷ rest else rest) (flagged_map p xs)

both_parts : {X : Type 0} (p : X → Bool) (xs : List X) → length (filter p xs) + length (filter (λ x. not (p x)) xs) ≡ length xs
both_parts p [] = refl
both_parts p (x ∷ xs) =
    let rest : length (filter p xs) + length (filter (λ y. not (p y)) xs) ≡ length xs = both_parts p xs in
    elim (p x) as (λ b. length (cond b (x ∷ filter p xs) (filter p xs)) + length (cond (not b) (x ∷ filter (λ y. not (p y)) xs) (filter (λ y. not (p y)) xs)) ≡ length (x ∷ xs)) [
      | true ↦ omega (arith, rest)
      | false ↦ omega (arith, rest)
    ]

-- flags that are set exactly where a test fails
flagged_as : {X : Type 0} (p : X → Bool) (flags : List Bool) (xs : List X) → length flags ≡ length xs → ((i : ℕ) (x : X) (b : Bool) → slice_get xs i ≡ Some x → slice_get flags i ≡ Some b → b ≡ not (p x)) → flagged flags xs ≡ filter (λ x. not (p x)) xs
flagged_as p [] [] long each = refl
flagged_as p [] (x ∷ xs) long each = absurd (omega (arith, long))
flagged_as p (b ∷ flags) [] long each = absurd (omega (arith, long))
flagged_as p (b ∷ flags) (x ∷ xs) long each =
    let rest = flagged_as p flags xs (omega (arith, long)) (λ i y c at on. each (suc i) y c at on) in
    λ i. if each zero x b refl refl i then x ∷ rest i else rest i

-- a flag that is not set where an entry goes, and only there
flag_of : (before : OntologyState) (keep b : Bool) (e : Entry) → (b ≡ true → ¬ (Goes (axioms_of before.entries) keep e.axiom)) → (b ≡ false → Goes (axioms_of before.entries) keep e.axiom) → b ≡ not (goes (axioms_of before.entries) keep e.axiom)
flag_of before keep true e kept gone = ap not (sym (not_false (goes (axioms_of before.entries) keep e.axiom) (λ h. kept refl (gone_of (axioms_of before.entries) keep e.axiom h))))
flag_of before keep false e kept gone = ap not (sym (of_gone (axioms_of before.entries) keep e.axiom (gone refl)))

count_of : (n m p q : ℕ) → n + m ≡ p → q + m ≡ p → n ≡ q
count_of n m p q one other = omega (arith, one, other)

pub reduce_by : (before after : OntologyState) (keep : Bool) (count : ℕ) → Reduces before after keep count → reduce_of keep before ≡ (after, count)
reduce_by before after keep count one =
    let goes_test : Entry → Bool = λ e. goes (axioms_of before.entries) keep e.axiom in
    let left : flagged one.stays before.entries ≡ filter (λ e. not (goes_test e)) before.entries = flagged_as goes_test one.stays before.entries one.long
    (λ i e b at on. flag_of before keep b e
    (λ set. one.kept i e at (on ∙ ap Some set))
    (λ unset. one.gone i e at (on ∙ ap Some unset))) in
    let is : record before { entries = filter (λ e. not (goes_test e)) before.entries } ≡ after = (λ i. record before { entries = sym left i }) ∙ sym one.is in
    let less : length after.entries ≡ length (filter (λ e. not (goes_test e)) before.entries) = ap (λ (o : OntologyState). length o.entries) (sym is) in
    let number : length (filter goes_test before.entries) ≡ count = count_of (length (filter goes_test before.entries)) (length (filter (λ e. not (goes_test e)) before.entries)) (length before.entries) count
    (both_parts goes_test before.entries) (ap (λ n. count + n) (sym less) ∙ one.counted) in
    λ i. (is i, number i)

pub reduce_of_reduces : (before : OntologyState) (keep : Bool) → ReduceOfReduces before keep
reduce_of_reduces before keep =
    let axioms = axioms_of before.entries in
    let stay_test : Entry → Bool = λ e. not (goes axioms keep e.axiom) in
    let flag_at : (i : ℕ) (e : Entry) (b : Bool) → slice_get before.entries i ≡ Some e → slice_get (map stay_test before.entries) i ≡ Some b → stay_test e ≡ b = λ i e b at on.
    some_same (stay_test e) b (sym (slice_get-map stay_test before.entries i ∙ ap (option_map stay_test) at) ∙ on) in
    record {
      stays = map stay_test before.entries;
      long = length-map before.entries stay_test;
      kept = λ i e at on gone. true≢false (sym (of_gone axioms keep e.axiom gone) ∙ not_true (goes axioms keep e.axiom) (flag_at i e true at on));
      gone = λ i e at off. gone_of axioms keep e.axiom (was_true (goes axioms keep e.axiom) (flag_at i e false at off));
      is = λ i. record before { entries = sym (flagged_map stay_test before.entries) i };
      counted = both_parts (λ (e : Entry). goes (axioms_of before.entries) keep e.axiom) before.entries;
    }
  where
    was_true : (x : Bool) → not x ≡ false → x ≡ true
    was_true true h = refl
    was_true false h = absurd (true≢false h)
