-- What reducing makes of an ontology.
use Rattle.std.proofs.Common.{◌≡◌, ◌⊎◌, ℕ, ◌+◌, ◌-◌, ◌<◌, ◌≤◌, suc, Bool, true, false, not, ◌&&◌, ◌||◌, List, [], ◌∷◌, None, Some, Option, Contains, length, slice_get, take, inl, inr, ⊎_elim, refl, sym, ap, subst, ◌∙◌, arith, true≢false}
use Rattle.std.specs.Option.{option_map}
use Rattle.std.proofs.lemmas.Bool.{or_parts}
use Rattle.std.proofs.lemmas.Option.{slice_get-map}
use Rattle.edge_detours.specs.Reach.{Edges}
use Rattle.edge_detours.specs.Redundant as number_redundant
use Rattle.fact_rows.proofs.Places.{get_inside, get_read, in_from_get, place_of}
use Rattle.owl_axioms.proofs.Listed.{at_in, in_at}
use Rattle.owl_axioms.proofs.Members as list
use Rattle.owl_axioms.specs.declared.annotation.Side.{Side}
use Rattle.owl_axioms.specs.declared.body.Axiom.{Axiom}
use Rattle.owl_ontology.specs.Ontology.{Entry, OntologyState, axioms_of, first_flag, flagged}
use Rattle.owl_sem.proofs.Keeps.{taking_entailed_keeps}
use Rattle.owl_sem.specs.Laws.{KeepBoth}
use Rattle.owl_sem.specs.Models.{Satisfies}
use Rattle.reduce_edges.specs.Edges.{IsEdge, Pair, Reach, edge, edge_in, edges_of, go, stay}
use Rattle.reduce_edges.specs.Laws.{AreEntailedBy, ReachIsSame}
use Rattle.reduce_edges.specs.Reduce.{Reduces}
use Rattle.reduce_edges.specs.Redundant.{Goes, IsRedundant}
use Rattle.reduce_edges.specs.inner.Numbered.{AreApart, StandFor}
use Rattle.reduce_edges.specs.inner.Staying.{flags_left, has_some, stays_by, stays_of}
use Rattle.reduce_edges.proofs.Entailed.{reach_entails}
use Rattle.reduce_edges.proofs.Numbers.{edge_at, edge_said, from_edges, in_edges, pair_at, said_edge, some_same, stands_within}
use Rattle.reduce_edges.proofs.Flags.{edge_index, flag_there, flagged_in, flagged_length, in_flagged, stays_at, stays_length}
use Rattle.reduce_edges.proofs.Walks.{IsNumbered, reach_more, reach_stays, redundant_down, redundant_up}

-- the edges of a graph are numbered
numbered_by : (axioms : List Axiom) (names : List (List ℕ)) (es : Edges) → StandFor names es (edges_of axioms) → IsNumbered axioms names es
numbered_by axioms names es stands = record {
  to = λ a c e.
      let p : Pair = (a, c) in
      let said : edge_in e.one.body ≡ Some p = ap edge_in e.says ∙ edge_said a c in
      let place = at_in (edges_of axioms) p (list.Contains-in p (edges_of axioms) (in_edges axioms e.one p (list.In-contains e.one axioms e.stands) said)) in
      let found = edge_at names es (edges_of axioms) place.0 p stands place.1 in
      record { x = found.pair.0; y = found.pair.1; first = found.stands.sub; second = found.stands.super; stands = in_from_get es place.0 found.pair found.at };
  back = λ x y here.
      let place = place_of here in
      let found = pair_at names es (edges_of axioms) place.at (x, y) stands place.is in
      let said = from_edges axioms found.pair (list.In-contains found.pair (edges_of axioms) (in_at (edges_of axioms) place.at found.pair found.at)) in
      record {
        a = found.pair.0;
        c = found.pair.1;
        first = found.stands.sub;
        second = found.stands.super;
        stands = record { one = said.one; stands = list.Contains-in said.one axioms said.stands; says = said_edge said.one.body found.pair said.says };
      };
}

no_sides : (sides : List Side) → has_some sides ≡ false → sides ≡ []
no_sides [] h = refl
no_sides (s ∷ sides) h = absurd (true≢false h)

sides_none : (sides : List Side) → sides ≡ [] → has_some sides ≡ false
sides_none sides is = ap has_some is

and_off : (x y : Bool) → (x && y) ≡ false → x ≡ true → y ≡ false
and_off true y h on = h
and_off false y h on = absurd (true≢false (sym on))

on_or_off : (b : Bool) → (b ≡ true) ⊎ (b ≡ false)
on_or_off true = inl refl
on_or_off false = inr refl

not_off : (b : Bool) → not b ≡ false → b ≡ true
not_off true h = refl
not_off false h = absurd (true≢false h)

-- a flag that is set keeps only by annotations that are kept
stays_set : (f keep : Bool) (sides : List Side) → f ≡ true → (not f || (keep && has_some sides)) ≡ true → (keep ≡ true) × (has_some sides ≡ true)
stays_set true true sides set h = (refl, h)
stays_set true false sides set h = absurd (true≢false (sym h))
stays_set false keep sides set h = absurd (true≢false (sym set))

module _ (before : OntologyState) (names : List (List ℕ)) (es : Edges) (flags : List Bool) (keep : Bool) (stands : StandFor names es (edges_of (axioms_of before.entries))) (apart : AreApart names) (are : number_redundant.AreRedundant es flags) where
  axioms : List Axiom
  axioms = axioms_of before.entries

  stays : List Bool
  stays = stays_of keep (axioms_of before.entries) flags

  axiom_at : (i : ℕ) (e : Entry) → slice_get before.entries i ≡ Some e → slice_get (axioms_of before.entries) i ≡ Some e.axiom
  axiom_at i e at = slice_get-map (λ (x : Entry). x.axiom) before.entries i ∙ ap (option_map (λ (x : Entry). x.axiom)) at

  -- the edge of an axiom, between numbers, and its flag
  record Judged (i : ℕ) (p : Pair) : Type 0 where
    x : ℕ
    y : ℕ
    sub : slice_get names x ≡ Some p.0
    super : slice_get names y ≡ Some p.1
    place : ℕ
    at : slice_get es place ≡ Some (x, y)
    flag : Bool
    flagged_so : slice_get flags place ≡ Some flag
    first : first_flag (flags_left (take i (axioms_of before.entries)) flags) ≡ flag

  judged : (i : ℕ) (a : Axiom) (p : Pair) → slice_get (axioms_of before.entries) i ≡ Some a → edge_in a.body ≡ Some p → Judged i p
  judged i a p at is =
      let front = take i (axioms_of before.entries) in
      let k = length (edges_of front) in
      let found = edge_at names es (edges_of (axioms_of before.entries)) k p stands (edge_index (axioms_of before.entries) i a p at is) in
      let low : k < length flags = subst (λ n. k < n) (sym are.long) (get_inside es k found.pair found.at) in
      let there = get_read flags k false low in
      record { x = found.pair.0; y = found.pair.1; sub = found.stands.sub; super = found.stands.super; place = k; at = found.at; flag = _; flagged_so = there; first = flag_there front flags _ there }

  pub gone : (i : ℕ) (e : Entry) → slice_get before.entries i ≡ Some e → slice_get (stays_of keep (axioms_of before.entries) flags) i ≡ Some false → Goes (axioms_of before.entries) keep e.axiom
  gone i e at off = by (edge_in e.axiom.body) refl (some_same _ false (sym (stays_at keep (axioms_of before.entries) flags i e.axiom (axiom_at i e at)) ∙ off))
    where
      by : (said : Option Pair) → edge_in e.axiom.body ≡ said → stays_by keep said e.axiom.sides (flags_left (take i (axioms_of before.entries)) flags) ≡ false → Goes (axioms_of before.entries) keep e.axiom
      by None is h = absurd (true≢false h)
      by (Some p) is h =
          let j = judged i e.axiom p (axiom_at i e at) is in
          let parts = or_parts (not (first_flag (flags_left (take i (axioms_of before.entries)) flags))) (keep && has_some e.axiom.sides) h in
          let set : j.flag ≡ true = sym j.first ∙ not_off (first_flag (flags_left (take i (axioms_of before.entries)) flags)) parts.0 in
          record {
            sub = p.0;
            super = p.1;
            says = said_edge e.axiom.body p is;
            redundant = redundant_down names apart (axioms_of before.entries) es (numbered_by (axioms_of before.entries) names es stands) p.0 p.1 j.x j.y j.sub j.super (are.on j.place j.x j.y j.at (j.flagged_so ∙ ap Some set));
            plain = λ kept. no_sides e.axiom.sides (and_off keep (has_some e.axiom.sides) parts.1 kept);
          }

  pub kept : (i : ℕ) (e : Entry) → slice_get before.entries i ≡ Some e → slice_get (stays_of keep (axioms_of before.entries) flags) i ≡ Some true → ¬ (Goes (axioms_of before.entries) keep e.axiom)
  kept i e at on goes =
      let p : Pair = (goes.sub, goes.super) in
      let is : edge_in e.axiom.body ≡ Some p = ap edge_in goes.says ∙ edge_said goes.sub goes.super in
      let j = judged i e.axiom p (axiom_at i e at) is in
      let set : j.flag ≡ true = some_same j.flag true (sym j.flagged_so ∙ are.off j.place j.x j.y j.at (redundant_up names apart (axioms_of before.entries) es (numbered_by (axioms_of before.entries) names es stands) goes.sub goes.super j.x j.y j.sub j.super goes.redundant)) in
      let left = flags_left (take i (axioms_of before.entries)) flags in
      let h : stays_by keep (Some p) e.axiom.sides left ≡ true = ap (λ said. stays_by keep said e.axiom.sides left) (sym is) ∙ some_same _ true (sym (stays_at keep (axioms_of before.entries) flags i e.axiom (axiom_at i e at)) ∙ on) in
      let by = stays_set (first_flag left) keep e.axiom.sides (j.first ∙ set) h in
      true≢false (sym by.1 ∙ sides_none e.axiom.sides (goes.plain by.0))

  -- ---- what is there afterwards

  rest : List Axiom
  rest = axioms_of (flagged (stays_of keep (axioms_of before.entries) flags) before.entries)

  pub less : (one : Axiom) → Contains (axioms_of (flagged (stays_of keep (axioms_of before.entries) flags) before.entries)) one → Contains (axioms_of before.entries) one
  less one here =
      let flagged_entries = flagged (stays_of keep (axioms_of before.entries) flags) before.entries in
      let found = list.In-from_map (λ (x : Entry). x.axiom) one flagged_entries (list.In-contains one (axioms_of flagged_entries) here) in
      list.Contains-in one (axioms_of before.entries) (subst (λ x. list.In x (axioms_of before.entries)) found.2 (list.In-map (λ (x : Entry). x.axiom) found.0 before.entries (in_flagged (stays_of keep (axioms_of before.entries) flags) before.entries found.0 found.1)))

  pub stays_or_goes : (one : Axiom) → Contains (axioms_of before.entries) one → Contains (axioms_of (flagged (stays_of keep (axioms_of before.entries) flags) before.entries)) one ⊎ Goes (axioms_of before.entries) keep one
  stays_or_goes one here =
      let entries = before.entries in
      let stay_flags = stays_of keep (axioms_of entries) flags in
      let found = list.In-from_map (λ (x : Entry). x.axiom) one entries (list.In-contains one (axioms_of entries) here) in
      let place = at_in entries found.0 (list.Contains-in found.0 entries found.1) in
      let by : (b : Bool) → slice_get stay_flags place.0 ≡ Some b → Contains (axioms_of (flagged stay_flags entries)) one ⊎ Goes (axioms_of entries) keep one = λ b.
      elim b as (λ t. slice_get stay_flags place.0 ≡ Some t → Contains (axioms_of (flagged stay_flags entries)) one ⊎ Goes (axioms_of entries) keep one) [
        | true ↦ λ on. inl (list.Contains-in one (axioms_of (flagged stay_flags entries)) (subst (λ x. list.In x (axioms_of (flagged stay_flags entries))) found.2 (list.In-map (λ (x : Entry). x.axiom) found.0 (flagged stay_flags entries) (flagged_in stay_flags entries place.0 found.0 place.1 on))))
        | false ↦ λ off. inr (subst (Goes (axioms_of entries) keep) found.2 (gone place.0 found.0 place.1 off))
      ] in
      by (stays_by keep (edge_in found.0.axiom.body) found.0.axiom.sides (flags_left (take place.0 (axioms_of entries)) flags)) (stays_at keep (axioms_of entries) flags place.0 found.0.axiom (axiom_at place.0 found.0 place.1))

  pub reach_same : ReachIsSame (axioms_of before.entries) (axioms_of (flagged (stays_of keep (axioms_of before.entries) flags) before.entries))
  reach_same a b = (
    reach_stays names apart (axioms_of before.entries) (axioms_of (flagged (stays_of keep (axioms_of before.entries) flags) before.entries)) es (stands_within names es (edges_of (axioms_of before.entries)) stands) less (numbered_by (axioms_of before.entries) names es stands)
        (λ one here. ⊎_elim (λ stays. inl stays) (λ goes. inr (λ sub super says. one_edge one goes sub super says)) (stays_or_goes one here)) a b,
    reach_more (axioms_of before.entries) (axioms_of (flagged (stays_of keep (axioms_of before.entries) flags) before.entries)) less a b,
  )
    where
      one_edge : (one : Axiom) → Goes (axioms_of before.entries) keep one → (sub super : List ℕ) → one.body ≡ edge sub super → IsRedundant (axioms_of before.entries) sub super
      one_edge one goes sub super says =
          let p : Pair = (goes.sub, goes.super) in
          let q : Pair = (sub, super) in
          let same : p ≡ q = some_same p q (sym (ap edge_in goes.says ∙ edge_said goes.sub goes.super) ∙ ap edge_in says ∙ edge_said sub super) in
          subst (λ (r : Pair). IsRedundant (axioms_of before.entries) r.0 r.1) same goes.redundant

  pub entailed : AreEntailedBy (axioms_of before.entries) (axioms_of (flagged (stays_of keep (axioms_of before.entries) flags) before.entries))
  entailed one here i model =
      ⊎_elim
      (λ stays. model.each one stays)
      (λ goes.
      let e : IsEdge (axioms_of before.entries) goes.sub goes.super = record { one = one; stands = here; says = goes.says } in
      let walk : Reach (axioms_of before.entries) goes.sub goes.super = go e stay in
      subst (Satisfies i) (sym goes.says) (reach_entails (axioms_of (flagged (stays_of keep (axioms_of before.entries) flags) before.entries)) goes.sub goes.super ((reach_same goes.sub goes.super).0 walk) i model))
      (stays_or_goes one here)

  pub both_kept : KeepBoth (axioms_of before.entries) (axioms_of (flagged (stays_of keep (axioms_of before.entries) flags) before.entries))
  both_kept = taking_entailed_keeps (axioms_of before.entries) (axioms_of (flagged (stays_of keep (axioms_of before.entries) flags) before.entries)) less entailed

length_axioms : (entries : List Entry) → length (axioms_of entries) ≡ length entries
length_axioms [] = refl
length_axioms (e ∷ entries) = ap suc (length_axioms entries)

pub stays_long : (entries : List Entry) (keep : Bool) (flags stays : List Bool) → stays ≡ stays_of keep (axioms_of entries) flags → length stays ≡ length entries
stays_long entries keep flags by_flags is = ap length is ∙ stays_length keep (axioms_of entries) flags ∙ length_axioms entries

pub fewer : (before after : OntologyState) (stays : List Bool) (n m : ℕ) → after ≡ record before { entries = flagged stays before.entries } → n ≡ length before.entries → m ≡ length after.entries → m ≤ n
fewer before after stays n m is one other =
    let h : length after.entries ≡ length (flagged stays before.entries) = ap (λ (o : OntologyState). length o.entries) is in
    let l : length (flagged stays before.entries) ≤ length before.entries = flagged_length stays before.entries in
    omega (arith, h, l, one, other)

counted_back : (n m p q : ℕ) → m ≤ n → n ≡ p → m ≡ q → (n - m) + q ≡ p
counted_back n m p q low one other = omega (arith, low, one, other)

-- all that a call says
pub record Reduced (before after : OntologyState) (keep : Bool) (count : ℕ) : Type 0 where
  pub reduced : Reduces before after keep count
  pub reach : ReachIsSame (axioms_of before.entries) (axioms_of after.entries)
  pub entailed : AreEntailedBy (axioms_of before.entries) (axioms_of after.entries)
  pub keeps : KeepBoth (axioms_of before.entries) (axioms_of after.entries)

pub reduced_by : (before after : OntologyState) (names : List (List ℕ)) (es : Edges) (flags stays : List Bool) (keep : Bool) (n m : ℕ) → StandFor names es (edges_of (axioms_of before.entries)) → AreApart names → number_redundant.AreRedundant es flags
    → stays ≡ stays_of keep (axioms_of before.entries) flags → after ≡ record before { entries = flagged stays before.entries } → n ≡ length before.entries → m ≡ length after.entries → Reduced before after keep (n - m)
reduced_by before after names es flags stays keep n m stands apart are flagged_by is one other =
    let made = stays_of keep (axioms_of before.entries) flags in
    let entries_is : axioms_of after.entries ≡ axioms_of (flagged made before.entries) = ap (λ (o : OntologyState). axioms_of o.entries) is ∙ ap (λ fs. axioms_of (flagged fs before.entries)) flagged_by in
    record {
      reduced = record {
        stays = made;
        long = stays_long before.entries keep flags made refl;
        kept = kept before names es flags keep stands apart are;
        gone = gone before names es flags keep stands apart are;
        is = is ∙ (λ i. record before { entries = flagged (flagged_by i) before.entries });
        counted = counted_back n m (length before.entries) (length after.entries) (fewer before after stays n m is one other) one other;
      };
      reach = subst (ReachIsSame (axioms_of before.entries)) (sym entries_is) (reach_same before names es flags keep stands apart are);
      entailed = subst (AreEntailedBy (axioms_of before.entries)) (sym entries_is) (entailed before names es flags keep stands apart are);
      keeps = subst (KeepBoth (axioms_of before.entries)) (sym entries_is) (both_kept before names es flags keep stands apart are);
    }
