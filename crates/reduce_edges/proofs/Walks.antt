-- Walks along axioms, and along edges between numbers that stand for them.
use Rattle.std.proofs.Common.{◌≡◌, ◌⊎◌, ℕ, Bool, true, false, ◌||◌, List, [], ◌∷◌, Some, Contains, get_or, length, slice_get, inl, inr, ⊎_elim, refl, sym, ap, subst, ◌∙◌, true≢false}
use Rattle.std.specs.List.{list_any}
use Rattle.std.proofs.Math.Bool.{and-true}
use Rattle.std.proofs.lemmas.Option.{get_or_from_slice_get}
use Rattle.edge_detours.proofs.KeepLemmas.{reach_is_kept}
use Rattle.edge_detours.specs.Reach as number
use Rattle.edge_detours.specs.Reach.{AreWithin, Edges}
use Rattle.edge_detours.specs.Redundant as number_redundant
use Rattle.fact_rows.proofs.Members.{from_filter, in_filter}
use Rattle.fact_rows.specs.Member.{In}
use Rattle.std.specs.Prelude.{filter}
use Rattle.owl_axioms.proofs.Members as list
use Rattle.owl_axioms.proofs.Same.{same_axiom-true}
use Rattle.owl_axioms.specs.contracts.body.BodyEq.TheImpl.Laws as laws
use Rattle.owl_axioms.specs.contracts.body.BodyPartialEq.TheImpl as body_eq
use Rattle.owl_axioms.specs.declared.body.Axiom.{Axiom}
use Rattle.owl_axioms.specs.declared.body.Body.{Body}
use Rattle.reduce_edges.specs.Edges.{IsEdge, Reach, edge, go, stay}
use Rattle.reduce_edges.specs.Redundant.{IsRedundant, IsStrictlyBetween}
use Rattle.reduce_edges.specs.inner.Numbered.{AreApart}
use Rattle.reduce_edges.proofs.Numbers.{some_same}

-- ---- equality of bodies

abbrev same_body : Body → Body → Bool
same_body = body_eq.ghosts.eq

abbrev plain : Body → Axiom
plain said = record { body = said; sides = [] }

same_body-true : (b c : Body) → same_body b c ≡ true → b ≡ c
same_body-true b c h = ap (λ a. a.body) (same_axiom-true (plain b) (plain c) (and-true (same_body b c) ∙ h))

same_itself : (b c : Body) → b ≡ c → same_body b c ≡ true
same_itself b c is = subst (λ d. same_body b d ≡ true) is (laws.laws-law.refl b)

-- ---- tests

or_true : (b : Bool) → (b || true) ≡ true
or_true true = refl
or_true false = refl

from_any : (p : Axiom → Bool) (axioms : List Axiom) → list_any p axioms ≡ true → (one : Axiom) × list.In one axioms × (p one ≡ true)
from_any p [] h = absurd (true≢false (sym h))
from_any p (a ∷ axioms) h =
    elim (p a) as (λ b. p a ≡ b → (b || list_any p axioms) ≡ true → (one : Axiom) × list.In one (a ∷ axioms) × (p one ≡ true)) [
      | true ↦ λ is _. (a, inl refl, is)
      | false ↦ λ _ rest. let found = from_any p axioms rest in (found.0, inr found.1, found.2)
    ] refl h

-- ---- edges with numbers

pub record Numbers (names : List (List ℕ)) (es : Edges) (a c : List ℕ) : Type 0 where
  pub x : ℕ
  pub y : ℕ
  pub first : slice_get names x ≡ Some a
  pub second : slice_get names y ≡ Some c
  pub stands : In (x, y) es

pub record Names (axioms : List Axiom) (names : List (List ℕ)) (x y : ℕ) : Type 0 where
  pub a : List ℕ
  pub c : List ℕ
  pub first : slice_get names x ≡ Some a
  pub second : slice_get names y ≡ Some c
  pub stands : IsEdge axioms a c

-- the edges between numbers are those of the axioms
pub record IsNumbered (axioms : List Axiom) (names : List (List ℕ)) (es : Edges) : Type 0 where
  pub to : (a c : List ℕ) → IsEdge axioms a c → Numbers names es a c
  pub back : (x y : ℕ) → In (x, y) es → Names axioms names x y

pub record Up (names : List (List ℕ)) (es : Edges) (x : ℕ) (b : List ℕ) : Type 0 where
  pub y : ℕ
  pub named : slice_get names y ≡ Some b
  pub walk : number.Reach es x y

pub record Down (axioms : List Axiom) (names : List (List ℕ)) (a : List ℕ) (y : ℕ) : Type 0 where
  pub b : List ℕ
  pub named : slice_get names y ≡ Some b
  pub walk : Reach axioms a b

module _ (names : List (List ℕ)) (apart : AreApart names) where
  pub up : (axioms : List Axiom) (es : Edges) → IsNumbered axioms names es → (a b : List ℕ) (x : ℕ) → slice_get names x ≡ Some a → Reach axioms a b → Up names es x b
  up axioms es numbered a b x is stay = record { y = x; named = is; walk = number.stay }
  up axioms es numbered a b x is (go {b = m} e r) =
      let n = numbered.to a m e in
      let rest = up axioms es numbered m b n.y n.second r in
      record { y = rest.y; named = rest.named; walk = number.go (subst (λ z. In (z, n.y) es) (apart n.x x a n.first is) n.stands) rest.walk }

  pub down : (axioms : List Axiom) (es : Edges) → IsNumbered axioms names es → (x y : ℕ) (a : List ℕ) → slice_get names x ≡ Some a → number.Reach es x y → Down axioms names a y
  down axioms es numbered x y a is number.stay = record { b = a; named = is; walk = stay }
  down axioms es numbered x y a is (number.go {b = m} e r) =
      let n = numbered.back x m e in
      let rest = down axioms es numbered m y n.c n.second r in
      record { b = rest.b; named = rest.named; walk = go (subst (λ z. IsEdge axioms z n.c) (some_same n.a a (sym n.first ∙ is)) n.stands) rest.walk }

  pub reach_up : (axioms : List Axiom) (es : Edges) → IsNumbered axioms names es → (a b : List ℕ) (x y : ℕ) → slice_get names x ≡ Some a → slice_get names y ≡ Some b → Reach axioms a b → number.Reach es x y
  reach_up axioms es numbered a b x y is also r = let u = up axioms es numbered a b x is r in subst (number.Reach es x) (apart u.y y b u.named also) u.walk

  pub reach_down : (axioms : List Axiom) (es : Edges) → IsNumbered axioms names es → (a b : List ℕ) (x y : ℕ) → slice_get names x ≡ Some a → slice_get names y ≡ Some b → number.Reach es x y → Reach axioms a b
  reach_down axioms es numbered a b x y is also r = let d = down axioms es numbered x y a is r in subst (Reach axioms a) (some_same d.b b (sym d.named ∙ also)) d.walk

  pub redundant_up : (axioms : List Axiom) (es : Edges) → IsNumbered axioms names es → (a c : List ℕ) (x y : ℕ) → slice_get names x ≡ Some a → slice_get names y ≡ Some c → IsRedundant axioms a c → number_redundant.IsRedundant es x y
  redundant_up axioms es numbered a c x y is also (inl same) = inl (apart x y c (is ∙ ap Some same) also)
  redundant_up axioms es numbered a c x y is also (inr m) =
      let b = m.0 in let h = m.1 in
      let u = up axioms es numbered a b x is h.from in
      let between : number_redundant.IsStrictlyBetween es x u.y y = record {
        from = u.walk;
        to = reach_up axioms es numbered b c u.y y u.named also h.to;
        no_back = λ r. h.no_back (reach_down axioms es numbered b a u.y x u.named is r);
        no_return = λ r. h.no_return (reach_down axioms es numbered c b y u.y also u.named r);
      } in
      inr (u.y, between)

  pub redundant_down : (axioms : List Axiom) (es : Edges) → IsNumbered axioms names es → (a c : List ℕ) (x y : ℕ) → slice_get names x ≡ Some a → slice_get names y ≡ Some c → number_redundant.IsRedundant es x y → IsRedundant axioms a c
  redundant_down axioms es numbered a c x y is also (inl same) = inl (some_same a c (sym is ∙ ap (slice_get names) same ∙ also))
  redundant_down axioms es numbered a c x y is also (inr m) =
      let z = m.0 in let h = m.1 in
      let d = down axioms es numbered x z a is h.from in
      let between : IsStrictlyBetween axioms a d.b c = record {
        from = d.walk;
        to = reach_down axioms es numbered d.b c z y d.named also h.to;
        no_back = λ r. h.no_back (reach_up axioms es numbered d.b a z x d.named is r);
        no_return = λ r. h.no_return (reach_up axioms es numbered c d.b y z also d.named r);
      } in
      inr (d.b, between)

  -- ---- the edges that stay

  -- whether some of the axioms says the edge
  says_edge : List Axiom → ℕ × ℕ → Bool
  says_edge axioms e = list_any (λ one. same_body one.body (edge (get_or names e.0 []) (get_or names e.1 []))) axioms

  name_read : (x : ℕ) (a : List ℕ) → slice_get names x ≡ Some a → get_or names x [] ≡ a
  name_read x a is = get_or_from_slice_get names x a [] is

  any_in : (p : Axiom → Bool) (one : Axiom) (axioms : List Axiom) → list.In one axioms → p one ≡ true → list_any p axioms ≡ true
  any_in p one [] here passes = absurd here
  any_in p one (a ∷ axioms) (inl is) passes = ap (λ b. b || list_any p axioms) (ap p is ∙ passes)
  any_in p one (a ∷ axioms) (inr later) passes = ap (λ b. p a || b) (any_in p one axioms later passes) ∙ or_true (p a)

  says_if : (axioms : List Axiom) (x y : ℕ) (a c : List ℕ) → slice_get names x ≡ Some a → slice_get names y ≡ Some c → IsEdge axioms a c → says_edge axioms (x, y) ≡ true
  unfolding says_edge
  says_if axioms x y a c is also e =
      any_in (λ one. same_body one.body (edge (get_or names x []) (get_or names y []))) e.one axioms (list.In-contains e.one axioms e.stands)
      (same_itself e.one.body (edge (get_or names x []) (get_or names y [])) (e.says ∙ (λ i. edge (sym (name_read x a is) i) (sym (name_read y c also) i))))

  from_says : (axioms : List Axiom) (x y : ℕ) (a c : List ℕ) → slice_get names x ≡ Some a → slice_get names y ≡ Some c → says_edge axioms (x, y) ≡ true → IsEdge axioms a c
  unfolding says_edge
  from_says axioms x y a c is also says =
      let found = from_any (λ one. same_body one.body (edge (get_or names x []) (get_or names y []))) axioms says in
      record {
        one = found.0;
        stands = list.Contains-in found.0 axioms found.1;
        says = same_body-true found.0.body (edge (get_or names x []) (get_or names y [])) found.2 ∙ (λ i. edge (name_read x a is i) (name_read y c also i));
      }

  numbered_rest : (axioms rest : List Axiom) (es : Edges) → ((one : Axiom) → Contains rest one → Contains axioms one) → IsNumbered axioms names es → IsNumbered rest names (filter (says_edge rest) es)
  numbered_rest axioms rest es less numbered = record {
    to = λ a c e.
        let n = numbered.to a c (record { one = e.one; stands = less e.one e.stands; says = e.says }) in
        record { x = n.x; y = n.y; first = n.first; second = n.second; stands = in_filter (says_edge rest) n.stands (says_if rest n.x n.y a c n.first n.second e) };
    back = λ x y here.
        let p = from_filter (says_edge rest) es here in
        let n = numbered.back x y p.0 in
        record { a = n.a; c = n.c; first = n.first; second = n.second; stands = from_says rest x y n.a n.c n.first n.second p.1 };
  }

  -- each axiom stays, or it says a redundant edge
  abbrev pub StaysOrGoes : List Axiom → List Axiom → Type 0
  StaysOrGoes axioms rest = (one : Axiom) → Contains axioms one → Contains rest one ⊎ ((sub super : List ℕ) → one.body ≡ edge sub super → IsRedundant axioms sub super)

  kept_or_redundant : (axioms rest : List Axiom) (es : Edges) → IsNumbered axioms names es → StaysOrGoes axioms rest → (x y : ℕ) → In (x, y) es → In (x, y) (filter (says_edge rest) es) ⊎ number_redundant.IsRedundant es x y
  kept_or_redundant axioms rest es numbered each x y inside =
      let n = numbered.back x y inside in
      ⊎_elim
      (λ stays. inl (in_filter (says_edge rest) inside (says_if rest x y n.a n.c n.first n.second (record { one = n.stands.one; stands = stays; says = n.stands.says }))))
      (λ goes. inr (redundant_up axioms es numbered n.a n.c x y n.first n.second (goes n.a n.c n.stands.says)))
      (each n.stands.one n.stands.stands)

  pub reach_stays : (axioms rest : List Axiom) (es : Edges) → AreWithin (length names) es → ((one : Axiom) → Contains rest one → Contains axioms one) → IsNumbered axioms names es → StaysOrGoes axioms rest → (a b : List ℕ) → Reach axioms a b → Reach rest a b
  reach_stays axioms rest es within less numbered each a b stay = stay
  reach_stays axioms rest es within less numbered each a b (go {b = m} e r) =
      let n = numbered.to a m e in
      let u = up axioms es numbered a b n.x n.first (go e r) in
      let fs = filter (says_edge rest) es in
      let walk = reach_is_kept es fs (length names) within (kept_or_redundant axioms rest es numbered each) n.x u.y u.walk in
      reach_down rest fs (numbered_rest axioms rest es less numbered) a b n.x u.y n.first u.named walk

pub reach_more : (axioms rest : List Axiom) → ((one : Axiom) → Contains rest one → Contains axioms one) → (a b : List ℕ) → Reach rest a b → Reach axioms a b
reach_more axioms rest less a b stay = stay
reach_more axioms rest less a b (go {b = m} e r) = go (record { one = e.one; stands = less e.one e.stands; says = e.says }) (reach_more axioms rest less m b r)
