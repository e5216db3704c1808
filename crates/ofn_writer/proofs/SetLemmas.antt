-- Axioms that are all different: lists with the same members have the same totals, and so one text.
use Rattle.std.proofs.Common.{◌≡◌, ◌↔◌, ◌⊎◌, ◌+◌, ℕ, Bool, true, false, ◌||◌, cond, codes, List, [], ◌∷◌, ◌++◌, Option, inl, inr, ⊎_elim, map, refl, sym, ap, subst, ◌∙◌, arith, true≢false}
use Rattle.std.specs.List.{AllByRecursion, IsDistinct, flat_map, list_any}
use Rattle.std.specs.Prelude.{filter}
use Rattle.owl_axioms.specs.Names.{Scope}
use Rattle.owl_axioms.specs.Same.{same_axiom}
use Rattle.owl_axioms.specs.contracts.body.AxiomEq.TheImpl.Laws as laws
use Rattle.owl_axioms.specs.declared.body.Axiom.{Axiom}
use Rattle.owl_axioms.proofs.Members.{In}
use Rattle.ofn_writer.specs.Kinds.{declared, declares}
use Rattle.ofn_writer.specs.Sorted.{sorted}
use Rattle.ofn_writer.specs.Text.{axiom_lines, is_in_part, line, name_text, part, text_with, told_text}
use Rattle.ofn_writer.proofs.ListLemmas.{total, total-map}
use Rattle.ofn_writer.proofs.OrderLemmas.{Ascends-sorted, same_ascending, total-sorted}

abbrev AreApart : List Axiom → Type 0
AreApart [] = Unit {0}
AreApart (a ∷ axioms) = ((b : Axiom) → In b axioms → a ≡ b → ⊥) × AreApart axioms

never_in : (a : Axiom) (axioms : List Axiom) → AllByRecursion (λ b. same_axiom a b ≡ false) axioms → (b : Axiom) → In b axioms → a ≡ b → ⊥
never_in a [] all b here is = here
never_in a (c ∷ axioms) all b (inl first) is =
    let itself : same_axiom a a ≡ true = laws.laws-law.refl a in
    true≢false (sym (subst (λ x. same_axiom a x ≡ true) (is ∙ sym first) itself) ∙ all.0)
never_in a (c ∷ axioms) all b (inr later) is = never_in a axioms all.1 b later is

pub apart : (axioms : List Axiom) → IsDistinct same_axiom axioms → AreApart axioms
unfolding IsDistinct
apart [] different = tt
apart (a ∷ axioms) different = (never_in a axioms different.0, apart axioms different.1)

-- ---- one axiom taken out

-- what is left of a list when one of its axioms is taken out
record Left (a : Axiom) (axioms : List Axiom) : Type 0 where
  rest : List Axiom
  totals : (f : Axiom → ℕ) → total f axioms ≡ f a + total f rest
  apart : AreApart rest
  own : (b : Axiom) → In b rest → In b axioms × (a ≡ b → ⊥)
  each : (b : Axiom) → In b axioms → (a ≡ b) ⊎ In b rest

taken_out : (a : Axiom) (axioms : List Axiom) → AreApart axioms → In a axioms → Left a axioms
taken_out a [] different here = absurd here
taken_out a (b ∷ axioms) different (inl is) = record {
  rest = axioms;
  totals = λ f. ap (λ x. f x + total f axioms) is;
  apart = different.1;
  own = λ c later. (inr later, λ same. different.0 c later (is ∙ same));
  each = λ c there. ⊎_elim (λ first. inl (sym is ∙ first)) (λ later. inr later) there;
}
taken_out a (b ∷ axioms) different (inr later) =
    let less = taken_out a axioms different.1 later in
    record {
      rest = b ∷ less.rest;
      totals = λ f. let more : total f axioms ≡ f a + total f less.rest = less.totals f in omega arith;
      apart = ((λ c there is. different.0 c (less.own c there).0 is), less.apart);
      own = λ c there. ⊎_elim
          (λ first. (inl first, λ same. different.0 a later (first ∙ sym same)))
          (λ behind. (inr (less.own c behind).0, (less.own c behind).1))
          there;
      each = λ c there. ⊎_elim
          (λ first. inr (inl first))
          (λ behind. ⊎_elim (λ same. inl same) (λ kept. inr (inr kept)) (less.each c behind))
          there;
    }

pub same_totals : (some others : List Axiom) → AreApart some → AreApart others → ((a : Axiom) → In a some ↔ In a others) → (f : Axiom → ℕ) → total f some ≡ total f others
same_totals [] [] one other same f = refl
same_totals [] (b ∷ others) one other same f = absurd ((same b).1 (inl refl))
same_totals (a ∷ some) others one other same f =
    let left = taken_out a others other ((same a).0 (inl refl)) in
    let rest = same_totals some left.rest one.1 left.apart (λ c. (
      (λ here. ⊎_elim (λ is. absurd (one.0 c here is)) (λ kept. kept) (left.each c ((same c).0 (inr here)))),
      (λ kept. let own = left.own c kept in ⊎_elim (λ first. absurd (own.1 first)) (λ here. here) ((same c).1 own.0)),
    )) f in
    let whole : total f others ≡ f a + total f left.rest = left.totals f in
    omega arith

-- ---- tests and lines

any_in : (p : Axiom → Bool) (a : Axiom) (axioms : List Axiom) → In a axioms → p a ≡ true → list_any p axioms ≡ true
any_in p a [] here passes = absurd here
any_in p a (b ∷ axioms) (inl is) passes = ap (λ t. t || list_any p axioms) (ap p is ∙ passes)
any_in p a (b ∷ axioms) (inr later) passes = ap (λ t. p b || t) (any_in p a axioms later passes) ∙ or_true (p b)
  where
    or_true : (t : Bool) → (t || true) ≡ true
    or_true true = refl
    or_true false = refl

from_any : (p : Axiom → Bool) (axioms : List Axiom) → list_any p axioms ≡ true → (a : Axiom) × In a axioms × (p a ≡ true)
from_any p [] h = absurd (true≢false (sym h))
from_any p (b ∷ axioms) h =
    elim (p b) as (λ t. p b ≡ t → (t || list_any p axioms) ≡ true → (a : Axiom) × In a (b ∷ axioms) × (p a ≡ true)) [
      | true ↦ λ is _. (b, inl refl, is)
      | false ↦ λ _ rest. let found = from_any p axioms rest in (found.0, inr found.1, found.2)
    ] refl h

same_test : (one other : Bool) → (one ≡ true → other ≡ true) → (other ≡ true → one ≡ true) → one ≡ other
same_test true other there back = sym (there refl)
same_test false true there back = back refl
same_test false false there back = refl

same_any : (p : Axiom → Bool) (some others : List Axiom) → ((a : Axiom) → In a some ↔ In a others) → list_any p some ≡ list_any p others
same_any p some others same =
    same_test (list_any p some) (list_any p others)
    (λ h. let found = from_any p some h in any_in p found.0 others ((same found.0).0 found.1) found.2)
    (λ h. let found = from_any p others h in any_in p found.0 some ((same found.0).1 found.1) found.2)

pub same_scope : (some others : List Axiom) → ((a : Axiom) → In a some ↔ In a others) → declared some ≡ declared others
same_scope some others same = λ i k iri. same_any (λ a. declares a.body k iri) some others same i

total-filter : (p : Axiom → Bool) (f : Axiom → ℕ) (axioms : List Axiom) → total f (filter p axioms) ≡ total (λ a. cond (p a) (f a) 0) axioms
total-filter p f [] = refl
total-filter p f (a ∷ axioms) =
    elim (p a) as (λ t. total f (cond t (a ∷ filter p axioms) (filter p axioms)) ≡ cond t (f a) 0 + total (λ b. cond (p b) (f b) 0) axioms) [
      | true ↦ ap (λ n. f a + n) (total-filter p f axioms)
      | false ↦ let rest = total-filter p f axioms in omega arith
    ]

pub same_lines : (scope : Scope) (first : Bool) (some others : List Axiom) → AreApart some → AreApart others → ((a : Axiom) → In a some ↔ In a others) → axiom_lines scope (part first some) ≡ axiom_lines scope (part first others)
unfolding axiom_lines
same_lines scope first some others one other same =
    let texts = λ (axioms : List Axiom). map (told_text scope) (part first axioms) in
    let totals = λ (f : List ℕ → ℕ) (axioms : List Axiom).
    total-sorted f (texts axioms) ∙ total-map (told_text scope) f (part first axioms) ∙ total-filter (λ a. is_in_part first a.body) (λ a. f (told_text scope a)) axioms in
    ap (flat_map line)
    (same_ascending (sorted (texts some)) (sorted (texts others)) (Ascends-sorted (texts some)) (Ascends-sorted (texts others))
    (λ f. totals f some ∙ same_totals some others one other same (λ a. cond (is_in_part first a.body) (f (told_text scope a)) 0) ∙ sym (totals f others)))

pub same_text : (name another : Option (List ℕ)) (some others : List Axiom) → name ≡ another → AreApart some → AreApart others → ((a : Axiom) → In a some ↔ In a others) → text_with (declared some) name some ≡ text_with (declared others) another others
unfolding text_with
same_text name another some others named one other same =
    (λ i. text_with (same_scope some others same i) (named i) some)
    ∙ (λ i. line (codes "Ontology(" ++ name_text another) ++ same_lines (declared others) true some others one other same i ++ same_lines (declared others) false some others one other same i ++ line (codes ")"))
