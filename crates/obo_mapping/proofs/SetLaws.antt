-- Axioms that are said one after the other.
use Rattle.std.proofs.Common.{◌≡◌, ◌⊎◌, List, ⊎_elim, sym, subst, ◌∙◌, Option, None, Some}
use Rattle.std.specs.List.{filter_map, flat_map}
use Rattle.std.proofs.lemmas.Option.{none-some, same_Some}
use Rattle.text_sets.specs.Sets.{In, SameMembers}
use Rattle.text_sets.proofs.SetLemmas.{In-filter_map, In-flat_map, In-from_filter_map, In-from_flat_map}

-- the clauses of an axiom say it, and nothing else
pub record EachSays {C A : Type 0} (say : C → Option A) (cs : List C) (a : A) : Type 0 where
  pub only : (c : C) → In c cs → (say c ≡ Some a) ⊎ (say c ≡ None)
  pub one : C
  pub among : In one cs
  pub says : say one ≡ Some a

pub singles_said : {C A : Type 0} (say : C → Option A) (spell : A → List C) (axioms : List A) → ((a : A) → In a axioms → EachSays say (spell a) a) → SameMembers (filter_map say (flat_map spell axioms)) axioms
singles_said say spell axioms each a = (
  (λ here.
      let c = In-from_filter_map say a (flat_map spell axioms) here in
      let b = In-from_flat_map spell c.0 axioms c.1 in
      ⊎_elim
      (λ is. subst (λ x. In x axioms) (same_Some b.0 a (sym is ∙ c.2)) b.1)
      (λ none. absurd (none-some a (sym none ∙ c.2)))
      ((each b.0 b.1).only c.0 b.2)),
  (λ here.
      let says = each a here in
      In-filter_map say a (flat_map spell axioms) says.one (In-flat_map spell says.one axioms a here says.among) says.says),
)
