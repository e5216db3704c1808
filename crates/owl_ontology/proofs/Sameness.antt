-- Saying the same is an equivalence, and what is held after entries were added goes by the sets of axioms.
use Rattle.std.proofs.Common.{◌↔◌, ◌⊎◌, List, inl, inr, ⊎_elim, refl, sym, ◌∙◌}
use Rattle.owl_axioms.specs.declared.body.Axiom.{Axiom}
use Rattle.owl_ontology.specs.Laws.{SamenessIsEquivalence}
use Rattle.owl_ontology.specs.Ontology.{Entry, IsHeld, OntologyState, add_entries}
use Rattle.owl_ontology.specs.Same.{HoldTheSame}
use Rattle.owl_ontology.proofs.Held.{all_added_is_held, all_held_or_added, all_held_stays}

pub holds_both : (held added : List Entry) (a : Axiom) → IsHeld a (add_entries held added) ↔ IsHeld a held ⊎ IsHeld a added
holds_both held added a = (
  all_held_or_added held added a,
  λ either. ⊎_elim (λ old. all_held_stays held added a old) (λ new. all_added_is_held held added a new) either,
)

pub adding_same : (held added others more : List Entry) → HoldTheSame held others → HoldTheSame added more → HoldTheSame (add_entries held added) (add_entries others more)
adding_same held added others more one two a = (
  λ here. (holds_both others more a).1 (⊎_elim (λ old. inl ((one a).0 old)) (λ new. inr ((two a).0 new)) ((holds_both held added a).0 here)),
  λ there. (holds_both held added a).1 (⊎_elim (λ old. inl ((one a).1 old)) (λ new. inr ((two a).1 new)) ((holds_both others more a).0 there)),
)

pub sameness : (one two three : OntologyState) → SamenessIsEquivalence one two three
sameness one two three = record {
  itself = record { name = refl; axioms = λ a. (λ h. h, λ h. h) };
  turned = λ same. record { name = sym same.name; axioms = λ a. ((same.axioms a).1, (same.axioms a).0) };
  chained = λ same more. record { name = same.name ∙ more.name; axioms = λ a. (λ h. (more.axioms a).0 ((same.axioms a).0 h), λ h. (same.axioms a).1 ((more.axioms a).1 h)) };
}
