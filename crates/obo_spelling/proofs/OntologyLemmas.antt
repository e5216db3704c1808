-- The axioms of an ontology one by one, and those that are declared.
use Rattle.std.proofs.Common.{◌≡◌, ◌+◌, ◌≤◌, ◌&&◌, ℕ, Bool, true, false, List, [], ◌∷◌, ◌++◌, Option, Some, refl, sym, ap, subst, ◌∙◌, add-one, append-nil, is_some, length, slice_get, take, take_all, unwrap_or}
use Rattle.std.specs.List.{filter_map, flat_map, list_all}
use Rattle.std.proofs.lemmas.Grind.{flat_map-append}
use Rattle.std.proofs.lemmas.List.{length-map}
use Rattle.std.proofs.lemmas.List.Folds.{list_all-append}
use Rattle.owl_axioms.proofs.Adding.{take_suc}
use Rattle.owl_axioms.specs.declared.body.Axiom.{Axiom}
use Rattle.owl_axioms.specs.declared.name.Name.{Name}
use Rattle.owl_ontology.specs.Ontology.{Entry, axioms_of}
use Rattle.text_sets.specs.Sets.{SameMembers}
use Rattle.obo_mapping.specs.Back.{spellable, writing_of}
use Rattle.obo_mapping.specs.Documents.{declared_in, spelled}
use Rattle.obo_mapping.proofs.OfSet.{clauses-same}
use Rattle.obo_spelling.specs.inner.Clauses.{are_formed, spelled_in}

next_taken : (axioms : List Axiom) (at : ℕ) (one : Axiom) → slice_get axioms at ≡ Some one → take (at + 1) axioms ≡ take at axioms ++ one ∷ []
next_taken axioms at one is = ap (λ n. take n axioms) (add-one at) ∙ take_suc axioms at one is

pub spelled_more : {C : Type 0} (f : Axiom → List C) (axioms : List Axiom) (at : ℕ) (one : Axiom) (held next : List C) → slice_get axioms at ≡ Some one → held ≡ flat_map f (take at axioms) → next ≡ held ++ f one → next ≡ flat_map f (take (at + 1) axioms)
spelled_more f axioms at one held next is so_far more =
    more ∙ ap (λ cs. cs ++ f one) so_far ∙ ap (λ cs. flat_map f (take at axioms) ++ cs) (sym (append-nil (f one))) ∙ sym (flat_map-append f (take at axioms) (one ∷ [])) ∙ sym (ap (flat_map f) (next_taken axioms at one is))

and_true : (b : Bool) → (b && true) ≡ b
and_true true = refl
and_true false = refl

pub formed_more : (p : Axiom → Bool) (axioms : List Axiom) (at : ℕ) (one : Axiom) (held next : Bool) → slice_get axioms at ≡ Some one → held ≡ list_all p (take at axioms) → next ≡ (held && p one) → next ≡ list_all p (take (at + 1) axioms)
formed_more p axioms at one held next is so_far more =
    more ∙ ap (λ b. b && p one) so_far ∙ ap (λ b. list_all p (take at axioms) && b) (sym (and_true (p one))) ∙ sym (list_all-append p (take at axioms) (one ∷ [])) ∙ sym (ap (list_all p) (next_taken axioms at one is))

pub all_taken : (entries : List Entry) (at : ℕ) → length entries ≤ at → take at (axioms_of entries) ≡ axioms_of entries
all_taken entries at ended = take_all at (axioms_of entries) (subst (λ n. n ≤ at) (sym (length-map entries (λ e. e.axiom))) ended)

-- any list of the declared entities serves
module _ (name : Option (List ℕ)) (axioms : List Axiom) (declared : List Name) (same : SameMembers declared (filter_map declared_in axioms)) where
  pub spelled_by : spelled_in (writing_of name) declared axioms ≡ spelled (writing_of name) axioms
  unfolding spelled
  spelled_by = λ i. flat_map (λ (one : Axiom). unwrap_or (clauses-same (writing_of name) declared (filter_map declared_in axioms) same one i) []) axioms

  pub formed_by : are_formed (writing_of name) declared axioms ≡ spellable name axioms
  unfolding spellable
  formed_by = λ i. list_all (λ (one : Axiom). is_some (clauses-same (writing_of name) declared (filter_map declared_in axioms) same one i)) axioms
