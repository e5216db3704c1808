-- The set of declared entities, entity by entity.
use Rattle.std.proofs.Common.{◌≡◌, ◌+◌, ◌&&◌, ℕ, Bool, true, false, List, [], ◌∷◌, ◌++◌, Option, None, Some, ⊎_elim, refl, sym, ap, subst, ◌∙◌, add-one, slice_get, take, nat_eq}
use Rattle.std.specs.Cmp.Lexicographic.{pointwise}
use Rattle.std.specs.List.{cons_option, filter_map, list_any}
use Rattle.std.specs.Option.{option_to_list}
use Rattle.std.specs.Str.{bytes_eq}
use Rattle.std.proofs.lemmas.Bool.{both_ways, cases_Bool, cond-false, cond-true, false_from_ne_true}
use Rattle.std.proofs.lemmas.List.Elements.{filter_map-append}
use Rattle.indexmap.specs.IndexSet.{insert_key}
use Rattle.iri_map.proofs.CandidateLemmas.{bytes_eq-refl}
use Rattle.owl_axioms.proofs.Adding.{take_suc}
use Rattle.owl_axioms.proofs.Same.{Tells, both, same_bytes}
use Rattle.owl_axioms.specs.contracts.name.KindPartialEq.TheImpl as kind_eq
use Rattle.owl_axioms.specs.contracts.name.NamePartialEq.TheImpl as name_eq
use Rattle.owl_axioms.specs.declared.body.Axiom.{Axiom}
use Rattle.owl_axioms.specs.declared.name.Kind.{Kind}
use Rattle.owl_axioms.specs.declared.name.Kind.TheVariants as kind
use Rattle.owl_axioms.specs.declared.name.Name.{Name}
use Rattle.text_sets.specs.Sets.{In, SameMembers}
use Rattle.text_sets.proofs.SetLemmas.{In-append, In-append_left, same_append, same_refl, same_trans}
use Rattle.obo_mapping.specs.Axioms.{is_declared, same_kind}
use Rattle.obo_mapping.specs.Documents.{declared_in}
use Rattle.obo_mapping.proofs.OfSet.{in_from_any}

-- whether two entities are one, as `==` tells it
abbrev pub same_name : Name → Name → Bool
same_name = name_eq.ghosts.eq

kinds_turned : (k l : Kind) → kind_eq.ghosts.eq k l ≡ same_kind l k
kinds_turned kind.Class kind.Class = refl
kinds_turned kind.Role kind.Role = refl
kinds_turned kind.Individual kind.Individual = refl
kinds_turned kind.AnnotationProperty kind.AnnotationProperty = refl
kinds_turned _ _ = refl

kinds_tell : Tells kind_eq.ghosts.eq
kinds_tell kind.Class kind.Class h = refl
kinds_tell kind.Role kind.Role h = refl
kinds_tell kind.Individual kind.Individual h = refl
kinds_tell kind.AnnotationProperty kind.AnnotationProperty h = refl
kinds_tell k l h = let no : false ≡ true = h in absurd (cc)

texts_turned : (x y : List ℕ) → bytes_eq x y ≡ bytes_eq y x
texts_turned x y =
    ⊎_elim
    (λ is. is ∙ sym (ap (λ z. bytes_eq y z) (same_bytes x y is) ∙ bytes_eq-refl y))
    (λ isnt. isnt ∙ sym (false_from_ne_true (bytes_eq y x) (λ is. both_ways (bytes_eq x y) isnt (ap (λ z. bytes_eq x z) (same_bytes y x is) ∙ bytes_eq-refl x))))
    (cases_Bool (bytes_eq x y))

names_tell : Tells same_name
names_tell x y h =
    let parts : (kind_eq.ghosts.eq x.kind y.kind ≡ true) × (pointwise nat_eq x.iri y.iri ≡ true) = both _ _ h in
    λ i. record { kind = kinds_tell x.kind y.kind parts.0 i; iri = same_bytes x.iri y.iri parts.1 i }

-- the look-up is the test
pub looked_up : (declared : List Name) (name : Name) → list_any (same_name name) declared ≡ is_declared declared name
looked_up declared name = λ i. list_any (λ (one : Name). kinds_turned name.kind one.kind i && texts_turned name.iri one.iri i) declared

-- one more entity
pub one_added : (names : List Name) (name : Name) → SameMembers (insert_key same_name names name) (names ++ name ∷ [])
one_added names name =
    ⊎_elim
    (λ held. subst (λ ks. SameMembers ks (names ++ name ∷ [])) (sym (cond-true (list_any (same_name name) names) names (names ++ name ∷ []) held)) (λ n. (
      In-append_left n names (name ∷ []),
      (λ here. ⊎_elim (λ among. among) (λ last. ⊎_elim (λ same. let found = in_from_any (same_name name) names held in subst (λ m. In m names) (sym (names_tell name found.0 found.2) ∙ same) found.1) (λ none. absurd none) last) (In-append n names (name ∷ []) here)),
    )))
    (λ isnt. subst (λ ks. SameMembers ks (names ++ name ∷ [])) (sym (cond-false (list_any (same_name name) names) names (names ++ name ∷ []) isnt)) (same_refl (names ++ name ∷ [])))
    (cases_Bool (list_any (same_name name) names))

-- what one more axiom declares
one_more : (axioms : List Axiom) (at : ℕ) (one : Axiom) → slice_get axioms at ≡ Some one → filter_map declared_in (take (at + 1) axioms) ≡ filter_map declared_in (take at axioms) ++ option_to_list (declared_in one)
one_more axioms at one is =
    ap (λ n. filter_map declared_in (take n axioms)) (add-one at) ∙ ap (filter_map declared_in) (take_suc axioms at one is) ∙ filter_map-append declared_in (take at axioms) (one ∷ [])
    ∙ ap (λ more. filter_map declared_in (take at axioms) ++ more) (last (declared_in one))
  where
    last : (o : Option Name) → cons_option o [] ≡ option_to_list o
    last None = refl
    last (Some name) = refl

pub declared_more : (axioms : List Axiom) (at : ℕ) (one : Axiom) (names next : List Name) → slice_get axioms at ≡ Some one → SameMembers names (filter_map declared_in (take at axioms)) → SameMembers next (names ++ option_to_list (declared_in one)) → SameMembers next (filter_map declared_in (take (at + 1) axioms))
declared_more axioms at one names next is so_far more =
    subst (SameMembers next) (sym (one_more axioms at one is)) (same_trans next (names ++ option_to_list (declared_in one)) (filter_map declared_in (take at axioms) ++ option_to_list (declared_in one)) more
    (same_append names (option_to_list (declared_in one)) (filter_map declared_in (take at axioms)) (option_to_list (declared_in one)) so_far (same_refl (option_to_list (declared_in one)))))
