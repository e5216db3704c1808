-- The namespaces of frames without one: given by the sets of axioms and of what is kept; given once, they are given.
use Rattle.std.proofs.Common.{◌≡◌, ℕ, Bool, true, not, ◌&&◌, List, [], ◌++◌, codes, map, Option, Some, ⊎_elim, refl, sym, ap, subst, ◌∙◌}
use Rattle.std.specs.List.{filter, filter_map, flat_map, list_any}
use Rattle.std.specs.Option.{option_to_list}
use Rattle.std.proofs.lemmas.Bool.{both_ways, cases_Bool, not-true}
use Rattle.iri_map.proofs.CandidateLemmas.{bytes_eq-refl}
use Rattle.owl_axioms.specs.declared.annotation.NoteValue.TheVariants as noted
use Rattle.owl_axioms.specs.declared.body.Axiom.{Axiom}
use Rattle.owl_axioms.specs.declared.body.Body.TheVariants as body
use Rattle.owl_axioms.specs.declared.name.Kind.{Kind}
use Rattle.owl_axioms.specs.declared.name.Kind.TheVariants as kinds
use Rattle.owl_axioms.specs.declared.name.Name.{Name}
use Rattle.text_sets.proofs.SortedLemmas.{same_sorted}
use Rattle.text_sets.proofs.SetLemmas.{In-append, In-append_left, In-append_right, In-filter, In-filter_map, In-flat_map, In-from_filter, In-from_filter_map, In-from_flat_map, In-from_map, In-map, same_append, same_filter_map}
use Rattle.text_sets.specs.Sets.{In, SameMembers}
use Rattle.text_sets.specs.Sorted.{sorted_by}
use Rattle.obo_mapping.specs.Axioms.{same_kind}
use Rattle.obo_notes.specs.Context.{where_true}
use Rattle.obo_mapping.specs.Documents.{declared_in, default_in, is_namespace, same_name, spaced}
use Rattle.obo_notes.specs.Forms.{first_part}
use Rattle.obo_notes.specs.Vocabulary.{own_property}
use Rattle.obo_mapping.proofs.OfSet.{any_from_in, any_same, in_from_any}

-- the note of a namespace
abbrev pub spacing : List ℕ → Name → Axiom
spacing text name = record { body = body.Note name (own_property (codes "hasOBONamespace")) (noted.Text text); sides = [] }

abbrev pub lacks : List Name → Name → Bool
lacks have name = not (list_any (same_name name) have)

abbrev pub added : List Name → List Axiom → List ℕ → List Axiom
added have axioms text = map (spacing text) (filter (lacks have) (filter_map declared_in axioms))

abbrev pub default_of : List (List ℕ) → List Axiom → Option (List ℕ)
default_of kept axioms = first_part (sorted_by (λ (t : List ℕ). t) (kept ++ filter_map default_in axioms))

same_default : (kept kept' : List (List ℕ)) (a b : List Axiom) → SameMembers kept kept' → SameMembers a b → default_of kept a ≡ default_of kept' b
same_default kept kept' a b one other =
    ap first_part (same_sorted (kept ++ filter_map default_in a) (kept' ++ filter_map default_in b) (same_append kept (filter_map default_in a) kept' (filter_map default_in b) one (same_filter_map default_in a b other)))

-- one of the added notes
pub record IsAdded (have : List Name) (axioms : List Axiom) (o : Option (List ℕ)) (a : Axiom) : Type 0 where
  pub text : List ℕ
  pub name : Name
  pub is_default : In text (option_to_list o)
  pub declared : In name (filter_map declared_in axioms)
  pub lacking : lacks have name ≡ true
  pub same : spacing text name ≡ a

pub is_added : (have : List Name) (axioms : List Axiom) (o : Option (List ℕ)) (a : Axiom) → In a (flat_map (added have axioms) (option_to_list o)) → IsAdded have axioms o a
is_added have axioms o a here =
    let text = In-from_flat_map (added have axioms) a (option_to_list o) here in
    let name = In-from_map (spacing text.0) a (filter (lacks have) (filter_map declared_in axioms)) text.2 in
    let found = In-from_filter (lacks have) name.0 (filter_map declared_in axioms) name.1 in
    record { text = text.0; name = name.0; is_default = text.1; declared = found.0; lacking = found.1; same = name.2 }

as_added : (have : List Name) (axioms : List Axiom) (o : Option (List ℕ)) (a : Axiom) → IsAdded have axioms o a → In a (flat_map (added have axioms) (option_to_list o))
as_added have axioms o a is =
    subst (λ x. In x (flat_map (added have axioms) (option_to_list o))) is.same
    (In-flat_map (added have axioms) (spacing is.text is.name) (option_to_list o) is.text is.is_default
    (In-map (spacing is.text) is.name (filter (lacks have) (filter_map declared_in axioms)) (In-filter (lacks have) is.name (filter_map declared_in axioms) is.declared is.lacking)))

half : (have have' : List Name) (a b : List Axiom) (o o' : Option (List ℕ)) (x : Axiom) → SameMembers have have' → SameMembers a b → o ≡ o'
    → In x (flat_map (added have a) (option_to_list o)) → In x (flat_map (added have' b) (option_to_list o'))
half have have' a b o o' x one other same here =
    let is = is_added have a o x here in
    as_added have' b o' x (record {
      text = is.text;
      name = is.name;
      is_default = subst (λ (p : Option (List ℕ)). In is.text (option_to_list p)) same is.is_default;
      declared = (same_filter_map declared_in a b other is.name).0 is.declared;
      lacking = sym (ap not (any_same (same_name is.name) have have' one)) ∙ is.lacking;
      same = is.same;
    })

module _ (for for' : List Name) (kept kept' : List (List ℕ)) (a b : List Axiom) where
  pub same_spaced : SameMembers for for' → SameMembers kept kept' → SameMembers a b → SameMembers (spaced for kept a) (spaced for' kept' b)
  unfolding spaced
  same_spaced names texts axioms =
      let have = for ++ filter_map is_namespace a in
      let have' = for' ++ filter_map is_namespace b in
      let same = same_append for (filter_map is_namespace a) for' (filter_map is_namespace b) names (same_filter_map is_namespace a b axioms) in
      let o = same_default kept kept' a b texts axioms in
      same_append a (flat_map (added have a) (option_to_list (default_of kept a))) b (flat_map (added have' b) (option_to_list (default_of kept' b))) axioms (λ x. (
        (λ here. half have have' a b (default_of kept a) (default_of kept' b) x same axioms o here),
        (λ here. half have' have b a (default_of kept' b) (default_of kept a) x (λ n. ((same n).1, (same n).0)) (λ n. ((axioms n).1, (axioms n).0)) (sym o) here),
      ))

-- ---- once more

same_kind-refl : (kind : Kind) → same_kind kind kind ≡ true
same_kind-refl kinds.Class = refl
same_kind-refl kinds.Role = refl
same_kind-refl kinds.Individual = refl
same_kind-refl kinds.AnnotationProperty = refl

same_name-refl : (name : Name) → same_name name name ≡ true
same_name-refl name = (λ i. same_kind-refl name.kind i && bytes_eq-refl name.iri i)

spacing_is_namespace : (text : List ℕ) (name : Name) → is_namespace (spacing text name) ≡ Some name
spacing_is_namespace text name = ap (λ t. where_true t (Some name)) (bytes_eq-refl (own_property (codes "hasOBONamespace")))

module _ (for : List Name) (kept : List (List ℕ)) (a : List Axiom) where
  all : List Axiom
  all = a ++ flat_map (added (for ++ filter_map is_namespace a) a) (option_to_list (default_of kept a))

  -- what is added has no default and declares nothing
  only_old : {Y : Type 0} (f : Axiom → Option Y) → ((text : List ℕ) (name : Name) (y : Y) → f (spacing text name) ≡ Some y → ⊥) → SameMembers (filter_map f all) (filter_map f a)
  unfolding all
  only_old f never y = (
    (λ here.
        let x = In-from_filter_map f y all here in
        ⊎_elim
        (λ old. In-filter_map f y a x.0 old x.2)
        (λ new. let is = is_added (for ++ filter_map is_namespace a) a (default_of kept a) x.0 new in absurd (never is.text is.name y (ap f is.same ∙ x.2)))
        (In-append x.0 a (flat_map (added (for ++ filter_map is_namespace a) a) (option_to_list (default_of kept a))) x.1)),
    (λ here. let x = In-from_filter_map f y a here in In-filter_map f y all x.0 (In-append_left x.0 a (flat_map (added (for ++ filter_map is_namespace a) a) (option_to_list (default_of kept a))) x.1) x.2),
  )

  nothing_more : (x : Axiom) → IsAdded (for ++ filter_map is_namespace all) all (default_of kept all) x → ⊥
  unfolding all
  nothing_more x is =
      let have = for ++ filter_map is_namespace a in
      let same : default_of kept all ≡ default_of kept a =
      ap first_part (same_sorted (kept ++ filter_map default_in all) (kept ++ filter_map default_in a) (same_append kept (filter_map default_in all) kept (filter_map default_in a) (λ y. ((λ h. h), (λ h. h))) (only_old default_in (λ text name y none. Rattle.std.proofs.lemmas.Option.none-some y none)))) in
      let text = subst (λ (p : Option (List ℕ)). In is.text (option_to_list p)) same is.is_default in
      let declared = (only_old declared_in (λ text name y none. Rattle.std.proofs.lemmas.Option.none-some y none) is.name).0 is.declared in
      let lacking = not-true (list_any (same_name is.name) (for ++ filter_map is_namespace all)) is.lacking in
      let more = flat_map (added have a) (option_to_list (default_of kept a)) in
      ⊎_elim
      (λ had.
      let n = in_from_any (same_name is.name) have had in
      let there = ⊎_elim
      (λ h. In-append_left n.0 for (filter_map is_namespace all) h)
      (λ h. let s = In-from_filter_map is_namespace n.0 a h in In-append_right n.0 for (filter_map is_namespace all) (In-filter_map is_namespace n.0 all s.0 (In-append_left s.0 a more s.1) s.2))
      (In-append n.0 for (filter_map is_namespace a) n.1) in
      both_ways (list_any (same_name is.name) (for ++ filter_map is_namespace all)) lacking (any_from_in (same_name is.name) (for ++ filter_map is_namespace all) n.0 there n.2))
      (λ hadnt.
      let new = as_added have a (default_of kept a) (spacing is.text is.name) (record { text = is.text; name = is.name; is_default = text; declared = declared; lacking = ap not hadnt; same = refl }) in
      let there = In-append_right is.name for (filter_map is_namespace all) (In-filter_map is_namespace is.name all (spacing is.text is.name) (In-append_right (spacing is.text is.name) a more new) (spacing_is_namespace is.text is.name)) in
      both_ways (list_any (same_name is.name) (for ++ filter_map is_namespace all)) lacking (any_from_in (same_name is.name) (for ++ filter_map is_namespace all) is.name there (same_name-refl is.name)))
      (cases_Bool (list_any (same_name is.name) have))

  pub spaced_again : SameMembers (spaced for kept (spaced for kept a)) (spaced for kept a)
  unfolding spaced all
  spaced_again x = (
    (λ here. ⊎_elim (λ old. old) (λ new. absurd (nothing_more x (is_added (for ++ filter_map is_namespace all) all (default_of kept all) x new)))
        (In-append x all (flat_map (added (for ++ filter_map is_namespace all) all) (option_to_list (default_of kept all))) here)),
    (λ here. In-append_left x all (flat_map (added (for ++ filter_map is_namespace all) all) (option_to_list (default_of kept all))) here),
  )
