-- The document with the clauses of the missing namespaces is that of the axioms with the namespaces.
use Rattle.std.proofs.Common.{◌≡◌, ◌<◌, ◌+◌, ℕ, Bool, not, ◌||◌, cond, List, [], ◌∷◌, ◌++◌, Option, None, Some, inl, ⊎_elim, append-nil, get_or, length, take, refl, sym, ap, subst, unwrap_or, ◌∙◌}
use Rattle.std.specs.List.{filter, filter_map, flat_map, list_any}
use Rattle.std.specs.Option.{option_to_list}
use Rattle.std.proofs.lemmas.Grind.{flat_map-append}
use Rattle.std.proofs.lemmas.Option.{none-some}
use Rattle.indexmap.specs.IndexSet.{IndexSet}
use Rattle.iri_map.specs.Ontology.{name_or_temp}
use Rattle.text_sets.specs.Sets.{In, SameMembers}
use Rattle.text_sets.proofs.SetLemmas.{In-append, In-append_left, In-append_right, In-filter_map, In-flat_map, In-from_filter_map, In-from_flat_map, In-from_filter, In-filter, In-map, same_append, same_refl}
use Rattle.owl_axioms.specs.declared.body.Axiom.{Axiom}
use Rattle.owl_axioms.specs.declared.name.Name.{Name}
use Rattle.obo_frames.specs.Framed.{Framed}
use Rattle.obo_frames.specs.Naming.{least_text}
use Rattle.obo_notes.specs.Context.{Writing, writing_in}
use Rattle.obo_notes.proofs.LoopLemmas.{next_taken}
use Rattle.obo_mapping.specs.Back.{back, writing_of}
use Rattle.obo_mapping.specs.Documents.{clauses_for, declared_in, default_in, header_with, is_namespace, same_name, spaced, spelled}
use Rattle.obo_mapping.proofs.OfSet.{clauses-same}
use Rattle.obo_mapping.proofs.SpacedLaws.{added, default_of, is_added, lacks}
use Rattle.obo_to_owl.proofs.LeastLemmas.{least_of_both}
use Rattle.obo_to_owl.proofs.SpacedLemmas.{name_same}
use Rattle.obo_writer.specs.inner.Missing.{all_spaced, clauses_spaced, has_name, name_eq, names_without, spacing}

-- ---- lists

pub spaced_more : {X C : Type 0} (f : X → List C) (xs : List X) (at : ℕ) (x : X) (held next : List C) → at < length xs → x ≡ get_or xs at x → held ≡ flat_map f (take at xs) → next ≡ held ++ f x → next ≡ flat_map f (take (at + 1) xs)
spaced_more f xs at x held next within is so_far more =
    more ∙ ap (λ cs. cs ++ f x) so_far ∙ ap (λ cs. flat_map f (take at xs) ++ cs) (sym (append-nil (f x))) ∙ sym (flat_map-append f (take at xs) (x ∷ [])) ∙ sym (ap (flat_map f) (next_taken xs at x within is))

filter_same : {X : Type 0} (p q : X → Bool) (xs : List X) → ((x : X) → p x ≡ q x) → filter p xs ≡ filter q xs
filter_same p q [] same = refl
filter_same p q (x ∷ xs) same = let more = filter_same p q xs same in λ i. cond (same x i) (x ∷ more i) (more i)

any_names : (x : Name) (names : List Name) → list_any (name_eq x) names ≡ list_any (same_name x) names
any_names x [] = refl
any_names x (name ∷ names) = let more = any_names x names in λ i. name_same x name i || more i

-- ---- the clauses of the program

pub spaced_by : {S : Type 0} (name : Option (List ℕ)) (axioms : List Axiom) (text place : List ℕ) (declared : List Name) (set : IndexSet Name S) (names : List Name) → place ≡ name_or_temp name → SameMembers declared (filter_map declared_in axioms)
    → ((x : Name) → has_name set x ≡ list_any (name_eq x) (filter_map is_namespace axioms)) → names ≡ filter (λ (n : Name). not (has_name set n)) (filter_map declared_in axioms)
    → all_spaced (writing_in place) declared text names ≡ all_spaced (writing_of name) (filter_map declared_in axioms) text (names_without axioms)
spaced_by name axioms text place declared set names at same known are =
    ap (λ p. all_spaced (writing_in p) declared text names) at
    ∙ (λ i. flat_map (λ (n : Name). unwrap_or (clauses-same (writing_of name) declared (filter_map declared_in axioms) same (spacing text n) i) []) names)
    ∙ ap (all_spaced (writing_of name) (filter_map declared_in axioms) text)
    (are ∙ filter_same (λ (n : Name). not (has_name set n)) (λ (n : Name). not (list_any (name_eq n) (filter_map is_namespace axioms))) (filter_map declared_in axioms) (λ n. ap not (known n)))

pub default_is : (axioms : List Axiom) (o : Option (List ℕ)) → o ≡ least_text None (filter_map default_in axioms) → default_of [] axioms ≡ o
default_is axioms o is = sym (is ∙ least_of_both [] (filter_map default_in axioms))

module _ (w : Writing) (axioms : List Axiom) where
  abbrev have : List Name
  have = filter_map is_namespace axioms

  abbrev declared : List Name
  declared = filter_map declared_in axioms

  abbrev more : List Axiom
  more = flat_map (added have axioms) (option_to_list (default_of [] axioms))

  abbrev clauses_in : List Name → Axiom → List Framed
  clauses_in names a = unwrap_or (clauses_for w names a) []

  same_declared : SameMembers declared (filter_map declared_in (axioms ++ more))
  same_declared n = (
    (λ here. let a = In-from_filter_map declared_in n axioms here in In-filter_map declared_in n (axioms ++ more) a.0 (In-append_left a.0 axioms more a.1) a.2),
    (λ here.
        let a = In-from_filter_map declared_in n (axioms ++ more) here in
        ⊎_elim
        (λ old. In-filter_map declared_in n axioms a.0 old a.2)
        (λ new. let is = is_added have axioms (default_of [] axioms) a.0 new in absurd (none-some n (ap declared_in is.same ∙ a.2)))
        (In-append a.0 axioms more a.1)),
  )

  same_clauses : (a : Axiom) → clauses_in declared a ≡ clauses_in (filter_map declared_in (axioms ++ more)) a
  same_clauses a = ap (λ (o : Option (List Framed)). unwrap_or o []) (clauses-same w declared (filter_map declared_in (axioms ++ more)) same_declared a)

  no_more : default_of [] axioms ≡ None → SameMembers (flat_map (clauses_in declared) more) []
  no_more none f = (
    (λ here.
        let a = In-from_flat_map (clauses_in declared) f more here in
        let is = is_added have axioms (default_of [] axioms) a.0 a.1 in
        subst (λ (o : Option (List ℕ)). In is.text (option_to_list o)) none is.is_default),
    (λ here. absurd here),
  )

  lacking : (n : Name) → not (list_any (name_eq n) have) ≡ lacks have n
  lacking n = ap not (any_names n have)

  one_more : (text : List ℕ) → default_of [] axioms ≡ Some text → SameMembers (flat_map (clauses_in declared) more) (all_spaced w declared text (names_without axioms))
  one_more text default f = (
    (λ here.
        let a = In-from_flat_map (clauses_in declared) f more here in
        let is = is_added have axioms (default_of [] axioms) a.0 a.1 in
        let same : text ≡ is.text = ⊎_elim (λ h. h) (λ none. absurd none) (subst (λ (o : Option (List ℕ)). In is.text (option_to_list o)) default is.is_default) in
        let among = In-filter (λ (n : Name). not (list_any (name_eq n) have)) is.name declared is.declared (lacking is.name ∙ is.lacking) in
        In-flat_map (clauses_spaced w declared text) f (names_without axioms) is.name among
        (subst (λ t. In f (clauses_in declared (spacing t is.name))) (sym same) (subst (λ (b : Axiom). In f (clauses_in declared b)) (sym is.same) a.2))),
    (λ here.
        let n = In-from_flat_map (clauses_spaced w declared text) f (names_without axioms) here in
        let found = In-from_filter (λ (n : Name). not (list_any (name_eq n) have)) n.0 declared n.1 in
        let among = In-map (spacing text) n.0 (filter (lacks have) declared) (In-filter (lacks have) n.0 declared found.0 (sym (lacking n.0) ∙ found.1)) in
        let there = In-flat_map (added have axioms) (spacing text n.0) (option_to_list (default_of [] axioms)) text (subst (λ (o : Option (List ℕ)). In text (option_to_list o)) (sym default) (inl refl)) among in
        In-flat_map (clauses_in declared) f more (spacing text n.0) there n.2),
  )

  module _ (made : List Framed) (same : SameMembers (flat_map (clauses_in declared) more) made) where
    spelled_with : SameMembers (spelled w axioms ++ made) (spelled w (spaced [] [] axioms))
    unfolding spelled spaced
    spelled_with f =
        let all = filter_map declared_in (axioms ++ more) in (
          (λ here. ⊎_elim
              (λ old.
              let a = In-from_flat_map (clauses_in declared) f axioms old in
              In-flat_map (clauses_in all) f (axioms ++ more) a.0 (In-append_left a.0 axioms more a.1) (subst (In f) (same_clauses a.0) a.2))
              (λ new.
              let a = In-from_flat_map (clauses_in declared) f more ((same f).1 new) in
              In-flat_map (clauses_in all) f (axioms ++ more) a.0 (In-append_right a.0 axioms more a.1) (subst (In f) (same_clauses a.0) a.2))
              (In-append f (flat_map (clauses_in declared) axioms) made here)),
          (λ here.
              let a = In-from_flat_map (clauses_in all) f (axioms ++ more) here in
              let has = subst (In f) (sym (same_clauses a.0)) a.2 in
              ⊎_elim
              (λ old. In-append_left f (flat_map (clauses_in declared) axioms) made (In-flat_map (clauses_in declared) f axioms a.0 old has))
              (λ new. In-append_right f (flat_map (clauses_in declared) axioms) made ((same f).0 (In-flat_map (clauses_in declared) f more a.0 new has)))
              (In-append a.0 axioms more a.1)),
        )

joined : {X : Type 0} (xs ys zs : List X) → (xs ++ ys) ++ zs ≡ xs ++ (ys ++ zs)
joined [] ys zs = refl
joined (x ∷ xs) ys zs = ap (λ more. x ∷ more) (joined xs ys zs)

whole : (name : Option (List ℕ)) (axioms : List Axiom) (made : List Framed) → SameMembers (spelled (writing_of name) axioms ++ made) (spelled (writing_of name) (spaced [] [] axioms)) → SameMembers (back name axioms ++ made) (back name (spaced [] [] axioms))
unfolding back
whole name axioms made same =
    let header = header_with (option_to_list name) in
    let w = writing_of name in
    subst (λ d. SameMembers d (header ++ spelled w (spaced [] [] axioms))) (sym (joined header (spelled w axioms) made))
    (same_append header (spelled w axioms ++ made) header (spelled w (spaced [] [] axioms)) (same_refl header) same)

pub with_none : (name : Option (List ℕ)) (axioms : List Axiom) → None ≡ least_text None (filter_map default_in axioms) → SameMembers (back name axioms ++ []) (back name (spaced [] [] axioms))
with_none name axioms is =
    let w = writing_of name in
    whole name axioms [] (spelled_with w axioms [] (no_more w axioms (default_is axioms None is)))

pub with_one : (name : Option (List ℕ)) (axioms : List Axiom) (text : List ℕ) (made : List Framed) → Some text ≡ least_text None (filter_map default_in axioms) → made ≡ all_spaced (writing_of name) (filter_map declared_in axioms) text (names_without axioms)
    → SameMembers (back name axioms ++ made) (back name (spaced [] [] axioms))
with_one name axioms text made is are =
    let w = writing_of name in
    whole name axioms made (spelled_with w axioms made (subst (SameMembers (flat_map (λ (a : Axiom). unwrap_or (clauses_for w (filter_map declared_in axioms) a) []) (flat_map (added (filter_map is_namespace axioms) axioms) (option_to_list (default_of [] axioms))))) (sym are) (one_more w axioms text (default_is axioms (Some text) is))))
