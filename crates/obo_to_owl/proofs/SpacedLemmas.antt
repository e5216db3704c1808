-- The namespaces that the program adds are those of the definitions.
use Rattle.std.proofs.Common.{◌≡◌, ◌&&◌, ◌||◌, ◌∙◌, ℕ, Bool, true, false, not, cond, List, [], ◌∷◌, ◌++◌, codes, Option, None, Some, map, inl, inr, refl, sym, ap, subst}
use Rattle.std.specs.List.{cons_option, filter_map, flat_map, list_all, list_any}
use Rattle.std.specs.Option.{option_to_list}
use Rattle.std.specs.Prelude.{filter}
use Rattle.std.specs.Str.{bytes_eq}
use Rattle.std.proofs.lemmas.Bool.{and_from, and_parts}
use Rattle.indexmap.specs.IndexMap.{IndexMap}
use Rattle.indexmap.specs.IndexSet.{IndexSet}
use Rattle.text_sets.specs.Sets.{In}
use Rattle.text_sets.proofs.SetLemmas.{In-from_filter, In-from_filter_map}
use Rattle.owl_axioms.specs.Proper.{AreProper, IsProper, are_proper_sides, is_proper, is_proper_body, is_proper_name, is_proper_value, rises}
use Rattle.owl_axioms.specs.contracts.name.KindPartialEq.TheImpl as kind_eq
use Rattle.owl_axioms.specs.declared.body.Axiom.{Axiom}
use Rattle.owl_axioms.specs.declared.name.Kind.{Kind}
use Rattle.owl_axioms.specs.declared.name.Kind.TheVariants as kinds
use Rattle.owl_axioms.specs.declared.name.Name.{Name}
use Rattle.owl_ontology.specs.Ontology.{axioms_of}
use Rattle.obo_frames.specs.Framed.{Framed}
use Rattle.obo_notes.specs.Context.{where_true}
use Rattle.obo_notes.proofs.ProperSides.{own_clean}
use Rattle.obo_mapping.specs.Axioms.{entity_of, same_kind}
use Rattle.obo_mapping.specs.Documents.{declared_in, default_in, has_tag, is_namespace, is_raw, is_untranslatable, kept_with, same_name, situation_of, space_of, text_in}
use Rattle.obo_mapping.proofs.SpacedLaws.{added, default_of, lacks}
use Rattle.obo_mapping.proofs.SpelledLaw.{declared_name}
use Rattle.obo_to_owl.specs.inner.Known.{IsKnown}
use Rattle.obo_to_owl.specs.inner.Left.{is_left}
use Rattle.obo_to_owl.specs.inner.Rows.{AreRead, of_row}
use Rattle.obo_to_owl.specs.inner.Spacing.{default_found, default_kept, entry_named, entry_spaced, has_name, is_spaced, least_onto, line_for, line_in, name_eq, name_kept, names_left, option_or_zero, spaces_in, spaces_with, spacing}
use Rattle.obo_to_owl.specs.declared.rows.Row.{Row}
use Rattle.obo_to_owl.specs.declared.situation.Situation.{Situation}
use Rattle.obo_to_owl.proofs.LeastLemmas.{least_of_both}
use Rattle.obo_to_owl.proofs.Linking.{entity_is, left_known}
use Rattle.obo_to_owl.proofs.SpaceLemmas.{any_join}

-- ---- lists

filter_same : {X : Type 0} (p q : X → Bool) (xs : List X) → ((x : X) → p x ≡ q x) → filter p xs ≡ filter q xs
filter_same p q [] same = refl
filter_same p q (x ∷ xs) same = let more = filter_same p q xs same in λ i. cond (same x i) (x ∷ more i) (more i)

map_same : {X Y : Type 0} (f g : X → Y) (xs : List X) → ((x : X) → f x ≡ g x) → map f xs ≡ map g xs
map_same f g [] same = refl
map_same f g (x ∷ xs) same = let more = map_same f g xs same in λ i. same x i ∷ more i

one_by_one : {X Y : Type 0} (f : X → Y) (xs : List X) → flat_map (λ x. f x ∷ []) xs ≡ map f xs
one_by_one f [] = refl
one_by_one f (x ∷ xs) = ap (λ ys. f x ∷ ys) (one_by_one f xs)

nothing_more : {X : Type 0} (xs : List X) → xs ++ [] ≡ xs
nothing_more [] = refl
nothing_more (x ∷ xs) = ap (λ more. x ∷ more) (nothing_more xs)

-- ---- what is added, as the program finds it

pub spaces_are : {S T : Type 0} (file : ℕ) (s : Situation) (rows left : List Row) (axioms : List Axiom) (text : List ℕ) (spaced : IndexSet Name S) (lines : IndexMap Name ℕ T) (names : List Name) → ((x : Name) → has_name spaced x ≡ is_spaced s left axioms x)
    → names ≡ filter (λ name. not (has_name spaced name)) (filter_map declared_in axioms) → ((x : Name) → line_in lines x ≡ least_onto None (filter_map (line_for s x) rows))
    → flat_map (λ name. entry_spaced file text lines name ∷ []) names ≡ spaces_with file s rows left axioms text ++ []
spaces_are file s rows left axioms text spaced lines names known are lined =
    one_by_one (entry_spaced file text lines) names
    ∙ map_same (entry_spaced file text lines) (entry_named file s rows text) names (λ name. ap (λ line. Rattle.obo_to_owl.specs.inner.Adding.entry_at (spacing name text) file (option_or_zero line)) (lined name))
    ∙ ap (map (entry_named file s rows text)) (are ∙ filter_same (λ name. not (has_name spaced name)) (λ name. not (is_spaced s left axioms name)) (filter_map declared_in axioms) (λ name. ap not (known name)))
    ∙ sym (nothing_more (spaces_with file s rows left axioms text))

-- and it is proper
all_of : {X : Type 0} (p : X → Bool) (xs : List X) (x : X) → list_all p xs ≡ true → In x xs → p x ≡ true
all_of p [] x all here = absurd here
all_of p (y ∷ xs) x all (inl same) = ap p (sym same) ∙ (and_parts (p y) (list_all p xs) all).0
all_of p (y ∷ xs) x all (inr later) = all_of p xs x (and_parts (p y) (list_all p xs) all).1 later

pub spacing_proper : (axioms : List Axiom) (p : Name → Bool) (names : List Name) → names ≡ filter p (filter_map declared_in axioms) → AreProper axioms → (name : Name) (text : List ℕ) → In name names → IsProper (spacing name text)
unfolding is_proper is_proper_body is_proper_value are_proper_sides rises
spacing_proper axioms p names are proper name text here =
    let found = In-from_filter p name (filter_map declared_in axioms) (subst (In name) are here) in
    let a = In-from_filter_map declared_in name axioms found.0 in
    let parts = and_parts (is_proper_body a.0.body) (are_proper_sides a.0.sides) (all_of is_proper axioms a.0 proper a.1) in
    let clean : is_proper_name name ≡ true = sym (ap is_proper_body (declared_name a.0 name a.2)) ∙ parts.0 in
    and_from _ _ (and_from _ _ (and_from _ _ clean (own_clean (codes "hasOBONamespace") refl)) refl) refl

-- ---- names, as both compare them

kind_same : (one other : Kind) → kind_eq.ghosts.eq one other ≡ same_kind one other
kind_same kinds.Class kinds.Class = refl
kind_same kinds.Class kinds.Role = refl
kind_same kinds.Class kinds.Individual = refl
kind_same kinds.Class kinds.AnnotationProperty = refl
kind_same kinds.Role kinds.Class = refl
kind_same kinds.Role kinds.Role = refl
kind_same kinds.Role kinds.Individual = refl
kind_same kinds.Role kinds.AnnotationProperty = refl
kind_same kinds.Individual kinds.Class = refl
kind_same kinds.Individual kinds.Role = refl
kind_same kinds.Individual kinds.Individual = refl
kind_same kinds.Individual kinds.AnnotationProperty = refl
kind_same kinds.AnnotationProperty kinds.Class = refl
kind_same kinds.AnnotationProperty kinds.Role = refl
kind_same kinds.AnnotationProperty kinds.Individual = refl
kind_same kinds.AnnotationProperty kinds.AnnotationProperty = refl

pub name_same : (one other : Name) → name_eq one other ≡ same_name one other
name_same one other = ap (λ b. b && bytes_eq one.iri other.iri) (kind_same one.kind other.kind)

any_names : (x : Name) (names : List Name) → list_any (name_eq x) names ≡ list_any (same_name x) names
any_names x [] = refl
any_names x (name ∷ names) = let more = any_names x names in λ i. name_same x name i || more i

-- ---- what is kept of clauses that are not translated

kept_step : {X Y Z : Type 0} (f : X → Option Z) (g : Y → Option Z) (x : X) (y : Y) (xs : List X) (ys : List Y) (a b : Bool) → f x ≡ where_true a (g y) → filter_map f xs ≡ filter_map g ys
    → filter_map f (cond b (x ∷ xs) xs) ≡ filter_map g (cond (a && b) (y ∷ ys) ys)
kept_step f g x y xs ys true true one more = λ i. cons_option (one i) (more i)
kept_step f g x y xs ys false true one more = ap (λ o. cons_option o (filter_map f xs)) one ∙ more
kept_step f g x y xs ys true false one more = more
kept_step f g x y xs ys false false one more = more

module _ (rows : List Row) (s : Situation) (known : IsKnown rows s) (read : AreRead (space_of (map of_row rows)) rows) where
  abbrev d : List Framed
  d = map of_row rows

  kept_same : {Z : Type 0} (tag : List ℕ) (f : Row → Option Z) (g : Framed → Option Z) → ((row : Row) → In row rows → f row ≡ where_true (has_tag tag (of_row row) && not (is_raw row.placed.now.clause.value)) (g (of_row row)))
      → (some : List Row) → ((row : Row) → In row some → In row rows) → filter_map f (filter (is_left s) some) ≡ filter_map g (filter (λ (one : Framed). has_tag tag one && not (is_raw one.clause.value) && is_untranslatable d one) (map of_row some))
  kept_same tag f g each [] among = refl
  kept_same tag f g each (row ∷ some) among =
      let one = of_row row in
      let here = among row (inl refl) in
      let test = λ (one : Framed). has_tag tag one && not (is_raw one.clause.value) && is_untranslatable d one in
      ap (λ b. filter_map f (cond b (row ∷ filter (is_left s) some) (filter (is_left s) some))) (left_known rows s known read row here)
      ∙ kept_step f g row one (filter (is_left s) some) (filter test (map of_row some)) (has_tag tag one && not (is_raw one.clause.value)) (is_untranslatable d one) (each row here) (kept_same tag f g each some (λ r later. among r (inr later)))

  abbrev pub left : List Row
  left = filter (is_left s) rows

  abbrev pub names_kept : List Name
  names_kept = filter_map (λ (one : Framed). entity_of (situation_of (map of_row rows)) one.frame one.id) (kept_with (map of_row rows) (codes "namespace"))

  abbrev pub defaults_kept : List (List ℕ)
  defaults_kept = filter_map (λ (one : Framed). text_in one.clause.value) (kept_with (map of_row rows) (codes "default-namespace"))

  names_same : filter_map (name_kept s) left ≡ names_kept
  names_same =
      kept_same (codes "namespace") (name_kept s) (λ (one : Framed). entity_of (situation_of d) one.frame one.id)
      (λ row here. ap (where_true (has_tag (codes "namespace") (of_row row) && not (is_raw row.placed.now.clause.value))) (entity_is rows s known read row here)) rows (λ row here. here)

  defaults_same : filter_map default_kept left ≡ defaults_kept
  defaults_same = kept_same (codes "default-namespace") default_kept (λ (one : Framed). text_in one.clause.value) (λ row here. refl) rows (λ row here. here)

  -- ---- the namespaces

  default_same : (axioms : List Axiom) → default_found left axioms ≡ default_of defaults_kept axioms
  default_same axioms = least_of_both (filter_map default_kept left) (filter_map default_in axioms) ∙ ap (λ texts. default_of texts axioms) defaults_same

  spaced_same : (axioms : List Axiom) (name : Name) → not (is_spaced s left axioms name) ≡ lacks (names_kept ++ filter_map is_namespace axioms) name
  spaced_same axioms name =
      ap not ((λ i. any_names name (names_same i) i || any_names name (filter_map is_namespace axioms) i) ∙ sym (any_join (same_name name) names_kept (filter_map is_namespace axioms)))

  module _ (file : ℕ) (axioms : List Axiom) where
    abbrev have : List Name
    have = names_kept ++ filter_map is_namespace axioms

    axioms_named : (text : List ℕ) (names : List Name) → axioms_of (map (entry_named file s rows text) names) ≡ map (λ name. spacing name text) names
    axioms_named text [] = refl
    axioms_named text (name ∷ names) = ap (λ more. spacing name text ∷ more) (axioms_named text names)

    with_text : (text : List ℕ) → axioms_of (spaces_with file s rows left axioms text) ≡ added have axioms text
    with_text text =
        axioms_named text (names_left s left axioms) ∙ ap (map (λ name. spacing name text)) (filter_same (λ name. not (is_spaced s left axioms name)) (lacks have) (filter_map declared_in axioms) (spaced_same axioms))

    with_default : (o : Option (List ℕ)) → axioms_of (flat_map (spaces_with file s rows left axioms) (option_to_list o)) ≡ flat_map (added have axioms) (option_to_list o)
    with_default None = refl
    with_default (Some text) = ap axioms_of (nothing_more (spaces_with file s rows left axioms text)) ∙ with_text text ∙ sym (nothing_more (added have axioms text))

    pub spaces_said : axioms_of (spaces_in file s rows left axioms) ≡ flat_map (added have axioms) (option_to_list (default_of defaults_kept axioms))
    spaces_said = with_default (default_found left axioms) ∙ ap (λ (o : Option (List ℕ)). flat_map (added have axioms) (option_to_list o)) (default_same axioms)
