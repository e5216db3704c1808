-- The laws of the normal form.
use Rattle.std.proofs.Common.{◌≡◌, ℕ, Bool, true, false, not, ◌&&◌, ◌||◌, List, [], ◌++◌, codes, map, Option, None, Some, inl, inr, ⊎_elim, refl, sym, ap, subst, ◌∙◌}
use Rattle.std.specs.List.{filter, filter_map}
use Rattle.std.specs.Option.{option_map, option_map_or}
use Rattle.std.specs.Str.{bytes_eq}
use Rattle.std.proofs.lemmas.Bool.{and_parts, both_ways}
use Rattle.iri_map.specs.Ontology.{name_or_temp, normalised}
use Rattle.text_sets.proofs.SetLemmas.{In-from_filter, In-from_filter_map, In-from_map, In-map, same_append, same_refl, same_trans}
use Rattle.text_sets.specs.Sets.{In, SameMembers}
use Rattle.text_sets.specs.Sorted.{sorted_by}
use Rattle.text_sets.proofs.PartLemmas.{option_map_some}
use Rattle.text_sets.proofs.SortedLemmas.{sorted_by-only}
use Rattle.obo_frames.specs.Framed.{Framed}
use Rattle.obo_notes.specs.Context.{where_true, writing_in}
use Rattle.obo_mapping.specs.Documents.{has_tag, header_with, is_header, is_import, is_misfit, is_of_metadata, is_other_name, is_raw, is_said_elsewhere, is_untranslatable, kept, kept_with, name_of, names_in, norm, owl, situation_of, space_of, spaced, spelled, word_in}
use Rattle.obo_normal_form.specs.NormLaws.{IsWhole, NormOfAxioms, NormOnce, NormSays, OwlSpaced}
use Rattle.obo_mapping.proofs.SaidSingly.{owl_singly}
use Rattle.obo_mapping.proofs.DocumentLaw.{name_clause}
use Rattle.obo_normal_form.proofs.FormedAxioms.{formed}
use Rattle.obo_notes.proofs.Guards.{same_bytes, where_true_some}
use Rattle.obo_normal_form.proofs.NormLaw as law
use Rattle.obo_mapping.proofs.OfSet.{spelled_of_set}
use Rattle.obo_normal_form.proofs.OwlCases as source
use Rattle.obo_mapping.proofs.SinglesLaw.{first_part-among}
use Rattle.obo_mapping.proofs.SpacedLaws.{same_spaced, spaced_again}

pub norm_says : NormSays
norm_says d sound = let both = law.norm_says d sound (formed d sound) in record { name = both.0; axioms = both.1 }

pub norm_once : NormOnce
norm_once d sound = law.norm_once d sound (formed d sound)

-- ---- documents without what is kept

fourth : (a b c e : Bool) → (a || b || c || e) ≡ false → e ≡ false
fourth false false false e is = is
fourth true b c e is = let h : true ≡ false = is in absurd (cc)
fourth false true c e is = let h : true ≡ false = is in absurd (cc)
fourth false false true e is = let h : true ≡ false = is in absurd (cc)

nothing : {X : Type 0} (xs : List X) → ((x : X) → In x xs → ⊥) → SameMembers xs []
nothing xs none x = ((λ here. none x here), (λ here. absurd here))

module _ (d : List Framed) (whole : IsWhole d) where
  nothing_kept : SameMembers (kept d) []
  unfolding kept
  nothing_kept = nothing (kept d) (λ x here.
      let keeps = λ (one : Framed). (is_import one || is_untranslatable d one) && not (is_said_elsewhere one) in
      let f = In-from_map _ x (filter keeps d) here in
      let found = In-from_filter keeps f.0 d f.1 in
      let parts = and_parts (is_import f.0 || is_untranslatable d f.0) (not (is_said_elsewhere f.0)) found.1 in
      let import = whole.alone f.0 found.0 in let free = whole.translated f.0 found.0 in
      both_ways (is_import f.0 || is_untranslatable d f.0) (λ i. import i || free i) parts.0)

  no_kept : {X : Type 0} (tag : List ℕ) (h : Framed → Option X) → SameMembers (filter_map h (kept_with d tag)) []
  no_kept tag h = nothing (filter_map h (kept_with d tag)) (λ x here.
      let f = In-from_filter_map h x (kept_with d tag) here in
      let found = In-from_filter (λ (one : Framed). has_tag tag one && not (is_raw one.clause.value) && is_untranslatable d one) f.0 d f.1 in
      let parts = and_parts (has_tag tag f.0 && not (is_raw f.0.clause.value)) (is_untranslatable d f.0) found.1 in
      both_ways (is_untranslatable d f.0) (whole.translated f.0 found.0) parts.1)

  pub owl_spaced : SameMembers (spaced [] [] (owl d)) (owl d)
  owl_spaced =
      let for = source.spaces d in let texts = source.defaults d in
      let A = spaced for texts (source.said_in d) in
      subst (λ o. SameMembers (spaced [] [] o) o) (sym (owl_singly d))
      (same_trans (spaced [] [] A) (spaced for texts A) A
      (same_spaced [] for [] texts A A (back for (no_kept (codes "namespace") _)) (back texts (no_kept (codes "default-namespace") _)) (same_refl A))
      (spaced_again for texts (source.said_in d)))
    where
      back : {X : Type 0} (xs : List X) → SameMembers xs [] → SameMembers [] xs
      back xs same x = ((same x).1, (same x).0)

  -- all its names are its name
  one_name : (n : List ℕ) → In n (names_in d) → name_of d ≡ Some n
  unfolding is_untranslatable
  one_name n here =
      let f = In-from_filter_map (λ one. where_true (is_header one && has_tag (codes "ontology") one) (option_map normalised (word_in one.clause.value))) n d here in
      let test = where_true_some (is_header f.0 && has_tag (codes "ontology") f.0) (option_map normalised (word_in f.0.clause.value)) n f.2 in
      let word = option_map_some normalised (word_in f.0.clause.value) n test.1 in
      let free = fourth (is_misfit f.0) _ (is_of_metadata (situation_of d) f.0) (is_other_name d f.0) (whole.translated f.0 f.1) in
      by_name (name_of d) n word.0 word.2 (other f.0 n word.0 test.0 word.1 free)
    where
      other : (f : Framed) (n word : List ℕ) → (is_header f && has_tag (codes "ontology") f) ≡ true → word_in f.clause.value ≡ Some word → is_other_name d f ≡ false → option_map_or (bytes_eq (normalised word)) (name_of d) false ≡ true
      other f n word test has free =
          not_false (option_map_or (bytes_eq (normalised word)) (name_of d) false)
          (sym (λ i. test i && option_map_or (λ word. not (option_map_or (bytes_eq (normalised word)) (name_of d) false)) (has i) false) ∙ free)
        where
          not_false : (b : Bool) → not b ≡ false → b ≡ true
          not_false true is = refl
          not_false false is = let h : true ≡ false = is in absurd (cc)

      by_name : (o : Option (List ℕ)) (n word : List ℕ) → normalised word ≡ n → option_map_or (bytes_eq (normalised word)) o false ≡ true → o ≡ Some n
      by_name None n word same is = let h : false ≡ true = is in absurd (cc)
      by_name (Some m) n word same is = ap Some (sym (same_bytes (normalised word) m is) ∙ same)

name_among : (d : List Framed) (n : List ℕ) → name_of d ≡ Some n → In n (names_in d)
name_among d n is = sorted_by-only (λ (t : List ℕ). t) (names_in d) n (first_part-among (sorted_by (λ (t : List ℕ). t) (names_in d)) n is)

header_half : (some others : List (List ℕ)) → ((n : List ℕ) → In n some → In n others) → (f : Framed) → In f (header_with some) → In f (header_with others)
header_half some others each f here =
    ⊎_elim (λ first. inl first) (λ later. inr (let n = In-from_map name_clause f some later in subst (λ g. In g (map name_clause others)) n.2 (In-map name_clause n.0 others (each n.0 n.1)))) here

pub norm_of_axioms : NormOfAxioms
unfolding norm
norm_of_axioms d e whole also says =
    let to : (n : List ℕ) → In n (names_in d) → In n (names_in e) = λ n here. name_among e n (sym says.name ∙ one_name d whole n here) in
    let from : (n : List ℕ) → In n (names_in e) → In n (names_in d) = λ n here. name_among d n (says.name ∙ one_name e also n here) in
    let none : SameMembers (kept d) (kept e) = λ f. ((λ h. absurd ((nothing_kept d whole f).0 h)), (λ h. absurd ((nothing_kept e also f).0 h))) in
    let same : SameMembers (spelled (writing_in (space_of d)) (owl d)) (spelled (writing_in (space_of e)) (owl e)) =
    subst (λ s. SameMembers (spelled (writing_in (space_of d)) (owl d)) (spelled (writing_in s) (owl e))) (ap name_or_temp says.name) (spelled_of_set (writing_in (space_of d)) (owl d) (owl e) says.axioms) in
    same_append (header_with (names_in d)) (kept d ++ spelled (writing_in (space_of d)) (owl d)) (header_with (names_in e)) (kept e ++ spelled (writing_in (space_of e)) (owl e))
    (λ f. (header_half (names_in d) (names_in e) to f, header_half (names_in e) (names_in d) from f))
    (same_append (kept d) (spelled (writing_in (space_of d)) (owl d)) (kept e) (spelled (writing_in (space_of e)) (owl e)) none same)

pub owl_is_spaced : OwlSpaced
owl_is_spaced d whole = owl_spaced d whole
