-- The frame of the least id, of one frame and of two.
use Rattle.std.proofs.Common.{◌≡◌, ℕ, List, [], ◌∷◌, ◌++◌, Option, None, Some, refl, ap, sym, ◌∙◌, append-nil, if◌then◌else◌}
use Rattle.std.specs.List.{cons_option, filter_map}
use Rattle.std.specs.Option.{option_to_list}
use Rattle.std.specs.declared.cmp.Ordering.{Ordering}
use Rattle.std.specs.declared.cmp.Ordering.TheVariants.{Equal, Greater, Less}
use Rattle.std.specs.Ordering.{is_lt, match_ordering}
use Rattle.owl_axioms.specs.declared.name.Kind.{Kind}
use Rattle.owl_axioms.specs.declared.name.Kind.TheVariants as kinds
use Rattle.owl_axioms.specs.declared.name.Name.{Name}
use Rattle.iri_map.specs.Candidate.{id_of}
use Rattle.text_sets.specs.Sorted.{sorted_on, text_cmp}
use Rattle.obo_notes.specs.Context.{writing_in}
use Rattle.obo_notes.specs.Forms.{first_part}
use Rattle.obo_mapping.specs.Axioms.{Home, frame_id, name_as}
use Rattle.obo_spelling.specs.inner.Homes.{least_of}

pub frame_id_is : (space : List ℕ) (name : Name) → frame_id (writing_in space) name ≡ id_of name.iri space
frame_id_is space name = by_kind name.kind name.iri
  where
    by_kind : (kind : Kind) (iri : List ℕ) → frame_id (writing_in space) (name_as kind iri) ≡ id_of iri space
    by_kind kinds.Class iri = refl
    by_kind kinds.Role iri = refl
    by_kind kinds.Individual iri = refl
    by_kind kinds.AnnotationProperty iri = refl

pub least_one : (home : Option Home) → least_of (option_to_list home) ≡ home
unfolding sorted_on
least_one None = refl
least_one (Some home) = refl

pub filter_map_next : {A B : Type 0} (f : A → Option B) (x : A) (xs : List A) → filter_map f (x ∷ xs) ≡ option_to_list (f x) ++ filter_map f xs
filter_map_next {B = B} f x xs = by_answer (f x)
  where
    by_answer : (o : Option B) → cons_option o (filter_map f xs) ≡ option_to_list o ++ filter_map f xs
    by_answer None = refl
    by_answer (Some y) = refl

-- of one entity
pub least_single : (home : Option Home) → least_of (cons_option home []) ≡ home
unfolding sorted_on
least_single None = refl
least_single (Some home) = refl

-- of two entities
pub both_homes : (f : Name → Option Home) (one other : Name) → option_to_list (f one) ++ option_to_list (f other) ≡ filter_map f (one ∷ other ∷ [])
both_homes f one other =
    ap (λ more. option_to_list (f one) ++ more) (sym (filter_map_next f other [] ∙ append-nil (option_to_list (f other)))) ∙ sym (filter_map_next f one (other ∷ []))

-- of two frames
abbrev pub lesser : Ordering → Home → Home → Home
lesser order one other = if is_lt order then one else other

pub least_two : (one other : Home) → least_of (one ∷ other ∷ []) ≡ Some (lesser (text_cmp one.id other.id) one other)
unfolding sorted_on
least_two one other = by_order (text_cmp one.id other.id)
  where
    by_order : (order : Ordering) → first_part (match_ordering order (one ∷ other ∷ []) (other ∷ []) (other ∷ one ∷ [])) ≡ Some (lesser order one other)
    by_order Less = refl
    by_order Equal = refl
    by_order Greater = refl
