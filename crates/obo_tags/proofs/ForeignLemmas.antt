-- A tag that a frame kind has is never read as a foreign one.
use Rattle.std.proofs.Common.{◌≡◌, ◌↔◌, ℕ, ◌+◌, Bool, true, false, ◌||◌, cond, List, [], ◌∷◌, None, Option, Some, is_some, position, refl, sym, ap, ◌∙◌, if◌then◌else◌}
use Rattle.std.specs.List.{list_all, position_from}
use Rattle.std.proofs.lemmas.Iterator.Adapters.{position_from-zero}
use Rattle.std.proofs.lemmas.Option.{none-some}
use Rattle.std.specs.Str.{bytes_eq}
use Rattle.obo_tags.specs.declared.kind.FrameKind.{FrameKind}
use Rattle.obo_tags.specs.declared.kind.FrameKind.TheVariants.{Header, Instance, Term, Typedef}
use Rattle.obo_tags.specs.declared.kind.ValueShape.{ValueShape}
use Rattle.obo_tags.specs.declared.kind.ValueShape.TheVariants.{Raw}
use Rattle.obo_tags.specs.Laws.{RawIfForeign}
use Rattle.obo_tags.specs.Table.{is_among, place_of, shape_of, tags_of}
use Rattle.obo_tags.proofs.TableLemmas.{among-has}

abbrev is_shaped : ValueShape → Bool
is_shaped Raw = false
is_shaped _ = true

shaped-told : (kind : FrameKind) → list_all (λ tag. is_shaped (shape_of tag)) (tags_of kind) ≡ true
unfolding tags_of shape_of
shaped-told Header = refl
shaped-told Term = refl
shaped-told Typedef = refl
shaped-told Instance = refl

found_among : (tags : List (List ℕ)) (tag : List ℕ) (i : ℕ) → is_some (position_from (λ one. bytes_eq one tag) i tags) ≡ true → is_among tags tag ≡ true
found_among [] tag i found = cc
found_among (one ∷ tags) tag i found =
    elim (bytes_eq one tag) as (λ b. is_some (cond b (Some i) (position_from (λ each. bytes_eq each tag) (i + 1) tags)) ≡ true → (b || is_among tags tag) ≡ true) [
      | true ↦ λ _. refl
      | false ↦ λ later. found_among tags tag (i + 1) later
    ] found

-- a tag that the kind has is among its tags
placed_among : (tags : List (List ℕ)) (tag : List ℕ) → is_some (position (λ one. bytes_eq one tag) tags) ≡ true → is_among tags tag ≡ true
placed_among tags tag placed =
    found_among tags tag 0 (sym (ap is_some (position_from-zero (λ one. bytes_eq one tag) tags)) ∙ placed)

not_raw : (shape : ValueShape) → is_shaped shape ≡ true → shape ≡ Raw → ⊥
not_raw shape shaped raw = let no : false ≡ true = sym (ap is_shaped raw) ∙ shaped in cc

foreign_by : (place : Option ℕ) (shape : ValueShape) → (is_some place ≡ true → is_shaped shape ≡ true) → ((if is_some place then shape else Raw) ≡ Raw) ↔ (place ≡ None)
foreign_by None shape shaped = (λ _. refl, λ _. refl)
foreign_by (Some n) shape shaped = (λ raw. absurd (not_raw shape (shaped refl) raw), λ none. absurd (none-some n (sym none)))

pub raw_if_foreign : (kind : FrameKind) (tag : List ℕ) → RawIfForeign kind tag
raw_if_foreign kind tag =
    foreign_by (place_of kind tag) (shape_of tag)
    (λ placed. among-has (λ one. is_shaped (shape_of one)) (tags_of kind) tag (shaped-told kind) (placed_among (tags_of kind) tag placed))
