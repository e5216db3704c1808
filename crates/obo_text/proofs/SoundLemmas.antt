-- What the clauses of a sound document are, without their lines.
use Rattle.std.proofs.Common.{Bool, List, None, Option, Some, [], ap, codes, cond, false, inl, inr, map, not, refl, subst, sym, true, ℕ, ⊎_elim, ◌&&◌, ◌∙◌, ◌≡◌, ◌⊎◌}
use Rattle.std.specs.Prelude.{Contains, ◌↔◌}
use Rattle.std.specs.Str.{bytes_eq}
use Rattle.std.proofs.lemmas.Option.{none-some}
use Rattle.std.proofs.lemmas.Slice.Eq.{bytes_eq-Decides}
use Rattle.text_sets.specs.Sets.{In}
use Rattle.obo_tags.specs.Table.{shape_in, shape_of, tags_of}
use Rattle.obo_tags.specs.declared.kind.FrameKind.{FrameKind}
use Rattle.obo_clause.specs.declared.clause.Clause.{Clause}
use Rattle.obo_clause.specs.declared.clause.Value.{Value}
use Rattle.obo_clause.specs.Spelled.{IsSpelledIn}
use Rattle.obo_clause.specs.Spelling.{shape_at}
use Rattle.obo_clause.specs.Fits.{FitBehind, Fits, FitsShape}
use Rattle.clause_printer.proofs.SpelledFits.{spelled_fits}
use Rattle.obo_frames.specs.Frames.{id_in, word_in}
use Rattle.obo_frames.specs.Soundness.{IsKept}
use Rattle.obo_frames.specs.declared.placed.Placed.{Placed}
use Rattle.obo_frames.proofs.SoundLemmas.{names_frame}
use Rattle.obo_frames.proofs.SpellingLemmas.{header_id}
use Rattle.obo_frames.specs.Framed.{Framed, framed, id_clause, unlined}
use Rattle.text_sets.proofs.SetLemmas.{In-from_contains, In-from_map, In-map, contains-from_In}
use Rattle.obo_tags.specs.declared.kind.FrameKind.TheVariants as kinds
use Rattle.obo_tags.specs.declared.kind.ValueShape.TheVariants as shapes
use Rattle.obo_clause.specs.declared.clause.Value.TheVariants as value

-- what is kept, of clauses without lines
pub record AreSound (ds : List Framed) : Type 0 where
  pub spelled : (one : Framed) → In one ds → IsSpelledIn one.frame one.clause
  pub header : (one : Framed) → In one ds → (one.frame ≡ kinds.Header) ↔ (one.id ≡ [])
  pub bare : (one : Framed) → In one ds → (id : List ℕ) → id_in one.clause ≡ Some id → one.clause ≡ id_clause one.id
  pub heads : (one : Framed) → In one ds → (one.frame ≡ kinds.Header → ⊥) → In (framed one.frame one.id (id_clause one.id)) ds

from_placed : (P : Framed → Type 0) (placed : List Placed) → ((one : Placed) → Contains placed one → P (unlined one)) → (one : Framed) → In one (map unlined placed) → P one
from_placed P placed each one here =
    let found = In-from_map unlined one placed here in
    subst P found.2 (each found.0 (contains-from_In found.0 placed found.1))

bare_is : (clause : Clause) (id own : List ℕ) → clause.tag ≡ codes "id" → clause.value ≡ value.Id id → id ≡ own → clause.qualifiers ≡ [] → clause ≡ id_clause own
bare_is clause id own tag is same none i =
    record { tag = tag i; value = (is ∙ ap value.Id same) i; qualifiers = none i }

pub sound_of : (placed : List Placed) → IsKept placed → AreSound (map unlined placed)
sound_of placed kept = record {
  spelled = from_placed (λ one. IsSpelledIn one.frame one.clause) placed kept.spelled;
  header = from_placed (λ one. (one.frame ≡ kinds.Header) ↔ (one.id ≡ [])) placed kept.header;
  bare = from_placed (λ one. (id : List ℕ) → id_in one.clause ≡ Some id → one.clause ≡ id_clause one.id) placed
      (λ one here id is. let names = names_frame one.clause id is in let bare = kept.ids one id here (record { tag = names.tag; value = names.value }) in bare_is one.clause id one.id names.tag names.value bare.same bare.bare);
  heads = from_placed (λ one. (one.frame ≡ kinds.Header → ⊥) → In (framed one.frame one.id (id_clause one.id)) (map unlined placed)) placed
      (λ one here outside. let has = kept.frames one here outside in
      let bare = kept.ids has.head one.id has.among has.gives in
      let clause = bare_is has.head.clause one.id one.id has.gives.tag has.gives.value refl bare.bare in
      subst (λ x. In x (map unlined placed)) (λ i. framed (has.kind i) (has.id i) (clause i)) (In-map unlined has.head placed (In-from_contains has.head placed has.among)));
}

-- ---- the shapes behind tags

-- an `id` clause that gives no id is foreign; every other tag has one shape, whether it is first or not
other_shape : (kind : FrameKind) (first : Bool) (tag : List ℕ) → bytes_eq tag (codes "id") ≡ false → shape_at kind first tag ≡ shape_in kind tag
other_shape kind first tag h = ap (λ b. cond (b && not first) shapes.Raw (shape_in kind tag)) h

header_shape : (first other : Bool) (tag : List ℕ) → shape_at kinds.Header first tag ≡ shape_at kinds.Header other tag
header_shape first other tag =
    elim (bytes_eq tag (codes "id")) as (λ b. bytes_eq tag (codes "id") ≡ b → shape_at kinds.Header first tag ≡ shape_at kinds.Header other tag) [
      | true ↦ λ h. (let is = (bytes_eq-Decides tag (codes "id")).0 h in ap (shape_at kinds.Header first) is ∙ header_id first ∙ sym (header_id other) ∙ ap (shape_at kinds.Header other) (sym is))
      | false ↦ λ h. other_shape kinds.Header first tag h ∙ sym (other_shape kinds.Header other tag h)
    ] refl

fits_at : (kind : FrameKind) (first other : Bool) (clause : Clause) → shape_at kind first clause.tag ≡ shape_at kind other clause.tag → Fits kind first clause → Fits kind other clause
fits_at kind first other clause same fits = record {
  some = fits.some;
  each = fits.each;
  value = subst (λ shape. FitsShape shape clause.value) same fits.value;
  qualifiers = subst (λ shape. FitBehind shape clause.qualifiers) same fits.qualifiers;
}

id_shape : (kind : FrameKind) → (kind ≡ kinds.Header → ⊥) → shape_at kind true (codes "id") ≡ shapes.Id
unfolding tags_of shape_of
id_shape kinds.Header outside = absurd (outside refl)
id_shape kinds.Term outside = refl
id_shape kinds.Typedef outside = refl
id_shape kinds.Instance outside = refl

id_value : (one : Value) → FitsShape shapes.Id one → (word : List ℕ) × (one ≡ value.Id word)
id_value (value.Id word) fits = (word, refl)
id_value (value.Text a) fits = absurd fits
id_value (value.Pair a b) fits = absurd fits
id_value (value.Bool a) fits = absurd fits
id_value (value.Def a b) fits = absurd fits
id_value (value.Synonym a b c d) fits = absurd fits
id_value (value.XrefValue a) fits = absurd fits
id_value (value.Literal a b c) fits = absurd fits
id_value (value.Link a b) fits = absurd fits
id_value (value.SubsetDef a b) fits = absurd fits
id_value (value.SynonymDef a b c) fits = absurd fits
id_value (value.Raw a) fits = absurd fits

-- a first `id` clause of a frame gives an id
gives_id : (kind : FrameKind) (clause : Clause) → (kind ≡ kinds.Header → ⊥) → Fits kind true clause → bytes_eq clause.tag (codes "id") ≡ true → id_in clause ≡ None → ⊥
gives_id kind clause outside fits h none =
    let is = (bytes_eq-Decides clause.tag (codes "id")).0 h in
    let word = id_value clause.value (subst (λ shape. FitsShape shape clause.value) (ap (shape_at kind true) is ∙ id_shape kind outside) fits.value) in
    none-some word.0 (sym none ∙ ap (λ b. cond b (word_in clause.value) None) h ∙ ap word_in word.1)

is_header_or_not : (kind : FrameKind) → (kind ≡ kinds.Header) ⊎ (kind ≡ kinds.Header → ⊥)
is_header_or_not kinds.Header = inl refl
is_header_or_not kinds.Term = inr (λ h. cc)
is_header_or_not kinds.Typedef = inr (λ h. cc)
is_header_or_not kinds.Instance = inr (λ h. cc)

later_fits_first : (kind : FrameKind) (clause : Clause) → Fits kind true clause → id_in clause ≡ None → Fits kind false clause
later_fits_first kind clause fits none =
    ⊎_elim
    (λ header. fits_at kind true false clause (subst (λ k. shape_at k true clause.tag ≡ shape_at k false clause.tag) (sym header) (header_shape true false clause.tag)) fits)
    (λ outside. elim (bytes_eq clause.tag (codes "id")) as (λ b. bytes_eq clause.tag (codes "id") ≡ b → Fits kind false clause) [
      | true ↦ λ h. absurd (gives_id kind clause outside fits h none)
      | false ↦ λ h. fits_at kind true false clause (other_shape kind true clause.tag h ∙ sym (other_shape kind false clause.tag h)) fits
    ] refl)
    (is_header_or_not kind)

later_fits_any : (kind : FrameKind) (first : Bool) (clause : Clause) → Fits kind first clause → id_in clause ≡ None → Fits kind false clause
later_fits_any kind true clause fits none = later_fits_first kind clause fits none
later_fits_any kind false clause fits none = fits

pub header_fits : (first : Bool) (clause : Clause) → Fits kinds.Header false clause → Fits kinds.Header first clause
header_fits first clause fits = fits_at kinds.Header false first clause (header_shape false first clause.tag) fits

-- ---- sound clauses

module _ (ds : List Framed) (sound : AreSound ds) where
  -- a clause that gives no id, behind the first of its frame
  pub later_fits : (one : Framed) → In one ds → id_in one.clause ≡ None → Fits one.frame false one.clause
  later_fits one here none =
      let is = sound.spelled one here in
      later_fits_any one.frame is.first one.clause (spelled_fits one.frame is.first one.clause is.spelled) none

  head_fits_at : (kind : FrameKind) (id : List ℕ) (first : Bool) → Fits kind first (id_clause id) → Fits kind true (id_clause id)
  head_fits_at kind id true fits = fits
  head_fits_at kind id false fits = absurd fits.value

  pub head_fits : (kind : FrameKind) (id : List ℕ) → In (framed kind id (id_clause id)) ds → Fits kind true (id_clause id)
  head_fits kind id here =
      let is = sound.spelled (framed kind id (id_clause id)) here in
      head_fits_at kind id is.first (spelled_fits kind is.first (id_clause id) is.spelled)

  -- a clause of the header gives no id
  none_at : (one : Framed) → In one ds → one.frame ≡ kinds.Header → (o : Option (List ℕ)) → id_in one.clause ≡ o → id_in one.clause ≡ None
  none_at one here header None is = is
  none_at one here header (Some id) is =
      let spelled = sound.spelled one here in
      let fits = spelled_fits one.frame spelled.first one.clause spelled.spelled in
      let clause = sound.bare one here id is in
      absurd (header_id_unfit spelled.first one.id (subst (λ c. Fits kinds.Header spelled.first c) clause (subst (λ k. Fits k spelled.first one.clause) header fits)))
    where
      header_id_unfit : (first : Bool) (own : List ℕ) → Fits kinds.Header first (id_clause own) → ⊥
      header_id_unfit first own fits = subst (λ shape. FitsShape shape (value.Id own)) (header_id first) fits.value

  pub header_none : (one : Framed) → In one ds → one.frame ≡ kinds.Header → id_in one.clause ≡ None
  header_none one here header = none_at one here header (id_in one.clause) refl
