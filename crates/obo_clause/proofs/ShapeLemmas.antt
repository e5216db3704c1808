-- A tag that no frame kind has is foreign in each.
use Rattle.std.proofs.Common.{◌≡◌, ℕ, ◌+◌, Bool, true, false, ◌||◌, cond, List, [], ◌∷◌, ◌++◌, Option, Some, None, is_some, IsTrue, refl, sym, ap, ◌∙◌}
use Rattle.std.specs.List.{list_any, position, position_from}
use Rattle.std.specs.Option.{SomeIff}
use Rattle.std.specs.Str.{bytes_eq}
use Rattle.std.proofs.lemmas.Bool.{false_from_ne_true}
use Rattle.std.proofs.lemmas.Iterator.Adapters.{position_from-zero}
use Rattle.std.proofs.lemmas.List.Folds.{list_any-append}
use Rattle.obo_tags.specs.declared.kind.FrameKind.{FrameKind}
use Rattle.obo_tags.specs.declared.kind.FrameKind.TheVariants.{Header, Instance, Term, Typedef}
use Rattle.obo_tags.specs.declared.kind.ValueShape.TheVariants.{Raw}
use Rattle.obo_tags.specs.Table.{is_among, is_known, shape_behind, shape_in, tags_of}

some-from : (p : List ℕ → Bool) (i : ℕ) (tags : List (List ℕ)) → is_some (position_from p i tags) ≡ list_any p tags
some-from p i [] = refl
some-from p i (tag ∷ tags) =
    elim (p tag) as (λ b. is_some (cond b (Some i) (position_from p (i + 1) tags)) ≡ (b || list_any p tags)) [ true ↦ refl | false ↦ some-from p (i + 1) tags ]

placed : (tags : List (List ℕ)) (tag : List ℕ) → is_some (position (λ one. bytes_eq one tag) tags) ≡ is_among tags tag
placed tags tag =
    ap is_some (position_from-zero (λ one. bytes_eq one tag) tags) ∙ some-from (λ one. bytes_eq one tag) 0 tags

four : (a b c d : Bool) → (a || b || c || d) ≡ false → (a ≡ false) × (b ≡ false) × (c ≡ false) × (d ≡ false)
four true true true true h = cc
four true true true false h = cc
four true true false true h = cc
four true true false false h = cc
four true false true true h = cc
four true false true false h = cc
four true false false true h = cc
four true false false false h = cc
four false true true true h = cc
four false true true false h = cc
four false true false true h = cc
four false true false false h = cc
four false false true true h = cc
four false false true false h = cc
four false false false true h = cc
four false false false false h = (refl, refl, refl, refl)

known-is : (tag : List ℕ) → is_known tag ≡ (is_among (tags_of Header) tag || is_among (tags_of Term) tag || is_among (tags_of Typedef) tag || is_among (tags_of Instance) tag)
unfolding is_known
known-is tag =
    let p : List ℕ → Bool = λ one. bytes_eq one tag in
    list_any-append p (tags_of Header ++ tags_of Term ++ tags_of Typedef) (tags_of Instance)
    ∙ ap (λ b. b || list_any p (tags_of Instance)) (list_any-append p (tags_of Header ++ tags_of Term) (tags_of Typedef)
    ∙ ap (λ b. b || list_any p (tags_of Typedef)) (list_any-append p (tags_of Header) (tags_of Term)))

apart-in : (tag : List ℕ) → is_known tag ≡ false → (is_among (tags_of Header) tag ≡ false) × (is_among (tags_of Term) tag ≡ false) × (is_among (tags_of Typedef) tag ≡ false) × (is_among (tags_of Instance) tag ≡ false)
apart-in tag h =
    four (is_among (tags_of Header) tag) (is_among (tags_of Term) tag) (is_among (tags_of Typedef) tag) (is_among (tags_of Instance) tag) (sym (known-is tag) ∙ h)

foreign-in : (kind : FrameKind) (tag : List ℕ) → is_known tag ≡ false → is_among (tags_of kind) tag ≡ false
foreign-in Header tag h = (apart-in tag h).0
foreign-in Term tag h = (apart-in tag h).1
foreign-in Typedef tag h = (apart-in tag h).2
foreign-in Instance tag h = (apart-in tag h).3

pub shape_in-unknown : (kind : FrameKind) (tag : List ℕ) → is_known tag ≡ false → shape_in kind tag ≡ Raw
shape_in-unknown kind tag h = rw (placed (tags_of kind) tag ∙ foreign-in kind tag h) refl

-- the shape of the value behind a tag, by what is known of the tag
pub shape_behind-found : (kind : FrameKind) (tag : List ℕ) (found : Option (List ℕ)) → SomeIff found (IsTrue (is_known tag)) tag → shape_behind kind found ≡ shape_in kind tag
shape_behind-found kind tag None h = sym (shape_in-unknown kind tag (false_from_ne_true _ h))
shape_behind-found kind tag (Some one) h = ap (shape_in kind) h.1
