-- What the loops over rows, qualifiers and clauses have done, turn by turn.
use Rattle.std.proofs.Common.{◌≡◌, ℕ, Bool, true, false, not, ◌+◌, ◌<◌, ◌≤◌, List, [], ◌∷◌, ◌++◌, Option, if◌then◌else◌, map, length, get_or, take, refl, sym, ap, ◌∙◌, append_assoc, take_all}
use Rattle.std.specs.List.{flat_map}
use Rattle.std.specs.Option.{option_and_then, option_map, option_or}
use Rattle.std.specs.Prelude.{filter}
use Rattle.std.proofs.lemmas.Grind.{flat_map-append}
use Rattle.text_sets.specs.Parts.{each_some, first_some}
use Rattle.obo_clause.specs.declared.clause.Qualifier.{Qualifier}
use Rattle.obo_notes.specs.Keys.{is_reserved_key, side_of_qualifier}
use Rattle.obo_notes.proofs.LoopLemmas.{next_taken}
use Rattle.obo_statements.specs.Extras.{annotations_of}
use Rattle.obo_statements.specs.inner.Sides.{annotation_of}

pub first_some-map : {X Y Z : Type 0} (f : Y → Option Z) (g : X → Y) (xs : List X) → first_some f (map g xs) ≡ first_some (λ x. f (g x)) xs
first_some-map f g [] = refl
first_some-map f g (x ∷ xs) = ap (option_or (f (g x))) (first_some-map f g xs)

pub each_some-map : {X Y Z : Type 0} (f : Y → Option Z) (g : X → Y) (xs : List X) → each_some f (map g xs) ≡ each_some (λ x. f (g x)) xs
each_some-map f g [] = refl
each_some-map f g (x ∷ xs) = ap (λ more. option_and_then (λ y. option_map (λ ys. y ∷ ys) more) (f (g x))) (each_some-map f g xs)

-- the annotations of joined qualifiers
annotation_more : (b : Bool) (q : Qualifier) (others : List Qualifier) → map side_of_qualifier (if not b then q ∷ others else others) ≡ (if b then [] else side_of_qualifier q ∷ []) ++ map side_of_qualifier others
annotation_more true q others = refl
annotation_more false q others = refl

pub annotations_each : (qualifiers : List Qualifier) → annotations_of qualifiers ≡ flat_map annotation_of qualifiers
annotations_each [] = refl
annotations_each (q ∷ qualifiers) =
    annotation_more (is_reserved_key q.key) q (filter (λ (one : Qualifier). not (is_reserved_key one.key)) qualifiers)
    ∙ ap (λ more. annotation_of q ++ more) (annotations_each qualifiers)

-- ---- what each item brings is appended

append_nothing : {Y : Type 0} (ys : List Y) → ys ++ [] ≡ ys
append_nothing [] = refl
append_nothing (y ∷ ys) = ap (λ more. y ∷ more) (append_nothing ys)

flat_more : {X Y : Type 0} (f : X → List Y) (xs : List X) (x : X) → flat_map f (xs ++ x ∷ []) ≡ flat_map f xs ++ f x
flat_more f xs x = flat_map-append f xs (x ∷ []) ∙ ap (λ ys. flat_map f xs ++ ys) (append_nothing (f x))

pub brought_more : {X Y : Type 0} (f : X → List Y) (xs : List X) (at : ℕ) (x : X) (before held after : List Y) → at < length xs → x ≡ get_or xs at x → held ≡ before ++ flat_map f (take at xs) → after ≡ held ++ f x → after ≡ before ++ flat_map f (take (at + 1) xs)
brought_more f xs at x before held after within is so_far next =
    let told = ap (flat_map f) (next_taken xs at x within is) ∙ flat_more f (take at xs) x in
    next ∙ ap (λ ys. ys ++ f x) so_far ∙ append_assoc before (flat_map f (take at xs)) (f x) ∙ sym (ap (λ ys. before ++ ys) told)

pub brought_all : {X Y : Type 0} (f : X → List Y) (xs : List X) (at : ℕ) (before held : List Y) → length xs ≤ at → held ≡ before ++ flat_map f (take at xs) → held ≡ before ++ flat_map f xs
brought_all f xs at before held ended so_far = so_far ∙ ap (λ ys. before ++ flat_map f ys) (take_all at xs ended)
