-- Names, lines and texts, one more.
use Rattle.std.proofs.Common.{◌≡◌, ◌&&◌, ◌||◌, ℕ, ◌+◌, ◌<◌, ◌≤◌, Bool, true, false, not, cond, List, [], ◌∷◌, ◌++◌, Option, None, Some, length, get_or, take, drop, refl, sym, ap, ◌∙◌, add-one, drop-cons}
use Rattle.std.specs.List.{cons_option, filter_map, list_any}
use Rattle.std.specs.Option.{option_map_or, option_to_list}
use Rattle.std.specs.Prelude.{filter}
use Rattle.std.proofs.lemmas.Cmp.{nat_list_eq_equiv}
use Rattle.owl_axioms.specs.contracts.name.KindPartialEq.TheImpl as kind_eq
use Rattle.owl_axioms.specs.declared.name.Kind.{Kind}
use Rattle.owl_axioms.specs.declared.name.Kind.TheVariants as kinds
use Rattle.owl_axioms.specs.declared.name.Name.{Name}
use Rattle.obo_frames.specs.Naming.{least_text}
use Rattle.obo_notes.proofs.LoopLemmas.{next_taken}
use Rattle.obo_to_owl.specs.inner.Spacing.{least_onto, name_eq}

pub either_way : (a b : Bool) → cond a true b ≡ (a || b)
either_way true b = refl
either_way false b = refl

kind_back : (one other : Kind) → kind_eq.ghosts.eq one other ≡ kind_eq.ghosts.eq other one
kind_back kinds.Class kinds.Class = refl
kind_back kinds.Class kinds.Role = refl
kind_back kinds.Class kinds.Individual = refl
kind_back kinds.Class kinds.AnnotationProperty = refl
kind_back kinds.Role kinds.Class = refl
kind_back kinds.Role kinds.Role = refl
kind_back kinds.Role kinds.Individual = refl
kind_back kinds.Role kinds.AnnotationProperty = refl
kind_back kinds.Individual kinds.Class = refl
kind_back kinds.Individual kinds.Role = refl
kind_back kinds.Individual kinds.Individual = refl
kind_back kinds.Individual kinds.AnnotationProperty = refl
kind_back kinds.AnnotationProperty kinds.Class = refl
kind_back kinds.AnnotationProperty kinds.Role = refl
kind_back kinds.AnnotationProperty kinds.Individual = refl
kind_back kinds.AnnotationProperty kinds.AnnotationProperty = refl

pub name_back : (one other : Name) → name_eq one other ≡ name_eq other one
name_back one other = let k = kind_back one.kind other.kind in let i = nat_list_eq_equiv.symm one.iri other.iri in λ j. k j && i j

append_nothing : {Y : Type 0} (ys : List Y) → ys ++ [] ≡ ys
append_nothing [] = refl
append_nothing (y ∷ ys) = ap (λ more. y ∷ more) (append_nothing ys)

found_last : {X Y : Type 0} (f : X → Option Y) (xs : List X) (x : X) → filter_map f (xs ++ x ∷ []) ≡ filter_map f xs ++ option_to_list (f x)
found_last f [] x = elim (f x) as (λ o. cons_option o [] ≡ option_to_list o) [ None ↦ refl | Some y ↦ refl ]
found_last f (z ∷ xs) x =
    elim (f z) as (λ o. cons_option o (filter_map f (xs ++ x ∷ [])) ≡ cons_option o (filter_map f xs) ++ option_to_list (f x)) [
      | None ↦ found_last f xs x
      | Some y ↦ ap (λ ys. y ∷ ys) (found_last f xs x)
    ]

pub found_next : {X Y : Type 0} (f : X → Option Y) (xs : List X) (at : ℕ) (x : X) → at < length xs → x ≡ get_or xs at x → filter_map f (take (at + 1) xs) ≡ filter_map f (take at xs) ++ option_to_list (f x)
found_next f xs at x within is = ap (filter_map f) (next_taken xs at x within is) ∙ found_last f (take at xs) x

or_more : (a b c : Bool) → (a || (b || c)) ≡ ((a || b) || c)
or_more true b c = refl
or_more false b c = refl

or_swap : (a b : Bool) → (a || b) ≡ (b || a)
or_swap true true = refl
or_swap true false = refl
or_swap false true = refl
or_swap false false = refl

pub any_join : {X : Type 0} (p : X → Bool) (xs ys : List X) → list_any p (xs ++ ys) ≡ (list_any p xs || list_any p ys)
any_join p [] ys = refl
any_join p (z ∷ xs) ys = ap (λ b. p z || b) (any_join p xs ys) ∙ or_more (p z) (list_any p xs) (list_any p ys)

any_one : {X : Type 0} (p : X → Bool) (o : Option X) → list_any p (option_to_list o) ≡ option_map_or p o false
any_one p None = refl
any_one p (Some x) = elim (p x) as (λ b. (b || false) ≡ b) [ true ↦ refl | false ↦ refl ]

-- a name more in a set of names
pub named_next : {X : Type 0} (f : X → Option Name) (xs : List X) (at : ℕ) (x : X) (q : Name) (base held after : Bool) → at < length xs → x ≡ get_or xs at x → held ≡ (base || list_any (name_eq q) (filter_map f (take at xs)))
    → after ≡ (option_map_or (name_eq q) (f x) false || held) → after ≡ (base || list_any (name_eq q) (filter_map f (take (at + 1) xs)))
named_next f xs at x q base held after within is so_far more =
    let p = name_eq q in
    more
    ∙ or_swap (option_map_or p (f x) false) held
    ∙ ap (λ b. b || option_map_or p (f x) false) so_far
    ∙ sym (or_more base (list_any p (filter_map f (take at xs))) (option_map_or p (f x) false))
    ∙ sym (ap (λ b. base || b) (ap (list_any p) (found_next f xs at x within is) ∙ any_join p (filter_map f (take at xs)) (option_to_list (f x)) ∙ ap (λ b. list_any p (filter_map f (take at xs)) || b) (any_one p (f x))))

filter_join : {X : Type 0} (p : X → Bool) (xs ys : List X) → filter p (xs ++ ys) ≡ filter p xs ++ filter p ys
filter_join p [] ys = refl
filter_join p (z ∷ xs) ys =
    elim (p z) as (λ b. cond b (z ∷ filter p (xs ++ ys)) (filter p (xs ++ ys)) ≡ cond b (z ∷ filter p xs) (filter p xs) ++ filter p ys) [
      | true ↦ ap (λ zs. z ∷ zs) (filter_join p xs ys)
      | false ↦ filter_join p xs ys
    ]

-- and in a list of those that pass a test
pub passing_next : {X Y : Type 0} (p : Y → Bool) (f : X → Option Y) (xs : List X) (at : ℕ) (x : X) (held after : List Y) → at < length xs → x ≡ get_or xs at x → held ≡ filter p (filter_map f (take at xs)) → after ≡ held ++ filter p (option_to_list (f x)) → after ≡ filter p (filter_map f (take (at + 1) xs))
passing_next p f xs at x held after within is so_far more =
    more ∙ ap (λ ys. ys ++ filter p (option_to_list (f x))) so_far ∙ sym (ap (filter p) (found_next f xs at x within is) ∙ filter_join p (filter_map f (take at xs)) (option_to_list (f x)))

onto_join : (held : Option ℕ) (xs ys : List ℕ) → least_onto held (xs ++ ys) ≡ least_onto (least_onto held xs) ys
onto_join held [] ys = refl
onto_join held (x ∷ xs) ys = onto_join (Some (Rattle.obo_to_owl.specs.inner.Spacing.lesser_of held x)) xs ys

pub line_next : {X : Type 0} (f : X → Option ℕ) (xs : List X) (at : ℕ) (x : X) (held after : Option ℕ) → at < length xs → x ≡ get_or xs at x → held ≡ least_onto None (filter_map f (take at xs)) → after ≡ least_onto held (option_to_list (f x)) → after ≡ least_onto None (filter_map f (take (at + 1) xs))
line_next f xs at x held after within is so_far more =
    more ∙ ap (λ h. least_onto h (option_to_list (f x))) so_far ∙ sym (ap (least_onto None) (found_next f xs at x within is) ∙ onto_join None (filter_map f (take at xs)) (option_to_list (f x)))

least_split : (held : Option (List ℕ)) (o : Option (List ℕ)) (ys : List (List ℕ)) → least_text held (cons_option o ys) ≡ least_text (least_text held (option_to_list o)) ys
least_split held None ys = refl
least_split held (Some y) ys = refl

pub least_next : {X : Type 0} (f : X → Option (List ℕ)) (xs : List X) (at : ℕ) (x : X) (held after all : Option (List ℕ)) → at < length xs → x ≡ get_or xs at x → least_text held (filter_map f (drop at xs)) ≡ all → after ≡ least_text held (option_to_list (f x)) → least_text after (filter_map f (drop (at + 1) xs)) ≡ all
least_next f xs at x held after all within is so_far more =
    ap (λ n. least_text after (filter_map f (drop n xs))) (add-one at)
    ∙ ap (λ h. least_text h (filter_map f (drop (Rattle.std.proofs.Common.suc at) xs))) more
    ∙ sym (least_split held (f x) (filter_map f (drop (Rattle.std.proofs.Common.suc at) xs)))
    ∙ ap (λ y. least_text held (cons_option (f y) (filter_map f (drop (Rattle.std.proofs.Common.suc at) xs)))) is
    ∙ sym (ap (λ ys. least_text held (filter_map f ys)) (drop-cons xs at x within))
    ∙ so_far
