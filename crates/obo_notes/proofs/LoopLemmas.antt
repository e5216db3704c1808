-- What a loop over a list has done, turn by turn.
use Rattle.std.proofs.Common.{◌≡◌, ℕ, zero, suc, ◌+◌, ◌<◌, ◌≤◌, List, [], ◌∷◌, ◌++◌, Option, None, Some, map, length, get_or, take, drop, refl, sym, ap, subst, ◌∙◌, append_assoc, add-one, arith, drop-cons, take-suc, take_all}
use Rattle.std.specs.Option.{option_and_then, option_map, option_or, option_to_list}
use Rattle.std.proofs.lemmas.List.{drop_all}
use Rattle.text_sets.specs.Parts as parts
use Rattle.text_sets.specs.Parts.{each_some, first_some, take_all_more, take_one, take_one_more}
use Rattle.obo_tags.specs.declared.kind.FrameKind.{FrameKind}
use Rattle.obo_tags.specs.declared.kind.FrameKind.TheVariants as kinds
use Rattle.obo_notes.specs.Forms.{first_part}
use Rattle.obo_notes.specs.inner.Rows.{OfAllKinds}
use Rattle.obo_notes.specs.inner.Taking.{left_after, left_by}

-- the items before the next place
pub next_taken : {X : Type 0} (xs : List X) (at : ℕ) (x : X) → at < length xs → x ≡ get_or xs at x → take (at + 1) xs ≡ take at xs ++ x ∷ []
next_taken xs at x within is = ap (λ n. take n xs) (add-one at) ∙ take-suc xs at x within ∙ ap (λ y. take at xs ++ y ∷ []) (sym is)

-- ---- items that are appended one by one

map_more : {X Y : Type 0} (f : X → Y) (xs : List X) (x : X) → map f (xs ++ x ∷ []) ≡ map f xs ++ f x ∷ []
map_more f [] x = refl
map_more f (z ∷ xs) x = ap (λ ys. f z ∷ ys) (map_more f xs x)

pub mapped_more : {X Y : Type 0} (f : X → Y) (xs : List X) (at : ℕ) (x : X) (before held after : List Y) → at < length xs → x ≡ get_or xs at x → held ≡ before ++ map f (take at xs) → after ≡ held ++ f x ∷ [] → after ≡ before ++ map f (take (at + 1) xs)
mapped_more f xs at x before held after within is so_far next =
    let told = ap (map f) (next_taken xs at x within is) ∙ map_more f (take at xs) x in
    next ∙ ap (λ ys. ys ++ f x ∷ []) so_far ∙ append_assoc before (map f (take at xs)) (f x ∷ []) ∙ sym (ap (λ ys. before ++ ys) told)

pub mapped_all : {X Y : Type 0} (f : X → Y) (xs : List X) (at : ℕ) (before held : List Y) → length xs ≤ at → held ≡ before ++ map f (take at xs) → held ≡ before ++ map f xs
mapped_all f xs at before held ended so_far = so_far ∙ ap (λ ys. before ++ map f ys) (take_all at xs ended)

-- ---- the first answer

pub first_none : {X Y : Type 0} (f : X → Option Y) (xs : List X) (at : ℕ) (d : X) (o : Option Y) → at < length xs → f (get_or xs at d) ≡ None → first_some f (drop at xs) ≡ o → first_some f (drop (at + 1) xs) ≡ o
first_none f xs at d o within none so_far =
    ap (λ n. first_some f (drop n xs)) (add-one at)
    ∙ sym (ap (λ a. option_or a (first_some f (drop (suc at) xs))) none)
    ∙ sym (ap (first_some f) (drop-cons xs at d within))
    ∙ so_far

pub first_found : {X Y : Type 0} (f : X → Option Y) (xs : List X) (at : ℕ) (d : X) (y : Y) (o : Option Y) → at < length xs → f (get_or xs at d) ≡ Some y → first_some f (drop at xs) ≡ o → Some y ≡ o
first_found f xs at d y o within some so_far =
    sym (ap (λ a. option_or a (first_some f (drop (suc at) xs))) some) ∙ sym (ap (first_some f) (drop-cons xs at d within)) ∙ so_far

pub first_missing : {X Y : Type 0} (f : X → Option Y) (xs : List X) (at : ℕ) (o : Option Y) → length xs ≤ at → first_some f (drop at xs) ≡ o → None ≡ o
first_missing f xs at o ended so_far = sym (ap (first_some f) (drop_all at xs ended)) ∙ so_far

pub of_each_kind : (P : FrameKind → Type 0) → OfAllKinds P → (kind : FrameKind) → P kind
of_each_kind P all kinds.Header = all.0
of_each_kind P all kinds.Term = all.1
of_each_kind P all kinds.Typedef = all.2
of_each_kind P all kinds.Instance = all.3

-- ---- each item as a part

more_behind : {X Y : Type 0} (part : X → Option Y) (x : X) (w : Y) (found : Option (List Y)) → option_map (λ ys. w ∷ ys) (option_and_then (λ ys. option_map (λ y. ys ++ y ∷ []) (part x)) found) ≡ option_and_then (λ ys. option_map (λ y. ys ++ y ∷ []) (part x)) (option_map (λ ys. w ∷ ys) found)
more_behind part x w None = refl
more_behind part x w (Some ys) = elim (part x) as (λ o. option_map (λ ys. w ∷ ys) (option_map (λ y. ys ++ y ∷ []) o) ≡ option_map (λ y. w ∷ ys ++ y ∷ []) o) [ None ↦ refl | Some y ↦ refl ]

each_more : {X Y : Type 0} (part : X → Option Y) (xs : List X) (x : X) → each_some part (xs ++ x ∷ []) ≡ option_and_then (λ ys. option_map (λ y. ys ++ y ∷ []) (part x)) (each_some part xs)
each_more part [] x = elim (part x) as (λ o. option_and_then (λ y. option_map (λ ys. y ∷ ys) (Some [])) o ≡ option_map (λ y. y ∷ []) o) [ None ↦ refl | Some y ↦ refl ]
each_more part (z ∷ xs) x =
    elim (part z) as (λ o. option_and_then (λ w. option_map (λ ys. w ∷ ys) (each_some part (xs ++ x ∷ []))) o ≡ option_and_then (λ ys. option_map (λ y. ys ++ y ∷ []) (part x)) (option_and_then (λ w. option_map (λ ys. w ∷ ys) (each_some part xs)) o)) [
      | None ↦ refl
      | Some w ↦ ap (option_map (λ ys. w ∷ ys)) (each_more part xs x) ∙ more_behind part x w (each_some part xs)
    ]

pub each_some-more : {X Y : Type 0} (part : X → Option Y) (xs : List X) (at : ℕ) (x : X) (held after : List Y) (y : Y) → at < length xs → x ≡ get_or xs at x → each_some part (take at xs) ≡ Some held → part x ≡ Some y → after ≡ held ++ y ∷ [] → each_some part (take (at + 1) xs) ≡ Some after
each_some-more part xs at x held after y within is so_far found next =
    ap (each_some part) (next_taken xs at x within is)
    ∙ each_more part (take at xs) x
    ∙ ap (option_and_then (λ ys. option_map (λ y. ys ++ y ∷ []) (part x))) so_far
    ∙ ap (option_map (λ y. held ++ y ∷ [])) found
    ∙ ap Some (sym next)

nothing_each : {X Y : Type 0} (o : Option X) → option_and_then (λ (x : X). let none : Option Y = None in none) o ≡ None
nothing_each None = refl
nothing_each (Some x) = refl

pub each_some-none : {X Y : Type 0} (part : X → Option Y) (xs : List X) (at : ℕ) (x : X) → at < length xs → part (get_or xs at x) ≡ None → each_some part xs ≡ None
each_some-none part [] at x within none = absurd (omega arith)
each_some-none part (z ∷ xs) zero x within none = ap (option_and_then (λ w. option_map (λ ys. w ∷ ys) (each_some part xs))) none
each_some-none {X} {Y} part (z ∷ xs) (suc at) x within none =
    let more = each_some-none part xs at x (omega arith) none in
    ap (λ o. option_and_then (λ w. option_map (λ (ys : List Y). w ∷ ys) o) (part z)) more ∙ nothing_each {X = Y} {Y = List Y} (part z)

-- ---- one item taken out

pub record IsOneTaken {X Y : Type 0} (part : X → Option Y) (xs : List X) (one : Option Y) (others : List X) : Type 0 where
  pub found : one ≡ first_part (take_one part xs).parts
  pub left : others ≡ (take_one part xs).rest

one_more_found : {X Y : Type 0} (part : X → Option Y) (xs : List X) (x : X) → first_part (take_one part (xs ++ x ∷ [])).parts ≡ option_or (first_part (take_one part xs).parts) (part x)
one_more_found part [] x = elim (part x) as (λ o. first_part (take_one_more x [] o (parts.taken [] [])).parts ≡ o) [ None ↦ refl | Some y ↦ refl ]
one_more_found part (z ∷ xs) x =
    elim (part z) as (λ o. first_part (take_one_more z (xs ++ x ∷ []) o (take_one part (xs ++ x ∷ []))).parts ≡ option_or (first_part (take_one_more z xs o (take_one part xs)).parts) (part x)) [
      | None ↦ one_more_found part xs x
      | Some y ↦ refl
    ]

one_more_left : {X Y : Type 0} (part : X → Option Y) (xs : List X) (x : X) → (take_one part (xs ++ x ∷ [])).rest ≡ (take_one part xs).rest ++ left_after (first_part (take_one part xs).parts) (part x) x
one_more_left part [] x = elim (part x) as (λ o. (take_one_more x [] o (parts.taken [] [])).rest ≡ left_by o x) [ None ↦ refl | Some y ↦ refl ]
one_more_left part (z ∷ xs) x =
    elim (part z) as (λ o. (take_one_more z (xs ++ x ∷ []) o (take_one part (xs ++ x ∷ []))).rest ≡ (take_one_more z xs o (take_one part xs)).rest ++ left_after (first_part (take_one_more z xs o (take_one part xs)).parts) (part x) x) [
      | None ↦ ap (λ ys. z ∷ ys) (one_more_left part xs x)
      | Some y ↦ refl
    ]

pub IsOneTaken-more : {X Y : Type 0} (part : X → Option Y) (xs : List X) (at : ℕ) (x : X) (one next : Option Y) (others after : List X) → at < length xs → x ≡ get_or xs at x → IsOneTaken part (take at xs) one others → next ≡ option_or one (part x) → after ≡ others ++ left_after one (part x) x → IsOneTaken part (take (at + 1) xs) next after
IsOneTaken-more part xs at x one next others after within is so_far found left =
    let done = take at xs in
    subst (λ ys. IsOneTaken part ys next after) (sym (next_taken xs at x within is)) (record {
      found = found ∙ ap (λ o. option_or o (part x)) so_far.found ∙ sym (one_more_found part done x);
      left = left ∙ (λ i. so_far.left i ++ left_after (so_far.found i) (part x) x) ∙ sym (one_more_left part done x);
    })

pub IsOneTaken-all : {X Y : Type 0} (part : X → Option Y) (xs : List X) (at : ℕ) (one : Option Y) (others : List X) → length xs ≤ at → IsOneTaken part (take at xs) one others → IsOneTaken part xs one others
IsOneTaken-all part xs at one others ended so_far = subst (λ ys. IsOneTaken part ys one others) (take_all at xs ended) so_far

-- ---- all such items taken out

pub record AreTaken {X Y : Type 0} (part : X → Option Y) (xs : List X) (found : List Y) (others : List X) : Type 0 where
  pub own : found ≡ (parts.take_all part xs).parts
  pub left : others ≡ (parts.take_all part xs).rest

all_more_own : {X Y : Type 0} (part : X → Option Y) (xs : List X) (x : X) → (parts.take_all part (xs ++ x ∷ [])).parts ≡ (parts.take_all part xs).parts ++ option_to_list (part x)
all_more_own part [] x = elim (part x) as (λ o. (take_all_more x o (parts.taken [] [])).parts ≡ option_to_list o) [ None ↦ refl | Some y ↦ refl ]
all_more_own part (z ∷ xs) x =
    elim (part z) as (λ o. (take_all_more z o (parts.take_all part (xs ++ x ∷ []))).parts ≡ (take_all_more z o (parts.take_all part xs)).parts ++ option_to_list (part x)) [
      | None ↦ all_more_own part xs x
      | Some y ↦ ap (λ ys. y ∷ ys) (all_more_own part xs x)
    ]

all_more_left : {X Y : Type 0} (part : X → Option Y) (xs : List X) (x : X) → (parts.take_all part (xs ++ x ∷ [])).rest ≡ (parts.take_all part xs).rest ++ left_by (part x) x
all_more_left part [] x = elim (part x) as (λ o. (take_all_more x o (parts.taken [] [])).rest ≡ left_by o x) [ None ↦ refl | Some y ↦ refl ]
all_more_left part (z ∷ xs) x =
    elim (part z) as (λ o. (take_all_more z o (parts.take_all part (xs ++ x ∷ []))).rest ≡ (take_all_more z o (parts.take_all part xs)).rest ++ left_by (part x) x) [
      | None ↦ ap (λ ys. z ∷ ys) (all_more_left part xs x)
      | Some y ↦ all_more_left part xs x
    ]

pub AreTaken-more : {X Y : Type 0} (part : X → Option Y) (xs : List X) (at : ℕ) (x : X) (found next : List Y) (others after : List X) → at < length xs → x ≡ get_or xs at x → AreTaken part (take at xs) found others → next ≡ found ++ option_to_list (part x) → after ≡ others ++ left_by (part x) x → AreTaken part (take (at + 1) xs) next after
AreTaken-more part xs at x found next others after within is so_far own left =
    let done = take at xs in
    subst (λ ys. AreTaken part ys next after) (sym (next_taken xs at x within is)) (record {
      own = own ∙ ap (λ ys. ys ++ option_to_list (part x)) so_far.own ∙ sym (all_more_own part done x);
      left = left ∙ ap (λ ys. ys ++ left_by (part x) x) so_far.left ∙ sym (all_more_left part done x);
    })

pub AreTaken-all : {X Y : Type 0} (part : X → Option Y) (xs : List X) (at : ℕ) (found : List Y) (others : List X) → length xs ≤ at → AreTaken part (take at xs) found others → AreTaken part xs found others
AreTaken-all part xs at found others ended so_far = subst (λ ys. AreTaken part ys found others) (take_all at xs ended) so_far
