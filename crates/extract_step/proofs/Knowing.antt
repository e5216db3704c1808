-- Which IRIs are known, axiom by axiom, and how many are not.
use Rattle.std.proofs.Common.{◌≡◌, ℕ, ◌+◌, ◌≤◌, zero, suc, Bool, true, false, ◌&&◌, ◌||◌, if◌then◌else◌, List, [], ◌∷◌, ◌++◌, Some, slice_get, take, length, refl, sym, ap, ◌∙◌, arith, true≢false}
use Rattle.std.specs.List.{list_any}
use Rattle.std.specs.Str.{bytes_eq}
use Rattle.std.proofs.lemmas.List.{take_more}
use Rattle.std.proofs.lemmas.List.Folds.{list_any-append}
use Rattle.std.proofs.lemmas.Option.{get_or_from_slice_get, slice_get_within}
use Rattle.extract_step.specs.Known.{declares, has_iri, missing_count, names_iri}
use Rattle.owl_axioms.specs.Names.{body_names, listed}
use Rattle.owl_axioms.specs.Signature.{SigState, add_name, added, scope_of}
use Rattle.owl_axioms.specs.declared.body.Body.{Body}
use Rattle.owl_axioms.specs.declared.body.Body.TheVariants as body
use Rattle.owl_axioms.specs.declared.name.Kind.TheVariants as kind
use Rattle.owl_axioms.specs.declared.name.Name.{Name}
use Rattle.rel_io.proofs.Options.{none_there}
use Rattle.owl_axioms.proofs.Signatures.{scope_added}
use Rattle.owl_sem.specs.Models.{is_logical}

take_at : {X : Type 0} (xs : List X) (i : ℕ) (x : X) → slice_get xs i ≡ Some x → take (i + 1) xs ≡ take i xs ++ x ∷ []
take_at xs i x at = take_more xs i x (slice_get_within xs i x at) ∙ ap (λ y. take i xs ++ y ∷ []) (get_or_from_slice_get xs i x x at)

pub or_false : (x : Bool) → (x || false) ≡ x
or_false true = refl
or_false false = refl

-- ---- one axiom more

pub any_next : {X : Type 0} (p : X → Bool) (xs : List X) (i : ℕ) (x : X) → slice_get xs i ≡ Some x → list_any p (take (i + 1) xs) ≡ (list_any p (take i xs) || p x)
any_next p xs i x at = ap (list_any p) (take_at xs i x at) ∙ list_any-append p (take i xs) (x ∷ []) ∙ ap (λ b. list_any p (take i xs) || b) (or_false (p x))

-- ---- one IRI more

missing_append : (test : List ℕ → Bool) (xs : List (List ℕ)) (x : List ℕ) → missing_count test (xs ++ x ∷ []) ≡ missing_count test xs + (if test x then 0 else 1)
missing_append test [] x = omega arith
missing_append test (y ∷ xs) x = let rest = missing_append test xs x in omega (arith, rest)

pub missing_next : (test : List ℕ → Bool) (xs : List (List ℕ)) (i : ℕ) (x : List ℕ) → slice_get xs i ≡ Some x → missing_count test (take (i + 1) xs) ≡ missing_count test (take i xs) + (if test x then 0 else 1)
missing_next test xs i x at = ap (missing_count test) (take_at xs i x at) ∙ missing_append test (take i xs) x

most_one : (b : Bool) → (if b then 0 else 1) ≤ 1
most_one true = omega arith
most_one false = omega arith

-- with the one at a place, those before it are no more than there are
pub missing_first : (test : List ℕ → Bool) (xs : List (List ℕ)) (i : ℕ) (x : List ℕ) → slice_get xs i ≡ Some x → missing_count test (take i xs) + (if test x then 0 else 1) ≤ length xs
missing_first test [] i x at = absurd (none_there at)
missing_first test (y ∷ xs) zero x at = let one = most_one (test x) in omega (arith, one)
missing_first test (y ∷ xs) (suc i) x at = let rest = missing_first test xs i x at in let one = most_one (test y) in omega (arith, rest, one)

-- ---- names that are added

three : (a b c d e f : Bool) → ((a || d) || (b || e) || (c || f)) ≡ ((a || b || c) || (d || e || f))
three true b c d e f = refl
three false true c true e f = refl
three false true c false true f = refl
three false true c false false f = refl
three false false true true e f = refl
three false false true false true f = refl
three false false true false false f = refl
three false false false true e f = refl
three false false false false e f = refl

-- names added are known besides
pub has_added : (s : SigState) (names : List Name) (iri : List ℕ) → has_iri (scope_of (added s names)) iri ≡ (has_iri (scope_of s) iri || has_iri (listed names) iri)
has_added s names iri =
    (λ i. scope_added s names kind.Class iri i || scope_added s names kind.Role iri i || scope_added s names kind.Individual iri i)
    ∙ three (scope_of s kind.Class iri) (scope_of s kind.Role iri) (scope_of s kind.Individual iri) (listed names kind.Class iri) (listed names kind.Role iri) (listed names kind.Individual iri)

-- a logical axiom declares nothing
logical_declares : (iri : List ℕ) (said : Body) → is_logical said ≡ true → declares iri said ≡ false
unfolding declares is_logical
logical_declares iri (body.Declaration name) h = absurd (true≢false (sym h))
logical_declares iri said h = refl

-- so all that it makes known are its names
pub of_logical : (s : SigState) (said : Body) (iri : List ℕ) → is_logical said ≡ true → has_iri (scope_of (added s (body_names said))) iri ≡ (has_iri (scope_of s) iri || names_iri iri said)
of_logical s said iri logic =
    has_added s (body_names said) iri
    ∙ ap (λ b. has_iri (scope_of s) iri || b) (sym (λ i. logical_declares iri said logic i || (logic i && has_iri (listed (body_names said)) iri)))

-- and of what is not logical it is what is declared
pub of_other : (s : SigState) (said : Body) (iri : List ℕ) → is_logical said ≡ false → (has_iri (scope_of s) iri || declares iri said) ≡ (has_iri (scope_of s) iri || names_iri iri said)
of_other s said iri other =
    ap (λ b. has_iri (scope_of s) iri || b) (sym ((λ i. declares iri said || (other i && has_iri (listed (body_names said)) iri)) ∙ or_false (declares iri said)))

-- one IRI more
pub of_iri : (s : SigState) (one iri : List ℕ) → has_iri (scope_of (add_name s kind.Class one)) iri ≡ (has_iri (scope_of s) iri || bytes_eq one iri)
unfolding added listed
of_iri s one iri = has_added s (record { kind = kind.Class; iri = one } ∷ []) iri ∙ ap (λ b. has_iri (scope_of s) iri || b) (by (bytes_eq one iri))
  where
    by : (b : Bool) → ((b || false) || false || false) ≡ b
    by true = refl
    by false = refl
