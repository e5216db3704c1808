-- Signatures as sets: adding names is the union with them, and a copy has the same texts in the same order.
use Rattle.std.proofs.Common.{◌≡◌, ℕ, zero, suc, ◌+◌, add-one, take, slice_get, Some, Bool, true, false, ◌&&◌, ◌||◌, List, [], ◌∷◌, ◌++◌, cond, if◌then◌else◌, refl, sym, ap, subst, ◌∙◌, true≢false}
use Rattle.std.proofs.lemmas.Map.Keys.{IsDistinct-head, IsDistinct-tail}
use Rattle.std.specs.List.{AllByRecursion, IsDistinct, list_any}
use Rattle.std.specs.Str.{bytes_eq}
use Rattle.std.specs.Cmp.Lexicographic.{same_text}
use Rattle.owl_axioms.specs.contracts.name.KindPartialEq.TheImpl as kind_eq
use Rattle.owl_axioms.specs.declared.name.Kind.{Kind}
use Rattle.owl_axioms.specs.declared.name.Kind.TheVariants as kind
use Rattle.owl_axioms.specs.declared.name.Name.{Name}
use Rattle.owl_axioms.specs.Names.{has_meaning, listed}
use Rattle.owl_axioms.specs.SignatureLaws.{AddingIsUnion}
use Rattle.rel_io.proofs.Options.{none_there, same_there}
use Rattle.owl_axioms.proofs.Listed.{own_bytes}
use Rattle.owl_axioms.specs.Signature.{SigState, add_name, added, has_text, scope_of, with_text}

same_tests : (x y : Bool) → (x ≡ true → y ≡ true) → (y ≡ true → x ≡ true) → x ≡ y
same_tests true y there back = sym (there refl)
same_tests false true there back = back refl
same_tests false false there back = refl

turned : (x y : List ℕ) → bytes_eq x y ≡ true → bytes_eq y x ≡ true
turned x y h = subst (λ z. bytes_eq z x ≡ true) (same_text x y (sym h)) (own_bytes x)

bytes_sym : (x y : List ℕ) → bytes_eq x y ≡ bytes_eq y x
bytes_sym x y = same_tests _ _ (turned x y) (turned y x)

pub any_last : (p : List ℕ → Bool) (xs : List (List ℕ)) (x : List ℕ) → list_any p (xs ++ x ∷ []) ≡ (list_any p xs || p x)
any_last p [] x = or_false (p x)
  where
    or_false : (b : Bool) → (b || false) ≡ b
    or_false true = refl
    or_false false = refl
any_last p (y ∷ xs) x = ap (λ b. p y || b) (any_last p xs x) ∙ assoc (p y) (list_any p xs) (p x)
  where
    assoc : (a b c : Bool) → (a || (b || c)) ≡ ((a || b) || c)
    assoc true b c = refl
    assoc false b c = refl

pub has_with : (ts : List (List ℕ)) (t a : List ℕ) → has_text (with_text ts t) a ≡ (has_text ts a || bytes_eq t a)
has_with ts t a = by (has_text ts t) refl
  where
    held : (b : Bool) → (bytes_eq t a ≡ true → b ≡ true) → b ≡ (b || bytes_eq t a)
    held true h = refl
    held false h = same_tests false (bytes_eq t a) (λ q. absurd (true≢false (sym q))) (λ q. h q)

    by : (b : Bool) → has_text ts t ≡ b → has_text (cond b ts (ts ++ t ∷ [])) a ≡ (has_text ts a || bytes_eq t a)
    by true h = held (has_text ts a) (λ q. subst (λ z. has_text ts z ≡ true) (same_text t a (sym q)) h)
    by false h = any_last (bytes_eq a) ts t ∙ ap (λ b. has_text ts a || b) (bytes_sym a t)

or_none : (b : Bool) → b ≡ (b || false)
or_none true = refl
or_none false = refl

scope_add : (s : SigState) (l : Kind) (t : List ℕ) (k : Kind) (a : List ℕ) → scope_of (add_name s l t) k a ≡ (scope_of s k a || (has_meaning k && (kind_eq.ghosts.eq l k && bytes_eq t a)))
scope_add s kind.Class t kind.Class a = has_with s.classes t a
scope_add s kind.Class t kind.Role a = or_none _
scope_add s kind.Class t kind.Individual a = or_none _
scope_add s kind.Class t kind.AnnotationProperty a = refl
scope_add s kind.Role t kind.Class a = or_none _
scope_add s kind.Role t kind.Role a = has_with s.roles t a
scope_add s kind.Role t kind.Individual a = or_none _
scope_add s kind.Role t kind.AnnotationProperty a = refl
scope_add s kind.Individual t kind.Class a = or_none _
scope_add s kind.Individual t kind.Role a = or_none _
scope_add s kind.Individual t kind.Individual a = has_with s.individuals t a
scope_add s kind.Individual t kind.AnnotationProperty a = refl
scope_add s kind.AnnotationProperty t kind.Class a = or_none _
scope_add s kind.AnnotationProperty t kind.Role a = or_none _
scope_add s kind.AnnotationProperty t kind.Individual a = or_none _
scope_add s kind.AnnotationProperty t kind.AnnotationProperty a = refl

pub scope_added : (s : SigState) (names : List Name) (k : Kind) (a : List ℕ) → scope_of (added s names) k a ≡ (scope_of s k a || (has_meaning k && listed names k a))
unfolding added listed
scope_added s [] k a = by (has_meaning k) (scope_of s k a)
  where
    by : (m b : Bool) → b ≡ (b || (m && false))
    by true b = or_none b
    by false b = or_none b
scope_added s (n ∷ names) k a = scope_added (add_name s n.kind n.iri) names k a ∙ ap (λ b. b || (has_meaning k && listed names k a)) (scope_add s n.kind n.iri k a) ∙ gather (scope_of s k a) (has_meaning k) _ _
  where
    gather : (b m x y : Bool) → ((b || (m && x)) || (m && y)) ≡ (b || (m && (x || y)))
    gather true m x y = refl
    gather false true x y = refl
    gather false false x y = refl

take_suc : {X : Type 0} (xs : List X) (i : ℕ) (x : X) → slice_get xs i ≡ Some x → take (suc i) xs ≡ take i xs ++ x ∷ []
take_suc [] i x h = absurd (none_there h)
take_suc (y ∷ xs) zero x h = ap (λ w. w ∷ []) (same_there h)
take_suc (y ∷ xs) (suc i) x h = ap (λ ws. y ∷ ws) (take_suc xs i x h)

all_at : {X : Type 0} (P : X → Type 0) (xs : List X) (at : ℕ) (x : X) → AllByRecursion P xs → slice_get xs at ≡ Some x → P x
all_at P [] at x all h = absurd (none_there h)
all_at P (y ∷ xs) zero x all h = subst P (same_there h) all.0
all_at P (y ∷ xs) (suc at) x all h = all_at P xs at x all.1 h

-- a text that comes later in a list of different texts is not among the first ones
pub unlike_first : (ts : List (List ℕ)) (at : ℕ) (t : List ℕ) → IsDistinct bytes_eq ts → slice_get ts at ≡ Some t → has_text (take at ts) t ≡ false
unlike_first [] at t d h = absurd (none_there h)
unlike_first (y ∷ ts) zero t d h = refl
unlike_first (y ∷ ts) (suc at) t d h = λ i. apart i || unlike_first ts at t (IsDistinct-tail bytes_eq y ts d) h i
  where
    apart : bytes_eq t y ≡ false
    apart = bytes_sym t y ∙ all_at (λ z. bytes_eq y z ≡ false) ts at t (IsDistinct-head bytes_eq y ts d) h

-- one text more of a list of different texts, put into its copy
pub copied_next : (ts twin : List (List ℕ)) (at : ℕ) (t : List ℕ) → IsDistinct bytes_eq ts → slice_get ts at ≡ Some t → twin ≡ take at ts → with_text twin t ≡ take (at + 1) ts
copied_next ts twin at t d here h =
    ap (λ xs. with_text xs t) h ∙ (λ i. if unlike_first ts at t d here i then take at ts else take at ts ++ t ∷ []) ∙ sym (take_suc ts at t here) ∙ ap (λ n. take n ts) (sym (add-one at))

pub adding_is_union : AddingIsUnion
adding_is_union = scope_added
