-- How many axioms the EL part leaves out, one after the other.
use Rattle.std.proofs.Common.{◌≡◌, ℕ, ◌+◌, ◌≤◌, Bool, true, false, List, [], ◌∷◌, ◌++◌, suc, Some, if◌then◌else◌, filter, length, slice_get, take, refl, sym, ap, ◌∙◌, arith}
use Rattle.std.proofs.lemmas.List.Elements.{filter-append}
use Rattle.owl_axioms.specs.declared.body.Axiom.{Axiom}
use Rattle.owl_axioms.proofs.Adding.{take_suc}
use Rattle.el_rules.specs.ElPart.{is_unused, unused_of}

length_append : (xs ys : List Axiom) → length (xs ++ ys) ≡ length xs + length ys
length_append [] ys = omega arith
length_append (x ∷ xs) ys = let e = length_append xs ys in omega (arith, e)

one_more : (a : Axiom) (b : Bool) → is_unused a ≡ b → length (filter is_unused (a ∷ [])) ≡ (if b then 1 else 0)
one_more a true e = rw e refl
one_more a false e = rw e refl

pub count_next : (axioms : List Axiom) (i count more : ℕ) (a : Axiom) (b : Bool) → slice_get axioms i ≡ Some a → is_unused a ≡ b → count ≡ unused_of (take i axioms) → more ≡ count + (if b then 1 else 0) → more ≡ unused_of (take (i + 1) axioms)
count_next axioms i count more a b at is so m =
    let next : suc i ≡ i + 1 = omega arith in
    let all : unused_of (take (i + 1) axioms) ≡ unused_of (take i axioms) + (if b then 1 else 0) =
    sym (ap (λ n. unused_of (take n axioms)) next) ∙ ap unused_of (take_suc axioms i a at) ∙ ap length (filter-append is_unused (take i axioms) (a ∷ []))
    ∙ length_append (filter is_unused (take i axioms)) (filter is_unused (a ∷ []))
    ∙ ap (λ n. unused_of (take i axioms) + n) (one_more a b is) in
    m ∙ ap (λ n. n + (if b then 1 else 0)) so ∙ sym all

pub at_most_next : (i count more : ℕ) (b : Bool) → count ≤ i → more ≡ count + (if b then 1 else 0) → more ≤ i + 1
at_most_next i count more true l m = omega (arith, l, m)
at_most_next i count more false l m = omega (arith, l, m)
