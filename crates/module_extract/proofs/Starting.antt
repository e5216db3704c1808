-- Without flags nothing is flagged.
use Rattle.std.proofs.Common.{◌≡◌, ℕ, zero, suc, Bool, true, false, ◌&&◌, ◌||◌, List, [], ◌∷◌, Some, slice_get, length, replicate, refl, sym, ap, subst, ◌∙◌, arith, true≢false}
use Rattle.std.proofs.lemmas.List.{length-replicate}
use Rattle.owl_axioms.specs.declared.body.Axiom.{Axiom}
use Rattle.owl_axioms.specs.declared.name.Kind.{Kind}
use Rattle.owl_axioms.specs.declared.name.Kind.TheVariants as kind
use Rattle.owl_ontology.specs.Ontology.{Entry, axioms_of, flagged}
use Rattle.owl_axioms.specs.Names.{has_meaning, listed, meaningful, names_of}
use Rattle.rel_io.proofs.Options.{none_there, same_there}
use Rattle.owl_axioms.specs.Signature.{SigState, scope_of}
use Rattle.module_extract.specs.Module.{Fills, seed_and}
use Rattle.module_extract.specs.inner.Work.{IsGrowing}

none_flagged : (n : ℕ) (axioms : List Axiom) → flagged (replicate n false) axioms ≡ []
none_flagged zero axioms = refl
none_flagged (suc n) [] = refl
none_flagged (suc n) (a ∷ axioms) = none_flagged n axioms

none_set : (n i : ℕ) {P : Type 0} → slice_get (replicate n false) i ≡ Some true → P
none_set zero i h = absurd (none_there h)
none_set (suc n) zero h = absurd (true≢false (sym (same_there h)))
none_set (suc n) (suc i) h = none_set n i h

pub axioms_length : (entries : List Entry) → length (axioms_of entries) ≡ length entries
axioms_length [] = refl
axioms_length (e ∷ entries) = let rest = axioms_length entries in omega (arith, rest)

pub starts : (k : Fills) (axioms : List Axiom) (part : List Bool) (sig names : SigState) (n : ℕ) (kept : List Bool) → kept ≡ replicate n false → n ≡ length axioms
    → names ≡ sig → IsGrowing k axioms part (scope_of sig) kept names
unfolding listed names_of
starts k axioms part sig names n kept is long same = subst (λ z. IsGrowing k axioms part (scope_of sig) z names) (sym is) (record {
  same_length = length-replicate n false ∙ long;
  is_part = λ i h. none_set n i h;
  names_are = λ i l a. one l a i;
  least = λ other closed i h. none_set n i h;
})
  where
    or_none : (b : Bool) → b ≡ (b || false)
    or_none true = refl
    or_none false = refl

    nothing : (l : Kind) (a : List ℕ) → listed (names_of (flagged (replicate n false) axioms)) l a ≡ false
    nothing l a = ap (λ as'. listed (names_of as') l a) (none_flagged n axioms)

    inner : (l : Kind) (a : List ℕ) → scope_of sig l a ≡ meaningful (scope_of sig) l a
    inner kind.Class a = refl
    inner kind.Role a = refl
    inner kind.Individual a = refl
    inner kind.AnnotationProperty a = refl

    one : (l : Kind) (a : List ℕ) → scope_of names l a ≡ meaningful (seed_and (scope_of sig) axioms (replicate n false)) l a
    one l a = ap (λ s. scope_of s l a) same ∙ inner l a ∙ ap (λ b. has_meaning l && b) (or_none (scope_of sig l a) ∙ ap (λ b. scope_of sig l a || b) (sym (nothing l a)))
