-- The parts of the normal form.
use Rattle.std.proofs.Common.{◌≡◌, ℕ, List, [], ◌∷◌, ◌++◌, Option, append_assoc, ap, map, refl, subst, sym, ◌∙◌}
use Rattle.text_sets.specs.Sets.{SameMembers}
use Rattle.text_sets.proofs.SetLemmas.{same_append, same_refl}
use Rattle.owl_axioms.specs.declared.body.Axiom.{Axiom}
use Rattle.obo_frames.specs.Framed.{Framed, unlined}
use Rattle.obo_frames.specs.Naming as naming
use Rattle.obo_frames.specs.declared.placed.Placed.{Placed}
use Rattle.obo_notes.specs.Context.{writing_in}
use Rattle.obo_mapping.specs.Back.{writing_of}
use Rattle.obo_mapping.specs.Documents.{header_with, is_untranslatable, kept, name_of, names_in, norm, owl, space_of, spelled}
use Rattle.obo_mapping.proofs.OfSet.{spelled_of_set}
use Rattle.obo_canonical.specs.inner.Settled.{all_kept}
use Rattle.obo_canonical.proofs.KeptLemmas.{kept_is}
use Rattle.sound_documents.proofs.NameLemmas.{same_space}

-- what is kept
pub kept_by : (d : List Framed) (space : List ℕ) (made : List Framed) → space ≡ naming.space_of d → made ≡ all_kept space (is_untranslatable d) d → made ≡ kept d
kept_by d space made named is = is ∙ ap (λ s. all_kept s (is_untranslatable d) d) (named ∙ sym (same_space d)) ∙ kept_is d

-- what is spelled
pub spelled_by : (d : List Framed) (name : Option (List ℕ)) (axioms : List Axiom) (made : List Framed) → name ≡ name_of d → SameMembers axioms (owl d) → made ≡ spelled (writing_of name) axioms → SameMembers made (spelled (writing_in (space_of d)) (owl d))
spelled_by d name axioms made named said is =
    subst (λ cs. SameMembers cs (spelled (writing_of (name_of d)) (owl d))) (sym (is ∙ ap (λ n. spelled (writing_of n) axioms) named)) (spelled_of_set (writing_of (name_of d)) axioms (owl d) said)

-- ---- all of it

map_both : (one other : List Placed) → map unlined (one ++ other) ≡ map unlined one ++ map unlined other
map_both [] other = refl
map_both (p ∷ one) other = ap (λ (fs : List Framed). unlined p ∷ fs) (map_both one other)

pub norm_by : (d : List Framed) (header kept_here spelled_here both all : List Placed) → map unlined header ≡ header_with (names_in d) → map unlined kept_here ≡ kept d → SameMembers (map unlined spelled_here) (spelled (writing_in (space_of d)) (owl d))
    → both ≡ header ++ kept_here → all ≡ both ++ spelled_here → SameMembers (map unlined all) (norm d)
unfolding norm
norm_by d header kept_here spelled_here both all head keeps says first last =
    let h = header_with (names_in d) in
    let k = kept d in
    let s = spelled (writing_in (space_of d)) (owl d) in
    let same : map unlined all ≡ h ++ (k ++ map unlined spelled_here) =
    ap (map unlined) last ∙ map_both both spelled_here ∙ ap (λ fs. fs ++ map unlined spelled_here) (ap (map unlined) first ∙ map_both header kept_here ∙ (λ i. head i ++ keeps i)) ∙ append_assoc h k (map unlined spelled_here) in
    subst (λ fs. SameMembers fs (h ++ (k ++ s))) (sym same)
    (same_append h (k ++ map unlined spelled_here) h (k ++ s) (same_refl h) (same_append k (map unlined spelled_here) k s (same_refl k) says))
