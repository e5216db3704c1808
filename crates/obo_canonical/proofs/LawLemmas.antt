-- The laws of the canonical text.
use Rattle.std.proofs.Common.{◌≡◌, ℕ, List, [], ◌∷◌, ap, map, refl, subst, sym, ◌∙◌}
use Rattle.std.specs.Coded.{Coded-set, coded_list, coded_ℕ}
use Rattle.std.proofs.Math.Logic.{∥∥₁_elim, ∥∥₁_map}
use Rattle.text_sets.specs.Sets.{SameMembers}
use Rattle.text_sets.proofs.SetLemmas.{same_sym, same_trans}
use Rattle.obo_frames.specs.Framed.{Framed, SameClauses, unlined}
use Rattle.obo_frames.specs.Soundness.{IsKept, IsSound}
use Rattle.obo_frames.specs.declared.placed.Placed.{Placed}
use Rattle.obo_frames.proofs.AnswerLemmas.{is_exact}
use Rattle.obo_frames.proofs.OneLemmas.{is_never_both, is_one_document}
use Rattle.obo_frames.proofs.SameLemmas.{goes_by_clauses}
use Rattle.obo_text.specs.Laws.{LinesFit}
use Rattle.obo_text.specs.Text.{canonical_text}
use Rattle.obo_text.proofs.LawLemmas.{of_set_law, reads_back_law}
use Rattle.obo_mapping.specs.Documents.{norm}
use Rattle.obo_mapping.specs.Sound as sets
use Rattle.obo_normal_form.proofs.NormFacts.{norm_once}
use Rattle.obo_normal_form.proofs.ShortGroups.{norm_is_sound}
use Rattle.obo_canonical.specs.Laws.{CanonicalIsOfSet, CanonicalReadsBack, CanonisingTwiceIsOnce, NormIsOfSet, canonical}
use Rattle.sound_documents.proofs.FrameSound.{AreBare, kept_from, sound_from}
use Rattle.obo_canonical.proofs.NormBare.{bare_norm}
use Rattle.obo_canonical.proofs.NormOfSet.{norm_of_set}

-- ---- clauses with a line

lined_one : Framed → Placed
lined_one f = record { frame = f.frame; id = f.id; line = 0; clause = f.clause }

pub lined : List Framed → List Placed
lined d = map lined_one d

unlined_lined : (d : List Framed) → map unlined (lined d) ≡ d
unfolding lined lined_one
unlined_lined [] = refl
unlined_lined (f ∷ d) = ap (λ (fs : List Framed). f ∷ fs) (unlined_lined d)

as_lined : (placed : List Placed) (d : List Framed) → SameMembers (map unlined placed) d → SameClauses placed (lined d)
as_lined placed d same = subst (SameMembers (map unlined placed)) (sym (unlined_lined d)) same

-- ---- the normal form of a document is one

norm_kept : (placed : List Placed) → IsKept placed → IsKept (lined (norm (map unlined placed)))
norm_kept placed kept =
    let n = norm (map unlined placed) in
    let back = sym (unlined_lined n) in
    kept_from (lined n) (subst sets.IsSound back (norm_is_sound (map unlined placed) (sound_from placed kept))) (subst AreBare back (bare_norm placed kept))

pub lined_sound : (placed : List Placed) → IsSound placed → IsSound (lined (norm (map unlined placed)))
lined_sound placed sound = ∥∥₁_map sound (norm_kept placed)

pub made_sound : (placed made : List Placed) → IsSound placed → SameMembers (map unlined made) (norm (map unlined placed)) → IsSound made
made_sound placed made sound same =
    let n = norm (map unlined placed) in
    (goes_by_clauses (lined n) made (same_sym (map unlined made) (map unlined (lined n)) (as_lined made n same))).sound (lined_sound placed sound)

-- ---- texts of the same clauses

pub text_of : (placed made : List Placed) → IsSound placed → SameMembers (map unlined made) (norm (map unlined placed)) → canonical_text (map unlined made) ≡ canonical (map unlined placed)
text_of placed made sound same =
    let n = norm (map unlined placed) in
    of_set_law (lined n) (lined_sound placed sound) made (as_lined made n same) ∙ ap canonical_text (unlined_lined n)

-- ---- the laws

pub norm_goes_by_set : NormIsOfSet
norm_goes_by_set some others same = norm_of_set (map unlined some) (map unlined others) same

pub canonical_goes_by_set : CanonicalIsOfSet
canonical_goes_by_set some others sound same =
    let n = norm (map unlined some) in
    let m = norm (map unlined others) in
    let again = norm_of_set (map unlined some) (map unlined others) same in
    sym (text_of some (lined m) sound (subst (λ fs. SameMembers fs n) (sym (unlined_lined m)) (same_sym n m again))) ∙ ap canonical_text (unlined_lined m)

fit_lined : (limit : ℕ) (d : List Framed) → LinesFit limit d → LinesFit limit (map unlined (lined d))
fit_lined limit d fit = subst (LinesFit limit) (sym (unlined_lined d)) fit

pub reads_back : CanonicalReadsBack
reads_back limit placed sound fit =
    let n = norm (map unlined placed) in
    ∥∥₁_map (reads_back_law limit (lined n) (lined_sound placed sound) (fit_lined limit n fit)) (λ back. record {
      read = back.read;
      document = subst (λ fs. Rattle.obo_frames.specs.Documents.IsDocument limit (canonical_text fs) back.read) (unlined_lined n) back.document;
      same = subst (SameMembers (map unlined back.read)) (unlined_lined n) back.same;
    })

-- what is read has the normal form that was written
text_again : (placed read : List Placed) → IsSound placed → SameMembers (map unlined read) (norm (map unlined placed)) → canonical (map unlined read) ≡ canonical (map unlined placed)
text_again placed read sound same =
    let d = map unlined placed in
    let m = norm (map unlined read) in
    ∥∥₁_elim sound (Coded-set (coded_list coded_ℕ) _ _) (λ kept.
    let once = norm_once d (sound_from placed kept) in
    let again = same_trans m (norm (norm d)) (norm d) (norm_of_set (map unlined read) (norm d) same) once in
    ap canonical_text (sym (unlined_lined m)) ∙ text_of placed (lined m) sound (subst (λ fs. SameMembers fs (norm d)) (sym (unlined_lined m)) again))

pub settles : CanonisingTwiceIsOnce
settles limit placed sound fit = record {
  faultless = λ one is. ∥∥₁_elim (reads_back limit placed sound fit) (λ a b. absurd a)
      (λ back. is_never_both limit (canonical (map unlined placed)) back.read one back.document (((is_exact limit (canonical (map unlined placed))).fault one).0 is));
  again = λ read is. ∥∥₁_elim (reads_back limit placed sound fit) (Coded-set (coded_list coded_ℕ) _ _)
      (λ back.
      let text = canonical (map unlined placed) in
      let one : back.read ≡ read = is_one_document limit text back.read read back.document (((is_exact limit text).document read).0 is) in
      text_again placed read sound (subst (λ (r : List Placed). SameMembers (map unlined r) (norm (map unlined placed))) one back.same));
}
