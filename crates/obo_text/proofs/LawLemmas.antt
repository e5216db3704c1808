-- The laws, for documents of which only soundness is known.
use Rattle.std.proofs.Common.{Err, List, Ok, map, subst, ℕ, ◌≡◌}
use Rattle.std.specs.Coded.{Coded-set, coded_list, coded_ℕ}
use Rattle.std.proofs.Math.Logic.{∥∥₁_elim, ∥∥₁_map}
use Rattle.obo_frames.specs.Answer.{document_of}
use Rattle.obo_frames.specs.Soundness.{IsSound}
use Rattle.obo_frames.specs.declared.fault.DocFault.{DocFault}
use Rattle.obo_frames.specs.declared.placed.Placed.{Placed}
use Rattle.obo_frames.proofs.AnswerLemmas.{is_exact}
use Rattle.obo_frames.proofs.OneLemmas.{is_never_both, is_one_document}
use Rattle.obo_text.specs.Laws.{IsOfSet, IsReadBack, ReadsBack, Settles}
use Rattle.obo_frames.specs.Framed.{unlined}
use Rattle.obo_text.specs.Text.{canonical_text}
use Rattle.obo_text.proofs.BackLemmas.{reads_back}
use Rattle.obo_text.proofs.SetLaw.{text_same}
use Rattle.obo_text.proofs.SoundLemmas.{sound_of}

pub reads_back_law : (limit : ℕ) (placed : List Placed) → ReadsBack limit placed
reads_back_law limit placed sound fit = ∥∥₁_map sound (λ kept. reads_back limit placed kept fit)

pub of_set_law : (placed : List Placed) → IsOfSet placed
of_set_law placed sound others same =
    ∥∥₁_elim sound (Coded-set (coded_list coded_ℕ) _ _) (λ kept. text_same (map unlined others) (map unlined placed) (sound_of placed kept) same)

again_at : (limit : ℕ) (placed read : List Placed) → IsReadBack limit placed → IsSound placed → document_of limit (canonical_text (map unlined placed)) ≡ Ok read → canonical_text (map unlined read) ≡ canonical_text (map unlined placed)
again_at limit placed read back sound is =
    let text = canonical_text (map unlined placed) in
    let same : back.read ≡ read = is_one_document limit text back.read read back.document (((is_exact limit text).document read).0 is) in
    subst (λ r. canonical_text (map unlined r) ≡ canonical_text (map unlined placed)) same (of_set_law placed sound back.read back.same)

fault_at : (limit : ℕ) (placed : List Placed) (one : DocFault) → IsReadBack limit placed → document_of limit (canonical_text (map unlined placed)) ≡ Err one → ⊥
fault_at limit placed one back is =
    let text = canonical_text (map unlined placed) in
    is_never_both limit text back.read one back.document (((is_exact limit text).fault one).0 is)

pub settles : (limit : ℕ) (placed : List Placed) → Settles limit placed
settles limit placed sound fit = record {
  faultless = λ one is. ∥∥₁_elim (reads_back_law limit placed sound fit) (λ a b. absurd a) (λ back. fault_at limit placed one back is);
  again = λ read is. ∥∥₁_elim (reads_back_law limit placed sound fit) (Coded-set (coded_list coded_ℕ) _ _) (λ back. again_at limit placed read back sound is);
}
