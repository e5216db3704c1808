-- The text of an ontology is read as its axioms.
use Rattle.std.proofs.Common.{◌≡◌, ℕ, Bool, List, [], None, map, sym, ap, subst, ◌∙◌}
use Rattle.std.proofs.Math.Logic.{∥∥₁_elim, ∥∥₁_map, ∥∥₁_prop}
use Rattle.text_sets.specs.Sets.{SameMembers}
use Rattle.text_sets.proofs.SetLemmas.{same_trans}
use Rattle.obo_frames.specs.Framed.{unlined}
use Rattle.obo_frames.specs.Soundness.{IsKept, IsSound}
use Rattle.obo_frames.specs.declared.placed.Placed.{Placed}
use Rattle.obo_frames.proofs.AnswerLemmas.{is_exact}
use Rattle.owl_ontology.specs.Ontology.{OntologyState, axioms_of}
use Rattle.obo_mapping.specs.Back.{IsSpellable, back}
use Rattle.obo_mapping.specs.Documents.{name_of, norm, owl, spaced}
use Rattle.obo_mapping.specs.TwoValues.{two_values}
use Rattle.obo_mapping.proofs.BackLaw.{axioms_read_back}
use Rattle.obo_normal_form.proofs.NormFacts.{norm_says}
use Rattle.obo_canonical.specs.Laws.{IsReadBack, canonical}
use Rattle.obo_canonical.proofs.LawLemmas as canonical_text
use Rattle.obo_canonical.proofs.NormOfSet as of_set
use Rattle.owl_to_obo.proofs.ToldFrom.{is_told}
use Rattle.sound_documents.proofs.FrameSound.{sound_from}
use Rattle.obo_writer.specs.Text.{HasShortLines, ReadsAs, ReadsBack, obo_text}

-- one reading of the text
as_read : (o : OntologyState) (check : Bool) (placed : List Placed) (limit : ℕ) → IsKept placed → map unlined placed ≡ back o.name (axioms_of o.entries) → IsSpellable o.name (axioms_of o.entries) → two_values o.name check o.entries ≡ None
    → IsReadBack limit (map unlined placed) → ReadsAs limit o (canonical (map unlined placed))
as_read o check placed limit kept is spelled none found =
    let d = map unlined placed in
    let r = map unlined found.read in
    let again = axioms_read_back o.name (axioms_of o.entries) spelled (is_told o.name check o.entries spelled none) in
    let normal = norm_says d (sound_from placed kept) in
    record {
      read = found.read;
      document = ((is_exact limit (canonical d)).document found.read).1 found.document;
      name = of_set.name r (norm d) found.same ∙ normal.name ∙ ap name_of is ∙ again.same_name;
      axioms = same_trans (owl r) (owl (norm d)) (spaced [] [] (axioms_of o.entries)) (of_set.same_owl r (norm d) found.same)
          (same_trans (owl (norm d)) (owl d) (spaced [] [] (axioms_of o.entries)) normal.axioms
          (subst (λ d. SameMembers (owl d) (spaced [] [] (axioms_of o.entries))) (sym is) again.says));
    }

pub reads_back : (o : OntologyState) (check : Bool) (placed : List Placed) → IsSound placed → map unlined placed ≡ back o.name (axioms_of o.entries) → IsSpellable o.name (axioms_of o.entries) → two_values o.name check o.entries ≡ None → ReadsBack o
unfolding obo_text HasShortLines
reads_back o check placed sound is spelled none limit short =
    let text : canonical (map unlined placed) ≡ obo_text o = ap canonical is in
    let found = canonical_text.reads_back limit placed sound (subst (λ d. Rattle.obo_text.specs.Laws.LinesFit limit (norm d)) (sym is) short) in
    ∥∥₁_elim sound (λ a b. ∥∥₁_prop a b) (λ kept. ∥∥₁_map found (λ found.
    subst (ReadsAs limit o) text (as_read o check placed limit kept is spelled none found)))

-- the text of the document is that of the ontology
pub text_is : (o : OntologyState) (placed : List Placed) → map unlined placed ≡ back o.name (axioms_of o.entries) → canonical (map unlined placed) ≡ obo_text o
unfolding obo_text
text_is o placed is = ap canonical is
