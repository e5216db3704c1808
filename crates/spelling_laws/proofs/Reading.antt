-- What is read of a document can be written: its clauses are sound as a set.
use Rattle.std.proofs.Common.{map, sym, subst}
use denote.Struct.Props.{props}
use Rattle.std.proofs.Math.Logic.{∥∥₁_elim}
use Rattle.obo_frames.specs.Framed.{unlined}
use Rattle.obo_mapping.specs.Back.{IsSpellable}
use Rattle.obo_mapping.specs.Documents.{name_of, owl}
use Rattle.obo_normal_form.proofs.ProperOwl.{owl_is_spellable}
use Rattle.sound_documents.proofs.FrameSound.{sound_from}
use Rattle.spelling_laws.proofs.Gathering.{spellable_is_of_set}
use Rattle.spelling_laws.specs.Laws.{ReadCanBeWritten}

pub read_can_be_written : ReadCanBeWritten
read_can_be_written document name axioms sound is =
    let d = map unlined document in
    ∥∥₁_elim sound (hlevel props) (λ kept. subst (λ n. IsSpellable n axioms) (sym is.name) (spellable_is_of_set (name_of d) (owl d) axioms is.says (owl_is_spellable d (sound_from document kept)).0))
