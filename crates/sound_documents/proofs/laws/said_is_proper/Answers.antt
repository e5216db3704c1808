use Rattle.std.proofs.Math.Logic.{∥∥₁_elim}
use Rattle.std.proofs.Common.{map}
use mathlib.Core.Bool.{Bool-set}
use Rattle.obo_frames.specs.Framed.{unlined}
use Rattle.obo_normal_form.proofs.ProperOwl.{owl_is_spellable}
use Rattle.sound_documents.proofs.FrameSound.{sound_from}
use Rattle.sound_documents.proofs.laws.said_is_proper.Goals as goal

pub returns : goal.returns
returns c placed sound said here = ∥∥₁_elim sound (Bool-set _ _) (λ kept. (owl_is_spellable (map unlined placed) (sound_from placed kept)).0.proper said here)
