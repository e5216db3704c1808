use Rattle.std.proofs.Math.Logic.{∥∥₁_map}
use Rattle.sound_documents.proofs.FrameSound.{sound_from}
use Rattle.sound_documents.proofs.laws.documents_are_sound.Goals as goal

pub returns : goal.returns
returns c placed sound = ∥∥₁_map sound (sound_from placed)
