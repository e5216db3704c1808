use Rattle.obo_writer.proofs.BackNormal.{spaced_back_is_normal}
use Rattle.obo_writer.proofs.laws.spaced_document_is_normal.Goals as goal

pub returns : goal.returns
returns c = spaced_back_is_normal
