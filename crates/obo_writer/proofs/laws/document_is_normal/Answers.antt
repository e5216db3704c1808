use Rattle.obo_writer.proofs.BackNormal.{back_is_normal}
use Rattle.obo_writer.proofs.laws.document_is_normal.Goals as goal

pub returns : goal.returns
returns c = back_is_normal
