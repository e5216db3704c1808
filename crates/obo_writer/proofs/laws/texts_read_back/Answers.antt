use Rattle.obo_writer.proofs.ReadsAgain.{reads_back}
use Rattle.obo_writer.proofs.laws.texts_read_back.Goals as goal

pub returns : goal.returns
returns c = reads_back
