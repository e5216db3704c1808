use Rattle.spelling_laws.proofs.Reading as laws
use Rattle.spelling_laws.proofs.laws.read_can_be_written.Goals as goal

pub returns : goal.returns
returns c = laws.read_can_be_written
