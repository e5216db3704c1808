use Rattle.spelling_laws.proofs.Gathering as laws
use Rattle.spelling_laws.proofs.laws.ids_go_by_no_name.Goals as goal

pub returns : goal.returns
returns c = laws.ids_go_by_no_name
