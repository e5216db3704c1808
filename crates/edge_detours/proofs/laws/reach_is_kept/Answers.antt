use Rattle.edge_detours.proofs.KeepLemmas.{reach_is_kept}
use Rattle.edge_detours.proofs.laws.reach_is_kept.Goals as goal

pub returns : goal.returns
returns c = reach_is_kept
