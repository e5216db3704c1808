use Rattle.std.proofs.Common.{map}
use Rattle.std.proofs.lemmas.Result.{IfOk-weaker}
use Rattle.obo_frames.specs.Framed.{unlined}
use Rattle.obo_canonical.proofs.PartLemmas.{kept_by}
use Rattle.obo_canonical.proofs.normal.kept_clauses.Goals as goal

pub returns : goal.returns
returns c =
    IfOk-weaker c.kept.result _ _ (λ made is. kept_by (map unlined c.args.document.now) c.in_ok-space.space (map unlined made.items) c.in_ok-space.ensures is) c.kept.ensures
