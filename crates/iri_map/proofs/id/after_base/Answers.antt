use Rattle.iri_map.specs.Id.{base}
use Rattle.iri_map.proofs.id.after_base.Goals as goal

pub returns : goal.returns
unfolding base
returns c = c.after_start.ensures
