use Rattle.iri_map.specs.Id.{base}
use Rattle.std.proofs.Common.{rules}
use Rattle.iri_map.proofs.id.begun.Goals as goal

pub returns : goal.returns
unfolding base
returns c = search rules
