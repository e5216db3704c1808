use Rattle.std.proofs.Common.{sym}
use Rattle.iri_map.proofs.EscapeLemmas.{percent_encode-PART}
use Rattle.iri_map.proofs.escape.push_part.Goals as goal

pub returns : goal.returns
returns c = rw (sym (percent_encode-PART c.args.name.now)) c.push_escaped.ensures
