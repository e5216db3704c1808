use Rattle.std.proofs.Common.{sym}
use Rattle.iri_map.proofs.EscapeLemmas.{percent_encode-URL}
use Rattle.iri_map.proofs.escape.push_url.Goals as goal

pub returns : goal.returns
returns c = rw (sym (percent_encode-URL c.args.url.now)) c.push_escaped.ensures
