use Rattle.std.proofs.Common.{◌≡◌, ◌++◌}
use Rattle.percent_encoding.specs.Iter.{encoded_text}
use Rattle.percent_encoding.specs.Percent.{percent_encode}
use Rattle.iri_map.proofs.escape.push_escaped.Given as goal

-- what is appended and what is left to append are the escaped bytes
abbrev pub invariant-loop-piece : goal.invariant-loop-piece
invariant-loop-piece l =
    l.iri.items ++ encoded_text l.piece-iterator ≡ l.fn.iri.items ++ percent_encode l.fn.set l.fn.bytes
