use Rattle.std.proofs.Common.{◌≡◌, drop, map}
use Rattle.std.specs.String.{string_bytes}
use Rattle.chain_words.specs.Read.{at_merge, scan}
use Rattle.chain_words.proofs.read.scanned.Given as goal

abbrev pub invariant-loop-index : goal.invariant-loop-index
invariant-loop-index l = scan l.draft l.index (drop l.index (map string_bytes l.words)) ≡ scan at_merge 1 (drop 1 (map string_bytes l.words))
