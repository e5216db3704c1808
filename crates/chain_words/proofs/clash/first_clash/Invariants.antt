use Rattle.std.proofs.Common.{◌≡◌, take, drop}
use Rattle.chain_words.specs.Clash.{clash_from, first_clash}
use Rattle.chain_words.proofs.clash.first_clash.Given as goal

abbrev pub invariant-loop-index : goal.invariant-loop-index
invariant-loop-index l = clash_from l.chain (take l.index l.outputs) (drop l.index l.outputs) ≡ first_clash l.chain l.outputs
