-- In an accepted chain no output is an input, and none stands twice.
use Rattle.std.proofs.Common.{◌≤◌, sym, subst, []}
use Rattle.chain_words.specs.Command.{times, written_names}
use Rattle.chain_words.specs.Laws.{NoOutputIsInput, NoOutputTwice}
use Rattle.chain_words.specs.declared.command.Chain.{Chain}
use Rattle.chain_words.proofs.Clashes.{any_counts, names_of, no_clash}
use Rattle.chain_words.proofs.Sound.{AcceptedChain}

pub no_output_twice : (told : Chain) → AcceptedChain told → NoOutputTwice told
no_output_twice told accepted name = subst (λ names. times name names ≤ 1) accepted.names (no_clash name told [] accepted.outputs accepted.quiet).once

pub no_output_is_input : (told : Chain) → AcceptedChain told → NoOutputIsInput told
no_output_is_input told accepted name written =
    let some : 1 ≤ times name (names_of accepted.outputs) = subst (λ names. 1 ≤ times name names) (sym accepted.names) (any_counts name (written_names told) written) in
    ((no_clash name told [] accepted.outputs accepted.quiet).fresh some).1
