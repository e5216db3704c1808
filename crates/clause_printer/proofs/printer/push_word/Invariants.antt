use Rattle.std.proofs.Common.{◌≡◌, ◌++◌, take}
use Rattle.clause_printer.specs.Printing as spec
use Rattle.clause_printer.proofs.printer.push_word.Given as goal

abbrev pub invariant-loop-byte : goal.invariant-loop-byte
invariant-loop-byte l = l.out.items ≡ l.fn.out.items ++ spec.word_text (take l.byte-index l.word)
