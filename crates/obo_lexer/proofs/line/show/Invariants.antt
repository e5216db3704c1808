use Rattle.std.proofs.Common.{◌≡◌, ◌++◌, drop, map, take}
use Rattle.obo_lexer.specs.Lines.{shown}
use Rattle.obo_lexer.proofs.line.show.Given as goal

abbrev pub invariant-loop-byte : goal.invariant-loop-byte
invariant-loop-byte l = l.text ≡ map shown (take l.byte-index l.fn.text) ++ drop l.byte-index l.fn.text
