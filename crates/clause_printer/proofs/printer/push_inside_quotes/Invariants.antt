use Rattle.std.proofs.Common.{◌≡◌, ◌++◌, take}
use Rattle.std.specs.List.{flat_map}
use Rattle.clause_printer.specs.Printing as spec
use Rattle.clause_printer.proofs.printer.push_inside_quotes.Given as goal

abbrev pub invariant-loop-byte : goal.invariant-loop-byte
invariant-loop-byte l =
    l.out.items
    ≡ l.fn.out.items ++ flat_map (λ byte. spec.spelled_byte (spec.is_escaped_in_quotes byte) byte) (take l.byte-index l.text)
