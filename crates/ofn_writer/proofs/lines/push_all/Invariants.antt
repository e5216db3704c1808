use Rattle.std.proofs.Common.{◌≡◌, ◌++◌, map, take}
use Rattle.std.specs.List.{flat_map}
use Rattle.ofn_writer.specs.Text.{line}
use Rattle.ofn_writer.proofs.lines.push_all.Given as goal

abbrev pub invariant-loop-text : goal.invariant-loop-text
invariant-loop-text l = l.out.items ≡ l.fn.out.items ++ flat_map line (map (λ text. text.now) (take l.text-index l.texts))
