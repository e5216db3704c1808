use Rattle.std.proofs.Common.{ap, ◌∙◌}
use Rattle.ofn_writer.specs.Sorted.{sorted}
use Rattle.ofn_writer.proofs.OrderLemmas.{sorted_is}
use Rattle.ofn_writer.proofs.lines.sorted_pieces.Goals as goal

pub returns : goal.returns
returns c =
    sorted_is (λ text. text.now) c.in_ok-texts.texts.items c.sort_unstable.new.self.items c.sort_unstable.ensures.permutation c.sort_unstable.ensures.sorted
    ∙ ap sorted c.in_ok-texts.ensures
