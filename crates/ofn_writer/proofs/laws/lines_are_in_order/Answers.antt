use Rattle.ofn_writer.proofs.OrderLemmas.{Ascends-sorted, times-sorted}
use Rattle.ofn_writer.proofs.laws.lines_are_in_order.Goals as goal

pub returns : goal.returns
returns c texts = record { rising = Ascends-sorted texts; each = λ text. times-sorted text texts }
