-- The laws of the order of lists of texts, in the form in which an order has to show them. (Own.)
use Rattle.std.specs.Prelude.{nat_eq}
use Rattle.std.specs.Cmp.{IsPartialOrder, partial_order_from_total}
use Rattle.std.specs.Cmp.Lexicographic.{lists_ties, lists_total, nat_list_cmp_total, pointwise, slice_cmp, texts_ties}
use Rattle.std.specs.Ordering.{as_partial_cmp, nat_cmp}
use Rattle.std.proofs.Common.{subst, sym}
use Rattle.text_sets.specs.Sorted.{texts_cmp}

pub texts_lists_po : IsPartialOrder (pointwise (pointwise nat_eq)) (as_partial_cmp texts_cmp)
texts_lists_po =
    subst (λ E. IsPartialOrder E (as_partial_cmp texts_cmp)) (λ i x y. sym (lists_ties (slice_cmp nat_cmp) texts_ties x y) i) (partial_order_from_total (lists_total nat_list_cmp_total))
