use Rattle.std.proofs.Common.{nat_eq, ◌≡◌, ◌∙◌, ℕ, List, ap, sym}
use Rattle.std.specs.List.{list_any}
use Rattle.fact_rows.specs.Rows.{row}
use Rattle.el_numbers.specs.Table.{TableState}
use Rattle.el_numbers.proofs.ConcludeLemmas.{has_number, number_in}
use Rattle.el_numbers.proofs.table.Table.below.Goals as goal

pub returns : goal.returns
returns c =
    let same : c.deref.result.now ≡ c.args.self.now.below = c.deref.ensures.value ∙ ap (λ (t : TableState). t.below) c.self.view_is in
    let is : c.set_has.result ≡ list_any (nat_eq c.args.upper) (row c.args.self.now.below c.args.lower) = c.set_has.ensures ∙ ap (λ (rows : List (List ℕ)). list_any (nat_eq c.args.upper) (row rows c.args.lower)) same in
    (λ t. number_in c.args.upper (row c.args.self.now.below c.args.lower) (sym is ∙ t), λ i. is ∙ has_number i)
