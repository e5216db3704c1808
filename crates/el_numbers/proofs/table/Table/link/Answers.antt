use Rattle.std.proofs.Common.{nat_eq, ◌&&◌, ◌≡◌, ◌∙◌, ℕ, List, ap, sym}
use Rattle.std.specs.List.{list_any}
use Rattle.fact_rows.specs.Rows.{row}
use Rattle.fact_rows.proofs.Members.{any_in, in_any, pair_same, pair_tells}
use Rattle.el_numbers.specs.Table.{TableState}
use Rattle.el_numbers.proofs.table.Table.link.Goals as goal

pub returns : goal.returns
returns c =
    let eq = λ (x y : ℕ × ℕ). nat_eq x.0 y.0 && nat_eq x.1 y.1 in
    let pair : ℕ × ℕ = (c.args.role, c.args.end) in
    let same : c.deref.result.now ≡ c.args.self.now.links = c.deref.ensures.value ∙ ap (λ (t : TableState). t.links) c.self.view_is in
    let is : c.pair_set_has.result ≡ list_any (eq pair) (row c.args.self.now.links c.args.start) = c.pair_set_has.ensures ∙ ap (λ (rows : List (List (ℕ × ℕ))). list_any (eq pair) (row rows c.args.start)) same in
    (λ t. in_any eq pair_tells pair_same pair (row c.args.self.now.links c.args.start) (sym is ∙ t), λ i. is ∙ any_in eq pair_tells pair_same pair i)
