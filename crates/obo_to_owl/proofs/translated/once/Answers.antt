use Rattle.std.proofs.Common.{◌≡◌, ◌∙◌, ℕ, List, [], ◌∷◌, ap, map, refl, sym}
use Rattle.std.proofs.lemmas.List.Filters.{dedup_is}
use Rattle.text_sets.specs.Sorted.{sorted_by}
use Rattle.text_sets.proofs.OnceLemmas.{sorted_once_is}
use Rattle.obo_to_owl.specs.Reports.{report_key}
use Rattle.obo_to_owl.specs.declared.translated.Dropped.{Dropped}
use Rattle.obo_to_owl.proofs.translated.once.Goals as goal

map_same : (xs : List Dropped) → map (λ (x : Dropped). x) xs ≡ xs
map_same [] = refl
map_same (x ∷ xs) = ap (λ ys. x ∷ ys) (map_same xs)

first_of : ℕ → List ℕ → ℕ
first_of d [] = d
first_of d (x ∷ xs) = x

rest_of : List ℕ → List ℕ
rest_of [] = []
rest_of (x ∷ xs) = xs

key_tells : (x y : Dropped) → report_key x ≡ report_key y → x ≡ y
unfolding first_of rest_of
key_tells x y same = let l : x.line ≡ y.line = ap (first_of x.line) same in let t : x.tag ≡ y.tag = ap rest_of same in λ i. record { line = l i; tag = t i }

pub returns : goal.returns
returns c =
    let reports = c.args.reports.items in
    dedup_is _ _ _ c.dedup.ensures.filtered
    ∙ sym (map_same _)
    ∙ sorted_once_is report_key (λ (x : Dropped). x) report_key reports c.sort_unstable.new.self.items c.sort_unstable.ensures.permutation c.sort_unstable.ensures.sorted (ap (map report_key) (sym (map_same reports))) (λ x y here there same. key_tells x y same)
    ∙ ap (sorted_by report_key) (map_same reports)
