use Rattle.std.proofs.Common.{◌≡◌, ◌∙◌, ℕ, List, [], ◌∷◌, ap, map, refl, sym}
use Rattle.std.proofs.lemmas.List.Filters.{dedup_is}
use Rattle.text_sets.specs.Sorted.{sorted_by}
use Rattle.text_sets.proofs.OnceLemmas.{sorted_once_is}
use Rattle.import_merge.specs.declared.frames.FrameName.{FrameName}
use Rattle.import_merge.specs.inner.Texts.{text_of}
use Rattle.import_merge.proofs.frames.once.Goals as goal

map_same : (xs : List FrameName) → map (λ (x : FrameName). x) xs ≡ xs
map_same [] = refl
map_same (x ∷ xs) = ap (λ ys. x ∷ ys) (map_same xs)

first_of : ℕ → List ℕ → ℕ
first_of d [] = d
first_of d (x ∷ xs) = x

rest_of : List ℕ → List ℕ
rest_of [] = []
rest_of (x ∷ xs) = xs

key_tells : (x y : FrameName) → text_of x ≡ text_of y → x ≡ y
unfolding first_of rest_of
key_tells x y same = let k : x.kind ≡ y.kind = ap (first_of x.kind) same in let iri : x.iri ≡ y.iri = ap rest_of same in λ i. record { kind = k i; iri = iri i }

pub returns : goal.returns
returns c =
    let frames = c.args.frames.items in
    dedup_is _ _ _ c.dedup.ensures.filtered
    ∙ sym (map_same _)
    ∙ sorted_once_is text_of (λ (x : FrameName). x) text_of frames c.sort_unstable.new.self.items c.sort_unstable.ensures.permutation c.sort_unstable.ensures.sorted (ap (map text_of) (sym (map_same frames))) (λ x y here there same. key_tells x y same)
    ∙ ap (sorted_by text_of) (map_same frames)
