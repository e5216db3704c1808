-- What the loops over bytes and marks keep true.
use Rattle.std.proofs.Common.{◌≡◌, ℕ, ◌+◌, ◌-◌, ◌<◌, ◌≤◌, Bool, true, false, List, [], ◌∷◌, ◌++◌, length, get_or, take, drop, refl, sym, ap, ◌∙◌, arith}
use Rattle.std.specs.List.{prefix_len}
use Rattle.std.proofs.lemmas.List.{take_more}
use Rattle.std.proofs.lemmas.List.Sums.{prefix_len-drop_yes}
use Rattle.obo_clause.specs.Reading.{kept, trim_end}

-- a run that goes on up to a place ends where the run from there on ends
pub record RunsTo (A : Type 0) (passes : A → Bool) (items : List A) (place : ℕ) : Type 0 where
  pub within : place ≤ length items
  pub from : prefix_len passes items ≡ place + prefix_len passes (drop place items)

pub runs-begin : {A : Type 0} (passes : A → Bool) (items : List A) → RunsTo A passes items 0
runs-begin passes items = record { within = omega arith; from = omega arith }

pub runs-on : {A : Type 0} (passes : A → Bool) (items : List A) (place : ℕ) (d : A) → RunsTo A passes items place → place < length items → passes (get_or items place d) ≡ true → RunsTo A passes items (place + 1)
runs-on passes items place d run less passed =
    let w = run.from in
    let e = prefix_len-drop_yes passes items place d less passed in
    record { within = omega arith; from = omega (arith, w, e) }

-- what passes at the end is trimmed
pub trim_end-passes : {A : Type 0} (passes : A → Bool) (items : List A) (last : A) → passes last ≡ true → trim_end passes (items ++ last ∷ []) ≡ trim_end passes items
unfolding trim_end
trim_end-passes passes [] last passed = rw passed refl
trim_end-passes passes (item ∷ items) last passed = ap (kept passes item) (trim_end-passes passes items last passed)

-- and all of the items are left where the last one does not pass
pub trim_end-fails : {A : Type 0} (passes : A → Bool) (items : List A) (last : A) → passes last ≡ false → trim_end passes (items ++ last ∷ []) ≡ items ++ last ∷ []
unfolding trim_end
trim_end-fails passes [] last failed = rw failed refl
trim_end-fails passes (item ∷ []) last failed = ap (kept passes item) (trim_end-fails passes [] last failed)
trim_end-fails passes (item ∷ other ∷ items) last failed =
    ap (kept passes item) (trim_end-fails passes (other ∷ items) last failed)

-- trimming the front up to a place is trimming all
pub record TrimsFrom (A : Type 0) (passes : A → Bool) (items : List A) (place : ℕ) : Type 0 where
  pub within : place ≤ length items
  pub same : trim_end passes (take place items) ≡ trim_end passes items

pub trims-on : {A : Type 0} (passes : A → Bool) (items : List A) (place : ℕ) (d : A) → TrimsFrom A passes items place → 0 < place → passes (get_or items (place - 1) d) ≡ true → TrimsFrom A passes items (place - 1)
trims-on {A} passes items place d trims some passed =
    let w = trims.within in
    let less : place - 1 < length items = omega arith in
    let e : place - 1 + 1 ≡ place = omega arith in
    let split : take place items ≡ take (place - 1) items ++ get_or items (place - 1) d ∷ [] = ap (λ n. take n items) (sym e) ∙ take_more items (place - 1) d less in
    record { within = omega arith; same = sym (trim_end-passes passes (take (place - 1) items) _ passed) ∙ (ap (trim_end passes) (sym split) ∙ trims.same) }

pub trims-stop : {A : Type 0} (passes : A → Bool) (items : List A) (place : ℕ) (d : A) → TrimsFrom A passes items place → 0 < place → passes (get_or items (place - 1) d) ≡ false → take place items ≡ trim_end passes items
trims-stop {A} passes items place d trims some failed =
    let w = trims.within in
    let less : place - 1 < length items = omega arith in
    let e : place - 1 + 1 ≡ place = omega arith in
    let split : take place items ≡ take (place - 1) items ++ get_or items (place - 1) d ∷ [] = ap (λ n. take n items) (sym e) ∙ take_more items (place - 1) d less in
    split ∙ (sym (trim_end-fails passes (take (place - 1) items) _ failed) ∙ (ap (trim_end passes) (sym split) ∙ trims.same))

pub trims-end : {A : Type 0} (passes : A → Bool) (items : List A) (place : ℕ) → TrimsFrom A passes items place → place ≤ 0 → take place items ≡ trim_end passes items
unfolding trim_end
trims-end passes items place trims least =
    let none : place ≡ 0 = omega arith in
    ap (λ n. take n items) none ∙ (ap (λ n. trim_end passes (take n items)) (sym none) ∙ trims.same)
