use Rattle.std.proofs.Common.{◌∙◌, ◌++◌, ℕ, List, map, subst, ap, arith}
use Rattle.fact_rows.specs.Member.{In}
use Rattle.el_numbers.specs.declared.part.Shape.{Shape}
use Rattle.el_numbers.specs.inner.Indexes.{IsIndexOf, IsPairIndexOf, swapped, by_second, restrictions, intersections}
use Rattle.el_numbers.proofs.IndexLemmas.{operands_within, disjoints_within, restrictions_within, seconds_within, indexed}
use Rattle.el_numbers.proofs.index.indexes_of.Goals as goal

pub index_numbers-requires-2 : goal.index_numbers-requires-2
index_numbers-requires-2 c = λ k v i.
    let e = c.as_slice.ensures.value ∙ c.in_ok-operands.ensures ∙ ap (λ (o : List (List ℕ)). intersections o c.len-count.result) c.deref.ensures.value in
    let l = operands_within c.args.part.now c.requires c.len-count.result k v (subst (In {A = ℕ × ℕ} (k, v)) e i) in omega arith

pub index_numbers-requires-3 : goal.index_numbers-requires-3
index_numbers-requires-3 c = λ k v i.
    let e = c.as_slice-2.ensures.value ∙ c.in_ok-disjoints.ensures ∙ ap (λ (p : List (ℕ × ℕ)). p ++ map swapped p) c.deref-2.ensures.value in
    let l = disjoints_within c.args.part.now c.requires k v (subst (In {A = ℕ × ℕ} (k, v)) e i) in omega arith

pub index_pairs-requires : goal.index_pairs-requires
index_pairs-requires c = λ k v w i.
    let e = c.as_slice-3.ensures.value ∙ c.in_ok-restrictions.ensures ∙ ap (λ (s : List Shape). restrictions s c.len-count.result) c.deref-3.ensures.value in
    let l = restrictions_within c.args.part.now c.requires c.len-count.result k v w (subst (In (k, v, w)) e i) in omega arith

pub index_pairs-requires-3 : goal.index_pairs-requires-3
index_pairs-requires-3 c = λ k v w i.
    let e = c.as_slice-4.ensures.value ∙ c.in_ok-seconds.ensures ∙ ap (λ (t : List (ℕ × ℕ × ℕ)). map by_second t) c.deref-4.ensures.value in
    seconds_within c.args.part.now c.requires k v w (subst (In (k, v, w)) e i)

pub returns : goal.returns
returns c =
    let n = c.len-count.result in
    let operands = c.as_slice.ensures.value ∙ c.in_ok-operands.ensures ∙ ap (λ (o : List (List ℕ)). intersections o n) c.deref.ensures.value in
    let disjoints = c.as_slice-2.ensures.value ∙ c.in_ok-disjoints.ensures ∙ ap (λ (p : List (ℕ × ℕ)). p ++ map swapped p) c.deref-2.ensures.value in
    let listed = c.as_slice-3.ensures.value ∙ c.in_ok-restrictions.ensures ∙ ap (λ (s : List Shape). restrictions s n) c.deref-3.ensures.value in
    let seconds = c.as_slice-4.ensures.value ∙ c.in_ok-seconds.ensures ∙ ap (λ (t : List (ℕ × ℕ × ℕ)). map by_second t) c.deref-4.ensures.value in
    indexed c.args.part.now c.requires _ n (omega arith)
    (subst (λ z. IsIndexOf z c.in_ok-told.told.items) c.deref-5.ensures.value c.in_ok-told.ensures)
    (subst (λ z. IsIndexOf z c.in_ok-ands.ands.items) operands c.in_ok-ands.ensures)
    (subst (λ z. IsIndexOf z c.in_ok-disjoint.disjoint.items) disjoints c.in_ok-disjoint.ensures)
    (subst (λ z. IsIndexOf z c.in_ok-roles.roles.items) c.deref-6.ensures.value c.in_ok-roles.ensures)
    (subst (λ z. IsIndexOf z c.in_ok-domains.domains.items) c.deref-7.ensures.value c.in_ok-domains.ensures)
    (subst (λ z. IsPairIndexOf z c.in_ok-somes.somes.items) listed c.in_ok-somes.ensures)
    (subst (λ z. IsPairIndexOf z c.in_ok-first.first.items) c.deref-8.ensures.value c.in_ok-first.ensures)
    (subst (λ z. IsPairIndexOf z c.in_ok-second.second.items) seconds c.in_ok-second.ensures)
