use Rattle.std.proofs.Common.{◌≡◌, ◌&&◌, ℕ, Bool, true, false, List, Option, Some, ap, cond, refl, rules, subst, sym, ◌∙◌}
use Rattle.std.specs.BTreeMap.{get}
use Rattle.std.specs.Ordering.{is_eq}
use Rattle.text_sets.specs.Sorted.{text_cmp}
use Rattle.text_sets.proofs.SortedLemmas.{text_order}
use Rattle.obo_text.specs.inner.RowState.{RowState}
use Rattle.obo_text.specs.inner.Rows.{AddsName, with_name}
use Rattle.obo_text.specs.declared.names.Named.{Named}
use Rattle.obo_text.proofs.OnceLemmas.{equal_is}
use Rattle.obo_text.proofs.names.add_row.Goals as goal

-- the name that the row's frame had before is that of this frame, where it is the row's
held_at : (b : Bool) (before held : Option Named) (name : List ℕ) → (b ≡ true → before ≡ held) → cond b (Some (with_name before name)) held ≡ cond b (Some (with_name held name)) held
held_at true before held name same = ap (λ h. Some (with_name h name)) (same refl)
held_at false before held name same = refl

pub returns : goal.returns
returns c =
    subst (λ (seen : RowState). AddsName c.args.names.now c.insert.new.self seen) c.row.view_is
    (λ id.
    let old = get text_cmp c.args.names.now in
    let row = c.row.inside in
    let named : row.is_name ≡ true = search rules in
    c.in_ok-insert.ensures.updates.0 id
    ∙ (λ i. cond (is_eq (text_cmp (c.in_ok-id.ensures i) id)) (Some ((c.in_ok-held.ensures ∙ ap (λ held. with_name held row.value) c.get.ensures.value) i)) (old id))
    ∙ held_at (is_eq (text_cmp row.id.now id)) (old row.id.now) (old id) row.value (λ same. ap old (text_order.ties row.id.now id (equal_is (text_cmp row.id.now id) same)))
    ∙ sym (ap (λ b. cond (b && is_eq (text_cmp row.id.now id)) (Some (with_name (old id) row.value)) (old id)) named))
