use Rattle.std.proofs.Common.{◌≡◌, ◌++◌, ℕ, List, [], append_assoc, ap, refl, ◌∙◌}
use Rattle.obo_tags.specs.declared.kind.FrameKind.{FrameKind}
use Rattle.obo_tags.specs.declared.kind.FrameKind.TheVariants as kinds
use Rattle.obo_text.specs.inner.Names.{look_at, look_in, text_of_rows, text_with}
use Rattle.obo_text.specs.inner.Rows.{TellsNames, one_held, rows_text}
use Rattle.obo_text.specs.declared.names.Names.{Names}
use Rattle.obo_text.specs.inner.RowState.{RowState}
use Rattle.obo_text.proofs.text.written.Goals as goal

module _ (names : Names) (terms typedefs instances : List RowState) (of_terms : TellsNames terms names.terms) (of_typedefs : TellsNames typedefs names.typedefs) (of_instances : TellsNames instances names.instances) where
  same_look : (kind : FrameKind) (id : List ℕ) → look_in names kind id ≡ look_at terms typedefs instances kind id
  same_look kinds.Header id = refl
  same_look kinds.Term id = ap one_held (of_terms id)
  same_look kinds.Typedef id = ap one_held (of_typedefs id)
  same_look kinds.Instance id = ap one_held (of_instances id)

  written_as : (header : List RowState) (none first second third all : List ℕ) → none ≡ [] → first ≡ none ++ rows_text (look_in names) kinds.Header header → second ≡ first ++ rows_text (look_in names) kinds.Term terms → third ≡ second ++ rows_text (look_in names) kinds.Typedef typedefs → all ≡ third ++ rows_text (look_in names) kinds.Instance instances → all ≡ text_of_rows header terms typedefs instances
  written_as header none first second third all a b c d e =
      let h = rows_text (look_in names) kinds.Header header in
      let t = rows_text (look_in names) kinds.Term terms in
      let y = rows_text (look_in names) kinds.Typedef typedefs in
      let i = rows_text (look_in names) kinds.Instance instances in
      e ∙ ap (λ o. o ++ i) (d ∙ ap (λ o. o ++ y) (c ∙ ap (λ o. o ++ t) (b ∙ ap (λ o. o ++ h) a)))
      ∙ append_assoc (h ++ t) y i ∙ append_assoc h t (y ++ i)
      ∙ (λ j. text_with (λ kind id. same_look kind id j) header terms typedefs instances)

pub returns : goal.returns
returns c =
    written_as (record { terms = c.in_ok-names_of.field-0; typedefs = c.in_ok-names_of-2.field-0; instances = c.in_ok-names_of-3.field-0 })
    c.args.terms.now c.args.typedefs.now c.args.instances.now c.in_ok-names_of.ensures c.in_ok-names_of-2.ensures c.in_ok-names_of-3.ensures
    c.args.header.now c.new-out.result.items _ _ _ _ c.new-out.ensures.items c.in_ok-push_rows.ensures c.in_ok-push_rows-2.ensures c.in_ok-push_rows-3.ensures c.in_ok-push_rows-4.ensures
