use Rattle.std.proofs.Common.{◌≡◌, IfOk, ap, map, subst, sym, ◌∙◌}
use Rattle.obo_frames.specs.Framed.{unlined}
use Rattle.obo_frames.specs.Soundness.{IsSound}
use Rattle.obo_text.specs.Text.{canonical_text}
use Rattle.obo_text.proofs.RowsText.{whole_text}
use Rattle.obo_text.proofs.text.canonical_text.Goals as goal

pub returns : goal.returns
returns c =
    subst (λ all. IfOk c.written.result (λ text. text.items ≡ all))
    (whole_text c.as_slice-placed.result.now _ _ _ _ _ _ _ _ (subst IsSound (sym c.as_slice-placed.ensures) c.len-count.ensures.sound)
    c.in_ok-rows_in.ensures c.in_ok-rows_in-2.ensures c.in_ok-rows_in-3.ensures c.in_ok-rows_in-4.ensures
    (λ told. c.as_slice.ensures.value ∙ c.sorted_rows-header.ensures told) (λ told. c.as_slice-2.ensures.value ∙ c.sorted_rows-terms.ensures told)
    (λ told. c.as_slice-3.ensures.value ∙ c.sorted_rows-typedefs.ensures told) (λ told. c.as_slice-4.ensures.value ∙ c.sorted_rows-instances.ensures told)
    ∙ ap (λ placed. canonical_text (map unlined placed)) c.as_slice-placed.ensures)
    c.written.ensures
