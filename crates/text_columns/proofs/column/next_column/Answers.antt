use Rattle.std.proofs.Common.{◌≡◌, ◌∷◌, drop, subst, sym, ap, take, ◌∙◌}
use Rattle.std.specs.List.{prefix_len}
use Rattle.text_columns.specs.Columns.{columns_of}
use Rattle.text_columns.specs.inner.Columns.{behind_blanks, is_done, is_part}
use Rattle.text_columns.proofs.ColumnLemmas.{StartsPlain, behind-plain, behind-same, none-left, one-more}
use Rattle.text_columns.proofs.column.next_column.Goals as goal

pub returns-then-is_done : goal.returns-then-is_done
returns-then-is_done c =
    let text = c.args.text.now in
    let rest = c.behind_blanks-text.result.now in
    let is : rest ≡ behind_blanks text = c.behind_blanks-text.ensures in
    behind-same text ∙ none-left (behind_blanks text) (behind-plain text) (ap is_done (sym is) ∙ (sym c.is_done.ensures ∙ c.if-is_done.true))

pub returns : goal.returns
returns c =
    let text = c.args.text.now in
    let rest = c.behind_blanks-text.result.now in
    let is : rest ≡ behind_blanks text = c.behind_blanks-text.ensures in
    let plain : StartsPlain rest = subst StartsPlain (sym is) (behind-plain text) in
    let more = one-more rest plain (sym c.is_done.ensures ∙ c.if-is_done.false) in
    let end : c.column_end.result ≡ prefix_len is_part rest = c.column_end.ensures.run in
    behind-same text ∙ (ap columns_of (sym is) ∙ (more ∙ (λ i. take (sym end i) rest ∷ columns_of (drop (sym end i) rest)) ∙ (λ i. sym c.split_at.ensures.front i ∷ columns_of (sym c.split_at.ensures.back i))))
