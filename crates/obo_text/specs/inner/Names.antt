-- The names of the frames of all kinds, and the text of sorted rows. Only private functions speak of it. (Own.)
use Rattle.std.specs.Prelude.{ℕ, List, ◌++◌, None}
use Rattle.std.specs.BTreeMap.{get}
use Rattle.text_sets.specs.Sorted.{text_cmp}
use Rattle.obo_tags.specs.declared.kind.FrameKind.TheVariants as kinds
use Rattle.obo_text.specs.inner.Rows.{Looks, held_from, one_held, rows_text}
use Rattle.obo_text.specs.declared.names.Names.{Names}
use Rattle.obo_text.specs.inner.RowState.{RowState}

-- what the maps hold
abbrev pub look_in : Names → Looks
look_in names kinds.Header id = None
look_in names kinds.Term id = one_held (get text_cmp names.terms id)
look_in names kinds.Typedef id = one_held (get text_cmp names.typedefs id)
look_in names kinds.Instance id = one_held (get text_cmp names.instances id)

-- what the rows themselves tell
abbrev pub look_at : List RowState → List RowState → List RowState → Looks
look_at terms typedefs instances kinds.Header id = None
look_at terms typedefs instances kinds.Term id = one_held (held_from id None terms)
look_at terms typedefs instances kinds.Typedef id = one_held (held_from id None typedefs)
look_at terms typedefs instances kinds.Instance id = one_held (held_from id None instances)

-- the text of the rows of all kinds
abbrev pub text_with : Looks → List RowState → List RowState → List RowState → List RowState → List ℕ
text_with look header terms typedefs instances =
    rows_text look kinds.Header header ++ (rows_text look kinds.Term terms ++ (rows_text look kinds.Typedef typedefs ++ rows_text look kinds.Instance instances))

abbrev pub text_of_rows : List RowState → List RowState → List RowState → List RowState → List ℕ
text_of_rows header terms typedefs instances =
    text_with (look_at terms typedefs instances) header terms typedefs instances
