use Rattle.std.proofs.lemmas.Bool.Decides.{same_from_decides}
use Rattle.std.proofs.lemmas.Str.{IsUtf8-from_is_utf8, is_utf8-from_IsUtf8}
use Rattle.text_columns.proofs.column.is_utf8.Goals as goal

pub returns : goal.returns
returns c = same_from_decides _ _ c.is_utf8.ensures (IsUtf8-from_is_utf8 _, is_utf8-from_IsUtf8 _)
