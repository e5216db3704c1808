-- The marks that stand together in one part of a clause. (Own.)
use Rattle.std.specs.Prelude.{Bool}
use Rattle.clause_reader.specs.declared.marks.Class.{Class}
use Rattle.clause_reader.specs.declared.marks.Class.TheVariants as class
use Rattle.obo_clause.specs.declared.mark.MarkedByte.{MarkedByte}
use Rattle.obo_clause.specs.Vocabulary.{is_entry_mark, is_key_mark, is_quoted_mark, is_space, is_unquoted_mark, is_word_mark}

-- the marks of a class
abbrev pub in_class : Class → MarkedByte → Bool
in_class class.Space = is_space
in_class class.Word = is_word_mark
in_class class.Quoted = is_quoted_mark
in_class class.Entry = is_entry_mark
in_class class.Key = is_key_mark
in_class class.Unquoted = is_unquoted_mark
