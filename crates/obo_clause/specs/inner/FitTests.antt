-- The same as `Fits`, as tests. Only private functions speak of them. (Own.)
use Rattle.std.specs.Prelude.{ℕ, ◌==◌, ◌-◌, ◌&&◌, Bool, false, not, true, List, [], ◌∷◌, Option, None, Some, length, slice_index}
use Rattle.std.specs.List.{list_all, list_any}
use Rattle.std.specs.Str.{is_utf8}
use Rattle.rel_io.specs.Texts.{is_line_feed, is_return}
use Rattle.obo_lexer.specs.Tokens.{is_blank}
use Rattle.obo_tags.specs.declared.kind.FrameKind.{FrameKind}
use Rattle.obo_tags.specs.declared.kind.ValueShape.{ValueShape}
use Rattle.obo_tags.specs.declared.kind.ValueShape.TheVariants as shapes
use Rattle.obo_clause.specs.declared.clause.Clause.{Clause}
use Rattle.obo_clause.specs.declared.clause.Qualifier.{Qualifier}
use Rattle.obo_clause.specs.declared.clause.Value.{Value}
use Rattle.obo_clause.specs.declared.clause.Value.TheVariants as value
use Rattle.obo_clause.specs.declared.clause.Xref.{Xref}
use Rattle.obo_clause.specs.Marks.{bare}
use Rattle.obo_clause.specs.ReadingLines.{is_tag}
use Rattle.obo_clause.specs.Spelling.{shape_at}
use Rattle.obo_clause.specs.Vocabulary.{is_key_mark}

abbrev pub is_text : List ℕ → Bool
is_text text = is_utf8 text && not (list_any is_return text)

abbrev pub is_word : List ℕ → Bool
is_word word = not (length word == 0) && is_text word

abbrev pub is_word_or_none : Option (List ℕ) → Bool
is_word_or_none None = true
is_word_or_none (Some word) = is_word word

abbrev pub is_text_or_none : Option (List ℕ) → Bool
is_text_or_none None = true
is_text_or_none (Some text) = is_text text

abbrev pub fits_xref : Xref → Bool
fits_xref xref = is_word xref.id && is_text_or_none xref.label

abbrev pub is_key : List ℕ → Bool
is_key key = not (length key == 0) && list_all (λ byte. is_key_mark (bare byte)) key && is_utf8 key

abbrev pub fits_qualifier : Qualifier → Bool
fits_qualifier qualifier = is_key qualifier.key && is_text qualifier.value

abbrev pub is_trimmed : List ℕ → Bool
is_trimmed [] = true
is_trimmed (byte ∷ bytes) = not (is_blank byte) && not (is_blank (slice_index (byte ∷ bytes) (length (byte ∷ bytes) - 1)))

abbrev pub is_raw_text : List ℕ → Bool
is_raw_text text = is_trimmed text && is_text text && not (list_any is_line_feed text)

unfoldable pub fits_shape : ValueShape → Value → Bool
fits_shape shapes.Text (value.Text text) = is_text text
fits_shape shapes.Id (value.Id word) = is_word word
fits_shape shapes.Pair (value.Pair first second) = is_word first && is_word second
fits_shape shapes.IdOrPair (value.Id word) = is_word word
fits_shape shapes.IdOrPair (value.Pair first second) = is_word first && is_word second
fits_shape shapes.Bool (value.Bool truth) = true
fits_shape shapes.Def (value.Def text xrefs) = is_text text && list_all fits_xref xrefs
fits_shape shapes.Synonym (value.Synonym text scope type xrefs) = is_text text && is_word_or_none type && list_all fits_xref xrefs
fits_shape shapes.XrefShape (value.XrefValue xref) = fits_xref xref
fits_shape shapes.Property (value.Literal relation text datatype) = is_word relation && is_text text && is_word datatype
fits_shape shapes.Property (value.Link relation target) = is_word relation && is_word target
fits_shape shapes.SubsetDef (value.SubsetDef id text) = is_word id && is_text text
fits_shape shapes.SynonymDef (value.SynonymDef id text scope) = is_word id && is_text text
fits_shape shapes.Raw (value.Raw text) = is_raw_text text
fits_shape _ _ = false

abbrev pub fit_behind : ValueShape → List Qualifier → Bool
fit_behind shapes.Raw qualifiers = length qualifiers == 0
fit_behind _ qualifiers = list_all fits_qualifier qualifiers

abbrev pub fits : FrameKind → Bool → Clause → Bool
fits kind first clause =
    is_tag clause.tag && fits_shape (shape_at kind first clause.tag) clause.value
    && fit_behind (shape_at kind first clause.tag) clause.qualifiers
