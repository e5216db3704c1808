-- Lines that are texts, written with their ends, are read as themselves.
use Rattle.std.proofs.Common.{◌≡◌, ℕ, zero, suc, ◌+◌, ◌-◌, Bool, true, false, List, [], ◌∷◌, ◌++◌, get_or, length, map, slice_index, refl, sym, ap, ◌∙◌}
use Rattle.std.specs.List.{All, list_any, starts_with}
use Rattle.std.specs.Prelude.{nat_eq}
use Rattle.std.proofs.lemmas.Bool.{or_parts}
use Rattle.std.proofs.lemmas.List.{append-nil}
use Rattle.std.proofs.lemmas.List.Elements.{All-cons, All-head, All-nil, All-tail}
use Rattle.rel_io.specs.Texts.{is_return}
use Rattle.obo_lexer.specs.declared.line.LineBody.TheVariants.{Text}
use Rattle.obo_lexer.specs.declared.line.LineItem.{LineItem}
use Rattle.obo_lexer.specs.Items.{IsLineText, body_of, lines_of, numbered}
use Rattle.obo_lexer.specs.Laws.{WrittenLinesAreRead, as_texts}
use Rattle.obo_lexer.specs.Lines.{HasNoLineFeed, byte_order_mark, ended_lines, last_line, rest_of, shown, text_of, without_mark, without_return, written}
use Rattle.obo_lexer.proofs.BodyLemmas.{body_of-text}
use Rattle.obo_lexer.proofs.LawLemmas.{lines_are_only}

shown-same : (bytes : List ℕ) → list_any is_return bytes ≡ false → map shown bytes ≡ bytes
shown-same [] h = refl
shown-same (byte ∷ bytes) h =
    let p = or_parts (is_return byte) (list_any is_return bytes) h in
    rw p.0 (ap (λ l. byte ∷ l) (shown-same bytes p.1))

no_return-at : (bytes : List ℕ) (place : ℕ) → list_any is_return bytes ≡ false → is_return (get_or bytes place 0) ≡ false
no_return-at [] place h = refl
no_return-at (byte ∷ bytes) zero h = (or_parts (is_return byte) (list_any is_return bytes) h).0
no_return-at (byte ∷ bytes) (suc place) h = no_return-at bytes place (or_parts (is_return byte) (list_any is_return bytes) h).1

text_of-same : (line : List ℕ) → list_any is_return line ≡ false → line ≡ text_of line
text_of-same line h = rw (no_return-at line (length line - 1) h) (sym (shown-same line h))

numbered-texts : (limit number : ℕ) (lines : List (List ℕ)) → All (IsLineText limit) lines → numbered limit number lines ≡ as_texts number lines
numbered-texts limit number [] all = refl
numbered-texts limit number (line ∷ lines) all =
    let is = All-head (IsLineText limit) line lines all in
    rw (sym (body_of-text limit line line (text_of-same line is.no_return) is.utf8 is.within)) (ap (λ l. (let item : LineItem = record { number = number; body = Text line } in item) ∷ l) (numbered-texts limit (number + 1) lines (All-tail (IsLineText limit) line lines all)))

no_feeds : (limit : ℕ) (lines : List (List ℕ)) → All (IsLineText limit) lines → All HasNoLineFeed lines
no_feeds limit [] all = All-nil HasNoLineFeed
no_feeds limit (line ∷ lines) all =
    All-cons HasNoLineFeed line lines (All-head (IsLineText limit) line lines all).no_line_feed (no_feeds limit lines (All-tail (IsLineText limit) line lines all))

pub written_lines_are_read : WrittenLinesAreRead
written_lines_are_read limit lines all unmarked =
    let bytes = written lines [] in
    let bare : without_mark bytes ≡ bytes = rw unmarked refl in
    let only = lines_are_only bytes lines [] (no_feeds limit lines all) refl refl in
    ap (λ l. numbered limit 1 (ended_lines l ++ last_line (rest_of l))) bare
    ∙ ap (λ l. numbered limit 1 (l ++ last_line (rest_of bytes))) (sym only.0)
    ∙ ap (λ l. numbered limit 1 (lines ++ last_line l)) (sym only.1)
    ∙ ap (λ l. numbered limit 1 l) (append-nil lines)
    ∙ numbered-texts limit 1 lines all
