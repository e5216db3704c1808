-- The first line of a text, and what stands behind it.
use Rattle.std.proofs.Common.{◌≡◌, ℕ, ◌+◌, ◌<◌, List, [], ◌∷◌, ◌++◌, Some, None, length, get_or, take, drop, map, refl, sym, ap, ◌∙◌, arith}
use Rattle.std.proofs.lemmas.Bool.{eqb-true}
use Rattle.std.proofs.lemmas.List.{drop_more, take-append-drop}
use Rattle.memchr.specs.Find.{IsFirstByte, is_byte}
use Rattle.obo_lexer.specs.Lines.{ended_lines, last_line, rest_of, without_return}
use Rattle.obo_lexer.proofs.LineLemmas.{NoFeed-before, NoFeed-from_none, ended_lines-none, ended_lines-one, rest_of-none, rest_of-one}
use Rattle.text_columns.specs.Lines.{CutsLine}

-- bytes around their first LF
around : (bytes : List ℕ) (at : ℕ) → IsFirstByte (is_byte 10) bytes (Some at) → bytes ≡ take at bytes ++ 10 ∷ drop (at + 1) bytes
around bytes at h =
    let within : at < length bytes = h.0.high in
    let byte : get_or bytes at 0 ≡ 10 = eqb-true _ 10 h.1 in
    sym (take-append-drop at bytes) ∙ ap (λ l. take at bytes ++ l) (drop_more bytes at 0 within ∙ ap (λ b. b ∷ drop (at + 1) bytes) byte)

pub cut-one : (bytes : List ℕ) (at : ℕ) → IsFirstByte (is_byte 10) bytes (Some at) → CutsLine bytes (take at bytes) (drop (at + 1) bytes)
cut-one bytes at found =
    let line = take at bytes in
    let later = drop (at + 1) bytes in
    let bare = NoFeed-before bytes at found in
    let whole = around bytes at found in
    let lines : ended_lines bytes ≡ line ∷ ended_lines later = ap ended_lines whole ∙ ended_lines-one line later bare in
    let rest : rest_of bytes ≡ rest_of later = ap rest_of whole ∙ rest_of-one line later bare in
    (λ i. map without_return (lines i ++ last_line (rest i)))

filled-line : (bytes : List ℕ) → 0 < length bytes → last_line bytes ≡ bytes ∷ []
filled-line [] some = absurd (omega arith)
filled-line (b ∷ bs) some = refl

pub cut-none : (bytes : List ℕ) → 0 < length bytes → IsFirstByte (is_byte 10) bytes None → CutsLine bytes bytes []
cut-none bytes some none =
    let bare = NoFeed-from_none bytes none in
    (λ i. map without_return (ended_lines-none bytes bare i ++ last_line (rest_of-none bytes bare i))) ∙ ap (map without_return) (filled-line bytes some)
