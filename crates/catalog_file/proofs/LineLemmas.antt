-- What the lines of a catalog say so far.
use Rattle.std.proofs.Common.{◌≡◌, ℕ, ◌+◌, ◌<◌, ◌≤◌, List, [], ◌∷◌, ◌++◌, Option, Some, None, Result, Ok, Err, length, get_or, take, drop, map, refl, sym, ap, ◌∙◌, arith}
use Rattle.std.specs.Option.{option_map}
use Rattle.std.proofs.lemmas.List.{append_assoc, append-nil}
use Rattle.obo_lexer.specs.Lines.{without_return}
use Rattle.rel_io.proofs.Options.{none_there, same_there}
use Rattle.catalog_file.specs.Catalog.{catalog_of, line_says, lines_say, with_line}
use Rattle.text_columns.specs.Lines.{CutsLine, text_lines}
use Rattle.catalog_file.specs.declared.catalog.CatalogLine.{CatalogLine}

-- ---- what was read so far

abbrev pub with_front : List CatalogLine → Result (List CatalogLine) ℕ → Result (List CatalogLine) ℕ
with_front front (Ok lines) = Ok (front ++ lines)
with_front front (Err refused) = Err refused

-- what stands there, and what the lines say that are left, is the catalog
pub record ReadSoFar (limit : ℕ) (bytes : List ℕ) (lines : List CatalogLine) (number : ℕ) (left : List ℕ) : Type 0 where
  pub ahead : with_front lines (lines_say limit number (text_lines left)) ≡ catalog_of limit bytes
  pub few : number + length left ≤ length bytes + 1

pub read_begins : (limit : ℕ) (bytes : List ℕ) → ReadSoFar limit bytes [] 1 bytes
unfolding catalog_of
read_begins limit bytes = record { ahead = nothing_before (lines_say limit 1 (text_lines bytes)); few = omega arith }
  where
    nothing_before : (said : Result (List CatalogLine) ℕ) → with_front [] said ≡ said
    nothing_before (Ok lines) = refl
    nothing_before (Err refused) = refl

line_before : (number : ℕ) (said : Option (List CatalogLine)) (old new : List CatalogLine) (others : Result (List CatalogLine) ℕ) → option_map (λ more. old ++ more) said ≡ Some new → with_front new others ≡ with_front old (with_line number said others)
line_before number None old new others is = absurd (none_there is)
line_before number (Some more) old new (Ok lines) is = ap (λ front. Ok (front ++ lines)) (sym (same_there is)) ∙ ap Ok (append_assoc old more lines)
line_before number (Some more) old new (Err refused) is = refl

pub read_goes_on : (limit : ℕ) (bytes : List ℕ) (old new : List CatalogLine) (number : ℕ) (left line rest : List ℕ) → ReadSoFar limit bytes old number left → CutsLine left line rest → length rest < length left → option_map (λ more. old ++ more) (line_says limit (without_return line)) ≡ Some new → ReadSoFar limit bytes new (number + 1) rest
read_goes_on limit bytes old new number left line rest so_far cut shorter is =
    let few = so_far.few in
    record {
      ahead = line_before number (line_says limit (without_return line)) old new (lines_say limit (number + 1) (text_lines rest)) is
          ∙ (ap (λ lines. with_front old (lines_say limit number lines)) (sym cut) ∙ so_far.ahead);
      few = omega arith;
    }

pub read_fails : (limit : ℕ) (bytes : List ℕ) (old : List CatalogLine) (number : ℕ) (left line rest : List ℕ) → ReadSoFar limit bytes old number left → CutsLine left line rest → line_says limit (without_return line) ≡ None → catalog_of limit bytes ≡ Err number
read_fails limit bytes old number left line rest so_far cut is =
    sym (so_far.ahead)
    ∙ (ap (λ lines. with_front old (lines_say limit number lines)) cut ∙ ap (λ said. with_front old (with_line number said (lines_say limit (number + 1) (text_lines rest)))) is)

nothing : (left : List ℕ) → length left ≡ 0 → left ≡ []
nothing [] none = refl
nothing (b ∷ bs) none = absurd (omega arith)

pub read_ends : (limit : ℕ) (bytes : List ℕ) (lines : List CatalogLine) (number : ℕ) (left : List ℕ) → ReadSoFar limit bytes lines number left → length left ≡ 0 → catalog_of limit bytes ≡ Ok lines
read_ends limit bytes lines number left so_far none =
    sym so_far.ahead ∙ (ap (λ l. with_front lines (lines_say limit number (text_lines l))) (nothing left none) ∙ ap Ok (append-nil lines))
