-- What the lines of a term file say so far.
use Rattle.std.proofs.Common.{◌≡◌, ℕ, ◌+◌, ◌<◌, ◌≤◌, List, [], ◌∷◌, ◌++◌, Option, Some, None, Result, Ok, Err, length, refl, sym, ap, ◌∙◌, arith}
use Rattle.std.specs.Option.{option_map}
use Rattle.std.proofs.lemmas.List.{append_assoc, append-nil}
use Rattle.obo_lexer.specs.Lines.{without_return}
use Rattle.rel_io.proofs.Options.{none_there, same_there}
use Rattle.seed_list.specs.Terms.{iris_of, line_says, lines_say, with_line}
use Rattle.text_columns.specs.Lines.{CutsLine, text_lines}

-- ---- what was read so far

abbrev pub with_front : List (List ℕ) → Result (List (List ℕ)) ℕ → Result (List (List ℕ)) ℕ
with_front front (Ok lines) = Ok (front ++ lines)
with_front front (Err refused) = Err refused

-- the IRIs so far, and those of the lines that are left, are those of the file
pub record ReadSoFar (ontology : List ℕ) (max : ℕ) (bytes : List ℕ) (lines : List (List ℕ)) (number : ℕ) (left : List ℕ) : Type 0 where
  pub ahead : with_front lines (lines_say ontology max number (text_lines left)) ≡ iris_of ontology max bytes
  pub few : number + length left ≤ length bytes + 1

pub read_begins : (ontology : List ℕ) (max : ℕ) (bytes : List ℕ) → ReadSoFar ontology max bytes [] 1 bytes
unfolding iris_of
read_begins ontology max bytes = record { ahead = nothing_before (lines_say ontology max 1 (text_lines bytes)); few = omega arith }
  where
    nothing_before : (said : Result (List (List ℕ)) ℕ) → with_front [] said ≡ said
    nothing_before (Ok lines) = refl
    nothing_before (Err refused) = refl

line_before : (number : ℕ) (said : Option (List (List ℕ))) (old new : List (List ℕ)) (others : Result (List (List ℕ)) ℕ) → option_map (λ more. old ++ more) said ≡ Some new → with_front new others ≡ with_front old (with_line number said others)
line_before number None old new others is = absurd (none_there is)
line_before number (Some more) old new (Ok lines) is = ap (λ front. Ok (front ++ lines)) (sym (same_there is)) ∙ ap Ok (append_assoc old more lines)
line_before number (Some more) old new (Err refused) is = refl

pub read_goes_on : (ontology : List ℕ) (max : ℕ) (bytes : List ℕ) (old new : List (List ℕ)) (number : ℕ) (left line rest : List ℕ) → ReadSoFar ontology max bytes old number left → CutsLine left line rest → length rest < length left → option_map (λ more. old ++ more) (line_says ontology max number (without_return line)) ≡ Some new → ReadSoFar ontology max bytes new (number + 1) rest
read_goes_on ontology max bytes old new number left line rest so_far cut shorter is =
    let few = so_far.few in
    record {
      ahead = line_before number (line_says ontology max number (without_return line)) old new (lines_say ontology max (number + 1) (text_lines rest)) is
          ∙ (ap (λ lines. with_front old (lines_say ontology max number lines)) (sym cut) ∙ so_far.ahead);
      few = omega arith;
    }

pub read_fails : (ontology : List ℕ) (max : ℕ) (bytes : List ℕ) (old : List (List ℕ)) (number : ℕ) (left line rest : List ℕ) → ReadSoFar ontology max bytes old number left → CutsLine left line rest → line_says ontology max number (without_return line) ≡ None → iris_of ontology max bytes ≡ Err number
read_fails ontology max bytes old number left line rest so_far cut is =
    sym (so_far.ahead)
    ∙ (ap (λ lines. with_front old (lines_say ontology max number lines)) cut ∙ ap (λ said. with_front old (with_line number said (lines_say ontology max (number + 1) (text_lines rest)))) is)

nothing : (left : List ℕ) → length left ≡ 0 → left ≡ []
nothing [] none = refl
nothing (b ∷ bs) none = absurd (omega arith)

pub read_ends : (ontology : List ℕ) (max : ℕ) (bytes : List ℕ) (lines : List (List ℕ)) (number : ℕ) (left : List ℕ) → ReadSoFar ontology max bytes lines number left → length left ≡ 0 → iris_of ontology max bytes ≡ Ok lines
read_ends ontology max bytes lines number left so_far none =
    sym so_far.ahead ∙ (ap (λ l. with_front lines (lines_say ontology max number (text_lines l))) (nothing left none) ∙ ap Ok (append-nil lines))
