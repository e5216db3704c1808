-- What the definitions of documents amount to.
use Rattle.std.proofs.Common.{◌≡◌, inl, inr, ◌<◌, ◌≤◌, ◌+◌, ℕ, List, [], ◌∷◌, ◌++◌, None, Some, arith, map, refl, suc, subst, sym, zero, ◌∙◌}
use Rattle.std.specs.Prelude.{Contains, slice_index}
use Rattle.std.specs.List.Sorted.{IsStrictlyIncreasing}
use Rattle.std.proofs.lemmas.List.Elements.{All-contains}
use Rattle.obo_lexer.specs.Items.{lines_of, numbered}
use Rattle.obo_lexer.specs.Lines.{file_lines}
use Rattle.obo_lexer.specs.declared.line.LineBody.TheVariants as body
use Rattle.obo_lexer.specs.declared.line.LineItem.{LineItem}
use Rattle.obo_clause.specs.Spelling.{Spells}
use Rattle.obo_clause.specs.declared.clause.Clause.{Clause}
use Rattle.obo_clause.specs.declared.line.Line.{Line}
use Rattle.obo_clause.specs.declared.line.Line.TheVariants as says
use Rattle.obo_frames.specs.Frames.{id_in, placed_of}
use Rattle.obo_frames.specs.Laws.{IsSpelledByLine, LinesRise, LinesSpell}
use Rattle.obo_frames.specs.inner.Standing.{behind_line, place_first, placed_by_clause, placed_by_line, placed_from}
use Rattle.obo_frames.specs.Telling.{Tells, place_after, start}
use Rattle.obo_frames.specs.declared.placed.Placed.{Placed}
use Rattle.obo_frames.specs.declared.standing.Standing.{Standing}
use Rattle.obo_frames.specs.declared.standing.Standing.TheVariants.{Begun, Header, Nameless, Within}
use Rattle.obo_frames.specs.declared.told.Place.{Place}
use Rattle.obo_frames.specs.declared.told.Told.{Told}
use Rattle.obo_frames.proofs.ListLemmas.{Among, contains-from_among}
use Rattle.obo_frames.proofs.PlacingLemmas.{placed_from-is}
use Rattle.obo_frames.proofs.SoundLemmas.{HoldsPlaced, IsClauseAt, holds_of_all}

-- ---- lines rise

-- each line is at least this, and above those before it
abbrev RisesFrom : ℕ → List Placed → Type 0
RisesFrom low [] = Unit {0}
RisesFrom low (one ∷ placed) = (low ≤ one.line) × RisesFrom (one.line + 1) placed

rises_lower : (low high : ℕ) (placed : List Placed) → low ≤ high → RisesFrom high placed → RisesFrom low placed
rises_lower low high [] below rises = tt
rises_lower low high (one ∷ placed) below rises = let least = rises.0 in (omega arith, rises.1)

-- a line places nothing, or one clause with its number
rises_entry : (standing : Standing) (line : ℕ) (clause : Clause) (rest : List Placed) → RisesFrom (line + 1) rest → RisesFrom line (placed_by_clause standing (record { line = line; clause = clause }) ++ rest)
rises_entry Header line clause rest rises = (omega arith, rises)
rises_entry (Begun kind begun) line clause rest rises =
    elim (id_in clause) as (λ found. RisesFrom line (place_first kind found (record { line = line; clause = clause }) ++ rest)) [
      | None ↦ rises_lower line (line + 1) rest (omega arith) rises
      | Some id ↦ (omega arith, rises)
    ]
rises_entry (Within kind id) line clause rest rises = (omega arith, rises)
rises_entry Nameless line clause rest rises = rises_lower line (line + 1) rest (omega arith) rises

rises_line : (standing : Standing) (line : ℕ) (said : Line) (rest : List Placed) → RisesFrom (line + 1) rest → RisesFrom line (placed_by_line standing line said ++ rest)
rises_line standing line says.Blank rest rises = rises_lower line (line + 1) rest (omega arith) rises
rises_line standing line (says.Frame kind) rest rises = rises_lower line (line + 1) rest (omega arith) rises
rises_line standing line (says.Content clause) rest rises = rises_entry standing line clause rest rises

rises_from : (limit number : ℕ) (lines : List (List ℕ)) (standing : Standing) (at : Place) (tolds : List Told) → Tells at (numbered limit number lines) tolds → RisesFrom number (placed_from standing tolds)
rises_from limit number [] standing at [] tells = tt
rises_from limit number [] standing at (told ∷ tolds) tells = absurd tells
rises_from limit number (line ∷ lines) standing at [] tells = absurd tells
rises_from limit number (line ∷ lines) standing at (told ∷ tolds) tells =
    let rest = rises_from limit (number + 1) lines (behind_line standing told.line told.said) (place_after at told.said) tolds tells.1 in
    let number_is = tells.0.line in
    subst (λ low. RisesFrom low (placed_from standing (told ∷ tolds))) number_is
    (rises_line standing told.line told.said _ (subst (λ low. RisesFrom (low + 1) (placed_from (behind_line standing told.line told.said) tolds)) (sym number_is) rest))

abbrev lines_in : List Placed → List ℕ
lines_in placed = map (λ one. one.line) placed

increases : (low : ℕ) (placed : List Placed) → RisesFrom low placed → IsStrictlyIncreasing (lines_in placed)
increases low [] rises k within = absurd (omega arith)
increases low (one ∷ []) rises k within = absurd (omega arith)
increases low (one ∷ other ∷ placed) rises zero within = let least = rises.1.0 in omega arith
increases low (one ∷ other ∷ placed) rises (suc k) within =
    let next : suc (k + 1) ≡ suc k + 1 = omega arith in
    subst (λ at. slice_index (lines_in (one ∷ other ∷ placed)) (suc k) < slice_index (lines_in (one ∷ other ∷ placed)) at) next (increases (one.line + 1) (other ∷ placed) rises.1 k (omega arith))

pub lines_rise : (limit : ℕ) (bytes : List ℕ) → LinesRise limit bytes
lines_rise limit bytes placed is =
    increases 1 placed (subst (RisesFrom 1) (placed_from-is is.tolds ∙ sym is.in_places) (rises_from limit 1 (file_lines bytes) Header start is.tolds is.tells))

-- ---- lines spell

stands_at : (limit : ℕ) (bytes : List ℕ) (at : Place) (item : LineItem) (line : ℕ) (clause : Clause) → Among item (lines_of limit bytes) → line ≡ item.number → (is : IsClauseAt at item clause) → Contains (lines_of limit bytes) (record { number = line; body = body.Text is.line })
stands_at limit bytes at item line clause among number is =
    let same : item ≡ record { number = line; body = body.Text is.line } = (λ i. record { number = sym number i; body = is.body i }) in
    subst (Contains (lines_of limit bytes)) same (contains-from_among (lines_of limit bytes) item among)

spelled_placed : (limit : ℕ) (bytes : List ℕ) → HoldsPlaced (IsSpelledByLine limit bytes) (lines_of limit bytes)
spelled_placed limit bytes = record {
  header = λ at item line clause among number header is. record {
    text = is.line;
    stands = stands_at limit bytes at item line clause among number is;
    first = at.is_first;
    qualifiers = clause.qualifiers;
    spells = subst (λ kind. Spells kind at.is_first is.line clause) header is.spells;
    keeps = inl refl;
  };
  first = λ at item line clause kind id among number same no_header names is. record {
    text = is.line;
    stands = stands_at limit bytes at item line clause among number is;
    first = at.is_first;
    qualifiers = clause.qualifiers;
    spells = subst (λ one. Spells one at.is_first is.line clause) same is.spells;
    keeps = inr (record { tag = names.tag; value = names.value }, refl);
  };
  later = λ at item line clause kind id among number same later no_header some is. record {
    text = is.line;
    stands = stands_at limit bytes at item line clause among number is;
    first = at.is_first;
    qualifiers = clause.qualifiers;
    spells = subst (λ one. Spells one at.is_first is.line clause) same is.spells;
    keeps = inl refl;
  };
}

pub lines_spell : (limit : ℕ) (bytes : List ℕ) → LinesSpell limit bytes
lines_spell limit bytes placed one is contains =
    All-contains (IsSpelledByLine limit bytes) (placed_of is.tolds) one (holds_of_all (IsSpelledByLine limit bytes) (lines_of limit bytes) is.tolds (spelled_placed limit bytes) is.tells)
    (subst (λ some. Contains some one) is.in_places contains)
