-- What the canonical text amounts to. (Own.)
use Rattle.std.specs.Prelude.{Err, List, Ok, length, map, ℕ, ◌≡◌, ◌≤◌}
use Rattle.std.specs.List.{All}
use Rattle.obo_frames.specs.Answer.{document_of}
use Rattle.obo_frames.specs.declared.fault.DocFault.{DocFault}
use Rattle.obo_frames.specs.Documents.{IsDocument}
use Rattle.obo_frames.specs.Soundness.{IsSound}
use Rattle.obo_frames.specs.declared.placed.Placed.{Placed}
use Rattle.obo_frames.specs.Framed.{Framed, SameClauses, unlined}
use Rattle.obo_text.specs.Text.{canonical_text, lines_in}

-- no line is longer than this
abbrev pub LinesFit : ℕ → List Framed → Type 0
LinesFit limit document = All (λ line. length line ≤ limit) (lines_in document)

-- the text is a file with the same clauses in the same frames
pub record IsReadBack (limit : ℕ) (placed : List Placed) : Type 0 where
  pub read : List Placed
  pub document : IsDocument limit (canonical_text (map unlined placed)) read
  pub same : SameClauses read placed

-- so it is for every sound document
abbrev pub ReadsBack : ℕ → List Placed → Type 0
ReadsBack limit placed = IsSound placed → LinesFit limit (map unlined placed) → ∥ IsReadBack limit placed ∥₁

-- the text depends on the set of clauses alone
abbrev pub IsOfSet : List Placed → Type 0
IsOfSet placed =
    IsSound placed → (others : List Placed) → SameClauses others placed → canonical_text (map unlined others) ≡ canonical_text (map unlined placed)

-- the text is no fault, and what it reads as has this text again
pub record IsSettled (limit : ℕ) (placed : List Placed) : Type 0 where
  pub faultless : (one : DocFault) → document_of limit (canonical_text (map unlined placed)) ≡ Err one → ⊥
  pub again : (read : List Placed) → document_of limit (canonical_text (map unlined placed)) ≡ Ok read → canonical_text (map unlined read) ≡ canonical_text (map unlined placed)

abbrev pub Settles : ℕ → List Placed → Type 0
Settles limit placed = IsSound placed → LinesFit limit (map unlined placed) → IsSettled limit placed
