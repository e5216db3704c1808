-- What the canonical text of documents amounts to. (Own.)
use Rattle.std.specs.Prelude.{◌≡◌, ℕ, Err, List, Ok, map}
use Rattle.text_sets.specs.Sets.{SameMembers}
use Rattle.obo_frames.specs.Answer.{document_of}
use Rattle.obo_frames.specs.Documents.{IsDocument}
use Rattle.obo_frames.specs.Framed.{Framed, SameClauses, unlined}
use Rattle.obo_frames.specs.Soundness as documents
use Rattle.obo_frames.specs.declared.fault.DocFault.{DocFault}
use Rattle.obo_frames.specs.declared.placed.Placed.{Placed}
use Rattle.obo_text.specs.Laws.{LinesFit}
use Rattle.obo_text.specs.Text.{canonical_text}
use Rattle.obo_mapping.specs.Documents.{norm}

-- the text of the normal form
abbrev pub canonical : List Framed → List ℕ
canonical d = canonical_text (norm d)

-- the normal form depends on the set of clauses alone
abbrev pub NormIsOfSet : Type 0
NormIsOfSet = (some others : List Placed) → SameClauses some others → SameMembers (norm (map unlined some)) (norm (map unlined others))

-- so does the canonical text
abbrev pub CanonicalIsOfSet : Type 0
CanonicalIsOfSet = (some others : List Placed) → documents.IsSound some → SameClauses some others → canonical (map unlined some) ≡ canonical (map unlined others)

-- the canonical text is a file with the clauses of the normal form
pub record IsReadBack (limit : ℕ) (d : List Framed) : Type 0 where
  pub read : List Placed
  pub document : IsDocument limit (canonical d) read
  pub same : SameMembers (map unlined read) (norm d)

-- so it is where no line of it is longer than the limit
abbrev pub CanonicalReadsBack : Type 0
CanonicalReadsBack =
    (limit : ℕ) (placed : List Placed) → documents.IsSound placed → LinesFit limit (norm (map unlined placed)) → ∥ IsReadBack limit (map unlined placed) ∥₁

-- the text is no fault, and what it reads as has this canonical text again
pub record IsSettled (limit : ℕ) (d : List Framed) : Type 0 where
  pub faultless : (one : DocFault) → document_of limit (canonical d) ≡ Err one → ⊥
  pub again : (read : List Placed) → document_of limit (canonical d) ≡ Ok read → canonical (map unlined read) ≡ canonical d

-- canonising twice is once
abbrev pub CanonisingTwiceIsOnce : Type 0
CanonisingTwiceIsOnce =
    (limit : ℕ) (placed : List Placed) → documents.IsSound placed → LinesFit limit (norm (map unlined placed)) → IsSettled limit (map unlined placed)
