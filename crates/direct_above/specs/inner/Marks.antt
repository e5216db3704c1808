-- Marks, by a stamp s, of what stands strictly above some candidates. (Own.)
use Rattle.std.specs.Prelude.{◌≡◌, ℕ, ◌<◌, List, Bool, length, ◌⊎◌}
use Rattle.fact_rows.specs.Member.{In}
use Rattle.fact_rows.specs.Rows.{row}
use Rattle.fact_rows.specs.Marks.{IsFlagged, IsMarked}
use Rattle.direct_above.specs.Direct.{Rows}

-- the row of b is shorter than that of x
abbrev pub IsShorter : Rows → ℕ → ℕ → Type 0
IsShorter rows b x = length (row rows b) < length (row rows x)

-- b stands above x, and less stands above b
pub record IsStrict (rows : Rows) (x b : ℕ) : Type 0 where
  pub above : In b (row rows x)
  pub shorter : IsShorter rows b x

-- of the numbers bs those with less above them than x are marked, and no others; only what is in bs is covered
pub record MarksAbove (rows : Rows) (s x : ℕ) (bs : List ℕ) (seen covered new covers : List ℕ) : Type 0 where
  pub long : length new ≡ length seen
  pub covers_long : length covers ≡ length covered
  pub kept : (b : ℕ) → IsMarked seen s b → IsMarked new s b
  pub only : (t b : ℕ) → IsMarked new t b → IsMarked seen t b ⊎ ((t ≡ s) × In b bs × IsShorter rows b x)
  pub each : (b : ℕ) → In b bs → IsShorter rows b x → IsMarked new s b
  pub covers_only : (t b : ℕ) → IsMarked covers t b → IsMarked covered t b ⊎ ((t ≡ s) × In b bs)

-- x is a class strictly above a
pub record IsCandidate (rows : Rows) (classes : List Bool) (a x : ℕ) : Type 0 where
  pub is_class : IsFlagged classes x
  pub strict : IsStrict rows a x

-- the second numbers of the pairs are the classes strictly above a
pub record AreCandidates (rows : Rows) (classes : List Bool) (a : ℕ) (xs : List (ℕ × ℕ)) : Type 0 where
  pub on : (k x : ℕ) → In (k, x) xs → IsCandidate rows classes a x
  pub each : (x : ℕ) → IsCandidate rows classes a x → (k : ℕ) × In (k, x) xs

-- of the numbers ys those that are classes with shorter rows than a
pub record Picks (rows : Rows) (classes : List Bool) (a : ℕ) (ys : List ℕ) (xs : List (ℕ × ℕ)) : Type 0 where
  pub on : (k x : ℕ) → In (k, x) xs → IsFlagged classes x × In x ys × IsShorter rows x a
  pub each : (x : ℕ) → IsFlagged classes x → In x ys → IsShorter rows x a → (k : ℕ) × In (k, x) xs

-- one of xs stands strictly below b
pub record IsDone (rows : Rows) (b : ℕ) (xs : List (ℕ × ℕ)) : Type 0 where
  pub key : ℕ
  pub it : ℕ
  pub inside : In (key, it) xs
  pub high : IsStrict rows it b

-- one of xs stands below b
pub record IsCovered (rows : Rows) (b : ℕ) (xs : List (ℕ × ℕ)) : Type 0 where
  pub key : ℕ
  pub it : ℕ
  pub inside : In (key, it) xs
  pub above : In b (row rows it)

-- what stands strictly above one of xs is marked, and nothing else; only what stands above one of xs is covered
pub record IsGoing (rows : Rows) (s : ℕ) (xs : List (ℕ × ℕ)) (old covers_old seen covered : List ℕ) : Type 0 where
  pub long : length seen ≡ length old
  pub covers_long : length covered ≡ length covers_old
  pub marked : (b : ℕ) → IsMarked seen s b → IsDone rows b xs
  pub done : (k x : ℕ) → In (k, x) xs → (b : ℕ) → IsStrict rows x b → IsMarked seen s b
  pub covers : (b : ℕ) → IsMarked covered s b → IsCovered rows b xs
  pub others : (t b : ℕ) → IsMarked seen t b → (t ≡ s) ⊎ IsMarked old t b
  pub covers_others : (t b : ℕ) → IsMarked covered t b → (t ≡ s) ⊎ IsMarked covers_old t b

-- the numbers of bs are marked too
pub record MarksAll (s : ℕ) (bs old new : List ℕ) : Type 0 where
  pub long : length new ≡ length old
  pub kept : (b : ℕ) → IsMarked old s b → IsMarked new s b
  pub only : (t b : ℕ) → IsMarked new t b → IsMarked old t b ⊎ ((t ≡ s) × In b bs)
  pub each : (b : ℕ) → In b bs → IsMarked new s b
