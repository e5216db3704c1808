-- Edges as they are written down, one class after the other. (Own.)
use Rattle.std.specs.Prelude.{◌≡◌, ℕ, ◌<◌, List, Bool, length, ◌⊎◌}
use Rattle.fact_rows.specs.Member.{In, NoRepeats}
use Rattle.fact_rows.specs.Marks.{IsFlagged, IsMarked}
use Rattle.direct_above.specs.Direct.{Rows, IsDirect}

-- b is another class than a, and not marked by a
pub record IsPicked (classes : List Bool) (seen : List ℕ) (a b : ℕ) : Type 0 where
  pub is_class : IsFlagged classes b
  pub other : b ≡ a → ⊥
  pub clear : IsMarked seen a b → ⊥

-- those of bs that are picked are written down beside a
pub record Writes (classes : List Bool) (seen : List ℕ) (a : ℕ) (bs : List ℕ) (old new : List (ℕ × ℕ)) : Type 0 where
  pub kept : (c d : ℕ) → In (c, d) old → In (c, d) new
  pub each : (b : ℕ) → In b bs → IsPicked classes seen a b → In (a, b) new
  pub only : (c d : ℕ) → In (c, d) new → In (c, d) old ⊎ ((c ≡ a) × In d bs × IsPicked classes seen a d)
  pub once : NoRepeats bs → NoRepeats old → ((d : ℕ) → In (a, d) old → ⊥) → NoRepeats new

-- what stands directly above a is written down beside it
pub record WritesDirect (rows told : Rows) (classes : List Bool) (a : ℕ) (old new : List (ℕ × ℕ)) (seen marks covered covers : List ℕ) : Type 0 where
  pub kept : (c d : ℕ) → In (c, d) old → In (c, d) new
  pub each : (b : ℕ) → IsDirect rows told classes a b → In (a, b) new
  pub only : (c d : ℕ) → In (c, d) new → In (c, d) old ⊎ ((c ≡ a) × IsDirect rows told classes a d)
  pub once : NoRepeats old → ((d : ℕ) → In (a, d) old → ⊥) → NoRepeats new
  pub others : (t b : ℕ) → IsMarked marks t b → (t ≡ a) ⊎ IsMarked seen t b
  pub covers_others : (t b : ℕ) → IsMarked covers t b → (t ≡ a) ⊎ IsMarked covered t b

-- the numbers below k are done, and marks are fresh from k on
pub record IsUnderWay (rows told : Rows) (classes declared : List Bool) (n k : ℕ) (out : List (ℕ × ℕ)) (seen covered : List ℕ) : Type 0 where
  pub long : length seen ≡ n
  pub covers_long : length covered ≡ n
  pub fresh : (t b : ℕ) → IsMarked seen t b → (t < k) ⊎ (t ≡ n)
  pub covers_fresh : (t b : ℕ) → IsMarked covered t b → (t < k) ⊎ (t ≡ n)
  pub on : (a b : ℕ) → In (a, b) out → IsFlagged declared a × IsDirect rows told classes a b
  pub each : (a b : ℕ) → a < k → IsFlagged declared a → IsDirect rows told classes a b → In (a, b) out
  pub before : (a b : ℕ) → In (a, b) out → a < k
  pub once : NoRepeats out
