-- What a row is seen as. (Own.)
use Rattle.std.specs.Prelude.{ℕ, List, Bool, Option}

-- the id of its frame, the place of its tag there, the tag, the printed value and block, the last id of the value, and whether
-- it gives its frame a name
pub record RowState : Type 0 where
  pub id : List ℕ
  pub place : ℕ
  pub tag : List ℕ
  pub value : List ℕ
  pub block : List ℕ
  pub target : Option (List ℕ)
  pub is_name : Bool
