-- What every document keeps. (Own.)
use Rattle.std.specs.Prelude.{◌≡◌, ◌↔◌, ℕ, List, [], codes, Contains}
use Rattle.obo_tags.specs.declared.kind.FrameKind.TheVariants as kinds
use Rattle.obo_clause.specs.Spelled.{IsSpelledIn}
use Rattle.obo_clause.specs.declared.clause.Value.TheVariants as value
use Rattle.obo_frames.specs.Groups.{short_lines}
use Rattle.obo_frames.specs.declared.placed.Placed.{Placed}

-- some line spells each clause, in a frame of its kind
abbrev pub AreSpelled : List Placed → Type 0
AreSpelled placed = (one : Placed) → Contains placed one → IsSpelledIn one.frame one.clause

-- clauses of the header, and they alone, have an empty id
abbrev pub HeaderHasNoId : List Placed → Type 0
HeaderHasNoId placed = (one : Placed) → Contains placed one → (one.frame ≡ kinds.Header) ↔ (one.id ≡ [])

-- the clause is an `id` clause with this word
pub record GivesId (id : List ℕ) (one : Placed) : Type 0 where
  pub tag : one.clause.tag ≡ codes "id"
  pub value : one.clause.value ≡ value.Id id

-- an `id` clause with a word has the id of its frame, and no qualifiers
pub record IsBare (id : List ℕ) (one : Placed) : Type 0 where
  pub same : id ≡ one.id
  pub bare : one.clause.qualifiers ≡ []

abbrev pub IdsAreBare : List Placed → Type 0
IdsAreBare placed = (one : Placed) (id : List ℕ) → Contains placed one → GivesId id one → IsBare id one

-- the frame of a clause has an `id` clause
pub record HasIdClause (placed : List Placed) (one : Placed) : Type 0 where
  pub head : Placed
  pub among : Contains placed head
  pub kind : head.frame ≡ one.frame
  pub id : head.id ≡ one.id
  pub gives : GivesId one.id head

-- so has each frame outside the header
abbrev pub FramesHaveIds : List Placed → Type 0
FramesHaveIds placed =
    (one : Placed) → Contains placed one → ¬ (one.frame ≡ kinds.Header) → HasIdClause placed one

-- no Term has a short group
abbrev pub HasNoShortGroup : List Placed → Type 0
HasNoShortGroup placed = short_lines placed ≡ []

pub record IsKept (placed : List Placed) : Type 0 where
  pub spelled : AreSpelled placed
  pub header : HeaderHasNoId placed
  pub ids : IdsAreBare placed
  pub frames : FramesHaveIds placed
  pub groups : HasNoShortGroup placed

-- the clauses are those of a document; how a line spells each of them is not remembered
abbrev pub IsSound : List Placed → Type 0
IsSound placed = ∥ IsKept placed ∥₁
