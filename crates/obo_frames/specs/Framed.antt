-- Documents as sets of clauses in their frames, without their lines. (Own.)
use Rattle.std.specs.Prelude.{ℕ, List, [], map}
use Rattle.text_sets.specs.Sets.{SameMembers}
use Rattle.obo_tags.specs.Tags as tags
use Rattle.obo_tags.specs.declared.kind.FrameKind.{FrameKind}
use Rattle.obo_clause.specs.declared.clause.Clause.{Clause}
use Rattle.obo_clause.specs.declared.clause.Value.TheVariants as value
use Rattle.obo_frames.specs.declared.placed.Placed.{Placed}

-- a clause in its frame, without a line
pub record Framed : Type 0 where
  pub frame : FrameKind
  pub id : List ℕ
  pub clause : Clause

abbrev pub framed : FrameKind → List ℕ → Clause → Framed
framed kind id clause = record { frame = kind; id = id; clause = clause }

-- the `id` clause that gives a frame its id
abbrev pub id_clause : List ℕ → Clause
id_clause id = record { tag = tags.id; value = value.Id id; qualifiers = [] }

abbrev pub unlined : Placed → Framed
unlined one = framed one.frame one.id one.clause

-- two documents have the same clauses in the same frames, wherever their lines are and however often a clause stands
abbrev pub SameClauses : List Placed → List Placed → Type 0
SameClauses some others = SameMembers (map unlined some) (map unlined others)
