-- How the clauses of a file are placed one after the other. Only private functions speak of it; what it amounts to is the
-- placed clauses of the frames. (Own.)
use Rattle.std.specs.Prelude.{ℕ, List, [], ◌∷◌, ◌++◌, Option, None, Some}
use Rattle.obo_tags.specs.declared.kind.FrameKind.{FrameKind}
use Rattle.obo_tags.specs.declared.kind.FrameKind.TheVariants as kinds
use Rattle.obo_clause.specs.declared.clause.Clause.{Clause}
use Rattle.obo_clause.specs.declared.line.Line.{Line}
use Rattle.obo_clause.specs.declared.line.Line.TheVariants as says
use Rattle.obo_frames.specs.Frames.{Entry, id_in, place_entry, place_id}
use Rattle.obo_frames.specs.declared.placed.Placed.{Placed}
use Rattle.obo_frames.specs.declared.standing.Standing.{Standing}
use Rattle.obo_frames.specs.declared.standing.Standing.TheVariants.{Begun, Header, Nameless, Within}
use Rattle.obo_frames.specs.declared.told.Told.{Told}

-- the standing behind the first clause of a frame, by the id that it gives
abbrev pub named : FrameKind → Option (List ℕ) → Standing
named kind None = Nameless
named kind (Some id) = Within kind id

-- the standing behind a clause
abbrev pub behind_clause : Standing → Clause → Standing
behind_clause Header clause = Header
behind_clause (Begun kind line) clause = named kind (id_in clause)
behind_clause (Within kind id) clause = Within kind id
behind_clause Nameless clause = Nameless

-- the standing behind a line
abbrev pub behind_line : Standing → ℕ → Line → Standing
behind_line standing line says.Blank = standing
behind_line standing line (says.Frame kind) = Begun kind line
behind_line standing line (says.Content clause) = behind_clause standing clause

-- what the first clause of a frame places, by the id that it gives
abbrev pub place_first : FrameKind → Option (List ℕ) → Entry → List Placed
place_first kind None entry = []
place_first kind (Some id) entry = place_id kind id entry ∷ []

-- what a clause places
abbrev pub placed_by_clause : Standing → Entry → List Placed
placed_by_clause Header entry = place_entry kinds.Header [] entry ∷ []
placed_by_clause (Begun kind line) entry = place_first kind (id_in entry.clause) entry
placed_by_clause (Within kind id) entry = place_entry kind id entry ∷ []
placed_by_clause Nameless entry = []

-- what a line places
abbrev pub placed_by_line : Standing → ℕ → Line → List Placed
placed_by_line standing line says.Blank = []
placed_by_line standing line (says.Frame kind) = []
placed_by_line standing line (says.Content clause) = placed_by_clause standing (record { line = line; clause = clause })

-- the line of a frame that ends without a clause
abbrev pub lost_at_end : Standing → List ℕ
lost_at_end Header = []
lost_at_end (Begun kind line) = line ∷ []
lost_at_end (Within kind id) = []
lost_at_end Nameless = []

-- the line of a frame whose first clause gives no id
abbrev pub lost_unless : Option (List ℕ) → ℕ → List ℕ
lost_unless None line = line ∷ []
lost_unless (Some id) line = []

abbrev pub lost_at_clause : Standing → Clause → List ℕ
lost_at_clause Header clause = []
lost_at_clause (Begun kind line) clause = lost_unless (id_in clause) line
lost_at_clause (Within kind id) clause = []
lost_at_clause Nameless clause = []

-- the line of a frame that turns out to have no id
abbrev pub lost_at_line : Standing → Line → List ℕ
lost_at_line standing says.Blank = []
lost_at_line standing (says.Frame kind) = lost_at_end standing
lost_at_line standing (says.Content clause) = lost_at_clause standing clause

-- what these lines place, and the lines of their frames without an id
abbrev pub placed_from : Standing → List Told → List Placed
placed_from standing [] = []
placed_from standing (told ∷ tolds) =
    placed_by_line standing told.line told.said ++ placed_from (behind_line standing told.line told.said) tolds

abbrev pub lost_from : Standing → List Told → List ℕ
lost_from standing [] = lost_at_end standing
lost_from standing (told ∷ tolds) =
    lost_at_line standing told.said ++ lost_from (behind_line standing told.line told.said) tolds
