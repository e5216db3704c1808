-- Placing the clauses one after the other places those of the header and of the frames with an id.
use Rattle.std.proofs.Common.{◌≡◌, ℕ, List, [], ◌∷◌, ◌++◌, Option, None, Some, ap, append_assoc, cond, map, refl, sym, ◌∙◌}
use Rattle.std.specs.Prelude.{filter, is_none}
use Rattle.std.specs.List.{flat_map}
use Rattle.std.specs.Option.{option_map_or}
use Rattle.obo_tags.specs.declared.kind.FrameKind.{FrameKind}
use Rattle.obo_tags.specs.declared.kind.FrameKind.TheVariants as kinds
use Rattle.obo_clause.specs.declared.line.Line.{Line}
use Rattle.obo_clause.specs.declared.line.Line.TheVariants as says
use Rattle.obo_frames.specs.Documents.{least_line}
use Rattle.obo_frames.specs.Frames.{Entry, Frame, entries_before, frames_of, id_in, lacks_id, lines_without_id, place_all, place_entry, place_id, placed_in, placed_of, with_entry, with_frame}
use Rattle.obo_frames.specs.inner.Standing.{behind_line, lost_at_line, lost_from, lost_unless, named, place_first, placed_by_line, placed_from}
use Rattle.obo_frames.specs.declared.placed.Placed.{Placed}
use Rattle.obo_frames.specs.declared.standing.Standing.{Standing}
use Rattle.obo_frames.specs.declared.standing.Standing.TheVariants.{Begun, Header, Nameless, Within}
use Rattle.obo_frames.specs.declared.told.Told.{Told}
use Rattle.obo_frames.proofs.LeastLemmas.{least_line-append}

-- a frame with these parts
abbrev frame : FrameKind → ℕ → List Entry → Frame
frame kind line entries = record { kind = kind; line = line; entries = entries }

-- what all frames of these lines place
abbrev all_in : List Told → List Placed
all_in tolds = flat_map placed_in (frames_of tolds)

-- what the lines place, by what the clauses belong to that come next
record PlacesFrames (tolds : List Told) : Type 0 where
  header : placed_from Header tolds ≡ map (place_entry kinds.Header []) (entries_before tolds) ++ all_in tolds
  begun : (kind : FrameKind) (line : ℕ) → placed_from (Begun kind line) tolds ≡ placed_in (frame kind line (entries_before tolds)) ++ all_in tolds
  within : (kind : FrameKind) (id : List ℕ) → placed_from (Within kind id) tolds ≡ map (place_entry kind id) (entries_before tolds) ++ all_in tolds
  nameless : placed_from Nameless tolds ≡ all_in tolds

header_step : (line : ℕ) (said : Line) (tolds : List Told) → PlacesFrames tolds → placed_by_line Header line said ++ placed_from (behind_line Header line said) tolds ≡ map (place_entry kinds.Header []) (with_entry line said (entries_before tolds)) ++ flat_map placed_in (with_frame line said (entries_before tolds) (frames_of tolds))
header_step line says.Blank tolds rest = rest.header
header_step line (says.Frame kind) tolds rest = rest.begun kind line
header_step line (says.Content clause) tolds rest =
    ap (λ placed. place_entry kinds.Header [] (record { line = line; clause = clause }) ∷ placed) rest.header

begun_step : (kind : FrameKind) (begun line : ℕ) (said : Line) (tolds : List Told) → PlacesFrames tolds → placed_by_line (Begun kind begun) line said ++ placed_from (behind_line (Begun kind begun) line said) tolds ≡ placed_in (frame kind begun (with_entry line said (entries_before tolds))) ++ flat_map placed_in (with_frame line said (entries_before tolds) (frames_of tolds))
begun_step kind begun line says.Blank tolds rest = rest.begun kind begun
begun_step kind begun line (says.Frame next) tolds rest = rest.begun next line
begun_step kind begun line (says.Content clause) tolds rest =
    let entry : Entry = record { line = line; clause = clause } in
    elim (id_in clause) as (λ id. place_first kind id entry ++ placed_from (named kind id) tolds ≡ option_map_or (λ one. place_all kind one (entry ∷ entries_before tolds)) id [] ++ all_in tolds) [
      | None ↦ rest.nameless
      | Some id ↦ ap (λ placed. place_id kind id entry ∷ placed) (rest.within kind id)
    ]

within_step : (kind : FrameKind) (id : List ℕ) (line : ℕ) (said : Line) (tolds : List Told) → PlacesFrames tolds → placed_by_line (Within kind id) line said ++ placed_from (behind_line (Within kind id) line said) tolds ≡ map (place_entry kind id) (with_entry line said (entries_before tolds)) ++ flat_map placed_in (with_frame line said (entries_before tolds) (frames_of tolds))
within_step kind id line says.Blank tolds rest = rest.within kind id
within_step kind id line (says.Frame next) tolds rest = rest.begun next line
within_step kind id line (says.Content clause) tolds rest =
    ap (λ placed. place_entry kind id (record { line = line; clause = clause }) ∷ placed) (rest.within kind id)

nameless_step : (line : ℕ) (said : Line) (tolds : List Told) → PlacesFrames tolds → placed_by_line Nameless line said ++ placed_from (behind_line Nameless line said) tolds ≡ flat_map placed_in (with_frame line said (entries_before tolds) (frames_of tolds))
nameless_step line says.Blank tolds rest = rest.nameless
nameless_step line (says.Frame next) tolds rest = rest.begun next line
nameless_step line (says.Content clause) tolds rest = rest.nameless

places_frames : (tolds : List Told) → PlacesFrames tolds
places_frames [] = record { header = refl; begun = λ kind line. refl; within = λ kind id. refl; nameless = refl }
places_frames (told ∷ tolds) =
    let rest = places_frames tolds in
    record {
      header = header_step told.line told.said tolds rest;
      begun = λ kind line. begun_step kind line told.line told.said tolds rest;
      within = λ kind id. within_step kind id told.line told.said tolds rest;
      nameless = nameless_step told.line told.said tolds rest;
    }

pub placed_from-is : (tolds : List Told) → placed_from Header tolds ≡ placed_of tolds
placed_from-is tolds = (places_frames tolds).header

-- the lines of the frames without an id
abbrev lines_in : List Frame → List ℕ
lines_in frames = map (λ one. one.line) (filter lacks_id frames)

-- which frames turn out to have no id, by what the clauses belong to that come next
record LosesFrames (tolds : List Told) : Type 0 where
  header : lost_from Header tolds ≡ lines_in (frames_of tolds)
  begun : (kind : FrameKind) (line : ℕ) → lost_from (Begun kind line) tolds ≡ lines_in (frame kind line (entries_before tolds) ∷ frames_of tolds)
  within : (kind : FrameKind) (id : List ℕ) → lost_from (Within kind id) tolds ≡ lines_in (frames_of tolds)
  nameless : lost_from Nameless tolds ≡ lines_in (frames_of tolds)

lost_header : (line : ℕ) (said : Line) (tolds : List Told) → LosesFrames tolds → lost_at_line Header said ++ lost_from (behind_line Header line said) tolds ≡ lines_in (with_frame line said (entries_before tolds) (frames_of tolds))
lost_header line says.Blank tolds rest = rest.header
lost_header line (says.Frame next) tolds rest = rest.begun next line
lost_header line (says.Content clause) tolds rest = rest.header

lost_begun : (kind : FrameKind) (begun line : ℕ) (said : Line) (tolds : List Told) → LosesFrames tolds → lost_at_line (Begun kind begun) said ++ lost_from (behind_line (Begun kind begun) line said) tolds ≡ lines_in (frame kind begun (with_entry line said (entries_before tolds)) ∷ with_frame line said (entries_before tolds) (frames_of tolds))
lost_begun kind begun line says.Blank tolds rest = rest.begun kind begun
lost_begun kind begun line (says.Frame next) tolds rest = ap (λ lines. begun ∷ lines) (rest.begun next line)
lost_begun kind begun line (says.Content clause) tolds rest =
    let whole = frame kind begun (record { line = line; clause = clause } ∷ entries_before tolds) in
    elim (id_in clause) as (λ id. lost_unless id begun ++ lost_from (named kind id) tolds ≡ map (λ (one : Frame). one.line) (cond (is_none id) (whole ∷ filter lacks_id (frames_of tolds)) (filter lacks_id (frames_of tolds)))) [
      | None ↦ ap (λ lines. begun ∷ lines) rest.nameless
      | Some id ↦ rest.within kind id
    ]

lost_within : (kind : FrameKind) (id : List ℕ) (line : ℕ) (said : Line) (tolds : List Told) → LosesFrames tolds → lost_at_line (Within kind id) said ++ lost_from (behind_line (Within kind id) line said) tolds ≡ lines_in (with_frame line said (entries_before tolds) (frames_of tolds))
lost_within kind id line says.Blank tolds rest = rest.within kind id
lost_within kind id line (says.Frame next) tolds rest = rest.begun next line
lost_within kind id line (says.Content clause) tolds rest = rest.within kind id

lost_nameless : (line : ℕ) (said : Line) (tolds : List Told) → LosesFrames tolds → lost_at_line Nameless said ++ lost_from (behind_line Nameless line said) tolds ≡ lines_in (with_frame line said (entries_before tolds) (frames_of tolds))
lost_nameless line says.Blank tolds rest = rest.nameless
lost_nameless line (says.Frame next) tolds rest = rest.begun next line
lost_nameless line (says.Content clause) tolds rest = rest.nameless

loses_frames : (tolds : List Told) → LosesFrames tolds
loses_frames [] = record { header = refl; begun = λ kind line. refl; within = λ kind id. refl; nameless = refl }
loses_frames (told ∷ tolds) =
    let rest = loses_frames tolds in
    record {
      header = lost_header told.line told.said tolds rest;
      begun = λ kind line. lost_begun kind line told.line told.said tolds rest;
      within = λ kind id. lost_within kind id told.line told.said tolds rest;
      nameless = lost_nameless told.line told.said tolds rest;
    }

pub lost_from-is : (tolds : List Told) → lost_from Header tolds ≡ lines_without_id tolds
lost_from-is tolds = (loses_frames tolds).header

-- one line more is placed
pub placed_step : (done more all : List Placed) (standing next : Standing) (told : Told) (tolds rest : List Told) → tolds ≡ told ∷ rest → more ≡ done ++ placed_by_line standing told.line told.said → next ≡ behind_line standing told.line told.said → done ++ placed_from standing tolds ≡ all → more ++ placed_from next rest ≡ all
placed_step done more all standing next told tolds rest first placed behind so_far =
    (λ i. placed i ++ placed_from (behind i) rest)
    ∙ append_assoc done (placed_by_line standing told.line told.said) (placed_from (behind_line standing told.line told.said) rest)
    ∙ ap (λ lines. done ++ placed_from standing lines) (sym first)
    ∙ so_far

pub lost_step : (lost more all : Option ℕ) (standing next : Standing) (told : Told) (tolds rest : List Told) → tolds ≡ told ∷ rest → more ≡ least_line lost (lost_at_line standing told.said) → next ≡ behind_line standing told.line told.said → least_line lost (lost_from standing tolds) ≡ all → least_line more (lost_from next rest) ≡ all
lost_step lost more all standing next told tolds rest first least behind so_far =
    (λ i. least_line (least i) (lost_from (behind i) rest))
    ∙ sym (least_line-append lost (lost_at_line standing told.said) (lost_from (behind_line standing told.line told.said) rest))
    ∙ ap (λ lines. least_line lost (lost_from standing lines)) (sym first)
    ∙ so_far
