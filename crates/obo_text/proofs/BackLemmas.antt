-- The text of a sound document reads back.
use Rattle.std.proofs.Common.{List, None, [], ap, false, inl, inr, map, refl, subst, sym, true, ℕ, ◌++◌, ◌∙◌, ◌∷◌, ◌≡◌}
use Rattle.std.specs.List.{flat_map}
use Rattle.text_sets.specs.Sets.{In, SameMembers}
use Rattle.obo_tags.specs.declared.kind.FrameKind.{FrameKind}
use Rattle.obo_lexer.specs.Items.{lines_of}
use Rattle.obo_lexer.proofs.WrittenLines.{written_lines_are_read}
use Rattle.obo_clause.specs.declared.clause.Clause.{Clause}
use Rattle.obo_clause.specs.declared.line.Line.{Line}
use Rattle.obo_clause.specs.Fits.{Fits}
use Rattle.obo_frames.specs.Documents.{first_fault, frame_fault, least_line}
use Rattle.obo_frames.specs.Frames.{lines_without_id, placed_of}
use Rattle.obo_frames.specs.Groups.{short_lines}
use Rattle.obo_frames.specs.Soundness.{IsKept}
use Rattle.obo_frames.specs.Telling.{Tells, start}
use Rattle.obo_frames.specs.declared.placed.Placed.{Placed}
use Rattle.obo_frames.specs.declared.standing.Standing.TheVariants.{Header}
use Rattle.obo_frames.specs.declared.told.Place.{Place}
use Rattle.obo_frames.specs.declared.told.Told.{Told}
use Rattle.obo_frames.proofs.PlacingLemmas.{lost_from-is, placed_from-is}
use Rattle.obo_text.specs.Laws.{IsReadBack, LinesFit}
use Rattle.obo_frames.specs.Framed.{Framed, SameClauses, framed, id_clause, unlined}
use Rattle.obo_text.specs.Order.{later_clauses}
use Rattle.obo_text.specs.Text.{Head, canonical_text, frame_lines, heads_of, line_of, lines_in}
use Rattle.text_sets.proofs.SetLemmas.{same_sym}
use Rattle.obo_frames.proofs.SameLemmas.{goes_by_clauses}
use Rattle.obo_text.proofs.LineLemmas.{blank_row, frame_row, line_row}
use Rattle.obo_text.proofs.MemberLemmas.{IsHead, head_framed, head_is, later_is, written_clauses, written_members}
use Rattle.obo_text.proofs.ReadLemmas.{AllSay, AreFrames, all_unmarked, at, clauses_say, frame_saids, frames_end, frames_more, header_loses, header_places, header_says, line_texts, tells_all, told_from}
use Rattle.obo_text.proofs.SoundLemmas.{AreSound, head_fits, header_fits, later_fits, sound_of}
use Rattle.obo_tags.specs.declared.kind.FrameKind.TheVariants as kinds
use Rattle.obo_clause.specs.declared.line.Line.TheVariants as says

abbrev head_saids : List Framed → Head → List Line
head_saids ds one = frame_saids one.kind one.id (later_clauses ds one.kind one.id)

abbrev saids_in : List Framed → List Line
saids_in ds = map says.Content (later_clauses ds kinds.Header []) ++ flat_map (head_saids ds) (heads_of ds)

heads_are : (ds : List Framed) (heads : List Head) → AreFrames (flat_map (head_saids ds) heads) (flat_map (head_framed ds) heads)
heads_are ds [] = frames_end
heads_are ds (one ∷ heads) =
    frames_more one.kind one.id (later_clauses ds one.kind one.id) (flat_map (head_saids ds) heads) (flat_map (head_framed ds) heads) (heads_are ds heads)

module _ (ds : List Framed) (sound : AreSound ds) where
  later_row : (kind : FrameKind) (id : List ℕ) (clause : Clause) → In clause (later_clauses ds kind id) → Fits kind false clause
  later_row kind id clause here =
      let is = later_is ds kind id clause here in
      later_fits ds sound (framed kind id clause) is.among is.none

  heads_say : (heads : List Head) → ((one : Head) → In one heads → IsHead ds sound one) → (place : Place) → AllSay place (flat_map (frame_lines ds) heads) (flat_map (head_saids ds) heads)
  heads_say [] each place = tt
  heads_say (one ∷ heads) each place =
      let is = each one (inl refl) in (
        blank_row place,
        (
          frame_row place one.kind is.outside,
          (
            line_row ds sound one.kind true (id_clause one.id) (head_fits ds sound one.kind one.id is.among),
            clauses_say one.kind (line_of ds one.kind) (later_clauses ds one.kind one.id) (flat_map (frame_lines ds) heads) (flat_map (head_saids ds) heads)
                (λ clause here. line_row ds sound one.kind false clause (later_row one.kind one.id clause here))
                (heads_say heads (λ other later. each other (inr later)) (at one.kind false)),
          ),
        ),
      )

  all_say : AllSay start (lines_in ds) (saids_in ds)
  all_say =
      header_says (line_of ds kinds.Header) (later_clauses ds kinds.Header []) (flat_map (frame_lines ds) (heads_of ds)) (flat_map (head_saids ds) (heads_of ds))
      (λ clause here first. line_row ds sound kinds.Header first clause (header_fits first clause (later_row kinds.Header [] clause here)))
      (λ first. heads_say (heads_of ds) (head_is ds sound) (at kinds.Header first)) true

  tolds_in : List Told
  tolds_in = told_from 1 (saids_in ds)

  all_told : (limit : ℕ) → LinesFit limit ds → Tells start (lines_of limit (canonical_text ds)) (told_from 1 (saids_in ds))
  unfolding canonical_text
  all_told limit fit =
      subst (λ items. Tells start items (told_from 1 (saids_in ds)))
      (sym (written_lines_are_read limit (lines_in ds) (line_texts limit start (lines_in ds) (saids_in ds) all_say fit) (all_unmarked start (lines_in ds) (saids_in ds) all_say)))
      (tells_all start 1 (lines_in ds) (saids_in ds) all_say)

places_all : (ds : List Framed) → map unlined (placed_of (told_from 1 (saids_in ds))) ≡ written_clauses ds
places_all ds =
    ap (map unlined) (sym (placed_from-is (told_from 1 (saids_in ds))))
    ∙ header_places (later_clauses ds kinds.Header []) (flat_map (head_saids ds) (heads_of ds)) (flat_map (head_framed ds) (heads_of ds)) ((heads_are ds (heads_of ds)).places Header) 1

loses_none : (ds : List Framed) → lines_without_id (told_from 1 (saids_in ds)) ≡ []
loses_none ds =
    sym (lost_from-is (told_from 1 (saids_in ds)))
    ∙ header_loses (later_clauses ds kinds.Header []) (flat_map (head_saids ds) (heads_of ds)) ((heads_are ds (heads_of ds)).loses Header refl) 1

pub reads_back : (limit : ℕ) (placed : List Placed) → IsKept placed → LinesFit limit (map unlined placed) → IsReadBack limit placed
reads_back limit placed kept fit =
    let ds = map unlined placed in
    let sound = sound_of placed kept in
    let tolds = told_from 1 (saids_in ds) in
    let same : SameClauses (placed_of tolds) placed = subst (λ some. SameMembers some ds) (sym (places_all ds)) (written_members ds sound) in
    let whole : first_fault tolds ≡ None =
    ap (λ lines. frame_fault (least_line None lines) (least_line None (short_lines (placed_of tolds)))) (loses_none ds)
    ∙ ap (λ lines. frame_fault None (least_line None lines)) ((goes_by_clauses placed (placed_of tolds) (same_sym (map unlined (placed_of tolds)) ds same)).groups kept.groups) in
    record {
      read = placed_of tolds;
      document = record { tolds = tolds; tells = all_told ds sound limit fit; faultless = whole; in_places = refl };
      same = same;
    }
