-- The first fault of the frames is the least of all.
use Rattle.std.proofs.Common.{◌≡◌, ◌⊎◌, inl, inr, ◌≤◌, ℕ, Bool, true, false, not, ◌&&◌, List, [], ◌∷◌, Option, None, Some, ap, arith, codes, cond, ltb, map, min, refl, subst, sym, ⊎_elim, ◌∙◌, ◌||◌}
use Rattle.std.specs.Prelude.{Contains, is_none}
use Rattle.std.specs.List.{list_any}
use Rattle.std.specs.Str.{bytes_eq}
use Rattle.std.proofs.lemmas.Bool.{cases_Bool, or_parts}
use Rattle.std.proofs.lemmas.Bool.Decides.{nat_tests}
use Rattle.std.proofs.lemmas.Slice.Eq.{bytes_eq-Decides}
use Rattle.obo_frames.specs.Documents.{first_fault, frame_fault, least_line}
use Rattle.obo_frames.specs.Frames.{Frame, first_id, frames_of, lacks_id, lines_without_id, placed_of}
use Rattle.obo_frames.specs.Framed.{unlined}
use Rattle.obo_frames.specs.Naming.{space_of}
use Rattle.obo_frames.specs.Groups.{differs, operands_in, same_expression, short_lines, short_lines_of}
use Rattle.obo_frames.specs.Laws.{FirstIsLeast, FrameFails, IsAlone, IsGroupTag, intersection, line_of, no_id, short_group, union}
use Rattle.obo_frames.specs.declared.fault.DocFault.{DocFault}
use Rattle.obo_frames.specs.declared.fault.DocFault.TheVariants as fault
use Rattle.obo_frames.specs.declared.groups.Operand.{Operand}
use Rattle.obo_frames.specs.declared.placed.Placed.{Placed}
use Rattle.obo_frames.specs.declared.told.Told.{Told}
use Rattle.obo_frames.proofs.GroupLemmas.{same_is, same_itself}
use Rattle.obo_frames.proofs.LeastLemmas.{no_lines}
use Rattle.obo_frames.proofs.ListLemmas.{Among, among-append_cases, among-append_left, among-append_right, among-from_contains, among-from_image, contains-from_among, image-from_among}

-- ---- the least line

-- the line is among these or is the one before them, and is at most each of them
record IsLeastLine (best : ℕ) (lines : List ℕ) (line : ℕ) : Type 0 where
  one_of : (line ≡ best) ⊎ Among line lines
  at_most : line ≤ best
  least : (other : ℕ) → Among other lines → line ≤ other

min_cases : (one other : ℕ) → (min one other ≡ one) ⊎ (min one other ≡ other)
min_cases one other = elim (cases_Bool (ltb one other)) [ inl below ↦ inl (grind (arith, nat_tests)) | inr above ↦ inr (grind (arith, nat_tests)) ]

least_more : (best first : ℕ) (lines : List ℕ) (line : ℕ) → IsLeastLine (min best first) lines line → IsLeastLine best (first ∷ lines) line
least_more best first lines line is = record {
  one_of = ⊎_elim (λ same. ⊎_elim (λ low. inl (same ∙ low)) (λ low. inr (inl (sym (same ∙ low)))) (min_cases best first)) (λ later. inr (inr later)) is.one_of;
  at_most = let low = is.at_most in omega arith;
  least = λ other among. ⊎_elim (λ here. let low = is.at_most in omega arith) (λ later. is.least other later) among;
}

least_some : (best : ℕ) (lines : List ℕ) (line : ℕ) → least_line (Some best) lines ≡ Some line → IsLeastLine best lines line
least_some best [] line is =
    let same : best ≡ line = cc in
    record { one_of = inl (sym same); at_most = omega arith; least = λ other among. absurd among }
least_some best (first ∷ lines) line is = least_more best first lines line (least_some (min best first) lines line is)

least_is : (lines : List ℕ) (line : ℕ) → least_line None lines ≡ Some line → Among line lines × ((other : ℕ) → Among other lines → line ≤ other)
least_is [] line is = absurd (cc)
least_is (first ∷ lines) line is =
    let least = least_some first lines line is in (
      ⊎_elim (λ same. inl (sym same)) (λ later. inr later) least.one_of,
      λ other among. ⊎_elim (λ here. let low = least.at_most in omega arith) (λ later. least.least other later) among,
    )

-- ---- the least fault

-- the fault is at one of these lines, and at most at each
record IsLeastOf (frames groups : List ℕ) (one : DocFault) : Type 0 where
  one_of : ((line : ℕ) × (one ≡ fault.NoId line) × Among line frames) ⊎ ((line : ℕ) × (one ≡ fault.ShortGroup line) × Among line groups)
  frames_above : (line : ℕ) → Among line frames → line_of one ≤ line
  groups_above : (line : ℕ) → Among line groups → line_of one ≤ line

nothing_among : (lines : List ℕ) → least_line None lines ≡ None → (line : ℕ) → Among line lines → ⊥
nothing_among lines none line among = subst (λ some. Among line some) (no_lines lines none) among

both_at : (frames groups : List ℕ) (frame group : ℕ) (one : DocFault) → least_line None frames ≡ Some frame → least_line None groups ≡ Some group → (is_below : Bool) → ltb group frame ≡ is_below → one ≡ cond is_below (fault.ShortGroup group) (fault.NoId frame) → IsLeastOf frames groups one
both_at frames groups frame group one frame_is group_is true below is =
    let first = least_is frames frame frame_is in
    let second = least_is groups group group_is in
    let lower : group ≤ frame = grind (arith, nat_tests) in
    record {
      one_of = inr (group, is, second.0);
      frames_above = λ line among. rw is (let above = first.1 line among in omega arith);
      groups_above = λ line among. rw is (second.1 line among);
    }
both_at frames groups frame group one frame_is group_is false below is =
    let first = least_is frames frame frame_is in
    let second = least_is groups group group_is in
    let lower : frame ≤ group = grind (arith, nat_tests) in
    record {
      one_of = inl (frame, is, first.0);
      frames_above = λ line among. rw is (first.1 line among);
      groups_above = λ line among. rw is (let above = second.1 line among in omega arith);
    }

least_at : (frames groups : List ℕ) (frame group : Option ℕ) (one : DocFault) → least_line None frames ≡ frame → least_line None groups ≡ group → frame_fault frame group ≡ Some one → IsLeastOf frames groups one
least_at frames groups None None one frame_is group_is is = absurd (cc)
least_at frames groups None (Some group) one frame_is group_is is =
    let same : one ≡ fault.ShortGroup group = cc in
    let second = least_is groups group group_is in
    record {
      one_of = inr (group, same, second.0);
      frames_above = λ line among. absurd (nothing_among frames frame_is line among);
      groups_above = λ line among. rw same (second.1 line among);
    }
least_at frames groups (Some frame) None one frame_is group_is is =
    let same : one ≡ fault.NoId frame = cc in
    let first = least_is frames frame frame_is in
    record {
      one_of = inl (frame, same, first.0);
      frames_above = λ line among. rw same (first.1 line among);
      groups_above = λ line among. absurd (nothing_among groups group_is line among);
    }
least_at frames groups (Some frame) (Some group) one frame_is group_is is =
    let same : one ≡ cond (ltb group frame) (fault.ShortGroup group) (fault.NoId frame) = cc in
    both_at frames groups frame group one frame_is group_is (ltb group frame) refl same

-- ---- frames without an id

none_is : (id : Option (List ℕ)) → is_none id ≡ true → id ≡ None
none_is None is = refl
none_is (Some id) is = absurd (cc)

no_id-among : (tolds : List Told) (line : ℕ) → Among line (lines_without_id tolds) → FrameFails tolds (fault.NoId line)
no_id-among tolds line among =
    let image = image-from_among lacks_id (λ (frame : Frame). frame.line) (frames_of tolds) line among in
    subst (λ at. FrameFails tolds (fault.NoId at)) image.image (no_id image.source (contains-from_among (frames_of tolds) image.source image.among) (none_is (first_id image.source.entries) image.passes))

among-no_id : (tolds : List Told) (frame : Frame) → Contains (frames_of tolds) frame → first_id frame.entries ≡ None → Among frame.line (lines_without_id tolds)
among-no_id tolds frame contains none =
    among-from_image lacks_id (λ (one : Frame). one.line) (frames_of tolds) frame (among-from_contains (frames_of tolds) frame contains) (ap is_none none)

-- ---- short groups

none_at : {X : Type 0} (test : X → Bool) (xs : List X) → list_any test xs ≡ false → (x : X) → Among x xs → test x ≡ false
none_at test [] none x among = absurd among
none_at test (y ∷ ys) none x (inl here) = ap test (sym here) ∙ (or_parts (test y) (list_any test ys) none).0
none_at test (y ∷ ys) none x (inr later) = none_at test ys (or_parts (test y) (list_any test ys) none).1 x later

none_any : {X : Type 0} (test : X → Bool) (xs : List X) → ((x : X) → Among x xs → test x ≡ false) → list_any test xs ≡ false
none_any test [] each = refl
none_any test (y ∷ ys) each =
    (λ i. each y (inl refl) i || list_any test ys) ∙ none_any test ys (λ x among. each x (inr among))

differs_not : (same_group same : Bool) → (same_group && not same) ≡ false → same_group ≡ true → same ≡ true
differs_not true true none group = refl
differs_not true false none group = absurd (cc)
differs_not false same none group = absurd (cc)

never_differs : (same_group same : Bool) → (same_group ≡ true → same ≡ true) → (same_group && not same) ≡ false
never_differs true same each = ap not (each refl)
never_differs false same each = refl

not_is : (b : Bool) → not b ≡ true → b ≡ false
not_is true is = absurd (cc)
not_is false is = refl

alone_from : (operands : List Operand) (one : Operand) → not (list_any (differs one) operands) ≡ true → IsAlone operands one
alone_from operands one none other contains group =
    let differ = none_at (differs one) operands (not_is _ none) other (among-from_contains operands other contains) in
    sym (same_is one.expression other.expression (differs_not (bytes_eq other.group one.group) (same_expression one.expression other.expression) differ ((bytes_eq-Decides other.group one.group).1 group)))

from_alone : (operands : List Operand) (one : Operand) → IsAlone operands one → not (list_any (differs one) operands) ≡ true
from_alone operands one alone =
    ap not (none_any (differs one) operands (λ other among. never_differs (bytes_eq other.group one.group) (same_expression one.expression other.expression) (λ group.
    ap (same_expression one.expression) (alone other (contains-from_among operands other among) ((bytes_eq-Decides other.group one.group).0 group)) ∙ same_itself one.expression)))

short-at : (tag : List ℕ) → IsGroupTag tag → (tolds : List Told) (line : ℕ) → Among line (short_lines_of tag (placed_of tolds)) → FrameFails tolds (fault.ShortGroup line)
short-at tag is_tag tolds line among =
    let operands = operands_in tag (space_of (map unlined (placed_of tolds))) (placed_of tolds) in
    let image = image-from_among (λ one. not (list_any (differs one) operands)) (λ (one : Operand). one.line) operands line among in
    subst (λ at. FrameFails tolds (fault.ShortGroup at)) image.image (short_group tag image.source is_tag (contains-from_among operands image.source image.among) (alone_from operands image.source image.passes))

short-among : (tolds : List Told) (line : ℕ) → Among line (short_lines (placed_of tolds)) → FrameFails tolds (fault.ShortGroup line)
short-among tolds line among =
    ⊎_elim (short-at (codes "intersection_of") intersection tolds line) (short-at (codes "union_of") union tolds line)
    (among-append_cases (short_lines_of (codes "intersection_of") (placed_of tolds)) (short_lines_of (codes "union_of") (placed_of tolds)) line among)

among-at : (tag : List ℕ) (placed : List Placed) (one : Operand) → Contains (operands_in tag (space_of (map unlined placed)) placed) one → IsAlone (operands_in tag (space_of (map unlined placed)) placed) one → Among one.line (short_lines_of tag placed)
among-at tag placed one contains alone =
    let operands = operands_in tag (space_of (map unlined placed)) placed in
    among-from_image (λ it. not (list_any (differs it) operands)) (λ (it : Operand). it.line) operands one (among-from_contains operands one contains) (from_alone operands one alone)

among-short : (tag : List ℕ) → IsGroupTag tag → (placed : List Placed) (one : Operand) → Contains (operands_in tag (space_of (map unlined placed)) placed) one → IsAlone (operands_in tag (space_of (map unlined placed)) placed) one → Among one.line (short_lines placed)
among-short tag intersection placed one contains alone =
    among-append_left _ (short_lines_of (codes "union_of") placed) one.line (among-at (codes "intersection_of") placed one contains alone)
among-short tag union placed one contains alone =
    among-append_right (short_lines_of (codes "intersection_of") placed) _ one.line (among-at (codes "union_of") placed one contains alone)

-- ---- the first is the least

some_fails : (tolds : List Told) (one : DocFault) → IsLeastOf (lines_without_id tolds) (short_lines (placed_of tolds)) one → FrameFails tolds one
some_fails tolds one is =
    ⊎_elim (λ frame. subst (FrameFails tolds) (sym frame.1) (no_id-among tolds frame.0 frame.2)) (λ group. subst (FrameFails tolds) (sym group.1) (short-among tolds group.0 group.2)) is.one_of

least_below : (tolds : List Told) (one : DocFault) → IsLeastOf (lines_without_id tolds) (short_lines (placed_of tolds)) one → (other : DocFault) → FrameFails tolds other → line_of one ≤ line_of other
least_below tolds one is other (no_id frame contains none) = is.frames_above frame.line (among-no_id tolds frame contains none)
least_below tolds one is other (short_group tag operand is_tag contains alone) =
    is.groups_above operand.line (among-short tag is_tag (placed_of tolds) operand contains alone)

no_frame : (frame group : Option ℕ) → frame_fault frame group ≡ None → frame ≡ None
no_frame None None none = refl
no_frame None (Some group) none = absurd (cc)
no_frame (Some frame) None none = absurd (cc)
no_frame (Some frame) (Some group) none = absurd (cc)

pub no_group : (frame group : Option ℕ) → frame_fault frame group ≡ None → group ≡ None
no_group None None none = refl
no_group None (Some group) none = absurd (cc)
no_group (Some frame) None none = refl
no_group (Some frame) (Some group) none = absurd (cc)

never_fails : (tolds : List Told) → first_fault tolds ≡ None → (one : DocFault) → FrameFails tolds one → ⊥
never_fails tolds none one (no_id frame contains lacks) =
    nothing_among (lines_without_id tolds) (no_frame (least_line None (lines_without_id tolds)) (least_line None (short_lines (placed_of tolds))) none) frame.line (among-no_id tolds frame contains lacks)
never_fails tolds none one (short_group tag operand is_tag contains alone) =
    nothing_among (short_lines (placed_of tolds)) (no_group (least_line None (lines_without_id tolds)) (least_line None (short_lines (placed_of tolds))) none) operand.line (among-short tag is_tag (placed_of tolds) operand contains alone)

pub first_is_least : (tolds : List Told) → FirstIsLeast tolds
first_is_least tolds = record {
  some = λ one is.
      let least = least_at (lines_without_id tolds) (short_lines (placed_of tolds)) _ _ one refl refl is in
      record { fails = some_fails tolds one least; least = least_below tolds one least };
  none = λ is one fails. never_fails tolds is one fails;
}
