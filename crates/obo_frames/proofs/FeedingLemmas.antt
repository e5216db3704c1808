-- A file read in pieces: cutting does not matter, and the end comes to the document of all bytes.
use Rattle.std.proofs.Common.{◌≡◌, ℕ, ◌+◌, List, [], ◌∷◌, ◌++◌, None, Result, Ok, Err, ap, append_assoc, append-nil, arith, length, length-append, refl, sym, ◌∙◌}
use Rattle.obo_lexer.specs.Feeding as lines
use Rattle.obo_lexer.specs.Items.{lines_of}
use Rattle.obo_lexer.specs.declared.line.LineItem.{LineItem}
use Rattle.obo_lexer.proofs.LawLemmas.{pieces_join as lines_join, waiting-whole}
use Rattle.obo_frames.specs.Answer.{and_then, and_told, body_answer, document_of, frames_answer, lines_answer, unless_faulty}
use Rattle.obo_frames.specs.Documents.{frame_fault, least_line}
use Rattle.obo_frames.specs.Feeding.{Feeder, IsFed, Midway, after_piece, draft_answer, emptied, finished, fresh, nothing_read, read_end, read_item, read_items, read_piece, read_waiting, then_read, untouched, with_told}
use Rattle.obo_frames.specs.Groups.{short_lines}
use Rattle.obo_frames.specs.Laws.{Run, RunsReadFiles, feeding, starting}
use Rattle.obo_frames.specs.Telling.{place_after, start}
use Rattle.obo_frames.specs.inner.Standing.{behind_line, lost_at_end, lost_at_line, lost_from, placed_by_line, placed_from}
use Rattle.obo_frames.specs.declared.fault.DocFault.{DocFault}
use Rattle.obo_frames.specs.declared.lines.SoFar.{SoFar}
use Rattle.obo_frames.specs.declared.told.Told.{Told}
use Rattle.obo_frames.proofs.LeastLemmas.{least_line-append}
use Rattle.obo_frames.proofs.PlacingLemmas.{lost_from-is, placed_from-is}

-- ---- one after the other

pub then-then : {A B C : Type 0} (first : Result A DocFault) (next : A → Result B DocFault) (last : B → Result C DocFault) → then_read (then_read first next) last ≡ then_read first (λ value. then_read (next value) last)
then-then (Ok value) next last = refl
then-then (Err one) next last = refl

-- lines, and then others
pub read_items-append : (so_far : SoFar) (some others : List LineItem) → read_items so_far (some ++ others) ≡ then_read (read_items so_far some) (λ next. read_items next others)
read_items-append so_far [] others = refl
read_items-append so_far (item ∷ some) others =
    (λ i. then_read (read_item so_far item) (λ next. read_items-append next some others i))
    ∙ sym (then-then (read_item so_far item) (λ next. read_items next some) (λ next. read_items next others))

-- ---- pieces

-- the lines that waited were read
abbrev ended_at : lines.Feeder → SoFar → Result Midway DocFault
ended_at f so_far = Ok (record { lines = emptied f; so_far = so_far })

-- a piece and then another are both together
pub pieces_join : (midway : Midway) (x y : List ℕ) → then_read (read_piece midway x) (λ next. read_piece next y) ≡ read_piece midway (x ++ y)
pieces_join midway x y =
    let once = lines.after_piece midway.lines x in
    let twice = lines.after_piece (emptied once) y in
    let first = read_items midway.so_far once.lines.waiting in
    let ends = ended_at twice in
    then-then first (ended_at once) (λ next. read_piece next y)
    ∙ (sym (then-then first (λ so_far. read_items so_far twice.lines.waiting) ends)
    ∙ (ap (λ read. then_read read ends) (sym (read_items-append midway.so_far once.lines.waiting twice.lines.waiting))
    ∙ ap (λ f. read_waiting f midway.so_far) (lines_join midway.lines x y)))

pub feeders_join : (f : Feeder) (x y : List ℕ) → after_piece (after_piece f x) y ≡ after_piece f (x ++ y)
feeders_join f x y =
    let count : f.fed + length x + length y ≡ f.fed + length (x ++ y) = omega (arith, length-append x y) in
    let read = then-then f.read (λ midway. read_piece midway x) (λ midway. read_piece midway y)
    ∙ (λ i. then_read f.read (λ midway. pieces_join midway x y i)) in
    (λ i. record { fed = count i; read = read i })

-- ---- what all lines come to

-- what lines come to that say this
abbrev with_all : SoFar → List Told → SoFar
with_all so_far [] = so_far
with_all so_far (told ∷ tolds) = with_all (with_told so_far told) tolds

told_and_others : (so_far : SoFar) (told : Told) (others : Result (List Told) DocFault) → then_read others (λ tolds. Ok (with_all (with_told so_far told) tolds)) ≡ then_read (and_told told others) (λ tolds. Ok (with_all so_far tolds))
told_and_others so_far told (Ok tolds) = refl
told_and_others so_far told (Err one) = refl

abbrev IsAllOf : SoFar → List LineItem → Type 0
IsAllOf so_far items = read_items so_far items ≡ then_read (lines_answer so_far.place items) (λ tolds. Ok (with_all so_far tolds))

one_and_others : (so_far : SoFar) (items : List LineItem) (answer : Result Told DocFault) → ((next : SoFar) → IsAllOf next items) → then_read (then_read answer (λ told. Ok (with_told so_far told))) (λ next. read_items next items) ≡ then_read (and_then answer (λ told. lines_answer (place_after so_far.place told.said) items)) (λ tolds. Ok (with_all so_far tolds))
one_and_others so_far items (Ok told) rest =
    rest (with_told so_far told) ∙ told_and_others so_far told (lines_answer (place_after so_far.place told.said) items)
one_and_others so_far items (Err one) rest = refl

items_are_all : (so_far : SoFar) (items : List LineItem) → IsAllOf so_far items
items_are_all so_far [] = refl
items_are_all so_far (item ∷ items) =
    one_and_others so_far items (body_answer so_far.place item.number item.body) (λ next. items_are_all next items)

-- ---- and their clauses

placed-all : (so_far : SoFar) (tolds : List Told) → (with_all so_far tolds).draft.placed ≡ so_far.draft.placed ++ placed_from so_far.draft.standing tolds
placed-all so_far [] = sym (append-nil so_far.draft.placed)
placed-all so_far (told ∷ tolds) =
    placed-all (with_told so_far told) tolds ∙ append_assoc so_far.draft.placed (placed_by_line so_far.draft.standing told.line told.said) (placed_from (behind_line so_far.draft.standing told.line told.said) tolds)

lost-all : (so_far : SoFar) (tolds : List Told) → least_line (with_all so_far tolds).draft.lost (lost_at_end (with_all so_far tolds).draft.standing) ≡ least_line so_far.draft.lost (lost_from so_far.draft.standing tolds)
lost-all so_far [] = refl
lost-all so_far (told ∷ tolds) =
    lost-all (with_told so_far told) tolds
    ∙ sym (least_line-append so_far.draft.lost (lost_at_line so_far.draft.standing told.said) (lost_from (behind_line so_far.draft.standing told.line told.said) tolds))

told_answer : (tolds : List Told) → draft_answer (with_all nothing_read tolds).draft ≡ frames_answer (Ok tolds)
told_answer tolds =
    let placed = placed-all nothing_read tolds ∙ placed_from-is tolds in
    let lost = lost-all nothing_read tolds ∙ ap (least_line None) (lost_from-is tolds) in
    (λ i. unless_faulty (placed i) (frame_fault (lost i) (least_line None (short_lines (placed i)))))

all_answer : (answer : Result (List Told) DocFault) → then_read (then_read answer (λ tolds. Ok (with_all nothing_read tolds))) (λ (so_far : SoFar). draft_answer so_far.draft) ≡ frames_answer answer
all_answer (Ok tolds) = told_answer tolds
all_answer (Err one) = refl

-- a file that is fed whole, and then ends, comes to what it is
pub whole_is_read : (limit : ℕ) (bytes : List ℕ) → then_read (read_piece (untouched limit) bytes) read_end ≡ document_of limit bytes
unfolding document_of
whole_is_read limit bytes =
    let fed = lines.after_piece (lines.fresh limit) bytes in
    let first = read_items nothing_read fed.lines.waiting in
    let last = (lines.after_end (emptied fed)).lines.waiting in
    let judge = λ (so_far : SoFar). draft_answer so_far.draft in
    then-then first (ended_at fed) read_end
    ∙ (sym (then-then first (λ so_far. read_items so_far last) judge)
    ∙ (ap (λ read. then_read read judge) (sym (read_items-append nothing_read fed.lines.waiting last))
    ∙ (ap (λ items. then_read (read_items nothing_read items) judge) (waiting-whole limit bytes)
    ∙ (ap (λ read. then_read read judge) (items_are_all nothing_read (lines_of limit bytes))
    ∙ all_answer (lines_answer start (lines_of limit bytes))))))

-- ---- runs

-- a feeder to which nothing was fed is one to which no bytes were fed
pub fed_nothing : (limit : ℕ) → IsFed limit [] (fresh limit)
fed_nothing limit = refl

-- a feeder with a piece more
pub fed_more : (limit : ℕ) (bytes piece : List ℕ) (f : Feeder) → IsFed limit bytes f → IsFed limit (bytes ++ piece) (after_piece f piece)
fed_more limit bytes piece f fed = ap (λ f. after_piece f piece) fed ∙ feeders_join (fresh limit) bytes piece

run_is_fed : (limit : ℕ) (bytes : List ℕ) (f : Feeder) → Run limit bytes f → IsFed limit bytes f
run_is_fed limit bytes f starting = fed_nothing limit
run_is_fed limit bytes f' (feeding bytes' f piece run) = fed_more limit bytes' piece f (run_is_fed limit bytes' f run)

-- at the end of the file
pub fed_is_read : (limit : ℕ) (bytes : List ℕ) (f : Feeder) → IsFed limit bytes f → finished f ≡ document_of limit bytes
fed_is_read limit bytes f fed = ap finished fed ∙ whole_is_read limit bytes

pub runs_read_files : RunsReadFiles
runs_read_files limit bytes f run =
    let fed = run_is_fed limit bytes f run in
    record { fed = fed; comes = fed_is_read limit bytes f fed }
