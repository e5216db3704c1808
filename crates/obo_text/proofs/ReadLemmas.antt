-- Lines that say what they are to say, one after the other, and what they place.
use Rattle.std.proofs.Common.{Bool, List, [], ap, false, inl, inr, length, map, refl, subst, sym, take, ℕ, ◌&&◌, ◌++◌, ◌+◌, ◌∷◌, ◌≡◌, ◌≤◌}
use Rattle.std.specs.List.{All, starts_with}
use Rattle.std.specs.Cmp.Lexicographic.{pointwise}
use Rattle.std.specs.Prelude.{nat_eq}
use Rattle.std.proofs.lemmas.List.Elements.{All-cons, All-head, All-nil, All-tail}
use Rattle.text_sets.specs.Sets.{In}
use Rattle.obo_tags.specs.declared.kind.FrameKind.{FrameKind}
use Rattle.obo_lexer.specs.Items.{IsLineText}
use Rattle.obo_lexer.specs.Laws.{as_texts}
use Rattle.obo_lexer.specs.Lines.{byte_order_mark, written}
use Rattle.obo_clause.specs.declared.clause.Clause.{Clause}
use Rattle.obo_clause.specs.declared.line.Line.{Line}
use Rattle.obo_clause.specs.Spelled.{IsLine}
use Rattle.obo_clause.specs.Spelling.{Says}
use Rattle.obo_frames.specs.inner.Standing.{lost_at_end, lost_from, placed_from}
use Rattle.obo_frames.specs.Telling.{Tells, place_after}
use Rattle.obo_frames.specs.declared.standing.Standing.{Standing}
use Rattle.obo_frames.specs.declared.standing.Standing.TheVariants.{Header, Within}
use Rattle.obo_frames.specs.declared.told.Place.{Place}
use Rattle.obo_frames.specs.declared.told.Told.{Told}
use Rattle.obo_frames.specs.Framed.{Framed, framed, id_clause, unlined}
use Rattle.obo_tags.specs.declared.kind.FrameKind.TheVariants as kinds
use Rattle.obo_clause.specs.declared.line.Line.TheVariants as says

abbrev pub at : FrameKind → Bool → Place
at kind first = record { kind = kind; is_first = first }

-- it begins with the first byte of a byte order mark
abbrev pub is_marked : List ℕ → Bool
is_marked [] = false
is_marked (byte ∷ bytes) = nat_eq 239 byte

-- a line, and what it says where it stands
pub record IsRow (place : Place) (line : List ℕ) (said : Line) : Type 0 where
  pub is_line : IsLine line
  pub says : Says place.kind place.is_first line said
  pub unmarked : is_marked line ≡ false

abbrev pub AllSay : Place → List (List ℕ) → List Line → Type 0
AllSay place [] [] = Unit {0}
AllSay place [] (said ∷ saids) = ⊥
AllSay place (line ∷ lines) [] = ⊥
AllSay place (line ∷ lines) (said ∷ saids) = IsRow place line said × AllSay (place_after place said) lines saids

abbrev pub told_from : ℕ → List Line → List Told
told_from number [] = []
told_from number (said ∷ saids) = record { line = number; said = said } ∷ told_from (number + 1) saids

pub tells_all : (place : Place) (number : ℕ) (lines : List (List ℕ)) (saids : List Line) → AllSay place lines saids → Tells place (as_texts number lines) (told_from number saids)
tells_all place number [] [] all = tt
tells_all place number [] (said ∷ saids) all = absurd all
tells_all place number (line ∷ lines) [] all = absurd all
tells_all place number (line ∷ lines) (said ∷ saids) all =
    (record { line = refl; says = all.0.says }, tells_all (place_after place said) (number + 1) lines saids all.1)

pub line_texts : (limit : ℕ) (place : Place) (lines : List (List ℕ)) (saids : List Line) → AllSay place lines saids → All (λ line. length line ≤ limit) lines → All (IsLineText limit) lines
line_texts limit place [] [] all fit = All-nil (IsLineText limit)
line_texts limit place [] (said ∷ saids) all fit = absurd all
line_texts limit place (line ∷ lines) [] all fit = absurd all
line_texts limit place (line ∷ lines) (said ∷ saids) all fit =
    All-cons (IsLineText limit) line lines
    (record { utf8 = all.0.is_line.utf8; within = All-head (λ (l : List ℕ). length l ≤ limit) line lines fit; no_line_feed = all.0.is_line.no_line_feed; no_return = all.0.is_line.no_return })
    (line_texts limit (place_after place said) lines saids all.1 (All-tail (λ (l : List ℕ). length l ≤ limit) line lines fit))

first_unmarked : (line rest : List ℕ) → is_marked line ≡ false → starts_with nat_eq (line ++ 10 ∷ rest) byte_order_mark ≡ false
first_unmarked [] rest h = refl
first_unmarked (byte ∷ bytes) rest h = ap (λ b. b && pointwise nat_eq (187 ∷ 191 ∷ []) (take 2 (bytes ++ 10 ∷ rest))) h

pub all_unmarked : (place : Place) (lines : List (List ℕ)) (saids : List Line) → AllSay place lines saids → starts_with nat_eq (written lines []) byte_order_mark ≡ false
all_unmarked place [] saids all = refl
all_unmarked place (line ∷ lines) [] all = absurd all
all_unmarked place (line ∷ lines) (said ∷ saids) all = first_unmarked line (written lines []) all.0.unmarked

-- ---- clauses in a row

pub clauses_say : (kind : FrameKind) (f : Clause → List ℕ) (cs : List Clause) (lines : List (List ℕ)) (saids : List Line) → ((c : Clause) → In c cs → IsRow (at kind false) (f c) (says.Content c)) → AllSay (at kind false) lines saids → AllSay (at kind false) (map f cs ++ lines) (map says.Content cs ++ saids)
clauses_say kind f [] lines saids each rest = rest
clauses_say kind f (c ∷ cs) lines saids each rest =
    (each c (inl refl), clauses_say kind f cs lines saids (λ d later. each d (inr later)) rest)

pub header_says : (f : Clause → List ℕ) (cs : List Clause) (lines : List (List ℕ)) (saids : List Line) → ((c : Clause) → In c cs → (first : Bool) → IsRow (at kinds.Header first) (f c) (says.Content c)) → ((first : Bool) → AllSay (at kinds.Header first) lines saids) → (first : Bool) → AllSay (at kinds.Header first) (map f cs ++ lines) (map says.Content cs ++ saids)
header_says f [] lines saids each rest first = rest first
header_says f (c ∷ cs) lines saids each rest first =
    (each c (inl refl) first, header_says f cs lines saids (λ d later. each d (inr later)) rest false)

-- ---- what is placed

-- these lines place these clauses, behind this standing, whatever their numbers are
abbrev pub Places : Standing → List Line → List Framed → Type 0
Places standing saids ds = (number : ℕ) → map unlined (placed_from standing (told_from number saids)) ≡ ds

abbrev pub Loses : Standing → List Line → Type 0
Loses standing saids = (number : ℕ) → lost_from standing (told_from number saids) ≡ []

pub within_places : (kind : FrameKind) (id : List ℕ) (cs : List Clause) (saids : List Line) (ds : List Framed) → Places (Within kind id) saids ds → Places (Within kind id) (map says.Content cs ++ saids) (map (framed kind id) cs ++ ds)
within_places kind id [] saids ds rest number = rest number
within_places kind id (c ∷ cs) saids ds rest number =
    ap (λ l. framed kind id c ∷ l) (within_places kind id cs saids ds rest (number + 1))

pub header_places : (cs : List Clause) (saids : List Line) (ds : List Framed) → Places Header saids ds → Places Header (map says.Content cs ++ saids) (map (framed kinds.Header []) cs ++ ds)
header_places [] saids ds rest number = rest number
header_places (c ∷ cs) saids ds rest number =
    ap (λ l. framed kinds.Header [] c ∷ l) (header_places cs saids ds rest (number + 1))

pub within_loses : (kind : FrameKind) (id : List ℕ) (cs : List Clause) (saids : List Line) → Loses (Within kind id) saids → Loses (Within kind id) (map says.Content cs ++ saids)
within_loses kind id [] saids rest number = rest number
within_loses kind id (c ∷ cs) saids rest number = within_loses kind id cs saids rest (number + 1)

pub header_loses : (cs : List Clause) (saids : List Line) → Loses Header saids → Loses Header (map says.Content cs ++ saids)
header_loses [] saids rest number = rest number
header_loses (c ∷ cs) saids rest number = header_loses cs saids rest (number + 1)

-- ---- one frame

abbrev pub frame_saids : FrameKind → List ℕ → List Clause → List Line
frame_saids kind id cs = says.Blank ∷ says.Frame kind ∷ says.Content (id_clause id) ∷ map says.Content cs

abbrev pub frame_framed : FrameKind → List ℕ → List Clause → List Framed
frame_framed kind id cs = framed kind id (id_clause id) ∷ map (framed kind id) cs

-- the standing is such that a frame may end there
abbrev pub IsStanding : Standing → Type 0
IsStanding standing = lost_at_end standing ≡ []

-- lines that place these clauses and lose no frame, behind each clause
pub record AreFrames (saids : List Line) (ds : List Framed) : Type 0 where
  pub places : (standing : Standing) → Places standing saids ds
  pub loses : (standing : Standing) → IsStanding standing → Loses standing saids

pub frames_end : AreFrames [] []
frames_end = record { places = λ standing number. refl; loses = λ standing is number. is }

pub frames_more : (kind : FrameKind) (id : List ℕ) (cs : List Clause) (saids : List Line) (ds : List Framed) → AreFrames saids ds → AreFrames (frame_saids kind id cs ++ saids) (frame_framed kind id cs ++ ds)
frames_more kind id cs saids ds rest = record {
  places = λ standing number. ap (λ l. framed kind id (id_clause id) ∷ l) (within_places kind id cs saids ds (rest.places (Within kind id)) (((number + 1) + 1) + 1));
  loses = λ standing is number. subst (λ l. l ++ lost_from (Within kind id) (told_from (((number + 1) + 1) + 1) (map says.Content cs ++ saids)) ≡ []) (sym is) (within_loses kind id cs saids (rest.loses (Within kind id) refl) (((number + 1) + 1) + 1));
}
