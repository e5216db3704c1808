-- Clauses as rows, by what they are sorted by, and what is written of them. Only private functions speak of it. (Own.)
use Rattle.std.specs.Prelude.{◌≡◌, ◌==◌, ◌&&◌, ℕ, List, [], ◌∷◌, ◌++◌, Option, None, Some, codes, if◌then◌else◌, is_none, is_some}
use Rattle.std.specs.BTreeMap.{BTreeMap, get}
use Rattle.std.specs.List.{filter_map, flat_map}
use Rattle.std.specs.Option.{option_and_then}
use Rattle.std.specs.Ordering.{is_eq}
use Rattle.std.specs.Str.{bytes_eq}
use Rattle.text_sets.specs.Sorted.{text_cmp}
use Rattle.obo_tags.specs.declared.kind.FrameKind.{FrameKind}
use Rattle.obo_tags.specs.declared.kind.FrameKind.TheVariants as kinds
use Rattle.obo_clause.specs.declared.clause.Clause.{Clause}
use Rattle.clause_printer.specs.Printing.{behind_space, block_text, value_text}
use Rattle.obo_frames.specs.Framed.{Framed}
use Rattle.obo_frames.specs.Frames.{id_in}
use Rattle.obo_text.specs.Order.{place_behind, same_kind}
use Rattle.obo_text.specs.Text.{frame_line, last_id, name_in, target_kind}
use Rattle.obo_text.specs.inner.RowState.{RowState}
use Rattle.obo_text.specs.declared.names.Named.{Named}
use Rattle.obo_text.specs.declared.names.Named.TheVariants.{Many, One}

-- ---- rows

-- by the id, the place of the tag, the tag, the printed value and the printed block
abbrev pub row_key : RowState → List (List ℕ)
row_key row = row.id ∷ (row.place ∷ []) ∷ row.tag ∷ row.value ∷ row.block ∷ []

-- the same behind the id, and behind the tag
abbrev pub key_behind_id : RowState → List (List ℕ)
key_behind_id row = (row.place ∷ []) ∷ row.tag ∷ row.value ∷ row.block ∷ []

abbrev pub key_behind_tag : RowState → List (List ℕ)
key_behind_tag row = row.value ∷ row.block ∷ []

-- the place of a clause in its frame: the one that gives the id comes first
abbrev pub clause_place : FrameKind → Clause → ℕ
clause_place kind clause = if is_none (id_in clause) then place_behind kind clause.tag else 0

abbrev pub row_of : FrameKind → List ℕ → Clause → RowState
row_of kind id clause = record {
  id = id;
  place = clause_place kind clause;
  tag = clause.tag;
  value = value_text clause.value;
  block = block_text clause.qualifiers;
  target = last_id clause.value;
  is_name = is_some (name_in clause);
}

-- a clause as a row of the frames of a kind
abbrev pub row_at : FrameKind → Framed → Option RowState
row_at kind one = if same_kind one.frame kind then Some (row_of kind one.id one.clause) else None

abbrev pub rows_in : FrameKind → List Framed → List RowState
rows_in kind document = filter_map (row_at kind) document

-- ---- names

-- the printed name that a row gives the frame of an id
abbrev pub name_for : List ℕ → RowState → Option (List ℕ)
name_for id row = if row.is_name && bytes_eq row.id id then Some row.value else None

-- a frame with a name more
abbrev pub with_name : Option Named → List ℕ → Named
with_name None name = One name
with_name (Some held) name = Many

-- what is held of the frame of this id, with one row more
abbrev pub held_with : List ℕ → Option Named → RowState → Option Named
held_with id held row = if row.is_name && is_eq (text_cmp row.id id) then Some (with_name held row.value) else held

abbrev pub held_from : List ℕ → Option Named → List RowState → Option Named
held_from id held [] = held
held_from id held (row ∷ rows) = held_from id (held_with id held row) rows

-- the map has the names of all frames of the rows
abbrev pub TellsNames : List RowState → BTreeMap (List ℕ) Named → Type 0
TellsNames rows names = (id : List ℕ) → get text_cmp names id ≡ held_from id None rows

abbrev pub AddsName : BTreeMap (List ℕ) Named → BTreeMap (List ℕ) Named → RowState → Type 0
AddsName old new row = (id : List ℕ) → get text_cmp new id ≡ held_with id (get text_cmp old id) row

-- the one name that is held
abbrev pub one_held : Option Named → Option (List ℕ)
one_held None = None
one_held (Some (One name)) = Some name
one_held (Some Many) = None

-- ---- what is written

-- the printed names, by the kind of a frame and its id
abbrev pub Looks : Type 0
Looks = FrameKind → List ℕ → Option (List ℕ)

-- the printed name that stands behind a row
abbrev pub looked_up : Looks → FrameKind → RowState → Option (List ℕ)
looked_up look kind row = option_and_then (λ target. option_and_then (look target) row.target) (target_kind kind row.tag)

abbrev pub printed_comment : Option (List ℕ) → List ℕ
printed_comment None = []
printed_comment (Some name) = codes " ! " ++ name

-- the empty line and the frame line
abbrev pub head_text : FrameKind → List ℕ
head_text kinds.Header = []
head_text kind = 10 ∷ (frame_line kind ++ 10 ∷ [])

abbrev pub head_before : FrameKind → RowState → List ℕ
head_before kind row = if row.place == 0 then head_text kind else []

-- the line of a row, with its end, behind the head of its frame where it is the first there
abbrev pub row_text : Looks → FrameKind → RowState → List ℕ
row_text look kind row =
    head_before kind row ++ (row.tag ++ 58 ∷ (behind_space row.value ++ (behind_space row.block ++ (printed_comment (looked_up look kind row) ++ 10 ∷ []))))

abbrev pub rows_text : Looks → FrameKind → List RowState → List ℕ
rows_text look kind rows = flat_map (row_text look kind) rows
