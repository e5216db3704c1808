-- The order in which the clauses of a document are written. (Own.)
use Rattle.std.specs.Prelude.{Bool, List, None, Option, Some, [], if◌then◌else◌, is_none, length, unwrap_or, ℕ, ◌&&◌, ◌==◌, ◌∷◌}
use Rattle.std.specs.List.{filter_map}
use Rattle.std.specs.Str.{bytes_eq}
use Rattle.text_sets.specs.Sorted.{sorted_by, sorted_on, texts_cmp}
use Rattle.obo_tags.specs.Tags as tags
use Rattle.obo_tags.specs.Table.{place_of, tags_of}
use Rattle.obo_tags.specs.declared.kind.FrameKind.{FrameKind}
use Rattle.obo_clause.specs.declared.clause.Clause.{Clause}
use Rattle.clause_printer.specs.Printing.{block_text, value_text}
use Rattle.obo_frames.specs.Framed.{Framed}
use Rattle.obo_frames.specs.Frames.{id_in}
use Rattle.obo_tags.specs.declared.kind.FrameKind.TheVariants as kinds

-- the kinds in the order in which their frames are written
abbrev pub kind_place : FrameKind → ℕ
kind_place kinds.Header = 0
kind_place kinds.Term = 1
kind_place kinds.Typedef = 2
kind_place kinds.Instance = 3

-- the two are one kind
abbrev pub same_kind : FrameKind → FrameKind → Bool
same_kind one other = kind_place one == kind_place other

-- the id of the frame of a clause, where the frame is of this kind
abbrev pub id_at : FrameKind → Framed → Option (List ℕ)
id_at kind one = if same_kind one.frame kind then Some one.id else None

-- the ids of the frames of a kind, by bytes
abbrev pub ids_of : FrameKind → List Framed → List (List ℕ)
ids_of kind document = sorted_by (λ (id : List ℕ). id) (filter_map (id_at kind) document)

-- a clause of this frame that is not the one that gives the id
abbrev pub later_clause : FrameKind → List ℕ → Framed → Option Clause
later_clause kind id one =
    if same_kind one.frame kind && (bytes_eq one.id id && is_none (id_in one.clause)) then Some one.clause else None

-- the place of a tag behind the first clause of a frame: an `id` is foreign there, and foreign tags stand last
abbrev pub place_behind : FrameKind → List ℕ → ℕ
place_behind kind tag =
    if bytes_eq tag tags.id then length (tags_of kind) else unwrap_or (place_of kind tag) (length (tags_of kind))

-- by the place of the tag, the tag, the printed value, the printed block
abbrev pub order_of : FrameKind → Clause → List (List ℕ)
order_of kind clause =
    (place_behind kind clause.tag ∷ []) ∷ clause.tag ∷ value_text clause.value ∷ block_text clause.qualifiers ∷ []

-- the clauses of a frame behind its id, in their order
abbrev pub later_clauses : List Framed → FrameKind → List ℕ → List Clause
later_clauses document kind id = sorted_on texts_cmp (order_of kind) (filter_map (later_clause kind id) document)
