-- The canonical text of a document. (Own.)
use Rattle.std.specs.Prelude.{List, None, Option, Some, [], codes, if◌then◌else◌, map, ℕ, ◌++◌, ◌∷◌}
use Rattle.std.specs.List.{filter_map, flat_map}
use Rattle.std.specs.Option.{option_and_then}
use Rattle.std.specs.Str.{bytes_eq}
use Rattle.obo_tags.specs.Tags as tags
use Rattle.obo_tags.specs.Table.{is_among}
use Rattle.obo_tags.specs.declared.kind.FrameKind.{FrameKind}
use Rattle.obo_lexer.specs.Lines.{written}
use Rattle.obo_clause.specs.declared.clause.Clause.{Clause}
use Rattle.obo_clause.specs.declared.clause.Value.{Value}
use Rattle.clause_printer.specs.Printing.{clause_text, comment_text}
use Rattle.obo_frames.specs.Framed.{Framed, id_clause}
use Rattle.obo_text.specs.Order.{ids_of, later_clauses}
use Rattle.obo_tags.specs.declared.kind.FrameKind.TheVariants as kinds
use Rattle.obo_clause.specs.declared.clause.Value.TheVariants as value

-- ---- names behind ids

-- the tags behind whose last id the name of a class may stand, and of a relation
abbrev pub term_tags : List (List ℕ)
term_tags =
    tags.is_a ∷ tags.intersection_of ∷ tags.union_of ∷ tags.equivalent_to ∷ tags.disjoint_from ∷ tags.relationship ∷ []

abbrev pub typedef_tags : List (List ℕ)
typedef_tags = tags.is_a ∷ tags.equivalent_to ∷ tags.disjoint_from ∷ tags.inverse_of ∷ tags.transitive_over ∷ []

-- the kind of the frame that the last id of such a clause names
abbrev pub target_kind : FrameKind → List ℕ → Option FrameKind
target_kind kinds.Header tag = None
target_kind kinds.Term tag = if is_among term_tags tag then Some kinds.Term else None
target_kind kinds.Typedef tag =
    if is_among typedef_tags tag then Some kinds.Typedef
    else (if is_among (tags.domain ∷ tags.range ∷ []) tag then Some kinds.Term else None)
target_kind kinds.Instance tag =
    if bytes_eq tag (tags.instance_of) then Some kinds.Term
    else (if bytes_eq tag (tags.relationship) then Some kinds.Instance else None)

-- the last id of a value
abbrev pub last_id : Value → Option (List ℕ)
last_id (value.Id word) = Some word
last_id (value.Pair first second) = Some second
last_id _ = None

-- the text that a value is
abbrev pub text_in : Value → Option (List ℕ)
text_in (value.Text text) = Some text
text_in _ = None

-- the name that a clause gives
abbrev pub name_in : Clause → Option (List ℕ)
name_in clause = if bytes_eq clause.tag (tags.name) then text_in clause.value else None

-- the one item of a list that has no other
abbrev pub only_one : {X : Type 0} → List X → Option X
only_one [] = None
only_one (x ∷ []) = Some x
only_one (x ∷ y ∷ ys) = None

-- the name of a frame, where it has exactly one
abbrev pub name_at : List Framed → FrameKind → List ℕ → Option (List ℕ)
name_at document kind id = only_one (filter_map name_in (later_clauses document kind id))

-- the name that stands behind a clause
abbrev pub name_behind : List Framed → FrameKind → Clause → Option (List ℕ)
name_behind document kind clause =
    option_and_then (λ target. option_and_then (λ id. name_at document target id) (last_id clause.value)) (target_kind kind clause.tag)

abbrev pub comment_of : Option (List ℕ) → List ℕ
comment_of None = []
comment_of (Some name) = comment_text name

-- ---- lines

abbrev pub line_of : List Framed → FrameKind → Clause → List ℕ
line_of document kind clause = clause_text clause ++ comment_of (name_behind document kind clause)

-- the line that begins a frame
abbrev pub frame_line : FrameKind → List ℕ
frame_line kinds.Header = []
frame_line kinds.Term = codes "[Term]"
frame_line kinds.Typedef = codes "[Typedef]"
frame_line kinds.Instance = codes "[Instance]"

-- a frame with an id
pub record Head : Type 0 where
  pub kind : FrameKind
  pub id : List ℕ

abbrev pub head : FrameKind → List ℕ → Head
head kind id = record { kind = kind; id = id }

-- the Terms, the Typedefs and the Instances, each kind by id
abbrev pub heads_of : List Framed → List Head
heads_of document =
    map (head kinds.Term) (ids_of kinds.Term document) ++ (map (head kinds.Typedef) (ids_of kinds.Typedef document) ++ map (head kinds.Instance) (ids_of kinds.Instance document))

-- the clauses of a frame behind its id
abbrev pub clause_lines : List Framed → FrameKind → List ℕ → List (List ℕ)
clause_lines document kind id = map (line_of document kind) (later_clauses document kind id)

-- an empty line, the frame line, the `id` clause and the others
abbrev pub frame_lines : List Framed → Head → List (List ℕ)
frame_lines document one = [] ∷ frame_line one.kind ∷ line_of document one.kind (id_clause one.id) ∷ clause_lines document one.kind one.id

-- the header and the frames
abbrev pub lines_in : List Framed → List (List ℕ)
lines_in document = clause_lines document kinds.Header [] ++ flat_map (frame_lines document) (heads_of document)

unfoldable pub canonical_text : List Framed → List ℕ
canonical_text document = written (lines_in document) []
