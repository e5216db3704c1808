-- The groups of Terms. All `intersection_of` clauses of the Terms of one IRI are one group, in however many frames they
-- stand and however the ids there are spelled; likewise all `union_of` clauses. Each stands for an expression, and a group
-- whose clauses all stand for the same one is short. (The groups: OBO Flat File Format 1.4, term frames; ids are compared
-- by the IRIs that they have in this ontology.)
use Rattle.std.specs.Prelude.{ℕ, Bool, true, false, not, ◌&&◌, List, ◌++◌, Option, None, Some, codes, filter, if◌then◌else◌, map}
use Rattle.std.specs.List.{filter_map, list_any}
use Rattle.std.specs.Option.{option_map}
use Rattle.std.specs.Str.{bytes_eq}
use Rattle.iri_map.specs.Id.{iri_of}
use Rattle.obo_tags.specs.declared.kind.FrameKind.{FrameKind}
use Rattle.obo_tags.specs.declared.kind.FrameKind.TheVariants as kinds
use Rattle.obo_clause.specs.declared.clause.Value.{Value}
use Rattle.obo_clause.specs.declared.clause.Value.TheVariants as value
use Rattle.obo_frames.specs.Framed.{unlined}
use Rattle.obo_frames.specs.Naming.{space_of}
use Rattle.obo_frames.specs.declared.groups.Expression.{Expression}
use Rattle.obo_frames.specs.declared.groups.Expression.TheVariants.{Class, Restriction}
use Rattle.obo_frames.specs.declared.groups.Operand.{Operand}
use Rattle.obo_frames.specs.declared.placed.Placed.{Placed}

abbrev pub is_term : FrameKind → Bool
is_term kinds.Term = true
is_term _ = false

-- the expression that a value stands for: a class, or what some filler of a role is
abbrev pub expression_of : List ℕ → Value → Option Expression
expression_of name (value.Id word) = Some (Class (iri_of word name))
expression_of name (value.Pair role filler) = Some (Restriction (iri_of role name) (iri_of filler name))
expression_of name _ = None

abbrev pub same_expression : Expression → Expression → Bool
same_expression (Class one) (Class other) = bytes_eq one other
same_expression (Class one) (Restriction role filler) = false
same_expression (Restriction role filler) (Class other) = false
same_expression (Restriction role filler) (Restriction other another) = bytes_eq role other && bytes_eq filler another

-- a clause of a group: its line, the IRI of its Term, and its expression
abbrev pub operand_with : Placed → List ℕ → Expression → Operand
operand_with placed name one = record { line = placed.line; group = iri_of placed.id name; expression = one }

-- a placed clause as one of a group of this tag
abbrev pub operand_in : List ℕ → List ℕ → Placed → Option Operand
operand_in tag name placed =
    if is_term placed.frame && bytes_eq placed.clause.tag tag then option_map (operand_with placed name) (expression_of name placed.clause.value) else None

-- the clauses of all groups of this tag
abbrev pub operands_in : List ℕ → List ℕ → List Placed → List Operand
operands_in tag name placed = filter_map (operand_in tag name) placed

-- the two stand in one group, for different expressions
abbrev pub differs : Operand → Operand → Bool
differs one other = bytes_eq other.group one.group && not (same_expression one.expression other.expression)

-- the clauses of short groups: no other of the same group stands for another expression
abbrev pub short_in : List Operand → List Operand
short_in operands = filter (λ one. not (list_any (differs one) operands)) operands

-- the lines of the clauses of short groups
abbrev pub short_lines_of : List ℕ → List Placed → List ℕ
short_lines_of tag placed = map (λ one. one.line) (short_in (operands_in tag (space_of (map unlined placed)) placed))

abbrev pub short_lines : List Placed → List ℕ
short_lines placed = short_lines_of (codes "intersection_of") placed ++ short_lines_of (codes "union_of") placed
