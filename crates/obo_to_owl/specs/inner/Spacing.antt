-- Default namespaces as the program finds them. (Own.)
use Rattle.std.specs.Prelude.{ℕ, Bool, false, not, ◌&&◌, ◌||◌, List, [], ◌∷◌, codes, filter, if◌then◌else◌, map, Option, None, Some}
use Rattle.std.specs.List.{filter_map, flat_map, list_any}
use Rattle.std.specs.Option.{option_map, option_map_or, option_to_list}
use Rattle.indexmap.specs.IndexSet.{IndexSet}
use Rattle.indexmap.specs.IndexMap.{IndexMap, get}
use Rattle.std.specs.Str.{bytes_eq}
use Rattle.owl_axioms.specs.contracts.name.KindPartialEq.TheImpl as kind_eq
use Rattle.owl_axioms.specs.declared.annotation.NoteValue.TheVariants as noted
use Rattle.owl_axioms.specs.declared.body.Axiom.{Axiom}
use Rattle.owl_axioms.specs.declared.body.Body.TheVariants as body
use Rattle.owl_axioms.specs.declared.name.Name.{Name}
use Rattle.owl_ontology.specs.Ontology.{Entry}
use Rattle.obo_frames.specs.Framed.{Framed}
use Rattle.obo_notes.specs.Context.{where_true}
use Rattle.obo_notes.specs.Vocabulary.{own_property}
use Rattle.obo_mapping.specs.Axioms.{name_as}
use Rattle.obo_frames.specs.Naming.{least_text}
use Rattle.obo_mapping.specs.Documents.{declared_in, default_in, has_tag, is_namespace, is_raw, text_in}
use Rattle.obo_to_owl.specs.inner.Adding.{entry_at}
use Rattle.obo_to_owl.specs.inner.Grouping.{lesser_line}
use Rattle.obo_to_owl.specs.inner.Known.{has}
use Rattle.obo_to_owl.specs.inner.Rows.{of_row}
use Rattle.obo_to_owl.specs.inner.Saying.{kind_of}
use Rattle.obo_to_owl.specs.declared.rows.Row.{Row}
use Rattle.obo_to_owl.specs.declared.situation.Situation.{Situation}

-- two names are one, as the program compares them
abbrev pub name_eq : Name → Name → Bool
name_eq one other = kind_eq.ghosts.eq one.kind other.kind && bytes_eq one.iri other.iri

-- the name is in the set
abbrev pub has_name : {S : Type 0} → IndexSet Name S → Name → Bool
has_name set name = list_any (name_eq name) set.keys

-- that a name has a namespace
abbrev pub spacing : Name → List ℕ → Axiom
spacing name text = record { body = body.Note name (own_property (codes "hasOBONamespace")) (noted.Text text); sides = [] }

-- the entity of the frame of a clause
abbrev pub entity_in : Situation → Row → Option Name
entity_in situation row = option_map (λ kind. name_as kind row.iri.now) (kind_of row.placed.now.frame (has situation.metadata row.iri.now))

-- a clause of the tag that still counts where it is not translated
abbrev pub keeps : List ℕ → Framed → Bool
keeps tag one = has_tag tag one && not (is_raw one.clause.value)

-- the name whose namespace it gives, and the default namespace
abbrev pub name_kept : Situation → Row → Option Name
name_kept situation row = where_true (keeps (codes "namespace") (of_row row)) (entity_in situation row)

abbrev pub default_kept : Row → Option (List ℕ)
default_kept row = where_true (keeps (codes "default-namespace") (of_row row)) (text_in row.placed.now.clause.value)

-- ---- the lines of names

abbrev pub line_in : {S : Type 0} → IndexMap Name ℕ S → Name → Option ℕ
line_in lines name = get name_eq lines name

abbrev pub option_or_zero : Option ℕ → ℕ
option_or_zero None = 0
option_or_zero (Some line) = line

-- one line more, and all of them
abbrev pub lesser_of : Option ℕ → ℕ → ℕ
lesser_of None line = line
lesser_of (Some held) line = lesser_line line held

abbrev pub least_onto : Option ℕ → List ℕ → Option ℕ
least_onto held [] = held
least_onto held (line ∷ lines) = least_onto (Some (lesser_of held line)) lines

-- what the line of a name makes of the line of another one
abbrev pub keep_line : Name → Name → ℕ → Option ℕ → Option ℕ
keep_line x name line held = if name_eq x name then Some (lesser_of held line) else held

-- the line of an `id` clause of the name
abbrev pub line_for : Situation → Name → Row → Option ℕ
line_for situation x row =
    where_true (has_tag (codes "id") (of_row row) && option_map_or (name_eq x) (entity_in situation row) false) (Some row.placed.now.line)

abbrev pub entry_spaced : {S : Type 0} → ℕ → List ℕ → IndexMap Name ℕ S → Name → Entry
entry_spaced file text lines name = entry_at (spacing name text) file (option_or_zero (line_in lines name))

-- ---- what is added

-- the least default namespace
abbrev pub default_found : List Row → List Axiom → Option (List ℕ)
default_found left axioms = least_text (least_text None (filter_map default_kept left)) (filter_map default_in axioms)

-- the names without a namespace
abbrev pub is_spaced : Situation → List Row → List Axiom → Name → Bool
is_spaced situation left axioms name = list_any (name_eq name) (filter_map (name_kept situation) left) || list_any (name_eq name) (filter_map is_namespace axioms)

abbrev pub names_left : Situation → List Row → List Axiom → List Name
names_left situation left axioms = filter (λ name. not (is_spaced situation left axioms name)) (filter_map declared_in axioms)

abbrev pub line_named : Situation → List Row → Name → ℕ
line_named situation rows name = option_or_zero (least_onto None (filter_map (line_for situation name) rows))

abbrev pub entry_named : ℕ → Situation → List Row → List ℕ → Name → Entry
entry_named file situation rows text name = entry_at (spacing name text) file (line_named situation rows name)

abbrev pub spaces_with : ℕ → Situation → List Row → List Row → List Axiom → List ℕ → List Entry
spaces_with file situation rows left axioms text = map (entry_named file situation rows text) (names_left situation left axioms)

abbrev pub spaces_in : ℕ → Situation → List Row → List Row → List Axiom → List Entry
spaces_in file situation rows left axioms = flat_map (spaces_with file situation rows left axioms) (option_to_list (default_found left axioms))
