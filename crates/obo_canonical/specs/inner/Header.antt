-- The header of a normal form, clause by clause. (Own.)
use Rattle.std.specs.Prelude.{ℕ, ◌&&◌, List, [], codes, Option}
use Rattle.std.specs.Option.{option_map}
use Rattle.iri_map.specs.Ontology.{normalised}
use Rattle.obo_tags.specs.declared.kind.FrameKind.TheVariants.{Header}
use Rattle.obo_clause.specs.declared.clause.Value.{Value}
use Rattle.obo_clause.specs.declared.clause.Value.TheVariants as value
use Rattle.obo_frames.specs.Framed.{Framed, framed}
use Rattle.obo_notes.specs.Context.{where_true}
use Rattle.obo_mapping.specs.Documents.{has_tag, is_header, word_in}

-- a clause of the header without qualifiers
abbrev pub header_clause : List ℕ → Value → Framed
header_clause tag value = framed Header [] (record { tag = tag; value = value; qualifiers = [] })

abbrev pub format_clause : Framed
format_clause = header_clause (codes "format-version") (value.Text (codes "1.4"))

abbrev pub name_clause : List ℕ → Framed
name_clause name = header_clause (codes "ontology") (value.Id name)

-- the name that a clause gives the ontology, as it is written, and normalised
abbrev pub name_written : Framed → Option (List ℕ)
name_written one = where_true (is_header one && has_tag (codes "ontology") one) (word_in one.clause.value)

abbrev pub name_given : Framed → Option (List ℕ)
name_given one = option_map normalised (name_written one)
