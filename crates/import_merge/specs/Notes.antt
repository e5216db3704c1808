-- What is noted of each file: how many frames it has, and what of it is not translated. (Own.)
use Rattle.std.specs.Prelude.{◌≡◌, ◌∷◌, ℕ, Bool, not, ◌&&◌, List, filter, length, map}
use Rattle.text_sets.specs.Sorted.{sorted_by}
use Rattle.iri_map.specs.Id.{iri_of}
use Rattle.obo_tags.specs.declared.kind.FrameKind.{FrameKind}
use Rattle.obo_tags.specs.declared.kind.FrameKind.TheVariants.{Header, Instance, Term, Typedef}
use Rattle.obo_tags.specs.Tags as tags
use Rattle.obo_frames.specs.Framed.{Framed, unlined}
use Rattle.obo_mapping.specs.Documents.{has_tag, is_header, space_of}
use Rattle.obo_to_owl.specs.Reports.{dropped}
use Rattle.import_closure.specs.declared.files.SourceFile.{SourceFile}
use Rattle.import_merge.specs.Merged.{IsMerged}
use Rattle.import_merge.specs.declared.merged.FileNote.{FileNote}
use Rattle.import_merge.specs.declared.merged.Merged.{Merged}

-- the clause names its frame
abbrev pub is_naming : Framed → Bool
is_naming one = not (is_header one) && has_tag tags.id one

abbrev pub kind_number : FrameKind → ℕ
kind_number Header = 0
kind_number Term = 1
kind_number Typedef = 2
kind_number Instance = 3

-- frames of one kind and one IRI are one frame
abbrev pub frame_key : List ℕ → Framed → List ℕ
frame_key space one = kind_number one.frame ∷ iri_of one.id space

-- how many frames a document has
abbrev pub frame_count : List Framed → ℕ
frame_count d = length (sorted_by (frame_key (space_of d)) (filter is_naming d))

-- what is noted of a file
abbrev pub file_note : SourceFile → FileNote
file_note source = record { name = source.name; frames = frame_count (map unlined source.document); dropped = dropped source.document }

-- what is loaded of the files: their ontology, and what is noted of each
pub record IsLoaded (sources : List SourceFile) (merged : Merged) : Type 0 where
  pub ontology : IsMerged sources merged.ontology
  pub files : merged.files ≡ map file_note sources
