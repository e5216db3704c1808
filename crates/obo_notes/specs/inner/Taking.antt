-- What is left of a list, item by item, where parts are taken out of it. (Own.)
use Rattle.std.specs.Prelude.{ℕ, List, [], ◌∷◌, Option, None, Some}
use Rattle.std.specs.Option.{option_and_then, option_map}
use Rattle.owl_axioms.specs.declared.annotation.Side.{Side}
use Rattle.text_sets.specs.Parts.{take_one}
use Rattle.obo_notes.specs.Context.{Writing}
use Rattle.obo_notes.specs.Forms.{first_part}
use Rattle.obo_notes.specs.Parts.{id_of_value, text_of}
use Rattle.obo_notes.specs.Vocabulary.{rdfs_comment}
use Rattle.obo_notes.specs.declared.note.Note.{Note}

-- the item, where it is no part
abbrev pub left_by : {X Y : Type 0} → Option Y → X → List X
left_by None x = x ∷ []
left_by (Some y) x = []

-- the item, where it is no part or one was taken before
abbrev pub left_after : {X Y : Type 0} → Option Y → Option Y → X → List X
left_after None part x = left_by part x
left_after (Some y) part x = x ∷ []

-- the three, where there is a text
abbrev pub with_text : List ℕ → Option (List ℕ) → List Side → Option (List ℕ × List ℕ × List Side)
with_text id text rest = option_map (λ one. (id, one, rest)) text

-- the id and the description of a subset or a synonym type, and the annotations that are left
abbrev pub id_and_text : Writing → Note → Option (List ℕ × List ℕ × List Side)
id_and_text writing note =
    option_and_then (λ id. let text = take_one (text_of rdfs_comment) note.sides in with_text id (first_part text.parts) text.rest)
    (id_of_value writing note.value)
