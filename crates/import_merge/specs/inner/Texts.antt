-- The key of a frame, as it is sorted. Only private functions speak of it. (Own.)
use Rattle.std.specs.Prelude.{◌∷◌, ℕ, List}
use Rattle.import_merge.specs.declared.frames.FrameName.{FrameName}

-- a frame's name as a text: its kind, and its IRI
abbrev pub text_of : FrameName → List ℕ
text_of frame = frame.kind ∷ frame.iri
