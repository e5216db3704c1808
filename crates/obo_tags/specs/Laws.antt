-- What the table of the tags amounts to. (Own.)
use Rattle.std.specs.Prelude.{◌≡◌, ◌↔◌, ℕ, List, None}
use Rattle.obo_tags.specs.declared.kind.FrameKind.{FrameKind}
use Rattle.obo_tags.specs.declared.kind.ValueShape.TheVariants.{Raw}
use Rattle.obo_tags.specs.Table.{place_of, shape_in}

-- the value behind a tag is read as it stands exactly where the frame kind has no such tag
abbrev pub RawIfForeign : FrameKind → List ℕ → Type 0
RawIfForeign kind tag = (shape_in kind tag ≡ Raw) ↔ (place_of kind tag ≡ None)
