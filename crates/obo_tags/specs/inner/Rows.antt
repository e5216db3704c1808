-- The rows of the program's table, by the tags that they are for. (Own.)
use Rattle.std.specs.Prelude.{◌≡◌, ℕ, ◌<◌, List, [], Option, length, map, slice_index_or}
use Rattle.std.specs.List.{position_or_len, range_with_len}
use Rattle.std.specs.Borrow.{Bor}
use Rattle.std.specs.Str.{bytes_eq}
use Rattle.std.proofs.Common.{get_or, refl, sym, ap, subst, zero-add, ◌∙◌}
use Rattle.std.proofs.lemmas.List.{get_or-map}
use Rattle.std.proofs.lemmas.List.FromFn.{get_or-range_with_len}
use Rattle.obo_tags.specs.declared.kind.FrameKind.TheVariants.{Header, Instance, Term, Typedef}
use Rattle.obo_tags.specs.declared.kind.ValueShape.{ValueShape}
use Rattle.obo_tags.specs.declared.table.TheConstants.{TABLE}
use Rattle.obo_tags.specs.Table.{place_of, shape_of}

-- the tags of the rows, in their order
unfoldable pub row_tags : List (List ℕ)
row_tags = map (λ row. row.0.now) TABLE

-- the tag of a row
abbrev pub tag_at : ℕ → List ℕ
tag_at row = slice_index_or row_tags row []

-- the row of a tag
abbrev pub row_of : List ℕ → ℕ
row_of tag = position_or_len (λ one. bytes_eq one tag) row_tags

-- the rows, told by their tags, are the numbers from 0
rows-told : map row_of row_tags ≡ range_with_len 0 51
unfolding row_tags
rows-told = refl

pub rows-counted : length row_tags ≡ 51
unfolding row_tags
rows-counted = refl

-- a row's tag tells the row
pub row_of-tag_at : (row : ℕ) → row < 51 → row_of (tag_at row) ≡ row
row_of-tag_at row within =
    let P : ℕ → Type 0 = λ count. row < count in
    let listed = subst P (sym rows-counted) within in
    sym (get_or-map row_of row_tags row [] 0 listed) ∙ (ap (λ rows. get_or rows row 0) rows-told ∙ (get_or-range_with_len 0 51 row 0 within ∙ zero-add row))

-- a row, as contracts see it: the tag, the shape of its value, and its ranks
abbrev pub Row : Type 0
Row = Bor (List ℕ) × ValueShape × Option ℕ × Option ℕ × Option ℕ × Option ℕ

-- the rows are those of the table: for each tag, in the order of the rows, what the definitions say of it
pub record AreRows (rows : List Row) : Type 0 where
  pub tags : map (λ (row : Row). row.0.now) rows ≡ row_tags
  pub shapes : map (λ (row : Row). row.1) rows ≡ map shape_of row_tags
  pub headers : map (λ (row : Row). row.2) rows ≡ map (place_of Header) row_tags
  pub terms : map (λ (row : Row). row.3) rows ≡ map (place_of Term) row_tags
  pub typedefs : map (λ (row : Row). row.4) rows ≡ map (place_of Typedef) row_tags
  pub instances : map (λ (row : Row). row.5) rows ≡ map (place_of Instance) row_tags
