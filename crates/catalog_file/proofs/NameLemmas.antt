-- The names of a catalog, one line after the other.
use Rattle.std.proofs.Common.{◌≡◌, ℕ, Bool, true, false, cond, List, [], ◌∷◌, ◌++◌, Option, Some, None, inl, inr, if◌then◌else◌, refl, sym, ap, ◌∙◌}
use Rattle.std.specs.Prelude.{is_some}
use Rattle.std.specs.BTreeMap.{BTreeMap, get}
use Rattle.std.specs.Cmp.Lexicographic.{slice_cmp}
use Rattle.std.specs.Option.{option_or}
use Rattle.std.specs.Ordering.{is_eq, nat_cmp}
use Rattle.std.specs.Str.{bytes_eq}
use Rattle.std.proofs.lemmas.Bool.{cases_Bool, false≢true}
use Rattle.std.proofs.lemmas.Map.Text.{is_eq-slice_cmp}
use Rattle.std.proofs.lemmas.Slice.Eq.{bytes_eq-Decides}
use Rattle.catalog_file.specs.Names.{TellsNames, listed_name}
use Rattle.catalog_file.specs.declared.catalog.CatalogLine.{CatalogLine}
use Rattle.catalog_file.specs.inner.Reading.{AddsName}

abbrev Table : Type 0
Table = BTreeMap (List ℕ) (List ℕ)

abbrev at : Table → List ℕ → Option (List ℕ)
at names value = get (slice_cmp nat_cmp) names value

held_stays : (held other : Option (List ℕ)) → is_some held ≡ true → held ≡ option_or held other
held_stays None other is = absurd (false≢true is)
held_stays (Some name) other is = refl

nothing_more : (held : Option (List ℕ)) → held ≡ option_or held None
nothing_more None = refl
nothing_more (Some name) = refl

-- a line whose value has a name already changes nothing
pub adds-held : (old : Table) (line : CatalogLine) → is_some (at old line.value) ≡ true → AddsName old old line
adds-held old line is value =
    elim (cases_Bool (bytes_eq line.value value)) [
      | inl same ↦ held_stays (at old value) _ (ap (λ v. is_some (at old v)) (sym ((bytes_eq-Decides line.value value).0 same)) ∙ is)
      | inr other ↦ rw other (nothing_more (at old value))
    ]

no_name : (held : Option (List ℕ)) → is_some held ≡ false → held ≡ None
no_name None is = refl
no_name (Some name) is = absurd (false≢true (sym is))

-- any other gives its value the name
pub adds-new : (old new : Table) (line : CatalogLine) → is_some (at old line.value) ≡ false → ((value : List ℕ) → at new value ≡ cond (is_eq (slice_cmp nat_cmp line.value value)) (Some line.name) (at old value)) → AddsName old new line
adds-new old new line is updates value =
    updates value ∙ (ap (λ b. cond b (Some line.name) (at old value)) (is_eq-slice_cmp line.value value) ∙ by_same (bytes_eq line.value value) refl)
  where
    by_same : (b : Bool) → bytes_eq line.value value ≡ b → cond b (Some line.name) (at old value) ≡ option_or (at old value) (if b then Some line.name else None)
    by_same true same = ap (λ held. option_or held (Some line.name)) (sym (ap (at old) (sym ((bytes_eq-Decides line.value value).0 same)) ∙ no_name (at old line.value) is))
    by_same false other = nothing_more (at old value)

-- the name by a list of lines and one more
listed-more : (lines : List CatalogLine) (line : CatalogLine) (value : List ℕ) → listed_name (lines ++ line ∷ []) value ≡ option_or (listed_name lines value) (if bytes_eq line.value value then Some line.name else None)
listed-more [] line value = refl
listed-more (first ∷ lines) line value =
    elim (cases_Bool (bytes_eq first.value value)) [ inl same ↦ rw same refl | inr other ↦ rw other (listed-more lines line value) ]

pub tells-more : (lines : List CatalogLine) (line : CatalogLine) (old new : Table) → TellsNames lines old → AddsName old new line → TellsNames (lines ++ line ∷ []) new
tells-more lines line old new tells adds value =
    adds value ∙ (ap (λ held. option_or held (if bytes_eq line.value value then Some line.name else None)) (tells value) ∙ sym (listed-more lines line value))
