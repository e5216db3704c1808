-- The list of files, one file after the other.
use Rattle.std.proofs.Common.{◌≡◌, ℕ, false, List, [], ◌∷◌, ◌++◌, Option, Some, None, is_some, inl, inr, refl, sym, ap}
use Rattle.std.specs.List.{cons_option}
use Rattle.std.specs.Map.{lookup}
use Rattle.std.specs.Option.{option_to_list}
use Rattle.std.specs.Str.{bytes_eq}
use Rattle.std.proofs.lemmas.Bool.{cases_Bool, false≢true}
use Rattle.indexmap.specs.IndexMap.{insert_entry}
use Rattle.import_closure.specs.List.{Listed, is_listed, listed, with_all_new}
use Rattle.import_closure.specs.declared.list.Asker.{Asker}
use Rattle.import_closure.specs.inner.Listing.{Rows, listed_in, listed_row}

-- a name is in the table exactly where it is on the list
pub known : (name : List ℕ) (rows : Rows) → is_some (lookup (bytes_eq name) rows) ≡ is_listed name (listed_in rows)
known name [] = refl
known name (row ∷ rows) =
    elim (cases_Bool (bytes_eq name row.0)) [ inl same ↦ rw same refl | inr other ↦ rw other (known name rows) ]

-- a new name comes last
pub inserted : (rows : Rows) (name : List ℕ) (asker : Asker) → is_listed name (listed_in rows) ≡ false → listed_in (insert_entry bytes_eq rows name asker) ≡ listed_in rows ++ listed name asker ∷ []
inserted [] name asker new = refl
inserted (row ∷ rows) name asker new =
    elim (cases_Bool (bytes_eq name row.0)) [
      | inl same ↦ absurd (false≢true (sym (rw same at new)))
      | inr other ↦ rw other (ap (λ more. listed_row row ∷ more) (inserted rows name asker (rw other at new)))
    ]

-- files of which the first is optional
pub with-option : (list : List Listed) (one : Option Listed) (others : List Listed) → with_all_new list (cons_option one others) ≡ with_all_new (with_all_new list (option_to_list one)) others
with-option list None others = refl
with-option list (Some one) others = refl
