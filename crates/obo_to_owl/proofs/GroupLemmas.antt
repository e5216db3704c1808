-- Groups as they are gathered, clause by clause.
use Rattle.std.proofs.Common.{◌≡◌, ◌&&◌, ℕ, ◌+◌, ◌<◌, Bool, true, false, List, [], ◌∷◌, ◌++◌, Option, None, Some, if◌then◌else◌, length, get_or, take, refl, sym, ap, ◌∙◌}
use Rattle.std.specs.Option.{option_map}
use Rattle.std.specs.Prelude.{filter}
use Rattle.std.specs.Str.{bytes_eq}
use Rattle.std.proofs.lemmas.Cmp.{nat_list_eq_equiv}
use Rattle.std.proofs.lemmas.Map.Views.{hash_map_get_iff}
use Rattle.indexmap.specs.IndexMap.{IndexMap, IsUnique, get}
use Rattle.text_sets.specs.Sets.{In}
use Rattle.text_sets.proofs.PartLemmas.{option_map_some}
use Rattle.text_sets.proofs.SetLemmas.{In-from_contains, contains-from_In}
use Rattle.obo_notes.proofs.Guards.{same_bytes}
use Rattle.obo_notes.proofs.LoopLemmas.{next_taken}
use Rattle.obo_statements.specs.Groups.{Group}
use Rattle.obo_to_owl.specs.inner.Grouping.{Grouped, Seen, gather, gather_all, gather_onto, group_in, group_rows, kept_in, seen}
use Rattle.obo_to_owl.specs.inner.Known.{is_of_group}
use Rattle.obo_to_owl.specs.inner.Rows.{of_row}
use Rattle.obo_to_owl.specs.declared.groups.Gathered.{Gathered}
use Rattle.obo_to_owl.specs.declared.rows.Row.{Row}

append_nothing : {Y : Type 0} (ys : List Y) → ys ++ [] ≡ ys
append_nothing [] = refl
append_nothing (y ∷ ys) = ap (λ more. y ∷ more) (append_nothing ys)

filter_last : {X : Type 0} (p : X → Bool) (xs : List X) (x : X) → filter p (xs ++ x ∷ []) ≡ filter p xs ++ (if p x then x ∷ [] else [])
filter_last p [] x = refl
filter_last p (z ∷ xs) x =
    elim (p z) as (λ b. (if b then z ∷ filter p (xs ++ x ∷ []) else filter p (xs ++ x ∷ [])) ≡ (if b then z ∷ filter p xs else filter p xs) ++ (if p x then x ∷ [] else [])) [
      | true ↦ ap (λ ys. z ∷ ys) (filter_last p xs x)
      | false ↦ filter_last p xs x
    ]

gather_last : (held : Option Seen) (rows : List Row) (row : Row) → gather_onto held (rows ++ row ∷ []) ≡ Some (gather row (gather_onto held rows))
gather_last held [] row = refl
gather_last held (r ∷ rows) row = gather_last (Some (gather r held)) rows row

pub gathered_next : (group : Group) (rows : List Row) (at : ℕ) (row : Row) (x : List ℕ) (held after : Option Seen) → at < length rows → row ≡ get_or rows at row → held ≡ gather_all (group_rows group x (take at rows)) → after ≡ kept_in group row x held → after ≡ gather_all (group_rows group x (take (at + 1) rows))
gathered_next group rows at row x held after within is so_far kept =
    let p = λ (r : Row). is_of_group group (of_row r) && bytes_eq r.iri.now x in
    let told = ap (filter p) (next_taken rows at row within is) ∙ filter_last p (take at rows) row in
    kept
    ∙ ap (λ h. kept_in group row x h) so_far
    ∙ elim (p row) as (λ b. (if b then Some (gather row (gather_all (group_rows group x (take at rows)))) else gather_all (group_rows group x (take at rows))) ≡ gather_all (group_rows group x (take at rows) ++ (if b then row ∷ [] else []))) [
      | true ↦ sym (gather_last None (group_rows group x (take at rows)) row)
      | false ↦ ap gather_all (sym (append_nothing (group_rows group x (take at rows))))
    ]
    ∙ ap gather_all (sym told)

-- ---- look-ups in the table of groups

module _ {S : Type 0} (groups : IndexMap (List ℕ) Gathered S) (unique : IsUnique bytes_eq groups) where
  pub group_held : (one : Grouped) → In one groups.entries → group_in groups one.0 ≡ Some (seen one.1)
  group_held one here = ap (option_map seen) ((hash_map_get_iff nat_list_eq_equiv same_bytes groups unique one.0 one.1).1 (contains-from_In one groups.entries here))

  pub group_found : (x : List ℕ) (held : Seen) → group_in groups x ≡ Some held → (found : Gathered) × In (x, found) groups.entries × (seen found ≡ held)
  group_found x held is =
      let found = option_map_some seen (get bytes_eq groups x) held is in
      (found.0, In-from_contains (x, found.0) groups.entries ((hash_map_get_iff nat_list_eq_equiv same_bytes groups unique x found.0).0 found.1), found.2)
