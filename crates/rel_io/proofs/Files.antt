-- Lists of files as the map from their names to their bytes: where the first file of a name stands, and what
-- it is to write another in its place.
use Rattle.std.proofs.Common.{◌≡◌, ℕ, ◌+◌, ◌<◌, suc, Bool, true, false, cond, List, [], ◌∷◌, Option, Some, None, nat_eq, length, slice_set, refl, sym, subst, ◌∙◌, arith}
use Rattle.std.specs.Cmp.Lexicographic.{pointwise, same_text, slice_cmp, texts_ties}
use Rattle.std.specs.FinMap.{FinMap, find, from_entries_push, get, get-from_entries, get-insert, nat_cmp-IsAntisymmetric, same_map, slice_cmp-IsAntisymmetric}
use Rattle.std.specs.List.{position_from}
use Rattle.std.specs.Ordering.{eq_by_cmp, nat_cmp}
use Rattle.std.proofs.lemmas.Cmp.{nat_list_cmp_total, nat_list_eq_equiv}
use Rattle.rel_io.specs.inner.Finding.{IsAbsent, IsFoundAt, bytes_at, name_at, place_of}

abbrev File : Type 0
File = List ℕ × List ℕ

abbrev is_named : List ℕ → File → Bool
is_named name file = pointwise nat_eq name file.0

-- names tie in the map's order exactly where they are equal byte by byte
tied : (name other : List ℕ) → eq_by_cmp (slice_cmp nat_cmp) name other ≡ pointwise nat_eq name other
tied name other = sym (texts_ties name other)

abbrev first_value : List ℕ → List File → Option (List ℕ)
first_value = find (slice_cmp nat_cmp)

-- none of the files has the name
pub None-find : (name : List ℕ) (n : ℕ) (files : List File) → position_from (is_named name) n files ≡ None → first_value name files ≡ None
None-find name n [] e = refl
None-find name n (file ∷ files) e =
    elim (pointwise nat_eq name file.0) as (λ b. pointwise nat_eq name file.0 ≡ b → first_value name (file ∷ files) ≡ None) [
      | true ↦ λ h. let e' : Some n ≡ None = rw h at e in cc
      | false ↦ λ h. let e' : position_from (is_named name) (n + 1) files ≡ None = rw h at e in
          rw (tied name file.0, h) (None-find name (n + 1) files e')
    ] refl

-- the first file of the name stands at this place of the list
record Found (name : List ℕ) (files : List File) (at : ℕ) : Type 0 where
  within : at < length files
  named : name_at files at ≡ name
  value : first_value name files ≡ Some (bytes_at files at)
  written : (bytes other : List ℕ) → first_value other (slice_set files at (name, bytes)) ≡ cond (pointwise nat_eq other name) (Some bytes) (first_value other files)

-- a test that is made twice
twice : {A : Type 0} (b : Bool) (x y z : A) → cond b x (cond b y z) ≡ cond b x z
twice true x y z = refl
twice false x y z = refl

-- two tests that never pass together may be made in either order
either_order : {A : Type 0} (a b : Bool) (x y z : A) → (a ≡ true → b ≡ true → ⊥) → cond a x (cond b y z) ≡ cond b y (cond a x z)
either_order true true x y z apart = absurd (apart refl refl)
either_order true false x y z apart = refl
either_order false b x y z apart = refl

-- the first file of the list has the name
found_first : (name : List ℕ) (file : File) (files : List File) → pointwise nat_eq name file.0 ≡ true → Found name (file ∷ files) 0
found_first name file files h = let same : name ≡ file.0 = same_text name file.0 (sym h) in record {
  within = omega arith;
  named = sym same;
  value = rw (tied name file.0, h) refl;
  written = λ bytes other. rw (tied other name, tied other file.0, ← same) (sym (twice (pointwise nat_eq other name) (Some bytes) (Some file.1) (first_value other files)));
}

-- a name is itself
itself : (name : List ℕ) → pointwise nat_eq name name ≡ true
itself name = nat_list_eq_equiv.refl name

-- it stands behind a file of another name
found_later : (name : List ℕ) (file : File) (files : List File) (at : ℕ) → pointwise nat_eq name file.0 ≡ false → Found name files at → Found name (file ∷ files) (suc at)
found_later name file files at h found = record {
  within = let inside : at < length files = found.within in omega arith;
  named = found.named;
  value = rw (tied name file.0, h) found.value;
  written = λ bytes other. rw (tied other file.0, found.written bytes other)
      (either_order (pointwise nat_eq other file.0) (pointwise nat_eq other name) (Some file.1) (Some bytes) (first_value other files)
      (λ a b. let p : other ≡ file.0 = same_text other file.0 (sym a) in let q : other ≡ name = same_text other name (sym b) in
      let e : pointwise nat_eq name name ≡ false = (let r : name ≡ file.0 = sym q ∙ p in subst (λ o. pointwise nat_eq name o ≡ false) (sym r) h) in
      let t : pointwise nat_eq name name ≡ true = itself name in cc));
}

-- where a search that counts from n on finds the name
found_from : (name : List ℕ) (n : ℕ) (files : List File) (at : ℕ) → position_from (is_named name) n files ≡ Some at → (i : ℕ) × (at ≡ n + i) × Found name files i
found_from name n [] at e = absurd (let e' : None ≡ Some at = e in cc)
found_from name n (file ∷ files) at e =
    elim (pointwise nat_eq name file.0) as (λ b. pointwise nat_eq name file.0 ≡ b → (i : ℕ) × (at ≡ n + i) × Found name (file ∷ files) i) [
      | true ↦ λ h. let e' : Some n ≡ Some at = rw h at e in let same : n ≡ at = cc in (0, omega arith, found_first name file files h)
      | false ↦ λ h. let e' : position_from (is_named name) (n + 1) files ≡ Some at = rw h at e in
          let later : (i : ℕ) × (at ≡ (n + 1) + i) × Found name files i = found_from name (n + 1) files at e' in
          (suc later.0, (let there : at ≡ (n + 1) + later.0 = later.1 in omega arith), found_later name file files later.0 h later.2)
    ] refl

same_files : {m n : FinMap (slice_cmp nat_cmp) (List ℕ)} → ((name : List ℕ) → get m name ≡ get n name) → m ≡ n
same_files {m} {n} = same_map nat_list_cmp_total (slice_cmp-IsAntisymmetric nat_cmp-IsAntisymmetric) m n

-- what a place that was found says of the map
pub place_of-found : (files : List File) (name : List ℕ) (at : ℕ) → place_of name files ≡ Some at → IsFoundAt files name at
place_of-found files name at e =
    let there : (i : ℕ) × (at ≡ 0 + i) × Found name files i = found_from name 0 files at e in
    let same : there.0 ≡ at = (let h : at ≡ 0 + there.0 = there.1 in omega arith) in
    let found : Found name files at = subst (Found name files) same there.2 in
    record {
      within = found.within;
      named = found.named;
      held = get-from_entries nat_list_cmp_total files name ∙ found.value;
      replaced = λ bytes. same_files (λ other.
          get-from_entries nat_list_cmp_total _ other ∙ found.written bytes other
          ∙ sym (get-insert nat_list_cmp_total _ name bytes other ∙ rw (tied other name, get-from_entries nat_list_cmp_total files other) refl));
    }

-- what it says that none was found
pub place_of-absent : (files : List File) (name : List ℕ) → place_of name files ≡ None → IsAbsent files name
place_of-absent files name e =
    let none : first_value name files ≡ None = None-find name 0 files e in
    record {
      not_held = get-from_entries nat_list_cmp_total files name ∙ none;
      added = λ bytes. from_entries_push nat_list_cmp_total (slice_cmp-IsAntisymmetric nat_cmp-IsAntisymmetric) files name bytes none;
    }
