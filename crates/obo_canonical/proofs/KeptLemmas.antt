-- What is kept, clause by clause.
use Rattle.std.proofs.Common.{◌≡◌, ◌+◌, ◌≤◌, ◌||◌, ◌&&◌, ℕ, Bool, true, false, not, List, [], ◌∷◌, ◌++◌, Some, add-one, append-nil, ap, cond, filter, if◌then◌else◌, length, map, refl, slice_get, slice_index_or, suc, sym, zero, take, take_all, ◌∙◌}
use Rattle.std.specs.List.{flat_map}
use Rattle.std.specs.Prelude.{codes}
use Rattle.std.proofs.lemmas.Grind.{flat_map-append}
use Rattle.rel_io.proofs.Options.{none_there, same_there}
use Rattle.owl_axioms.proofs.Adding.{take_suc}
use Rattle.obo_clause.specs.declared.clause.Value.{Value}
use Rattle.obo_clause.specs.declared.clause.Value.TheVariants as value
use Rattle.obo_frames.specs.Framed.{Framed, framed, unlined}
use Rattle.obo_frames.specs.declared.placed.Placed.{Placed}
use Rattle.obo_notes.specs.Context.{reading_in, writing_in}
use Rattle.obo_mapping.specs.Axioms.{is_metadata}
use Rattle.obo_mapping.specs.Documents.{as_kept, has_tag, is_header, is_import, is_raw, is_said_elsewhere, is_typedef, is_untranslatable, kept, settled_value, situation_of, space_of}
use Rattle.obo_canonical.specs.inner.Settled.{all_kept, id_in, is_kept, is_literal_tag, kept_in, kept_of, qualifiers_in, value_in}

-- ---- turn by turn

pub kept_more : {X C : Type 0} (f : X → List C) (xs : List X) (at : ℕ) (x : X) (held next : List C) → slice_get xs at ≡ Some x → held ≡ flat_map f (take at xs) → next ≡ held ++ f x → next ≡ flat_map f (take (at + 1) xs)
kept_more f xs at x held next is so_far more =
    more ∙ ap (λ cs. cs ++ f x) so_far ∙ ap (λ cs. flat_map f (take at xs) ++ cs) (sym (append-nil (f x))) ∙ sym (flat_map-append f (take at xs) (x ∷ []))
    ∙ sym (ap (flat_map f) (ap (λ n. take n xs) (add-one at) ∙ take_suc xs at x is))

-- the flag of an item
flag_in : {X : Type 0} (g : X → Bool) (xs : List X) (at : ℕ) (x : X) (default : Bool) → slice_get xs at ≡ Some x → slice_index_or (map g xs) at default ≡ g x
flag_in g [] at x default found = absurd (none_there found)
flag_in g (y ∷ ys) zero x default found = ap g (same_there found)
flag_in g (y ∷ ys) (suc at) x default found = flag_in g ys at x default found

pub flag_at : {X : Type 0} (g : X → Bool) (xs : List X) (flags : List Bool) (at : ℕ) (x : X) (default : Bool) → flags ≡ map g xs → slice_get xs at ≡ Some x → slice_index_or flags at default ≡ g x
flag_at g xs flags at x default is found = ap (λ bs. slice_index_or bs at default) is ∙ flag_in g xs at x default found

flat_mapped : {X Y C : Type 0} (f : Y → List C) (g : X → Y) (xs : List X) → flat_map (λ x. f (g x)) xs ≡ flat_map f (map g xs)
flat_mapped f g [] = refl
flat_mapped f g (x ∷ xs) = ap (λ cs. f (g x) ++ cs) (flat_mapped f g xs)

pub kept_all : (space : List ℕ) (u : Framed → Bool) (placed : List Placed) (at : ℕ) → length placed ≤ at
    → flat_map (λ (one : Placed). kept_of space (u (unlined one)) (unlined one)) (take at placed) ≡ all_kept space u (map unlined placed)
kept_all space u placed at ended =
    ap (flat_map (λ (one : Placed). kept_of space (u (unlined one)) (unlined one))) (take_all at placed ended) ∙ flat_mapped (λ one. kept_of space (u one) one) unlined placed

-- ---- where each id is settled alike

module _ (space : List ℕ) where
  value_alike : (is_role is_literal : Bool) (v : Value) → settled_value (reading_in space) (writing_in space) is_role is_literal v ≡ value_in space is_literal v
  unfolding settled_value
  value_alike is_role true (value.Id word) = refl
  value_alike true false (value.Id word) = refl
  value_alike false false (value.Id word) = refl
  value_alike true is_literal (value.Pair first second) = refl
  value_alike false is_literal (value.Pair first second) = refl
  value_alike is_role is_literal (value.Text text) = refl
  value_alike is_role is_literal (value.Bool truth) = refl
  value_alike is_role is_literal (value.Def text xrefs) = refl
  value_alike is_role is_literal (value.Synonym text scope type xrefs) = refl
  value_alike is_role is_literal (value.XrefValue xref) = refl
  value_alike is_role is_literal (value.Literal relation text datatype) = refl
  value_alike is_role is_literal (value.Link relation target) = refl
  value_alike is_role is_literal (value.SubsetDef word text) = refl
  value_alike is_role is_literal (value.SynonymDef word text scope) = refl
  value_alike is_role is_literal (value.Raw text) = refl

  same_either : {X : Type 0} (test : Bool) (x : X) → (if test then x else x) ≡ x
  same_either true x = refl
  same_either false x = refl

pub kept_alike : (d : List Framed) (one : Framed) → as_kept (situation_of d) (writing_in (space_of d)) one ≡ kept_in (space_of d) one
unfolding situation_of
kept_alike d one =
    let space = space_of d in
    let known = is_metadata (situation_of d) ((situation_of d).reading.iri one.id) in
    let is_role = is_typedef one.frame && not known && not (has_tag (codes "domain") one || has_tag (codes "range") one
    || has_tag (codes "subset") one || has_tag (codes "consider") one || has_tag (codes "replaced_by") one) in
    let value = value_alike space is_role (is_literal_tag one.clause.tag) one.clause.value in
    let id = same_either space (is_typedef one.frame && not known) (id_in space one.id) in
    λ i. framed one.frame (if is_header one then one.id else id i) (if is_raw one.clause.value then one.clause else record {
      tag = one.clause.tag;
      value = value i;
      qualifiers = qualifiers_in one.clause.qualifiers;
    })

-- ---- the definition

as_filter : {X Y : Type 0} (f : X → Y) (test : X → Bool) (xs : List X) → flat_map (λ x. if test x then f x ∷ [] else []) xs ≡ map f (filter test xs)
as_filter f test [] = refl
as_filter f test (x ∷ xs) =
    let rest = as_filter f test xs in
    elim (test x) as (λ b. (if b then f x ∷ [] else []) ++ flat_map (λ x. if test x then f x ∷ [] else []) xs ≡ map f (cond b (x ∷ filter test xs) (filter test xs))) [
      | true ↦ ap (λ ys. f x ∷ ys) rest
      | false ↦ rest
    ]

pub kept_is : (d : List Framed) → all_kept (space_of d) (is_untranslatable d) d ≡ kept d
unfolding kept
kept_is d =
    as_filter (kept_in (space_of d)) (λ one. is_kept (is_untranslatable d one) one) d
    ∙ sym (λ i. map (λ one. kept_alike d one i) (filter (λ one. (is_import one || is_untranslatable d one) && not (is_said_elsewhere one)) d))
