-- What a module is grown over: the logical axioms of the part, each with the nodes of its expressions, and of each name the
-- axioms that mention it. (Own.)
use Rattle.std.specs.Prelude.{ℕ, ◌≡◌, ◌+◌, ◌<◌, ◌≤◌, ◌&&◌, ◌⊎◌, Bool, true, false, not, if◌then◌else◌, List, [], ◌∷◌, ◌++◌, Contains, Some, get_or, length, slice_get, take}
use Rattle.fact_rows.specs.Member.{In}
use Rattle.name_lists.specs.Lists.{HasNumber, HaveLists, IsAdded, NamedState, number_count}
use Rattle.expr_pool.specs.Pool.{Grew}
use Rattle.owl_axioms.specs.Names.{body_names, has_meaning}
use Rattle.owl_axioms.specs.Signature.{SigState, add_name, added, name_count, no_names, scope_of}
use Rattle.owl_axioms.specs.declared.body.Axiom.{Axiom}
use Rattle.owl_axioms.specs.declared.body.Body.{Body}
use Rattle.owl_axioms.specs.declared.expr.ClassExpr.{ClassExpr}
use Rattle.owl_axioms.specs.declared.name.Name.{Name}
use Rattle.owl_sem.specs.Models.{is_logical}
use Rattle.locality_core.specs.Plain.{IsPlainOf}
use Rattle.locality_core.specs.declared.plain.Plain.{Plain}
use Rattle.locality_core.specs.declared.plain.Plain.TheVariants as plain
use Rattle.module_extract.specs.Tests.{names_number}

-- the axiom at a place is a logical one of the part
abbrev pub IsWork : List Axiom → List Bool → ℕ → Type 0
IsWork axioms part i = (a : Axiom) × (slice_get axioms i ≡ Some a) × (slice_get part i ≡ Some true) × (is_logical a.body ≡ true)

-- what stands at a place has the nodes of what an axiom says
abbrev pub HasPlain : List ClassExpr → List Plain → ℕ → Body → Type 0
HasPlain trees plains i b = (p : Plain) × (slice_get plains i ≡ Some p) × IsPlainOf trees b p

-- so much for each logical axiom of a part
abbrev pub weigh : (Axiom → ℕ) → List Bool → List Axiom → ℕ
weigh m [] axioms = 0
weigh m (f ∷ part) [] = 0
weigh m (f ∷ part) (a ∷ axioms) = (if f && is_logical a.body then m a else 0) + weigh m part axioms

abbrev pub once : Axiom → ℕ
once a = 1

-- for the axioms before a place
pub record IsSettingTo (axioms : List Axiom) (part : List Bool) (to : ℕ) (trees : List ClassExpr) (plains : List Plain) (table : NamedState) (all : List ℕ) : Type 0 where
  pub plain : (i : ℕ) (a : Axiom) → i < to → slice_get axioms i ≡ Some a → IsWork axioms part i → HasPlain trees plains i a.body
  pub told : (i : ℕ) (a : Axiom) (n : Name) → i < to → slice_get axioms i ≡ Some a → IsWork axioms part i → Contains (body_names a.body) n → has_meaning n.kind ≡ true → HasNumber table n i
  pub works : (s i : ℕ) → In i (get_or table.lists s []) → IsWork axioms part i
  pub listed : (i : ℕ) → i < to → IsWork axioms part i → In i all
  pub listed_works : (i : ℕ) → In i all → IsWork axioms part i
  pub within : to ≤ length axioms
  pub many : length plains ≡ to
  pub axioms_count : length all ≡ weigh once (take to part) (take to axioms)
  pub names_count : number_count table.lists ≡ weigh names_number (take to part) (take to axioms)

-- for all axioms
pub record IsSetting (axioms : List Axiom) (part : List Bool) (trees : List ClassExpr) (plains : List Plain) (table : NamedState) (all : List ℕ) : Type 0 where
  pub plain : (i : ℕ) (a : Axiom) → slice_get axioms i ≡ Some a → IsWork axioms part i → HasPlain trees plains i a.body
  pub told : (i : ℕ) (a : Axiom) (n : Name) → slice_get axioms i ≡ Some a → IsWork axioms part i → Contains (body_names a.body) n → has_meaning n.kind ≡ true → HasNumber table n i
  pub works : (s i : ℕ) → In i (get_or table.lists s []) → IsWork axioms part i
  pub listed : (i : ℕ) → IsWork axioms part i → In i all
  pub listed_works : (i : ℕ) → In i all → IsWork axioms part i
  pub many : length plains ≡ length axioms
  pub axioms_count : length all ≡ weigh once part axioms
  pub names_count : number_count table.lists ≡ weigh names_number part axioms

-- the place of an axiom is in the list of each of these names, once
pub record IsTold (old : NamedState) (names : List Name) (at : ℕ) (seen : SigState) (new : NamedState) : Type 0 where
  pub seen_are : seen ≡ added no_names names
  pub has : (n : Name) → scope_of seen n.kind n.iri ≡ true → HasNumber new n at
  pub kept : (n : Name) (i : ℕ) → HasNumber old n i → HasNumber new n i
  pub from : (s i : ℕ) → In i (get_or new.lists s []) → In i (get_or old.lists s []) ⊎ (i ≡ at)
  pub count : number_count new.lists ≡ number_count old.lists + name_count seen

-- a name is new to a signature that could have it
abbrev pub is_new : SigState → Name → Bool
is_new s n = has_meaning n.kind && not (scope_of s n.kind n.iri)

-- one name more: its list has the place where it is new
abbrev pub IsToldOne : NamedState → SigState → Name → ℕ → SigState → NamedState → Type 0
IsToldOne old seen name at seen' new =
    (seen' ≡ add_name seen name.kind name.iri) × (((is_new seen name ≡ true) × HaveLists old × IsAdded old name at new) ⊎ ((is_new seen name ≡ false) × (new ≡ old)))

-- one axiom more
abbrev pub IsStep : Bool → ℕ → Body → List ClassExpr → List Plain → NamedState → List ℕ → List ClassExpr → List Plain → NamedState → List ℕ → Type 0
IsStep false at b trees plains table all trees' plains' table' all' = (trees' ≡ trees) × (plains' ≡ plains ++ plain.Other ∷ []) × (table' ≡ table) × (all' ≡ all)
IsStep true at b trees plains table all trees' plains' table' all' =
    Grew trees trees' × ((p : Plain) × (plains' ≡ plains ++ p ∷ []) × IsPlainOf trees' b p) × IsTold table (body_names b) at (added no_names (body_names b)) table' × (all' ≡ all ++ at ∷ [])
