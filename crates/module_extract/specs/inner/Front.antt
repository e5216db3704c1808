-- The front of a module that grows: its names, what is known for them, and the names that entered and whose axioms are to be
-- tested again. (Own.)
use Rattle.std.specs.Prelude.{ℕ, ◌≡◌, ◌+◌, ◌<◌, ◌⊎◌, Bool, true, false, if◌then◌else◌, List, [], ◌∷◌, Contains, Some, get_or, length, slice_get, slice_set}
use Rattle.fact_rows.specs.Member.{In}
use Rattle.name_lists.specs.Lists.{NamedState, place_of}
use Rattle.owl_axioms.specs.Names.{Scope, body_names, has_meaning}
use Rattle.owl_axioms.specs.Signature.{SigState, added, scope_of}
use Rattle.owl_axioms.specs.declared.body.Axiom.{Axiom}
use Rattle.owl_axioms.specs.declared.expr.ClassExpr.{ClassExpr}
use Rattle.owl_axioms.specs.declared.name.Name.{Name}
use Rattle.owl_sem.specs.Models.{is_logical}
use Rattle.locality_core.specs.Verdicts.{StandFor, VerdictState}
use Rattle.module_extract.specs.Module.{Fills, on_count}
use Rattle.module_extract.specs.inner.Work.{IsGrowing, tests_local}

-- the names, what is known for them, of each list of axioms whether its name is still outside, and the lists whose axioms
-- are to be tested again
pub record FrontState : Type 0 where
  pub names : SigState
  pub verdicts : VerdictState
  pub fresh : List Bool
  pub waiting : List ℕ

pub record IsFront (k : Fills) (trees : List ClassExpr) (table : NamedState) (f : FrontState) : Type 0 where
  pub stand : StandFor k.classes k.roles (scope_of f.names) trees f.verdicts
  pub long : length f.fresh ≡ length table.lists
  pub entered : (s : ℕ) (n : Name) → slice_get f.fresh s ≡ Some false → place_of table n ≡ Some s → scope_of f.names n.kind n.iri ≡ true
  pub waits : (s : ℕ) → In s f.waiting → s < length table.lists

-- how many axioms are in the lists of fresh names, and in those that wait
abbrev pub fresh_sum : List Bool → List (List ℕ) → ℕ
fresh_sum [] lists = 0
fresh_sum (f ∷ fresh) [] = 0
fresh_sum (f ∷ fresh) (l ∷ lists) = (if f then length l else 0) + fresh_sum fresh lists

abbrev pub waiting_sum : List (List ℕ) → List ℕ → ℕ
waiting_sum lists [] = 0
waiting_sum lists (s ∷ waiting) = length (get_or lists s []) + waiting_sum lists waiting

-- how many tests are left, and how many lists
abbrev pub tests_left : NamedState → FrontState → ℕ
tests_left table f = fresh_sum f.fresh table.lists + waiting_sum table.lists f.waiting

abbrev pub lists_left : FrontState → ℕ
lists_left f = on_count f.fresh + length f.waiting

-- names entered: the lists of those that are new wait
pub record Entered (table : NamedState) (names : List Name) (a b : FrontState) : Type 0 where
  pub names_are : b.names ≡ added a.names names
  pub stays : (s : ℕ) → In s a.waiting → In s b.waiting
  pub waits : (n : Name) (s : ℕ) → Contains names n → has_meaning n.kind ≡ true → scope_of a.names n.kind n.iri ≡ false → place_of table n ≡ Some s → In s b.waiting
  pub tests : tests_left table b ≡ tests_left table a
  pub lists : lists_left b ≡ lists_left a

-- the test of an axiom: it joins, and its names enter, where it was outside and is not local
abbrev pub IsTested : Fills → List Axiom → List ClassExpr → NamedState → ℕ → List Bool → FrontState → List Bool → FrontState → Bool → Type 0
IsTested k axioms trees table at kept f kept' f' true =
    (a : Axiom) × (slice_get axioms at ≡ Some a) × (slice_get kept at ≡ Some false) × (tests_local k f.names a ≡ false) × (kept' ≡ slice_set kept at true) × IsFront k trees table f' × Entered table (body_names a.body) f f'
IsTested k axioms trees table at kept f kept' f' false =
    (kept' ≡ kept) × (f' ≡ f) × ((a : Axiom) → slice_get axioms at ≡ Some a → slice_get kept at ≡ Some false → tests_local k f.names a ≡ true)

-- an axiom is to be tested: it is in a list, or one of its names waits
abbrev pub IsDue : List (List ℕ) → List ℕ → List ℕ → ℕ → Type 0
IsDue lists rest waiting i = In i rest ⊎ ((s : ℕ) × In s waiting × In i (get_or lists s []))

-- while a module grows: each logical axiom of the part that is outside is local, or is to be tested
pub record IsState (k : Fills) (axioms : List Axiom) (part : List Bool) (seed : Scope) (trees : List ClassExpr) (table : NamedState) (rest : List ℕ) (kept : List Bool) (f : FrontState) : Type 0 where
  pub growing : IsGrowing k axioms part seed kept f.names
  pub front : IsFront k trees table f
  pub settled : (i : ℕ) (a : Axiom) → slice_get axioms i ≡ Some a → slice_get part i ≡ Some true → is_logical a.body ≡ true → slice_get kept i ≡ Some false
      → (tests_local k f.names a ≡ true) ⊎ IsDue table.lists rest f.waiting i
