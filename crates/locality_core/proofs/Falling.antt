-- What a row gives depends on the parts alone, and falls with them.
use Rattle.std.proofs.Common.{◌≡◌, ℕ, ◌<◌, Bool, true, false, List, [], ◌∷◌, Some, suc, cond, map, slice_get, refl, sym, true≢false}
use Rattle.std.specs.List.{list_all, list_any}
use Rattle.fact_rows.specs.Member.{In, here, there}
use Rattle.fact_rows.proofs.Members.{in_none}
use Rattle.expr_pool.specs.Part.{layer_parts, parts_of}
use Rattle.owl_axioms.specs.Names.{Scope}
use Rattle.owl_axioms.specs.declared.expr.ClassExpr.{ClassExpr, out-ClassExpr, size-ClassExpr}
use Rattle.owl_axioms.specs.declared.expr.ClassExpr.TheOpen.{ClassExpr-F}
use Rattle.owl_axioms.specs.declared.expr.ClassExpr.TheFolds.{map-ClassExpr}
use Rattle.owl_axioms.specs.declared.name.Kind.TheVariants as kind
use Rattle.owl_axioms.specs.declared.name.Name.{Name}
use Rattle.owl_sem.specs.Laws.{Within}
use Rattle.locality_tables.proofs.Monotone.{Keeps, Stays, StaysRole, all_steady, empty_not_full, exact_both, full_not_empty, keeps_and, keeps_or, max_both, min_both, none_passes, of_both, role_stays, some_steady, stays_empty, stays_exchanged, stays_full, stays_self, stays_tests}
use Rattle.locality_tables.specs.Verdict.{all_finding, class_finding, exact_finding, is_empty, is_full, max_finding, min_finding, role_finding, some_finding, verdict_step}
use Rattle.locality_tables.specs.declared.fills.ClassFill.{ClassFill}
use Rattle.locality_tables.specs.declared.fills.RoleFill.{RoleFill}
use Rattle.locality_tables.specs.declared.finding.Finding.{Finding}
use Rattle.locality_tables.specs.declared.finding.Finding.TheVariants.{Empty, Full, Unknown}
use Rattle.locality_tables.specs.declared.finding.RoleFinding.TheVariants.{Filled, Inside}
use Rattle.locality_core.proofs.Layers.{size_all, size_and, size_exact, size_max, size_min, size_not, size_or, size_some}
use Rattle.locality_core.specs.Verdicts.{top_name_of}

-- ---- findings of parts that fall

module _ (classes : ClassFill) (roles : RoleFill) (less more : Scope) (smaller : Within less more) (f g : ClassExpr → Finding) (falls : (c : ClassExpr) → Stays (f c) (g c)) where
  any_stays : (p : Finding → Bool) → ((c d : Finding) → Stays c d → Keeps (p c) (p d)) → (cs : List ClassExpr) → Keeps (list_any p (map f cs)) (list_any p (map g cs))
  any_stays p keep [] h = h
  any_stays p keep (c ∷ cs) h = keeps_or _ _ _ _ (keep (f c) (g c) (falls c)) (any_stays p keep cs) h

  all_stays : (p : Finding → Bool) → ((c d : Finding) → Stays c d → Keeps (p c) (p d)) → (cs : List ClassExpr) → Keeps (list_all p (map f cs)) (list_all p (map g cs))
  all_stays p keep [] h = h
  all_stays p keep (c ∷ cs) h = keeps_and _ _ _ _ (keep (f c) (g c) (falls c)) (all_stays p keep cs) h

  class_stays : (a : List ℕ) → Stays (cond (more kind.Class a) Unknown (class_finding classes)) (cond (less kind.Class a) Unknown (class_finding classes))
  class_stays a = by (more kind.Class a) (less kind.Class a) (smaller kind.Class a)
    where
      by : (x y : Bool) → (y ≡ true → x ≡ true) → Stays (cond x Unknown (class_finding classes)) (cond y Unknown (class_finding classes))
      by true y h = tt
      by false true h = absurd (true≢false (sym (h refl)))
      by false false h = stays_self (class_finding classes)

  role : (r : List ℕ) → StaysRole (role_finding roles more r) (role_finding roles less r)
  role r = role_stays classes roles less more smaller r

  pub step_stays : (x : ClassExpr-F ClassExpr) → Stays (verdict_step classes roles more (map-ClassExpr _ _ f x)) (verdict_step classes roles less (map-ClassExpr _ _ g x))
  step_stays ClassExpr-F.Thing = refl
  step_stays ClassExpr-F.Nothing = refl
  step_stays (ClassExpr-F.Class a) = class_stays a
  step_stays (ClassExpr-F.And cs) = stays_tests Empty Full _ _ _ _ (any_stays is_empty stays_empty cs) (all_stays is_full stays_full cs) (none_passes is_empty is_full full_not_empty (map g cs))
  step_stays (ClassExpr-F.Or cs) = stays_tests Full Empty _ _ _ _ (any_stays is_full stays_full cs) (all_stays is_empty stays_empty cs) (none_passes is_full is_empty empty_not_full (map g cs))
  step_stays (ClassExpr-F.Not c) = stays_exchanged (f c) (g c) (falls c)
  step_stays (ClassExpr-F.Some r c) = of_both some_finding some_steady _ _ _ _ (role r) (falls c)
  step_stays (ClassExpr-F.All r c) = of_both all_finding all_steady _ _ _ _ (role r) (falls c)
  step_stays (ClassExpr-F.Min n r c) = min_both n _ _ _ _ (role r) (falls c)
  step_stays (ClassExpr-F.Max n r c) = max_both n _ _ _ _ (role r) (falls c)
  step_stays (ClassExpr-F.Exact n r c) = exact_both n _ _ _ _ (role r) (falls c)

-- ---- what a row depends on

map_agree : {A B : Type 0} (f g : A → B) (xs : List A) → ((x : A) → In x xs → f x ≡ g x) → map f xs ≡ map g xs
map_agree f g [] h = refl
map_agree f g (x ∷ xs) h = λ i. h x here i ∷ map_agree f g xs (λ y k. h y (there k)) i

-- the parts alone
pub layer_agree : (f g : ClassExpr → Finding) (x : ClassExpr-F ClassExpr) → ((c : ClassExpr) → In c (layer_parts x) → f c ≡ g c) → map-ClassExpr _ _ f x ≡ map-ClassExpr _ _ g x
unfolding layer_parts
layer_agree f g ClassExpr-F.Thing h = refl
layer_agree f g ClassExpr-F.Nothing h = refl
layer_agree f g (ClassExpr-F.Class a) h = refl
layer_agree f g (ClassExpr-F.And cs) h = λ i. ClassExpr-F.And (map_agree f g cs h i)
layer_agree f g (ClassExpr-F.Or cs) h = λ i. ClassExpr-F.Or (map_agree f g cs h i)
layer_agree f g (ClassExpr-F.Not c) h = λ i. ClassExpr-F.Not (h c here i)
layer_agree f g (ClassExpr-F.Some r c) h = λ i. ClassExpr-F.Some r (h c here i)
layer_agree f g (ClassExpr-F.All r c) h = λ i. ClassExpr-F.All r (h c here i)
layer_agree f g (ClassExpr-F.Min n r c) h = λ i. ClassExpr-F.Min n r (h c here i)
layer_agree f g (ClassExpr-F.Max n r c) h = λ i. ClassExpr-F.Max n r (h c here i)
layer_agree f g (ClassExpr-F.Exact n r c) h = λ i. ClassExpr-F.Exact n r (h c here i)

-- and of the signature what it tells of the name at the top
module _ (classes : ClassFill) (roles : RoleFill) (s t : Scope) where
  role_same : (r : List ℕ) → s kind.Role r ≡ t kind.Role r → role_finding roles s r ≡ role_finding roles t r
  role_same r h = λ i. cond (h i) Inside (Filled roles)

  pub step_same : (x : ClassExpr-F Finding) → ((n : Name) → top_name_of x ≡ Some n → s n.kind n.iri ≡ t n.kind n.iri) → verdict_step classes roles s x ≡ verdict_step classes roles t x
  step_same ClassExpr-F.Thing h = refl
  step_same ClassExpr-F.Nothing h = refl
  step_same (ClassExpr-F.Class a) h = λ i. cond (h (record { kind = kind.Class; iri = a }) refl i) Unknown (class_finding classes)
  step_same (ClassExpr-F.And cs) h = refl
  step_same (ClassExpr-F.Or cs) h = refl
  step_same (ClassExpr-F.Not c) h = refl
  step_same (ClassExpr-F.Some r c) h = λ i. some_finding (role_same r (h (record { kind = kind.Role; iri = r }) refl) i) c
  step_same (ClassExpr-F.All r c) h = λ i. all_finding (role_same r (h (record { kind = kind.Role; iri = r }) refl) i) c
  step_same (ClassExpr-F.Min n r c) h = λ i. min_finding n (role_same r (h (record { kind = kind.Role; iri = r }) refl) i) c
  step_same (ClassExpr-F.Max n r c) h = λ i. max_finding n (role_same r (h (record { kind = kind.Role; iri = r }) refl) i) c
  step_same (ClassExpr-F.Exact n r c) h = λ i. exact_finding n (role_same r (h (record { kind = kind.Role; iri = r }) refl) i) c

pub top_mapped : {A B : Type 0} (f : A → B) (x : ClassExpr-F A) → top_name_of (map-ClassExpr _ _ f x) ≡ top_name_of x
top_mapped f ClassExpr-F.Thing = refl
top_mapped f ClassExpr-F.Nothing = refl
top_mapped f (ClassExpr-F.Class a) = refl
top_mapped f (ClassExpr-F.And cs) = refl
top_mapped f (ClassExpr-F.Or cs) = refl
top_mapped f (ClassExpr-F.Not c) = refl
top_mapped f (ClassExpr-F.Some r c) = refl
top_mapped f (ClassExpr-F.All r c) = refl
top_mapped f (ClassExpr-F.Min n r c) = refl
top_mapped f (ClassExpr-F.Max n r c) = refl
top_mapped f (ClassExpr-F.Exact n r c) = refl

-- ---- parts are smaller

in_place : {A : Type 0} (x : A) (xs : List A) → In x xs → (i : ℕ) × (slice_get xs i ≡ Some x)
in_place x [] h = in_none h
in_place x (y ∷ xs) here = (0, refl)
in_place x (y ∷ xs) (there h) = let r = in_place x xs h in (suc r.0, r.1)

only : {A : Type 0} (P : A → Type 0) (x y : A) → P y → In x (y ∷ []) → P x
only P x _ p here = p
only P x y p (there h) = in_none h

abbrev Smaller : ClassExpr → ClassExpr → Type 0
Smaller t c = size-ClassExpr c < size-ClassExpr t

smaller_by : (t c : ClassExpr) (x : ClassExpr-F ClassExpr) → out-ClassExpr t ≡ x → In c (layer_parts x) → Smaller t c
unfolding layer_parts
smaller_by t c ClassExpr-F.Thing e h = in_none h
smaller_by t c ClassExpr-F.Nothing e h = in_none h
smaller_by t c (ClassExpr-F.Class a) e h = in_none h
smaller_by t c (ClassExpr-F.And cs) e h = let p = in_place c cs h in size_and t c cs p.0 e p.1
smaller_by t c (ClassExpr-F.Or cs) e h = let p = in_place c cs h in size_or t c cs p.0 e p.1
smaller_by t c (ClassExpr-F.Not d) e h = only (Smaller t) c d (size_not t d e) h
smaller_by t c (ClassExpr-F.Some r d) e h = only (Smaller t) c d (size_some t d r e) h
smaller_by t c (ClassExpr-F.All r d) e h = only (Smaller t) c d (size_all t d r e) h
smaller_by t c (ClassExpr-F.Min n r d) e h = only (Smaller t) c d (size_min t d n r e) h
smaller_by t c (ClassExpr-F.Max n r d) e h = only (Smaller t) c d (size_max t d n r e) h
smaller_by t c (ClassExpr-F.Exact n r d) e h = only (Smaller t) c d (size_exact t d n r e) h

pub part_smaller : (t c : ClassExpr) → In c (parts_of t) → size-ClassExpr c < size-ClassExpr t
unfolding parts_of
part_smaller t c h = smaller_by t c (out-ClassExpr t) refl h
