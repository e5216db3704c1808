-- What is empty, full or local with more names inside is so with fewer.
use Rattle.std.proofs.Common.{◌≡◌, ℕ, ◌==◌, Bool, true, false, ◌&&◌, ◌||◌, List, [], ◌∷◌, refl, sym, ap, subst, ◌∙◌, cond, map, true≢false}
use Rattle.std.specs.List.{list_all, list_any}
use Rattle.owl_axioms.specs.declared.body.Body.{Body}
use Rattle.owl_axioms.specs.declared.body.Body.TheVariants as body
use Rattle.owl_axioms.specs.declared.expr.ClassExpr.{ClassExpr}
use Rattle.owl_axioms.specs.declared.expr.ClassExpr.TheOpen.{ClassExpr-F}
use Rattle.owl_axioms.specs.declared.expr.ClassExpr.TheFolds.{fold-ClassExpr, fold-roll-ClassExpr, ind-ClassExpr, map-ClassExpr}
use Rattle.owl_axioms.specs.declared.expr.ClassExpr.TheViews.{roll-ClassExpr}
use Rattle.owl_axioms.specs.declared.name.Kind.TheVariants as kind
use Rattle.owl_axioms.specs.Names.{Scope, meaningful}
use Rattle.owl_axioms.proofs.Tests.{both}
use Rattle.owl_sem.specs.Laws.{Within}
use Rattle.locality_tables.specs.Laws.{TestsStayAlways, VerdictsStayAlways}
use Rattle.locality_tables.specs.Local.{is_local, local_by}
use Rattle.locality_tables.specs.Verdict.{all_finding, class_finding, exact_finding, one_finding, exchanged, is_empty, is_empty_role, is_full, is_full_role, is_identity, is_outside_role, many_finding, max_finding, min_finding, role_finding, some_finding, verdict, verdict_step}
use Rattle.locality_tables.specs.declared.fills.ClassFill.{ClassFill}
use Rattle.locality_tables.specs.declared.finding.Finding.{Finding}
use Rattle.locality_tables.specs.declared.finding.Finding.TheVariants.{Empty, Full, Unknown}
use Rattle.locality_tables.specs.declared.fills.RoleFill.{RoleFill}
use Rattle.locality_tables.specs.declared.fills.RoleFill.TheVariants as role
use Rattle.locality_tables.specs.declared.finding.RoleFinding.{RoleFinding}
use Rattle.locality_tables.specs.declared.finding.RoleFinding.TheVariants.{Filled, Inside}

-- the second finding is the first, or the first is Unknown
abbrev pub Stays : Finding → Finding → Type 0
Stays Unknown d = Unit {0}
Stays Empty d = d ≡ Empty
Stays Full d = d ≡ Full

-- the second is the first, or the first is Inside
abbrev pub StaysRole : RoleFinding → RoleFinding → Type 0
StaysRole Inside l = Unit {0}
StaysRole (Filled r) l = l ≡ Filled r

-- a test that is passed stays passed
abbrev pub Keeps : Bool → Bool → Type 0
Keeps x y = x ≡ true → y ≡ true

pub stays_empty : (c d : Finding) → Stays c d → Keeps (is_empty c) (is_empty d)
stays_empty Empty d s h = ap is_empty s
stays_empty Full d s h = absurd (true≢false (sym h))
stays_empty Unknown d s h = absurd (true≢false (sym h))

pub stays_full : (c d : Finding) → Stays c d → Keeps (is_full c) (is_full d)
stays_full Full d s h = ap is_full s
stays_full Empty d s h = absurd (true≢false (sym h))
stays_full Unknown d s h = absurd (true≢false (sym h))

pub stays_exchanged : (c d : Finding) → Stays c d → Stays (exchanged c) (exchanged d)
stays_exchanged Empty d s = ap exchanged s
stays_exchanged Full d s = ap exchanged s
stays_exchanged Unknown d s = tt

-- ---- a function of a role and a finding
abbrev pub OfBoth : (RoleFinding → Finding → Finding) → Type 0
OfBoth f = (k l : RoleFinding) (c d : Finding) → StaysRole k l → Stays c d → Stays (f k c) (f l d)

-- enough: nothing is known of a role inside or an unknown finding that is not known of every other
abbrev pub Steady : (RoleFinding → Finding → Finding) → Type 0
Steady f = ((l : RoleFinding) (c : Finding) → Stays (f Inside c) (f l c)) × ((k : RoleFinding) (d : Finding) → Stays (f k Unknown) (f k d))

pub stays_then : (c d e : Finding) → Stays c d → Stays d e → Stays c e
stays_then Empty d e s t = subst (λ x. Stays x e) s t
stays_then Full d e s t = subst (λ x. Stays x e) s t
stays_then Unknown d e s t = tt

pub stays_self : (c : Finding) → Stays c c
stays_self Empty = refl
stays_self Full = refl
stays_self Unknown = tt

pub of_both : (f : RoleFinding → Finding → Finding) → Steady f → OfBoth f
of_both f steady k l c d s t = stays_then (f k c) (f l c) (f l d) (one k s) (other c t)
  where
    one : (k : RoleFinding) → StaysRole k l → Stays (f k c) (f l c)
    one Inside s = steady.0 l c
    one (Filled r) s = subst (λ x. Stays (f (Filled r) c) (f x c)) (sym s) (stays_self (f (Filled r) c))

    other : (c : Finding) → Stays c d → Stays (f l c) (f l d)
    other Unknown t = steady.1 l d
    other Empty t = subst (λ x. Stays (f l Empty) (f l x)) (sym t) (stays_self (f l Empty))
    other Full t = subst (λ x. Stays (f l Full) (f l x)) (sym t) (stays_self (f l Full))

pub some_steady : Steady some_finding
some_steady = (inside, unknown)
  where
    inside : (l : RoleFinding) (c : Finding) → Stays (some_finding Inside c) (some_finding l c)
    inside Inside c = stays_self (some_finding Inside c)
    inside (Filled role.Empty) Empty = refl
    inside (Filled role.Full) Empty = refl
    inside (Filled role.Identity) Empty = refl
    inside (Filled r) Full = tt
    inside (Filled r) Unknown = tt

    unknown : (k : RoleFinding) (d : Finding) → Stays (some_finding k Unknown) (some_finding k d)
    unknown Inside d = tt
    unknown (Filled role.Empty) d = refl
    unknown (Filled role.Full) d = tt
    unknown (Filled role.Identity) d = tt

pub all_steady : Steady all_finding
all_steady = (inside, unknown)
  where
    inside : (l : RoleFinding) (c : Finding) → Stays (all_finding Inside c) (all_finding l c)
    inside Inside c = stays_self (all_finding Inside c)
    inside (Filled role.Empty) Full = refl
    inside (Filled role.Full) Full = refl
    inside (Filled role.Identity) Full = refl
    inside (Filled r) Empty = tt
    inside (Filled r) Unknown = tt

    unknown : (k : RoleFinding) (d : Finding) → Stays (all_finding k Unknown) (all_finding k d)
    unknown Inside d = tt
    unknown (Filled role.Empty) d = refl
    unknown (Filled role.Full) d = tt
    unknown (Filled role.Identity) d = tt

many_steady : Steady many_finding
many_steady = (inside, unknown)
  where
    inside : (l : RoleFinding) (c : Finding) → Stays (many_finding Inside c) (many_finding l c)
    inside Inside c = stays_self (many_finding Inside c)
    inside (Filled role.Empty) Empty = refl
    inside (Filled role.Full) Empty = refl
    inside (Filled role.Identity) Empty = refl
    inside (Filled r) Full = tt
    inside (Filled r) Unknown = tt

    unknown : (k : RoleFinding) (d : Finding) → Stays (many_finding k Unknown) (many_finding k d)
    unknown Inside d = tt
    unknown (Filled role.Empty) d = refl
    unknown (Filled role.Full) d = tt
    unknown (Filled role.Identity) d = refl

one_steady : Steady one_finding
one_steady = (inside, unknown)
  where
    inside : (l : RoleFinding) (c : Finding) → Stays (one_finding Inside c) (one_finding l c)
    inside Inside c = stays_self (one_finding Inside c)
    inside (Filled role.Empty) Empty = refl
    inside (Filled role.Full) Empty = refl
    inside (Filled role.Identity) Empty = refl
    inside (Filled r) Full = tt
    inside (Filled r) Unknown = tt

    unknown : (k : RoleFinding) (d : Finding) → Stays (one_finding k Unknown) (one_finding k d)
    unknown Inside d = tt
    unknown (Filled role.Empty) d = refl
    unknown (Filled role.Full) d = tt
    unknown (Filled role.Identity) d = tt

stays_if : (t : Bool) (c c' d d' : Finding) → Stays c c' → Stays d d' → Stays (cond t c d) (cond t c' d')
stays_if true c c' d d' s t = s
stays_if false c c' d d' s t = t

pub min_both : (n : ℕ) → OfBoth (min_finding n)
min_both n k l c d s t = stays_if (n == 0) Full Full _ _ refl (stays_if (n == 1) _ _ _ _ (of_both some_finding some_steady k l c d s t) (of_both many_finding many_steady k l c d s t))

pub max_both : (n : ℕ) → OfBoth (max_finding n)
max_both n k l c d s t = stays_if (n == 0) _ _ _ _ (stays_exchanged _ _ (of_both some_finding some_steady k l c d s t)) (stays_exchanged _ _ (of_both many_finding many_steady k l c d s t))

pub exact_both : (n : ℕ) → OfBoth (exact_finding n)
exact_both n k l c d s t = stays_if (n == 0) _ _ _ _ (stays_exchanged _ _ (of_both some_finding some_steady k l c d s t))
    (stays_if (n == 1) _ _ _ _ (of_both one_finding one_steady k l c d s t) (of_both many_finding many_steady k l c d s t))

-- ---- operands
pub stays_tests : (X Y : Finding) (t u t' u' : Bool) → Keeps t t' → Keeps u u' → (u' ≡ true → t' ≡ false) → Stays (cond t X (cond u Y Unknown)) (cond t' X (cond u' Y Unknown))
stays_tests X Y true u t' u' h k apart = subst (λ b. Stays X (cond b X (cond u' Y Unknown))) (sym (h refl)) (stays_self X)
stays_tests X Y false true t' u' h k apart =
    let yes : u' ≡ true = k refl in
    subst (λ b. Stays Y (cond b X (cond u' Y Unknown))) (sym (apart yes)) (subst (λ b. Stays Y (cond b Y Unknown)) (sym yes) (stays_self Y))
stays_tests X Y false false t' u' h k apart = tt

pub keeps_or : (x y x' y' : Bool) → Keeps x x' → Keeps y y' → Keeps (x || y) (x' || y')
keeps_or true y x' y' h k q = ap (λ b. b || y') (h refl)
keeps_or false y true y' h k q = refl
keeps_or false y false y' h k q = k q

pub keeps_and : (x y x' y' : Bool) → Keeps x x' → Keeps y y' → Keeps (x && y) (x' && y')
keeps_and x y x' y' h k q = let qs = both x y q in λ i. h qs.0 i && k qs.1 i

pub full_not_empty : (c : Finding) → is_full c ≡ true → is_empty c ≡ false
full_not_empty Full h = refl
full_not_empty Empty h = absurd (true≢false (sym h))
full_not_empty Unknown h = refl

pub empty_not_full : (c : Finding) → is_empty c ≡ true → is_full c ≡ false
empty_not_full Empty h = refl
empty_not_full Full h = absurd (true≢false (sym h))
empty_not_full Unknown h = refl

-- where each passes the one test, none passes the other
pub none_passes : (p q : Finding → Bool) → ((c : Finding) → q c ≡ true → p c ≡ false) → (cs : List Finding) → list_all q cs ≡ true → list_any p cs ≡ false
none_passes p q apart [] h = refl
none_passes p q apart (c ∷ cs) h = let hs = both (q c) (list_all q cs) h in λ i. apart c hs.0 i || none_passes p q apart cs hs.1 i

keeps_empty_role : (k l : RoleFinding) → StaysRole k l → Keeps (is_empty_role k) (is_empty_role l)
keeps_empty_role Inside l s h = absurd (true≢false (sym h))
keeps_empty_role (Filled r) l s h = ap is_empty_role s ∙ h

keeps_full_role : (k l : RoleFinding) → StaysRole k l → Keeps (is_full_role k) (is_full_role l)
keeps_full_role Inside l s h = absurd (true≢false (sym h))
keeps_full_role (Filled r) l s h = ap is_full_role s ∙ h

keeps_identity : (k l : RoleFinding) → StaysRole k l → Keeps (is_identity k) (is_identity l)
keeps_identity Inside l s h = absurd (true≢false (sym h))
keeps_identity (Filled r) l s h = ap is_identity s ∙ h

keeps_outside : (k l : RoleFinding) → StaysRole k l → Keeps (is_outside_role k) (is_outside_role l)
keeps_outside Inside l s h = absurd (true≢false (sym h))
keeps_outside (Filled r) l s h = ap is_outside_role s ∙ h

module _ (classes : ClassFill) (roles : RoleFill) (less more : Scope) (smaller : Within less more) where
  abbrev v : ClassExpr → Finding
  v = verdict classes roles more

  abbrev w : ClassExpr → Finding
  w = verdict classes roles less

  abbrev Holds : ClassExpr → Type 0
  Holds c = Stays (v c) (w c)

  abbrev Part : Type 0
  Part = (c : ClassExpr) × Holds c

  abbrev first : Part → ClassExpr
  first p = p.0

  layer : (inside : Scope) (x : ClassExpr-F ClassExpr) → verdict classes roles inside (roll-ClassExpr x) ≡ verdict_step classes roles inside (map-ClassExpr _ _ (verdict classes roles inside) x)
  unfolding verdict
  layer inside x = fold-roll-ClassExpr Finding (verdict_step classes roles inside) x

  pub role_stays : (r : List ℕ) → StaysRole (role_finding roles more r) (role_finding roles less r)
  role_stays r = by (more kind.Role r) (less kind.Role r) (smaller kind.Role r)
    where
      by : (x y : Bool) → (y ≡ true → x ≡ true) → StaysRole (cond x Inside (Filled roles)) (cond y Inside (Filled roles))
      by true y h = tt
      by false true h = absurd (true≢false (sym (h refl)))
      by false false h = refl

  abbrev firsts : List Part → List ClassExpr
  firsts ps = map first ps

  any_stays : (p : Finding → Bool) → ((c d : Finding) → Stays c d → Keeps (p c) (p d)) → (ps : List Part) → Keeps (list_any p (map v (firsts ps))) (list_any p (map w (firsts ps)))
  any_stays p keep [] h = h
  any_stays p keep (q ∷ ps) h = keeps_or _ _ _ _ (keep (v q.0) (w q.0) q.1) (any_stays p keep ps) h

  all_stays : (p : Finding → Bool) → ((c d : Finding) → Stays c d → Keeps (p c) (p d)) → (ps : List Part) → Keeps (list_all p (map v (firsts ps))) (list_all p (map w (firsts ps)))
  all_stays p keep [] h = h
  all_stays p keep (q ∷ ps) h = keeps_and _ _ _ _ (keep (v q.0) (w q.0) q.1) (all_stays p keep ps) h

  class_stays : (a : List ℕ) → Stays (cond (more kind.Class a) Unknown (class_finding classes)) (cond (less kind.Class a) Unknown (class_finding classes))
  class_stays a = by (more kind.Class a) (less kind.Class a) (smaller kind.Class a)
    where
      by : (x y : Bool) → (y ≡ true → x ≡ true) → Stays (cond x Unknown (class_finding classes)) (cond y Unknown (class_finding classes))
      by true y h = tt
      by false true h = absurd (true≢false (sym (h refl)))
      by false false h = stays_self (class_finding classes)

  layer_stays : (y : ClassExpr-F Part) → Stays (verdict_step classes roles more (map-ClassExpr _ _ v (map-ClassExpr _ _ first y))) (verdict_step classes roles less (map-ClassExpr _ _ w (map-ClassExpr _ _ first y)))
  layer_stays ClassExpr-F.Thing = refl
  layer_stays ClassExpr-F.Nothing = refl
  layer_stays (ClassExpr-F.Class a) = class_stays a
  layer_stays (ClassExpr-F.And ps) = stays_tests Empty Full _ _ _ _ (any_stays is_empty stays_empty ps) (all_stays is_full stays_full ps) (none_passes is_empty is_full full_not_empty (map w (firsts ps)))
  layer_stays (ClassExpr-F.Or ps) = stays_tests Full Empty _ _ _ _ (any_stays is_full stays_full ps) (all_stays is_empty stays_empty ps) (none_passes is_full is_empty empty_not_full (map w (firsts ps)))
  layer_stays (ClassExpr-F.Not p) = stays_exchanged (v p.0) (w p.0) p.1
  layer_stays (ClassExpr-F.Some r p) = of_both some_finding some_steady _ _ _ _ (role_stays r) p.1
  layer_stays (ClassExpr-F.All r p) = of_both all_finding all_steady _ _ _ _ (role_stays r) p.1
  layer_stays (ClassExpr-F.Min n r p) = min_both n _ _ _ _ (role_stays r) p.1
  layer_stays (ClassExpr-F.Max n r p) = max_both n _ _ _ _ (role_stays r) p.1
  layer_stays (ClassExpr-F.Exact n r p) = exact_both n _ _ _ _ (role_stays r) p.1

  pub verdict_stays : (c : ClassExpr) → Holds c
  verdict_stays = ind-ClassExpr Holds (λ x y is. subst (λ z. Holds (roll-ClassExpr z)) is (made y))
    where
      made : (y : ClassExpr-F Part) → Holds (roll-ClassExpr (map-ClassExpr _ _ first y))
      made y =
          let x = map-ClassExpr _ _ first y in
          subst (λ d. Stays d (w (roll-ClassExpr x))) (sym (layer more x)) (subst (Stays (verdict_step classes roles more (map-ClassExpr _ _ v x))) (sym (layer less x)) (layer_stays y))

  abbrev ke : (c : ClassExpr) → Keeps (is_empty (v c)) (is_empty (w c))
  ke c = stays_empty (v c) (w c) (verdict_stays c)

  abbrev kf : (c : ClassExpr) → Keeps (is_full (v c)) (is_full (w c))
  kf c = stays_full (v c) (w c) (verdict_stays c)

  abbrev re : (r : List ℕ) → Keeps (is_empty_role (role_finding roles more r)) (is_empty_role (role_finding roles less r))
  re r = keeps_empty_role _ _ (role_stays r)

  abbrev rf : (r : List ℕ) → Keeps (is_full_role (role_finding roles more r)) (is_full_role (role_finding roles less r))
  rf r = keeps_full_role _ _ (role_stays r)

  abbrev ri : (r : List ℕ) → Keeps (is_identity (role_finding roles more r)) (is_identity (role_finding roles less r))
  ri r = keeps_identity _ _ (role_stays r)

  abbrev ro : (r : List ℕ) → Keeps (is_outside_role (role_finding roles more r)) (is_outside_role (role_finding roles less r))
  ro r = keeps_outside _ _ (role_stays r)

  pub local_stays : (b : Body) → Keeps (local_by v (role_finding roles more) b) (local_by w (role_finding roles less) b)
  unfolding local_by
  local_stays (body.Sub c d) h = keeps_or _ _ _ _ (ke c) (kf d) h
  local_stays (body.Equiv c d) h = keeps_or _ _ _ _ (keeps_and _ _ _ _ (ke c) (ke d)) (keeps_and _ _ _ _ (kf c) (kf d)) h
  local_stays (body.Disjoint c d) h = keeps_or _ _ _ _ (ke c) (ke d) h
  local_stays (body.SubRole r s) h = keeps_or _ _ _ _ (re r) (keeps_or _ _ _ _ (rf s) (keeps_and _ _ _ _ (ri r) (ri s))) h
  local_stays (body.Chain r s t) h = keeps_or _ _ _ _ (re r) (keeps_or _ _ _ _ (re s) (keeps_or _ _ _ _ (rf t) (keeps_and _ _ _ _ (ri r) (keeps_and _ _ _ _ (ri s) (ri t))))) h
  local_stays (body.EquivRoles r s) h = keeps_and _ _ _ _ (ro r) (ro s) h
  local_stays (body.DisjointRoles r s) h = keeps_or _ _ _ _ (re r) (re s) h
  local_stays (body.Inverse r s) h = keeps_and _ _ _ _ (ro r) (ro s) h
  local_stays (body.Transitive r) h = ro r h
  local_stays (body.Reflexive r) h = keeps_or _ _ _ _ (rf r) (ri r) h
  local_stays (body.Symmetric r) h = ro r h
  local_stays (body.Asymmetric r) h = re r h
  local_stays (body.Functional r) h = keeps_or _ _ _ _ (re r) (ri r) h
  local_stays (body.InverseFunctional r) h = keeps_or _ _ _ _ (re r) (ri r) h
  local_stays (body.Domain r c) h = keeps_or _ _ _ _ (re r) (kf c) h
  local_stays (body.Range r c) h = keeps_or _ _ _ _ (re r) (kf c) h
  local_stays (body.ClassAssertion c a) h = kf c h
  local_stays (body.RoleAssertion r a b) h = rf r h
  local_stays (body.Declaration name) h = refl
  local_stays (body.Note subject property value) h = refl
  local_stays (body.OntologyNote property value) h = refl

pub tests_stay : TestsStayAlways
unfolding is_local
tests_stay classes roles less more smaller b h = local_stays classes roles less more smaller b h

pub verdicts_stay : VerdictsStayAlways
verdicts_stay classes roles less more smaller c =
    let s = verdict_stays classes roles less more smaller c in
    (λ h. subst (λ d. Stays d (verdict classes roles less c)) h s, λ h. subst (λ d. Stays d (verdict classes roles less c)) h s)

-- ---- names of other kinds do not matter
step_meaning : (classes : ClassFill) (roles : RoleFill) (s : Scope) (x : ClassExpr-F Finding) → verdict_step classes roles (meaningful s) x ≡ verdict_step classes roles s x
step_meaning classes roles s ClassExpr-F.Thing = refl
step_meaning classes roles s ClassExpr-F.Nothing = refl
step_meaning classes roles s (ClassExpr-F.Class a) = refl
step_meaning classes roles s (ClassExpr-F.And ps) = refl
step_meaning classes roles s (ClassExpr-F.Or ps) = refl
step_meaning classes roles s (ClassExpr-F.Not p) = refl
step_meaning classes roles s (ClassExpr-F.Some r p) = refl
step_meaning classes roles s (ClassExpr-F.All r p) = refl
step_meaning classes roles s (ClassExpr-F.Min n r p) = refl
step_meaning classes roles s (ClassExpr-F.Max n r p) = refl
step_meaning classes roles s (ClassExpr-F.Exact n r p) = refl

pub local_meaning : (classes : ClassFill) (roles : RoleFill) (s : Scope) (b : Body) → is_local classes roles (meaningful s) b ≡ is_local classes roles s b
unfolding is_local verdict
local_meaning classes roles s b = λ i. local_by (fold-ClassExpr Finding (λ x. step_meaning classes roles s x i)) (role_finding roles s) b
