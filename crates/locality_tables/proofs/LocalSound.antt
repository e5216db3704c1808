-- A local axiom is satisfied wherever the names outside are filled, kind by kind.
use Rattle.std.proofs.Common.{◌≡◌, ℕ, ◌<◌, ◌≤◌, ◌==◌, Bool, true, false, ◌&&◌, ◌||◌, List, [], ◌∷◌, refl, sym, subst, ◌∙◌, arith, nat_lt, true≢false, eqb-true, cond}
use Rattle.std.specs.Str.{bytes_eq}
use Rattle.std.proofs.lemmas.Bool.Decides.{nat_tests}
use Rattle.owl_axioms.specs.declared.body.Body.{Body}
use Rattle.owl_axioms.specs.declared.body.Body.TheVariants as body
use Rattle.owl_axioms.specs.declared.expr.ClassExpr.{ClassExpr}
use Rattle.owl_axioms.specs.declared.name.Kind.TheVariants as kind
use Rattle.owl_sem.specs.Interp.{Interp, first_below, in_role, individual, member}
use Rattle.owl_sem.specs.Models.{Satisfies, SatisfiesChain}
use Rattle.owl_axioms.specs.Names.{Scope, body_names, covers, names_in, two_roles}
use Rattle.owl_axioms.proofs.Listed.{covers_append, covers_cons}
use Rattle.owl_axioms.proofs.Tests.{all_three, both, by_either}
use Rattle.locality_tables.specs.Fill.{IsFilled, role_holds}
use Rattle.locality_tables.specs.Local.{is_local, local_by}
use Rattle.locality_tables.specs.Verdict.{is_empty, is_empty_role, is_full, is_full_role, is_identity, is_outside_role, role_finding, verdict}
use Rattle.locality_tables.specs.declared.fills.ClassFill.{ClassFill}
use Rattle.locality_tables.specs.declared.finding.Finding.{Finding}
use Rattle.locality_tables.specs.declared.fills.RoleFill.{RoleFill}
use Rattle.locality_tables.specs.declared.fills.RoleFill.TheVariants as role
use Rattle.locality_tables.specs.declared.finding.RoleFinding.{RoleFinding}
use Rattle.locality_tables.specs.declared.finding.RoleFinding.TheVariants.{Filled, Inside}
use Rattle.locality_tables.proofs.Findings.{Says, and_false, empty_from, false_and, full_from}
use Rattle.locality_tables.proofs.Sound.{sound}

-- the pairs of a role that is filled, on n elements
abbrev pairs : RoleFill → ℕ → ℕ → ℕ → Bool
pairs roles n e f = nat_lt e n && nat_lt f n && role_holds roles e f

-- what is known of a role: all of it, where it is outside
abbrev Known : RoleFinding → (ℕ → ℕ → Bool) → ℕ → Type 0
Known Inside holds n = Unit {0}
Known (Filled fill) holds n = (e f : ℕ) → holds e f ≡ pairs fill n e f

no_pairs : (n e f : ℕ) → pairs role.Empty n e f ≡ false
no_pairs n e f = and_false (nat_lt e n && nat_lt f n) false refl

all_pairs : (n e f : ℕ) → e < n → f < n → pairs role.Full n e f ≡ true
all_pairs n e f el fl = let p : nat_lt e n ≡ true = grind (arith, nat_tests) in let q : nat_lt f n ≡ true = grind (arith, nat_tests) in λ k. p k && q k && true

own_pair : (n e : ℕ) → e < n → pairs role.Identity n e e ≡ true
own_pair n e el = let p : nat_lt e n ≡ true = grind (arith, nat_tests) in let q : (e == e) ≡ true = grind (arith, nat_tests) in λ k. p k && p k && q k

own_alone : (n e f : ℕ) → pairs role.Identity n e f ≡ true → e ≡ f
own_alone n e f h = let hs = all_three (nat_lt e n) (nat_lt f n) (e == f) h in eqb-true e f hs.1.1

turned : (roles : RoleFill) (n e f : ℕ) → pairs roles n e f ≡ true → pairs roles n f e ≡ true
turned roles n e f h =
    let hs = all_three (nat_lt e n) (nat_lt f n) (role_holds roles e f) h in
    λ k. hs.1.0 k && hs.0 k && by roles hs.1.1 k
  where
    by : (roles : RoleFill) → role_holds roles e f ≡ true → role_holds roles f e ≡ true
    by role.Empty q = q
    by role.Full q = refl
    by role.Identity q = grind (arith, nat_tests)

same_tests : (x y : Bool) → (x ≡ true → y ≡ true) → (y ≡ true → x ≡ true) → x ≡ y
same_tests true y there back = sym (there refl)
same_tests false true there back = back refl
same_tests false false there back = refl

joined : (roles : RoleFill) (n e f g : ℕ) → pairs roles n e f ≡ true → pairs roles n f g ≡ true → pairs roles n e g ≡ true
joined roles n e f g h h' =
    let hs = all_three (nat_lt e n) (nat_lt f n) (role_holds roles e f) h in
    let gs = all_three (nat_lt f n) (nat_lt g n) (role_holds roles f g) h' in
    λ k. hs.0 k && gs.1.0 k && by roles hs.1.1 gs.1.1 k
  where
    by : (roles : RoleFill) → role_holds roles e f ≡ true → role_holds roles f g ≡ true → role_holds roles e g ≡ true
    by role.Empty p q = p
    by role.Full p q = refl
    by role.Identity p q = grind (arith, nat_tests)

below_of : (b : Bool) (e f n : ℕ) → (nat_lt e n && nat_lt f n && b) ≡ true → (e < n) × (f < n)
below_of b e f n h = let hs = all_three (nat_lt e n) (nat_lt f n) b h in (grind (arith, nat_tests), grind (arith, nat_tests))

in_role_below : (i : Interp) (r : List ℕ) (e f : ℕ) → in_role i r e f ≡ true → (e < i.size) × (f < i.size)
unfolding in_role
in_role_below i r e f h = below_of _ e f i.size h

below_true : (e n : ℕ) → nat_lt e n ≡ true → e < n
below_true e n h = grind (arith, nat_tests)

-- an individual is an element
individual_below : (i : Interp) (a : List ℕ) → 1 ≤ i.size → individual i a < i.size
unfolding individual
individual_below i a some = by i.individuals
  where
    chosen : (x : Bool) (e rest : ℕ) → (x ≡ true → e < i.size) → rest < i.size → cond x e rest < i.size
    chosen true e rest there l = there refl
    chosen false e rest there l = l

    by : (ps : List (List ℕ × ℕ)) → first_below i.size a ps < i.size
    by [] = omega (arith, some)
    by (p ∷ ps) = chosen (bytes_eq p.0 a && nat_lt p.1 i.size) p.1 _ (λ h. let hs = both (bytes_eq p.0 a) (nat_lt p.1 i.size) h in below_true p.1 i.size hs.1) (by ps)

module _ (classes : ClassFill) (roles : RoleFill) (inside within : Scope) (j : Interp) (filled : IsFilled classes roles inside within j) (some : 1 ≤ j.size) where
  abbrev v : ClassExpr → Finding
  v = verdict classes roles inside

  abbrev kd : List ℕ → RoleFinding
  kd = role_finding roles inside

  known : (r : List ℕ) → within kind.Role r ≡ true → Known (kd r) (in_role j r) j.size
  known r w = by (inside kind.Role r) refl
    where
      by : (b : Bool) → inside kind.Role r ≡ b → Known (cond b Inside (Filled roles)) (in_role j r) j.size
      by true q = tt
      by false q = filled.role r w q

  none_in : (r : List ℕ) → within kind.Role r ≡ true → is_empty_role (kd r) ≡ true → (e f : ℕ) → in_role j r e f ≡ false
  none_in r w h e f = by (kd r) (known r w) h
    where
      by : (k : RoleFinding) → Known k (in_role j r) j.size → is_empty_role k ≡ true → in_role j r e f ≡ false
      by (Filled role.Empty) q t = q e f ∙ no_pairs j.size e f
      by (Filled role.Full) q t = absurd (true≢false (sym t))
      by (Filled role.Identity) q t = absurd (true≢false (sym t))
      by Inside q t = absurd (true≢false (sym t))

  all_in : (r : List ℕ) → within kind.Role r ≡ true → is_full_role (kd r) ≡ true → (e f : ℕ) → e < j.size → f < j.size → in_role j r e f ≡ true
  all_in r w h e f el fl = by (kd r) (known r w) h
    where
      by : (k : RoleFinding) → Known k (in_role j r) j.size → is_full_role k ≡ true → in_role j r e f ≡ true
      by (Filled role.Full) q t = q e f ∙ all_pairs j.size e f el fl
      by (Filled role.Empty) q t = absurd (true≢false (sym t))
      by (Filled role.Identity) q t = absurd (true≢false (sym t))
      by Inside q t = absurd (true≢false (sym t))

  equal_in : (r : List ℕ) → within kind.Role r ≡ true → is_identity (kd r) ≡ true → (e f : ℕ) → in_role j r e f ≡ true → e ≡ f
  equal_in r w h e f there = by (kd r) (known r w) h
    where
      by : (k : RoleFinding) → Known k (in_role j r) j.size → is_identity k ≡ true → e ≡ f
      by (Filled role.Identity) q t = own_alone j.size e f (sym (q e f) ∙ there)
      by (Filled role.Empty) q t = absurd (true≢false (sym t))
      by (Filled role.Full) q t = absurd (true≢false (sym t))
      by Inside q t = absurd (true≢false (sym t))

  own_in : (r : List ℕ) → within kind.Role r ≡ true → is_identity (kd r) ≡ true → (e : ℕ) → e < j.size → in_role j r e e ≡ true
  own_in r w h e el = by (kd r) (known r w) h
    where
      by : (k : RoleFinding) → Known k (in_role j r) j.size → is_identity k ≡ true → in_role j r e e ≡ true
      by (Filled role.Identity) q t = q e e ∙ own_pair j.size e el
      by (Filled role.Empty) q t = absurd (true≢false (sym t))
      by (Filled role.Full) q t = absurd (true≢false (sym t))
      by Inside q t = absurd (true≢false (sym t))

  pairs_in : (r : List ℕ) → within kind.Role r ≡ true → is_outside_role (kd r) ≡ true → (e f : ℕ) → in_role j r e f ≡ pairs roles j.size e f
  pairs_in r w h e f = by (inside kind.Role r) refl h
    where
      by : (b : Bool) → inside kind.Role r ≡ b → is_outside_role (cond b Inside (Filled roles)) ≡ true → in_role j r e f ≡ pairs roles j.size e f
      by true q t = absurd (true≢false (sym t))
      by false q t = filled.role r w q e f

  out_of : (c : ClassExpr) → covers within (names_in c) ≡ true → is_empty (v c) ≡ true → (e : ℕ) → e < j.size → member j c e ≡ false
  out_of c w h e el = subst (λ d. Says d (member j c e)) (empty_from (v c) h) (sound classes roles inside within j filled c w e el)

  into : (c : ClassExpr) → covers within (names_in c) ≡ true → is_full (v c) ≡ true → (e : ℕ) → e < j.size → member j c e ≡ true
  into c w h e el = subst (λ d. Says d (member j c e)) (full_from (v c) h) (sound classes roles inside within j filled c w e el)

  chain_of : (r s t : List ℕ) → within kind.Role r ≡ true → within kind.Role s ≡ true → within kind.Role t ≡ true
      → (is_empty_role (kd r) || (is_empty_role (kd s) || (is_full_role (kd t) || (is_identity (kd r) && (is_identity (kd s) && is_identity (kd t)))))) ≡ true → SatisfiesChain j r s t
  chain_of r s t rw' sw tw h e f g one two =
      by_either _ _ h (λ q. absurd (true≢false (sym one ∙ none_in r rw' q e f)))
      (λ h. by_either _ _ h (λ q. absurd (true≢false (sym two ∙ none_in s sw q f g)))
      (λ h. by_either _ _ h (λ q. all_in t tw q e g (in_role_below j r e f one).0 (in_role_below j s f g two).1)
      (λ h. let hs = both _ _ h in let more = both _ _ hs.1 in
      let p : e ≡ f = equal_in r rw' hs.0 e f one in let q : f ≡ g = equal_in s sw more.0 f g two in
      subst (λ x. in_role j t e x ≡ true) (p ∙ q) (own_in t tw more.1 e (in_role_below j r e f one).0))))

  pub holds : (b : Body) → covers within (body_names b) ≡ true → local_by v kd b ≡ true → Satisfies j b
  unfolding Satisfies body_names local_by
  holds (body.Sub c d) w h = let ws = covers_append within _ _ w in λ e el there.
      by_either _ _ h (λ q. absurd (true≢false (sym there ∙ out_of c ws.0 q e el))) (λ q. into d ws.1 q e el)
  holds (body.Equiv c d) w h = let ws = covers_append within _ _ w in λ e el.
      by_either _ _ h (λ q. let qs = both _ _ q in out_of c ws.0 qs.0 e el ∙ sym (out_of d ws.1 qs.1 e el))
      (λ q. let qs = both _ _ q in into c ws.0 qs.0 e el ∙ sym (into d ws.1 qs.1 e el))
  holds (body.Disjoint c d) w h = let ws = covers_append within _ _ w in λ e el.
      by_either _ _ h (λ q. false_and _ _ (out_of c ws.0 q e el)) (λ q. and_false _ _ (out_of d ws.1 q e el))
  holds (body.SubRole r s) w h = let ws = roles_of w in λ e f there.
      by_either _ _ h (λ q. absurd (true≢false (sym there ∙ none_in r ws.0 q e f)))
      (λ h. by_either _ _ h (λ q. let l = in_role_below j r e f there in all_in s ws.1 q e f l.0 l.1)
      (λ q. let qs = both _ _ q in let same : e ≡ f = equal_in r ws.0 qs.0 e f there in
      subst (λ x. in_role j s e x ≡ true) same (own_in s ws.1 qs.1 e (in_role_below j r e f there).0)))
    where
      roles_of : covers within (two_roles r s) ≡ true → (within kind.Role r ≡ true) × (within kind.Role s ≡ true)
      roles_of w = let ws = covers_cons within _ _ w in let more = covers_cons within _ _ ws.1 in (ws.0, more.0)
  holds (body.Chain r s t) w h =
      let ws = covers_cons within _ _ w in let more = covers_cons within _ _ ws.1 in let last = covers_cons within _ _ more.1 in
      chain_of r s t ws.0 more.0 last.0 h
  holds (body.EquivRoles r s) w h = let ws = covers_cons within _ _ w in let more = covers_cons within _ _ ws.1 in let hs = both _ _ h in λ e f.
      pairs_in r ws.0 hs.0 e f ∙ sym (pairs_in s more.0 hs.1 e f)
  holds (body.DisjointRoles r s) w h = let ws = covers_cons within _ _ w in let more = covers_cons within _ _ ws.1 in λ e f.
      by_either _ _ h (λ q. false_and _ _ (none_in r ws.0 q e f)) (λ q. and_false _ _ (none_in s more.0 q e f))
  holds (body.Inverse r s) w h = let ws = covers_cons within _ _ w in let more = covers_cons within _ _ ws.1 in let hs = both _ _ h in λ e f.
      pairs_in r ws.0 hs.0 e f ∙ same_tests _ _ (turned roles j.size e f) (turned roles j.size f e) ∙ sym (pairs_in s more.0 hs.1 f e)
  holds (body.Transitive r) w h = let ws = covers_cons within _ _ w in λ e f g one two.
      pairs_in r ws.0 h e g ∙ joined roles j.size e f g (sym (pairs_in r ws.0 h e f) ∙ one) (sym (pairs_in r ws.0 h f g) ∙ two)
  holds (body.Reflexive r) w h = let ws = covers_cons within _ _ w in λ e el.
      by_either _ _ h (λ q. all_in r ws.0 q e e el el) (λ q. own_in r ws.0 q e el)
  holds (body.Symmetric r) w h = let ws = covers_cons within _ _ w in λ e f one.
      pairs_in r ws.0 h f e ∙ turned roles j.size e f (sym (pairs_in r ws.0 h e f) ∙ one)
  holds (body.Asymmetric r) w h = let ws = covers_cons within _ _ w in λ e f. false_and _ _ (none_in r ws.0 h e f)
  holds (body.Functional r) w h = let ws = covers_cons within _ _ w in λ e f g one two.
      by_either _ _ h (λ q. absurd (true≢false (sym one ∙ none_in r ws.0 q e f))) (λ q. sym (equal_in r ws.0 q e f one) ∙ equal_in r ws.0 q e g two)
  holds (body.InverseFunctional r) w h = let ws = covers_cons within _ _ w in λ e f g one two.
      by_either _ _ h (λ q. absurd (true≢false (sym one ∙ none_in r ws.0 q f e))) (λ q. equal_in r ws.0 q f e one ∙ sym (equal_in r ws.0 q g e two))
  holds (body.Domain r c) w h = let ws = covers_cons within _ _ w in λ e f there.
      by_either _ _ h (λ q. absurd (true≢false (sym there ∙ none_in r ws.0 q e f))) (λ q. into c ws.1 q e (in_role_below j r e f there).0)
  holds (body.Range r c) w h = let ws = covers_cons within _ _ w in λ e f there.
      by_either _ _ h (λ q. absurd (true≢false (sym there ∙ none_in r ws.0 q e f))) (λ q. into c ws.1 q f (in_role_below j r e f there).1)
  holds (body.ClassAssertion c a) w h = let ws = covers_cons within _ _ w in into c ws.1 h (individual j a) (individual_below j a some)
  holds (body.RoleAssertion r a b) w h = let ws = covers_cons within _ _ w in all_in r ws.0 h (individual j a) (individual j b) (individual_below j a some) (individual_below j b some)
  holds (body.Declaration name) w h = tt
  holds (body.Note subject property value) w h = tt
  holds (body.OntologyNote property value) w h = tt

-- the same of the table
pub local_sound : (classes : ClassFill) (roles : RoleFill) (inside within : Scope) (j : Interp) → IsFilled classes roles inside within j → 1 ≤ j.size
    → (b : Body) → covers within (body_names b) ≡ true → is_local classes roles inside b ≡ true → Satisfies j b
unfolding is_local
local_sound classes roles inside within j filled some b w h = holds classes roles inside within j filled some b w h
