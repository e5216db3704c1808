-- The rows of the table of verdicts, one constructor each, and the worked tables.
use Rattle.std.proofs.Common.{◌≡◌, ℕ, ◌&&◌, ◌||◌, List, [], ◌∷◌, refl, sym, ap, ◌∙◌}
use Rattle.owl_axioms.specs.Names.{listed}
use Rattle.owl_axioms.specs.declared.expr.ClassExpr.{ClassExpr}
use Rattle.owl_axioms.specs.declared.expr.ClassExpr.TheFolds.{fold-roll-ClassExpr, map-ClassExpr}
use Rattle.owl_axioms.specs.declared.expr.ClassExpr.TheOpen.{ClassExpr-F}
use Rattle.owl_axioms.specs.declared.expr.ClassExpr.TheVariants as expr
use Rattle.owl_axioms.specs.declared.expr.ClassExpr.TheViews.{roll-ClassExpr}
use Rattle.locality_tables.specs.Examples.{A, B, LocalTable, VerdictTable, far_class, inside, near_class, q, r}
use Rattle.locality_tables.specs.Local.{is_local, local_by}
use Rattle.locality_tables.specs.Verdict.{all_finding, and_finding, class_finding, exact_finding, exchanged, is_empty, is_empty_role, is_full, max_finding, min_finding, or_finding, role_finding, some_finding, verdict, verdict_step}
use Rattle.locality_tables.specs.declared.fills.ClassFill.{ClassFill}
use Rattle.locality_tables.specs.declared.fills.ClassFill.TheVariants as class
use Rattle.locality_tables.specs.declared.fills.RoleFill.{RoleFill}
use Rattle.locality_tables.specs.declared.fills.RoleFill.TheVariants as role
use Rattle.locality_tables.specs.declared.finding.Finding.{Finding}
use Rattle.locality_tables.specs.declared.finding.Finding.TheVariants.{Empty, Full, Unknown}

module _ (classes : ClassFill) (roles : RoleFill) where
  abbrev v : ClassExpr → Finding
  v = verdict classes roles inside

  layer : (c : ClassExpr) (x : ClassExpr-F ClassExpr) → roll-ClassExpr x ≡ c → v c ≡ verdict_step classes roles inside (map-ClassExpr _ _ v x)
  unfolding verdict
  layer c x h = ap v (sym h) ∙ fold-roll-ClassExpr Finding (verdict_step classes roles inside) x

  thing : v expr.Thing ≡ Full
  thing = layer expr.Thing ClassExpr-F.Thing expr.rolls-Thing

  nothing : v expr.Nothing ≡ Empty
  nothing = layer expr.Nothing ClassExpr-F.Nothing expr.rolls-Nothing

  near : v A ≡ Unknown
  unfolding listed
  near = layer A (ClassExpr-F.Class near_class) (expr.rolls-Class near_class)

  far : v B ≡ class_finding classes
  unfolding listed
  far = layer B (ClassExpr-F.Class far_class) (expr.rolls-Class far_class)

  and_two : (c d : ClassExpr) (x y : Finding) → v c ≡ x → v d ≡ y → v (expr.And (c ∷ d ∷ [])) ≡ and_finding (x ∷ y ∷ [])
  and_two c d x y g h = layer (expr.And (c ∷ d ∷ [])) (ClassExpr-F.And (c ∷ d ∷ [])) (expr.rolls-And (c ∷ d ∷ [])) ∙ (λ k. and_finding (g k ∷ h k ∷ []))

  or_two : (c d : ClassExpr) (x y : Finding) → v c ≡ x → v d ≡ y → v (expr.Or (c ∷ d ∷ [])) ≡ or_finding (x ∷ y ∷ [])
  or_two c d x y g h = layer (expr.Or (c ∷ d ∷ [])) (ClassExpr-F.Or (c ∷ d ∷ [])) (expr.rolls-Or (c ∷ d ∷ [])) ∙ (λ k. or_finding (g k ∷ h k ∷ []))

  outside : (c : ClassExpr) (x : Finding) → v c ≡ x → v (expr.Not c) ≡ exchanged x
  outside c x h = layer (expr.Not c) (ClassExpr-F.Not c) (expr.rolls-Not c) ∙ ap exchanged h

  module _ (p : List ℕ) (c : ClassExpr) (x : Finding) (h : v c ≡ x) where
    some : v (expr.Some p c) ≡ some_finding (role_finding roles inside p) x
    some = layer (expr.Some p c) (ClassExpr-F.Some p c) (expr.rolls-Some p c) ∙ ap (some_finding (role_finding roles inside p)) h

    all : v (expr.All p c) ≡ all_finding (role_finding roles inside p) x
    all = layer (expr.All p c) (ClassExpr-F.All p c) (expr.rolls-All p c) ∙ ap (all_finding (role_finding roles inside p)) h

    min : (n : ℕ) → v (expr.Min n p c) ≡ min_finding n (role_finding roles inside p) x
    min n = layer (expr.Min n p c) (ClassExpr-F.Min n p c) (expr.rolls-Min n p c) ∙ ap (min_finding n (role_finding roles inside p)) h

    max : (n : ℕ) → v (expr.Max n p c) ≡ max_finding n (role_finding roles inside p) x
    max n = layer (expr.Max n p c) (ClassExpr-F.Max n p c) (expr.rolls-Max n p c) ∙ ap (max_finding n (role_finding roles inside p)) h

    exact : (n : ℕ) → v (expr.Exact n p c) ≡ exact_finding n (role_finding roles inside p) x
    exact n = layer (expr.Exact n p c) (ClassExpr-F.Exact n p c) (expr.rolls-Exact n p c) ∙ ap (exact_finding n (role_finding roles inside p)) h

-- the three kinds
botA : verdict class.Empty role.Empty inside A ≡ Unknown
botA = near class.Empty role.Empty

botB : verdict class.Empty role.Empty inside B ≡ Empty
botB = far class.Empty role.Empty

topA : verdict class.Full role.Full inside A ≡ Unknown
topA = near class.Full role.Full

topB : verdict class.Full role.Full inside B ≡ Full
topB = far class.Full role.Full

idA : verdict class.Empty role.Identity inside A ≡ Unknown
idA = near class.Empty role.Identity

idB : verdict class.Empty role.Identity inside B ≡ Empty
idB = far class.Empty role.Identity

idThing : verdict class.Empty role.Identity inside expr.Thing ≡ Full
idThing = thing class.Empty role.Identity

pub verdict_table : VerdictTable
unfolding listed
verdict_table =
    let e = class.Empty in let o = role.Empty in let f = class.Full in let g = role.Full in let d = role.Identity in
    record {
      thing = (thing e o, thing f g);
      nothing = (nothing e o, nothing f g);
      class = (botA, botB, topA, topB);
      and = (and_two e o A B Unknown Empty botA botB, and_two f g A B Unknown Full topA topB, and_two f g B expr.Thing Full Full topB (thing f g));
      or = (or_two e o A B Unknown Empty botA botB, or_two f g A B Unknown Full topA topB, or_two e o B expr.Nothing Empty Empty botB (nothing e o));
      not = (outside e o B Empty botB, outside f g B Full topB, outside e o A Unknown botA);
      some_out = (some e o q A Unknown botA, some f g q A Unknown topA, some f g q B Full topB, some e d q A Unknown idA, some e d q expr.Thing Full idThing);
      some_in = (some e o r A Unknown botA, some e o r B Empty botB, some f g r B Full topB, some e d r expr.Thing Full idThing);
      all_out = (all e o q A Unknown botA, all f g q A Unknown topA, all f g q expr.Nothing Empty (nothing f g), all e d q B Empty idB);
      all_in = (all e o r A Unknown botA, all e o r B Empty botB, all f g r B Full topB, all e d r B Empty idB);
      min_none = (min e o r A Unknown botA 0, min f g r A Unknown topA 0);
      min_one = (min e o q A Unknown botA 1, min f g q B Full topB 1, min e d q B Empty idB 1);
      min_two = (min e o r B Empty botB 2, min f g q B Full topB 2, min e d q A Unknown idA 2);
      max_none = (max e o q A Unknown botA 0, max f g q B Full topB 0, max f g q A Unknown topA 0);
      max_one = (max e o q A Unknown botA 1, max e o r B Empty botB 1, max f g q B Full topB 1, max e d q A Unknown idA 1);
      exact_none = (exact e o q A Unknown botA 0, exact f g q B Full topB 0);
      exact_one = (exact e o r B Empty botB 1, exact f g q B Full topB 1, exact e d q B Empty idB 1, exact e d q expr.Thing Full idThing 1);
      min_one_more = min e d q expr.Thing Full idThing 1;
      min_more = (min e o q A Unknown botA 2, min e o q A Unknown botA 3, min e o r B Empty botB 3, min e d q A Unknown idA 3, min f g q B Full topB 3);
      max_none_more = (max e o r B Empty botB 0, max e d q expr.Thing Full idThing 0);
      max_more = (max e o q A Unknown botA 2, max e o r B Empty botB 2, max e d q A Unknown idA 2, max f g q B Full topB 2);
      exact_none_more = (exact e o r B Empty botB 0, exact e d q expr.Thing Full idThing 0);
      exact_one_more = exact e o q A Unknown botA 1;
      exact_more = (exact e o r B Empty botB 2, exact e o q A Unknown botA 3, exact e o r B Empty botB 3, exact e d q A Unknown idA 3, exact f g q B Full topB 3);
      exact_two = (exact e o q A Unknown botA 2, exact f g q B Full topB 2, exact e d q A Unknown idA 2);
    }

pub local_table : LocalTable
unfolding is_local local_by listed
local_table = record {
  sub = (λ k. is_empty (botB k) || is_full (botA k), λ k. is_empty (botA k) || is_full (botB k), λ k. is_empty (topA k) || is_full (topB k), λ k. is_empty (topB k) || is_full (topA k));
  equiv = (
    λ k. (is_empty (botB k) && is_empty (botB k)) || (is_full (botB k) && is_full (botB k)),
    λ k. (is_empty (botA k) && is_empty (botB k)) || (is_full (botA k) && is_full (botB k)),
    λ k. (is_empty (topB k) && is_empty (topB k)) || (is_full (topB k) && is_full (topB k)),
    λ k. (is_empty (topA k) && is_empty (topA k)) || (is_full (topA k) && is_full (topA k)),
  );
  disjoint = (λ k. is_empty (botA k) || is_empty (botA k), λ k. is_empty (botB k) || is_empty (botB k), λ k. is_empty (botA k) || is_empty (botB k), λ k. is_empty (topB k) || is_empty (topB k));
  sub_role = (refl, refl, refl, refl);
  sub_role_id = (refl, refl);
  chain = (refl, refl, refl, refl);
  chain_id = (refl, refl);
  equiv_roles = (refl, refl, refl);
  disjoint_roles = (refl, refl, refl);
  inverse = (refl, refl, refl);
  transitive = (refl, refl, refl);
  reflexive = (refl, refl, refl, refl);
  symmetric = (refl, refl, refl);
  asymmetric = (refl, refl, refl, refl);
  functional = (refl, refl, refl, refl);
  inverse_functional = (refl, refl, refl, refl);
  domain = (
    λ k. is_empty_role (role_finding role.Empty inside q) || is_full (botA k),
    λ k. is_empty_role (role_finding role.Empty inside r) || is_full (botA k),
    λ k. is_empty_role (role_finding role.Full inside r) || is_full (topB k),
    λ k. is_empty_role (role_finding role.Full inside q) || is_full (topA k),
  );
  range = (
    λ k. is_empty_role (role_finding role.Empty inside q) || is_full (botA k),
    λ k. is_empty_role (role_finding role.Empty inside r) || is_full (botA k),
    λ k. is_empty_role (role_finding role.Full inside r) || is_full (topB k),
    λ k. is_empty_role (role_finding role.Full inside q) || is_full (topA k),
  );
  class_assertion = (λ k. is_full (topB k), λ k. is_full (botB k), λ k. is_full (topA k));
  role_assertion = (refl, refl, refl);
  first_parts = (λ k. is_empty (botB k) || is_empty (botA k), refl, refl);
  identities = (refl, refl, refl, refl);
}
