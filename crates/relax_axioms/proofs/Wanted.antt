-- What definitions imply, as it is collected, is what is meant.
use Rattle.std.proofs.Common.{◌≡◌, ℕ, true, ◌&&◌, List, None, Some, Option, inl, inr, ◌⊎◌, ⊎_elim, refl, sym, ap, subst, ◌∙◌, true≢false}
use Rattle.std.specs.List.{list_all, list_any}
use Rattle.std.specs.Prelude.{Bool, Contains, filter}
use Rattle.std.proofs.Math.Bool.{and-true}
use Rattle.owl_axioms.proofs.Layers.{proper_of_and}
use Rattle.owl_axioms.proofs.Listed.{flat_in, in_flat}
use Rattle.owl_axioms.proofs.Making.{are_proper_operands-is}
use Rattle.owl_axioms.proofs.Members.{Contains-in, In, In-contains, In-from_map, In-map, passes}
use Rattle.owl_axioms.proofs.ProperAxioms.{are_proper_sides-none}
use Rattle.owl_axioms.proofs.Same.{same_axiom-true}
use Rattle.owl_axioms.specs.Proper.{AreProper, IsProper, are_proper_sides, in_order, is_proper, is_proper_body, is_proper_expr, is_proper_pair}
use Rattle.owl_axioms.specs.Text.{expr_text}
use Rattle.owl_axioms.specs.contracts.body.BodyEq.TheImpl.Laws as laws
use Rattle.owl_axioms.specs.declared.body.Axiom.{Axiom}
use Rattle.owl_axioms.specs.declared.body.Body.{Body}
use Rattle.owl_axioms.specs.declared.body.Body.TheVariants as body
use Rattle.owl_axioms.specs.declared.expr.ClassExpr.{ClassExpr}
use Rattle.owl_axioms.specs.declared.expr.ClassExpr.TheOpen.{ClassExpr-F}
use Rattle.owl_axioms.specs.declared.expr.ClassExpr.TheVariants as expr
use Rattle.owl_axioms.specs.declared.expr.ClassExpr.TheViews.{out-ClassExpr, roll-ClassExpr, roll-out-ClassExpr}
use Rattle.relax_axioms.specs.Relaxed.{Defines, IsImplied, IsRelaxed, below, plain}
use Rattle.relax_axioms.specs.Implied.{all_implied, defined_as, defined_layers, definition_in, implied_by, implied_in, is_class, is_relaxed, relaxed_layer, same_body, wanted_by}
use Rattle.relax_axioms.proofs.Lists.{any_in, both_true, from_any, from_filter, in_filter}
use Rattle.relax_axioms.proofs.Views.{out_and, out_class, out_some}

-- ---- equality of bodies

pub same_body-true : (b c : Body) → same_body b c ≡ true → b ≡ c
same_body-true b c h = ap (λ a. a.body) (same_axiom-true (plain b) (plain c) (and-true (same_body b c) ∙ h))

pub same_itself : (b c : Body) → b ≡ c → same_body b c ≡ true
same_itself b c is = subst (λ d. same_body b d ≡ true) is (laws.laws-law.refl b)

-- ---- operands that are taken

class_relaxed : (class : List ℕ) → is_relaxed (expr.Class class) ≡ true
unfolding is_relaxed
class_relaxed class = ap relaxed_layer (out_class class)

some_relaxed : (role class : List ℕ) → is_relaxed (expr.Some role (expr.Class class)) ≡ true
unfolding is_class is_relaxed
some_relaxed role class = ap relaxed_layer (out_some role (expr.Class class))

pub relaxed_is : (operand : ClassExpr) → IsRelaxed operand → is_relaxed operand ≡ true
relaxed_is operand (inl is) = subst (λ e. is_relaxed e ≡ true) (sym is.1) (class_relaxed is.0)
relaxed_is operand (inr is) = subst (λ e. is_relaxed e ≡ true) (sym is.2) (some_relaxed is.0 is.1)

a_class : (part : ClassExpr) → is_class part ≡ true → (class : List ℕ) × (part ≡ expr.Class class)
unfolding is_class
a_class (expr.Class class) is = (class, refl)
a_class other is = absurd (true≢false (sym is))

relaxed_by_layer : (layer : ClassExpr-F ClassExpr) → relaxed_layer layer ≡ true → IsRelaxed (roll-ClassExpr layer)
unfolding roll-ClassExpr denote.Hole.Carrier.roll
relaxed_by_layer (ClassExpr-F.Class class) is = inl (class, refl)
relaxed_by_layer (ClassExpr-F.Some role part) is = let c = a_class part is in inr (role, c.0, ap (expr.Some role) c.1)
relaxed_by_layer other is = absurd (true≢false (sym is))

pub is_relaxed-is : (operand : ClassExpr) → is_relaxed operand ≡ true → IsRelaxed operand
unfolding is_relaxed
is_relaxed-is operand is = subst IsRelaxed (roll-out-ClassExpr operand) (relaxed_by_layer (out-ClassExpr operand) is)

-- ---- definitions

abbrev DefinesPair : ClassExpr → ClassExpr → List ℕ → List ClassExpr → Type 0
DefinesPair one other class operands = ((one ≡ expr.Class class) × (other ≡ expr.And operands)) ⊎ ((one ≡ expr.And operands) × (other ≡ expr.Class class))

abbrev Definition : Type 0
Definition = List ℕ × List ClassExpr

same_definition : (d e : Definition) → Some d ≡ Some e → d ≡ e
same_definition d e is = cc

same_pair : (a c : List ℕ) (es fs : List ClassExpr) → (let d : Definition = (a, es) in let e : Definition = (c, fs) in Some d ≡ Some e) → (a ≡ c) × (es ≡ fs)
same_pair a c es fs is = let h = same_definition (a, es) (c, fs) is in (ap (λ (p : Definition). p.0) h, ap (λ (p : Definition). p.1) h)

pair_by_layers : (one other : ClassExpr-F ClassExpr) (class : List ℕ) (operands : List ClassExpr) → defined_layers one other ≡ Some (class, operands) → DefinesPair (roll-ClassExpr one) (roll-ClassExpr other) class operands
unfolding roll-ClassExpr denote.Hole.Carrier.roll
pair_by_layers (ClassExpr-F.Class a) (ClassExpr-F.And es) class operands is = let p = same_pair a class es operands is in inl (ap expr.Class p.0, ap expr.And p.1)
pair_by_layers (ClassExpr-F.And es) (ClassExpr-F.Class a) class operands is = let p = same_pair a class es operands is in inr (ap expr.And p.1, ap expr.Class p.0)
pair_by_layers one other class operands is = absurd (let h : None ≡ Some (class, operands) = is in cc)

defined_pair : (one other : ClassExpr) (class : List ℕ) (operands : List ClassExpr) → defined_as one other ≡ Some (class, operands) → DefinesPair one other class operands
unfolding defined_as
defined_pair one other class operands is =
    subst (λ e. DefinesPair e other class operands) (roll-out-ClassExpr one)
    (subst (λ e. DefinesPair (roll-ClassExpr (out-ClassExpr one)) e class operands) (roll-out-ClassExpr other) (pair_by_layers (out-ClassExpr one) (out-ClassExpr other) class operands is))

pub defines_is : (said : Body) (class : List ℕ) (operands : List ClassExpr) → definition_in said ≡ Some (class, operands) → Defines said class operands
unfolding definition_in
defines_is (body.Equiv one other) class operands is =
    ⊎_elim (λ p. inl (λ i. body.Equiv (p.0 i) (p.1 i))) (λ p. inr (λ i. body.Equiv (p.0 i) (p.1 i))) (defined_pair one other class operands is)
defines_is other class operands is = absurd (let h : None ≡ Some (class, operands) = is in cc)

first_way : (class : List ℕ) (operands : List ClassExpr) → definition_in (body.Equiv (expr.Class class) (expr.And operands)) ≡ Some (class, operands)
unfolding defined_as definition_in
first_way class operands = λ i. defined_layers (out_class class i) (out_and operands i)

second_way : (class : List ℕ) (operands : List ClassExpr) → definition_in (body.Equiv (expr.And operands) (expr.Class class)) ≡ Some (class, operands)
unfolding defined_as definition_in
second_way class operands = λ i. defined_layers (out_and operands i) (out_class class i)

pub is_defined : (said : Body) (class : List ℕ) (operands : List ClassExpr) → Defines said class operands → definition_in said ≡ Some (class, operands)
is_defined said class operands (inl is) = ap definition_in is ∙ first_way class operands
is_defined said class operands (inr is) = ap definition_in is ∙ second_way class operands

-- ---- what operands imply

record Implied (class : List ℕ) (operands : List ClassExpr) (b : Body) : Type 0 where
  operand : ClassExpr
  has : In operand operands
  fits : is_relaxed operand ≡ true
  is : below class operand ≡ b

implied_has : (class : List ℕ) (operands : List ClassExpr) (b : Body) → In b (implied_by class operands) → Implied class operands b
implied_has class operands b here =
    let found = In-from_map (below class) b (filter is_relaxed operands) here in
    let kept = from_filter is_relaxed found.0 operands found.1 in
    record { operand = found.0; has = kept.0; fits = kept.1; is = found.2 }

has_implied : (class : List ℕ) (operand : ClassExpr) (operands : List ClassExpr) → In operand operands → is_relaxed operand ≡ true → In (below class operand) (implied_by class operands)
has_implied class operand operands here fits = In-map (below class) operand (filter is_relaxed operands) (in_filter is_relaxed operand operands here fits)

-- ---- what axioms imply

-- an inclusion that axioms imply
pub record Found (axioms : List Axiom) (b : Body) : Type 0 where
  pub class : List ℕ
  pub operand : ClassExpr
  pub implied : IsImplied axioms class operand
  pub is : below class operand ≡ b

found_by : (axioms : List Axiom) (a : Axiom) (b : Body) (said : Option (List ℕ × List ClassExpr)) → In a axioms → definition_in a.body ≡ said → In b (implied_in said) → Found axioms b
found_by axioms a b None here is there = absurd there
found_by axioms a b (Some d) here is there =
    let one = implied_has d.0 d.1 b there in
    record {
      class = d.0;
      operand = one.operand;
      implied = record {
        definition = a;
        operands = d.1;
        stands = Contains-in a axioms here;
        defines = defines_is a.body d.0 d.1 is;
        has = Contains-in one.operand d.1 one.has;
        fits = is_relaxed-is one.operand one.fits;
      };
      is = one.is;
    }

-- some axiom implies it
abbrev pub is_wanted : List Axiom → Body → Bool
is_wanted axioms b = list_any (same_body b) (all_implied axioms)

pub wanted_found : (axioms : List Axiom) (b : Body) → is_wanted axioms b ≡ true → Found axioms b
unfolding wanted_by
wanted_found axioms b h =
    let k = from_any (same_body b) (all_implied axioms) h in
    let there : Contains (all_implied axioms) b = Contains-in b (all_implied axioms) (subst (λ c. In c (all_implied axioms)) (sym (same_body-true b k.0 k.2)) k.1) in
    flat_in (λ a. wanted_by a.body) b axioms there
    (λ a here said. found_by axioms a b (definition_in a.body) (In-contains a axioms here) refl (In-contains b (wanted_by a.body) said))

pub found_wanted : (axioms : List Axiom) (class : List ℕ) (operand : ClassExpr) → IsImplied axioms class operand → is_wanted axioms (below class operand) ≡ true
unfolding wanted_by
found_wanted axioms class operand one =
    let b = below class operand in
    let a = one.definition in
    let said : In b (wanted_by a.body) = subst (λ said. In b (implied_in said)) (sym (is_defined a.body class one.operands one.defines)) (has_implied class operand one.operands (In-contains operand one.operands one.has) (relaxed_is operand one.fits)) in
    let there : Contains (all_implied axioms) b = in_flat (λ a. wanted_by a.body) a b axioms one.stands (Contains-in b (wanted_by a.body) said) in
    any_in (same_body b) b (all_implied axioms) (In-contains b (all_implied axioms) there) (same_itself b b refl)

-- ---- what is implied is proper

pub operands_proper : (operands : List ClassExpr) → is_proper_expr (expr.And operands) ≡ true → list_all is_proper_expr operands ≡ true
operands_proper operands is = (both_true _ _ (sym (are_proper_operands-is operands) ∙ sym (proper_of_and operands) ∙ is)).1

pub pair_proper : (c d : ClassExpr) → is_proper_body (body.Equiv c d) ≡ true → (is_proper_expr c ≡ true) × (is_proper_expr d ≡ true)
unfolding is_proper_body is_proper_pair
pair_proper c d is = both_true (is_proper_expr c) (is_proper_expr d) (both_true (is_proper_expr c && is_proper_expr d) (in_order (expr_text c) (expr_text d)) is).0

definition_proper : (said : Body) (class : List ℕ) (operands : List ClassExpr) → Defines said class operands → is_proper_body said ≡ true → (is_proper_expr (expr.Class class) ≡ true) × (is_proper_expr (expr.And operands) ≡ true)
definition_proper said class operands (inl is) proper = pair_proper (expr.Class class) (expr.And operands) (sym (ap is_proper_body is) ∙ proper)
definition_proper said class operands (inr is) proper = let p = pair_proper (expr.And operands) (expr.Class class) (sym (ap is_proper_body is) ∙ proper) in (p.1, p.0)

pub below_proper : (class : List ℕ) (operand : ClassExpr) → is_proper_expr (expr.Class class) ≡ true → is_proper_expr operand ≡ true → IsProper (plain (below class operand))
unfolding is_proper is_proper_body
below_proper class operand one other = λ i. (one i && other i) && are_proper_sides-none i

pub body_proper : (a : Axiom) → is_proper a ≡ true → is_proper_body a.body ≡ true
unfolding is_proper
body_proper a is = (both_true (is_proper_body a.body) (are_proper_sides a.sides) is).0

pub found_proper : (axioms : List Axiom) (b : Body) → AreProper axioms → Found axioms b → IsProper (plain b)
found_proper axioms b all one =
    let d = one.implied in
    let said = body_proper d.definition (passes is_proper d.definition axioms all (In-contains d.definition axioms d.stands)) in
    let parts = definition_proper d.definition.body one.class d.operands d.defines said in
    subst (λ c. IsProper (plain c)) one.is
    (below_proper one.class one.operand parts.0 (passes is_proper_expr one.operand d.operands (operands_proper d.operands parts.1) (In-contains one.operand d.operands d.has)))
