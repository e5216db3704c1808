-- The uses of the rules of inference in an EL part, over the expressions that occur, as a plain list: for each rule one
-- line. (The rules are those of the relation that derives facts; own.)
use Rattle.std.specs.Prelude.{ℕ, List, [], ◌∷◌, ◌++◌, flat_map, map}
use Rattle.owl_axioms.specs.declared.body.Body.{Body}
use Rattle.owl_axioms.specs.declared.body.Body.TheVariants as body
use Rattle.owl_axioms.specs.declared.expr.ClassExpr.{ClassExpr}
use Rattle.owl_axioms.specs.declared.expr.ClassExpr.TheOpen.{ClassExpr-F}
use Rattle.owl_axioms.specs.declared.expr.ClassExpr.TheVariants as expr
use Rattle.owl_axioms.specs.declared.expr.ClassExpr.TheViews.{out-ClassExpr}
use Rattle.el_rules.specs.Rules.{ElFact, ElView, HasLink, IsBelow, is_below}

-- one use of a rule: the facts that it needs, and the one that it concludes
pub record Use : Type 0 where
  pub premises : List ElFact
  pub conclusion : ElFact

abbrev pub use_of : List ElFact → ElFact → Use
use_of premises conclusion = record { premises = premises; conclusion = conclusion }

-- ---- expressions and axioms by their forms

-- the operands of an intersection
abbrev pub layer_operands : ClassExpr-F ClassExpr → List (List ClassExpr)
layer_operands (ClassExpr-F.And operands) = operands ∷ []
layer_operands other = []

unfoldable pub operands_in : ClassExpr → List (List ClassExpr)
operands_in c = layer_operands (out-ClassExpr c)

-- the role and the filler of a restriction
abbrev pub layer_restriction : ClassExpr-F ClassExpr → List (List ℕ × ClassExpr)
layer_restriction (ClassExpr-F.Some role filler) = (role, filler) ∷ []
layer_restriction other = []

unfoldable pub restriction_in : ClassExpr → List (List ℕ × ClassExpr)
restriction_in c = layer_restriction (out-ClassExpr c)

-- what an axiom of each kind says
unfoldable pub inclusion_in : Body → List (ClassExpr × ClassExpr)
inclusion_in (body.Sub c d) = (c, d) ∷ []
inclusion_in other = []

unfoldable pub disjoint_in : Body → List (ClassExpr × ClassExpr)
disjoint_in (body.Disjoint c d) = (c, d) ∷ []
disjoint_in other = []

unfoldable pub role_inclusion_in : Body → List (List ℕ × List ℕ)
role_inclusion_in (body.SubRole r s) = (r, s) ∷ []
role_inclusion_in other = []

unfoldable pub chain_in : Body → List (List ℕ × List ℕ × List ℕ)
chain_in (body.Chain r s t) = (r, s, t) ∷ []
chain_in other = []

unfoldable pub domain_in : Body → List (List ℕ × ClassExpr)
domain_in (body.Domain r c) = (r, c) ∷ []
domain_in other = []

-- those that occur, and those of the part
abbrev pub intersections : ElView → List (List ClassExpr)
intersections view = flat_map operands_in view.occurring

abbrev pub restrictions : ElView → List (List ℕ × ClassExpr)
restrictions view = flat_map restriction_in view.occurring

abbrev pub inclusions : ElView → List (ClassExpr × ClassExpr)
inclusions view = flat_map inclusion_in view.axioms

abbrev pub disjoints : ElView → List (ClassExpr × ClassExpr)
disjoints view = flat_map disjoint_in view.axioms

abbrev pub role_inclusions : ElView → List (List ℕ × List ℕ)
role_inclusions view = flat_map role_inclusion_in view.axioms

abbrev pub chains : ElView → List (List ℕ × List ℕ × List ℕ)
chains view = flat_map chain_in view.axioms

abbrev pub domains : ElView → List (List ℕ × ClassExpr)
domains view = flat_map domain_in view.axioms

-- the roles that a link can have: those of restrictions, and those that other roles lead to
unfoldable pub link_roles : ElView → List (List ℕ)
link_roles view = map (λ x. x.0) (restrictions view) ++ (map (λ x. x.1) (role_inclusions view) ++ map (λ x. x.2) (chains view))

-- ---- the rules

-- uses for each expression that occurs
abbrev pub for_each : ElView → (ClassExpr → List Use) → List Use
for_each view uses = flat_map uses view.occurring

-- C below C
abbrev pub itself_uses : ElView → List Use
itself_uses view = map (λ c. use_of [] (IsBelow c c)) view.occurring

-- C below Thing
abbrev pub in_thing_uses : ElView → List Use
in_thing_uses view = map (λ c. use_of [] (IsBelow c expr.Thing)) view.occurring

-- C below an And: C below each operand
abbrev pub to_operand_uses : ElView → List Use
to_operand_uses view = for_each view (λ c. flat_map (λ es. map (λ d. use_of (IsBelow c (expr.And es) ∷ []) (IsBelow c d)) es) (intersections view))

-- C below each operand of an And: C below that And
abbrev pub to_and_uses : ElView → List Use
to_and_uses view = for_each view (λ c. map (λ es. use_of (map (is_below c) es) (IsBelow c (expr.And es))) (intersections view))

-- C below D and Sub(D, E): C below E
abbrev pub by_inclusion_uses : ElView → List Use
by_inclusion_uses view = for_each view (λ c. map (λ x. use_of (IsBelow c x.0 ∷ []) (IsBelow c x.1)) (inclusions view))

-- C below D, C below E and Disjoint(D, E): C below Nothing
abbrev pub by_disjoint_uses : ElView → List Use
by_disjoint_uses view = for_each view (λ c. map (λ x. use_of (IsBelow c x.0 ∷ IsBelow c x.1 ∷ []) (IsBelow c expr.Nothing)) (disjoints view))

-- C below Some(r, D): C has an r-link to D
abbrev pub to_link_uses : ElView → List Use
to_link_uses view = for_each view (λ c. map (λ x. use_of (IsBelow c (expr.Some x.0 x.1) ∷ []) (HasLink c x.0 x.1)) (restrictions view))

-- C has an r-link to D and SubRole(r, s): C has an s-link to D
abbrev pub by_role_uses : ElView → List Use
by_role_uses view = for_each view (λ c. for_each view (λ d. map (λ x. use_of (HasLink c x.0 d ∷ []) (HasLink c x.1 d)) (role_inclusions view)))

-- C has an r-link to D, D has an s-link to E and Chain(r, s, t): C has a t-link to E
abbrev pub by_chain_uses : ElView → List Use
by_chain_uses view =
    for_each view (λ c. for_each view (λ d. for_each view (λ e. map (λ x. use_of (HasLink c x.0 d ∷ HasLink d x.1 e ∷ []) (HasLink c x.2 e)) (chains view))))

-- C has an r-link to D, D below E, and Some(r, E) occurs: C below Some(r, E)
abbrev pub from_link_uses : ElView → List Use
from_link_uses view =
    for_each view (λ c. for_each view (λ d. map (λ x. use_of (HasLink c x.0 d ∷ IsBelow d x.1 ∷ []) (IsBelow c (expr.Some x.0 x.1))) (restrictions view)))

-- C has an r-link to D and Domain(r, E): C below E
abbrev pub by_domain_uses : ElView → List Use
by_domain_uses view = for_each view (λ c. for_each view (λ d. map (λ x. use_of (HasLink c x.0 d ∷ []) (IsBelow c x.1)) (domains view)))

-- C has an r-link to D and D below Nothing: C below Nothing
abbrev pub to_nothing_uses : ElView → List Use
to_nothing_uses view =
    for_each view (λ c. for_each view (λ d. map (λ r. use_of (HasLink c r d ∷ IsBelow d expr.Nothing ∷ []) (IsBelow c expr.Nothing)) (link_roles view)))

-- all rules
abbrev pub all_rules : List (ElView → List Use)
all_rules =
    itself_uses ∷ in_thing_uses ∷ to_operand_uses ∷ to_and_uses ∷ by_inclusion_uses ∷ by_disjoint_uses ∷ to_link_uses ∷ by_role_uses ∷ by_chain_uses ∷ from_link_uses ∷ by_domain_uses ∷ to_nothing_uses ∷ []

-- all uses of them
unfoldable pub uses_of : ElView → List Use
uses_of view = flat_map (λ rule. rule view) all_rules
