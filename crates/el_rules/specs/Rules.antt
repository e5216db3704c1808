-- The rules of inference in an EL part, and what they derive. (After Baader, Brandt and Lutz 2005, 'Pushing the EL
-- Envelope', with links by roles; the rules are own.)
use Rattle.std.specs.Prelude.{ℕ, ◌≡◌, ◌↔◌, List, [], ◌∷◌, map}
use Rattle.fact_rows.specs.Member.{In}
use Rattle.owl_axioms.specs.declared.body.Axiom.{Axiom}
use Rattle.owl_axioms.specs.declared.body.Body.{Body}
use Rattle.owl_axioms.specs.declared.body.Body.TheVariants as body
use Rattle.owl_axioms.specs.declared.expr.ClassExpr.{ClassExpr}
use Rattle.owl_axioms.specs.declared.expr.ClassExpr.TheVariants as expr
use Rattle.el_rules.specs.ElPart.{el_axioms}
use Rattle.el_rules.specs.Occurs.{Occurs}

-- an EL part as the rules see it: its axioms, and the expressions that occur
pub record ElView : Type 0 where
  pub axioms : List Body
  pub occurring : List ClassExpr

-- it is that of axioms
pub record IsElPartOf (axioms : List Axiom) (view : ElView) : Type 0 where
  pub axioms_are : view.axioms ≡ el_axioms axioms
  pub occurring_are : (c : ClassExpr) → In c view.occurring ↔ Occurs axioms c

-- a fact: C is below D, or C has an r-link to D
pub data ElFact : Type 0 where
  IsBelow : ClassExpr → ClassExpr → ElFact
  HasLink : ClassExpr → List ℕ → ClassExpr → ElFact

-- that c is below d
abbrev pub is_below : ClassExpr → ClassExpr → ElFact
is_below c d = IsBelow c d

-- the premises and the conclusion of one use of a rule
pub data Rule (part : ElView) : List ElFact → ElFact → Type 0 where
  -- C below C
  itself : {c : ClassExpr} → In c part.occurring → Rule part [] (IsBelow c c)
  -- C below Thing
  in_thing : {c : ClassExpr} → In c part.occurring → Rule part [] (IsBelow c expr.Thing)
  -- C below an And: C below each operand
  to_operand : {c d : ClassExpr} (operands : List ClassExpr) → In d operands → Rule part (IsBelow c (expr.And operands) ∷ []) (IsBelow c d)
  -- C below each operand of an And that occurs: C below that And
  to_and : {c : ClassExpr} (operands : List ClassExpr) → In c part.occurring → In (expr.And operands) part.occurring → Rule part (map (is_below c) operands) (IsBelow c (expr.And operands))
  -- C below D and Sub(D, E): C below E
  by_inclusion : {c d e : ClassExpr} → In (body.Sub d e) part.axioms → Rule part (IsBelow c d ∷ []) (IsBelow c e)
  -- C below D, C below E and Disjoint(D, E): C below Nothing
  by_disjoint : {c d e : ClassExpr} → In (body.Disjoint d e) part.axioms → Rule part (IsBelow c d ∷ IsBelow c e ∷ []) (IsBelow c expr.Nothing)
  -- C below Some(r, D): C has an r-link to D
  to_link : {c d : ClassExpr} {r : List ℕ} → Rule part (IsBelow c (expr.Some r d) ∷ []) (HasLink c r d)
  -- C has an r-link to D and SubRole(r, s): C has an s-link to D
  by_role : {c d : ClassExpr} {r s : List ℕ} → In (body.SubRole r s) part.axioms → Rule part (HasLink c r d ∷ []) (HasLink c s d)
  -- C has an r-link to D, D has an s-link to E and Chain(r, s, t): C has a t-link to E
  by_chain : {c d e : ClassExpr} {r s t : List ℕ} → In (body.Chain r s t) part.axioms → Rule part (HasLink c r d ∷ HasLink d s e ∷ []) (HasLink c t e)
  -- C has an r-link to D, D below E, and Some(r, E) occurs: C below Some(r, E)
  from_link : {c d e : ClassExpr} {r : List ℕ} → In (expr.Some r e) part.occurring → Rule part (HasLink c r d ∷ IsBelow d e ∷ []) (IsBelow c (expr.Some r e))
  -- C has an r-link to D and Domain(r, E): C below E
  by_domain : {c d e : ClassExpr} {r : List ℕ} → In (body.Domain r e) part.axioms → Rule part (HasLink c r d ∷ []) (IsBelow c e)
  -- C has an r-link to D and D below Nothing: C below Nothing
  to_nothing : {c d : ClassExpr} {r : List ℕ} → Rule part (HasLink c r d ∷ IsBelow d expr.Nothing ∷ []) (IsBelow c expr.Nothing)

-- a fact is derived where a finite tree of rules ends in it
pub data Derived (part : ElView) : ElFact → Type 0 where
  step : {premises : List ElFact} {conclusion : ElFact} → Rule part premises conclusion → ((p : ElFact) → In p premises → Derived part p) → Derived part conclusion
