-- What the rules amount to. (Own; satisfaction: OWL 2 Direct Semantics, on finite domains.)
use Rattle.std.specs.Prelude.{◌≡◌, ◌↔◌, true, List}
use Rattle.fact_rows.specs.Member.{In}
use Rattle.owl_axioms.specs.declared.body.Axiom.{Axiom}
use Rattle.owl_axioms.specs.declared.body.Body.{Body}
use Rattle.owl_axioms.specs.declared.body.Body.TheVariants as body
use Rattle.owl_axioms.specs.declared.expr.ClassExpr.TheVariants as expr
use Rattle.owl_sem.specs.Interp.{Interp}
use Rattle.owl_sem.specs.Models.{IsModel, Satisfies}
use Rattle.el_rules.specs.ElPart.{el_bodies, is_used, used_of}
use Rattle.el_rules.specs.Rules.{Derived, ElFact, ElView, HasLink, IsBelow, IsElPartOf}

-- what the EL part has of an axiom says the same as the axiom
abbrev pub ElBodiesSayTheSame : Type 0
ElBodiesSayTheSame = (i : Interp) (a : Axiom) → is_used a ≡ true → Satisfies i a.body ↔ ((b : Body) → In b (el_bodies a.body) → Satisfies i b)

-- what a fact says: an inclusion, for a link one in the restriction
unfoldable pub said_by : ElFact → Body
said_by (IsBelow c d) = body.Sub c d
said_by (HasLink c r d) = body.Sub c (expr.Some r d)

-- each derived fact is satisfied in each finite model of the EL part
abbrev pub DerivedIsTrue : Type 0
DerivedIsTrue = (axioms : List Axiom) (view : ElView) → IsElPartOf axioms view → (i : Interp) → IsModel i (used_of axioms) → (fact : ElFact) → Derived view fact → Satisfies i (said_by fact)

-- the expressions of a derived fact occur
unfoldable pub HasExprsIn : ElView → ElFact → Type 0
HasExprsIn view (IsBelow c d) = In c view.occurring × In d view.occurring
HasExprsIn view (HasLink c r d) = In c view.occurring × In d view.occurring

abbrev pub DerivedOccurs : Type 0
DerivedOccurs = (axioms : List Axiom) (view : ElView) → IsElPartOf axioms view → (fact : ElFact) → Derived view fact → HasExprsIn view fact
