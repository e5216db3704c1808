-- The facts that are derived in an EL part as a plain function: going over the uses of all rules as often as there are uses.
-- (Own.)
use Rattle.std.specs.Prelude.{ℕ, zero, suc, Bool, false, not, ◌&&◌, List, [], ◌∷◌, filter, length, map}
use Rattle.std.specs.List.{list_all, list_any}
use Rattle.std.specs.Str.{bytes_eq}
use Rattle.owl_axioms.specs.contracts.expr.ClassExprPartialEq.TheImpl as expr_eq
use Rattle.owl_axioms.specs.declared.expr.ClassExpr.{ClassExpr}
use Rattle.el_rules.specs.Rules.{ElFact, ElView, HasLink, IsBelow}
use Rattle.plain_reasoning.specs.Uses.{Use, uses_of}

-- whether two expressions are one, as `==` tells it
abbrev pub same_expr : ClassExpr → ClassExpr → Bool
same_expr = expr_eq.ghosts.eq

-- whether two facts are one
unfoldable pub same_fact : ElFact → ElFact → Bool
same_fact (IsBelow c d) (IsBelow e f) = same_expr c e && same_expr d f
same_fact (IsBelow c d) (HasLink e s f) = false
same_fact (HasLink c r d) (IsBelow e f) = false
same_fact (HasLink c r d) (HasLink e s f) = same_expr c e && (bytes_eq r s && same_expr d f)

-- whether a fact is among those that are known
abbrev pub knows : List ElFact → ElFact → Bool
knows known fact = list_any (same_fact fact) known

-- whether all premises of a use are known
abbrev pub is_usable : List ElFact → Use → Bool
is_usable known one = list_all (knows known) one.premises

-- each fact once, in the place where it comes first
unfoldable pub each_once : List ElFact → List ElFact
each_once [] = []
each_once (fact ∷ facts) = fact ∷ filter (λ other. not (same_fact fact other)) (each_once facts)

-- what the uses conclude whose premises are known
unfoldable pub concluded : ElView → List ElFact → List ElFact
concluded view known = each_once (map (λ one. one.conclusion) (filter (is_usable known) (uses_of view)))

-- what is known after going over the uses so often
unfoldable pub known_after : ElView → ℕ → List ElFact
known_after view zero = []
known_after view (suc n) = concluded view (known_after view n)

-- what is known in the end. As often as there are uses is enough: each time makes a use more possible, or changes nothing
unfoldable pub facts_of : ElView → List ElFact
facts_of view = known_after view (length (uses_of view))
