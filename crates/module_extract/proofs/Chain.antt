-- The bound of tests at a small part.
use Rattle.std.proofs.Common.{◌≡◌, ℕ, ◌+◌, List, [], ◌∷◌, ◌++◌, refl, sym, ap, ◌∙◌}
use Rattle.std.specs.Prelude.{codes}
use Rattle.owl_axioms.proofs.Listed.{names_layer}
use Rattle.owl_axioms.specs.Names.{body_names, name_of, names_in, names_step}
use Rattle.owl_axioms.specs.Signature.{added, name_count, no_names}
use Rattle.owl_axioms.specs.declared.expr.ClassExpr.{ClassExpr}
use Rattle.owl_axioms.specs.declared.expr.ClassExpr.TheOpen.{ClassExpr-F}
use Rattle.owl_axioms.specs.declared.expr.ClassExpr.TheVariants as expr
use Rattle.owl_axioms.specs.declared.name.Kind.TheVariants as kind
use Rattle.owl_axioms.specs.declared.name.Name.{Name}
use Rattle.owl_sem.specs.Models.{is_logical}
use Rattle.module_extract.specs.Examples.{ChainBound, chain, defined, every}
use Rattle.module_extract.specs.Tests.{logical_part, names_number, total}

class_names : (a : List ℕ) → names_in (expr.Class a) ≡ name_of kind.Class a ∷ []
unfolding names_step
class_names a = ap names_in (sym (expr.rolls-Class a)) ∙ names_layer (ClassExpr-F.Class a)

some_names : (r : List ℕ) (c : ClassExpr) → names_in (expr.Some r c) ≡ name_of kind.Role r ∷ names_in c
unfolding names_step
some_names r c = ap names_in (sym (expr.rolls-Some r c)) ∙ names_layer (ClassExpr-F.Some r c)

and_names : (c d : ClassExpr) → names_in (expr.And (c ∷ d ∷ [])) ≡ names_in c ++ (names_in d ++ [])
unfolding names_step
and_names c d = ap names_in (sym (expr.rolls-And (c ∷ d ∷ []))) ∙ names_layer (ClassExpr-F.And (c ∷ d ∷ []))

number_of : List Name → List Name → ℕ
number_of xs ys = name_count (added no_names (xs ++ ys))

defined_names : names_in defined ≡ name_of kind.Class (codes "5") ∷ name_of kind.Role (codes "r") ∷ name_of kind.Class (codes "6") ∷ []
defined_names = and_names (expr.Class (codes "5")) (expr.Some (codes "r") (expr.Class (codes "6"))) ∙ (λ i. class_names (codes "5") i ++ ((some_names (codes "r") (expr.Class (codes "6")) ∙ ap (λ ns. name_of kind.Role (codes "r") ∷ ns) (class_names (codes "6"))) i ++ []))

names_counted : total names_number (logical_part chain every) ≡ 10
unfolding added body_names is_logical number_of
names_counted =
    λ i. number_of (class_names (codes "1") i) (class_names (codes "2") i)
    + (number_of (class_names (codes "2") i) (class_names (codes "3") i)
    + (number_of (class_names (codes "3") i) (defined_names i) + (number_of (class_names (codes "4") i) (class_names (codes "1") i) + 0)))

pub chain_bound : ChainBound
unfolding is_logical
chain_bound = record { axioms = refl; names = names_counted; bound = ap (λ n. 4 + n) names_counted }
