-- Finite interpretations, and which elements a class expression has. (OWL 2 Direct Semantics, sections 2.2 and 2.3.2, on
-- finite domains.)
use Rattle.std.specs.Prelude.{ℕ, zero, suc, ◌+◌, ◌==◌, Bool, true, false, not, ◌&&◌, if◌then◌else◌, List, [], ◌∷◌, nat_le, nat_lt}
use Rattle.std.specs.List.{list_all, list_any}
use Rattle.std.specs.Str.{bytes_eq}
use Rattle.owl_axioms.specs.declared.expr.ClassExpr.{ClassExpr}
use Rattle.owl_axioms.specs.declared.expr.ClassExpr.TheOpen.{ClassExpr-F}
use Rattle.owl_axioms.specs.declared.expr.ClassExpr.TheFolds.{fold-ClassExpr}

-- the elements are the numbers below the size. An entry is an IRI beside the elements that it is said of: a class with a
-- member, a role with a pair, an individual with the element that it is. An entry with any other number is ignored
pub record Interp : Type 0 where
  pub size : ℕ
  pub classes : List (List ℕ × ℕ)
  pub roles : List (List ℕ × ℕ × ℕ)
  pub individuals : List (List ℕ × ℕ)

-- the class has the element
unfoldable pub in_class : Interp → List ℕ → ℕ → Bool
in_class i a e = nat_lt e i.size && list_any (λ p. bytes_eq p.0 a && p.1 == e) i.classes

-- the role leads from the first element to the second
unfoldable pub in_role : Interp → List ℕ → ℕ → ℕ → Bool
in_role i r e f = nat_lt e i.size && nat_lt f i.size && list_any (λ p. bytes_eq p.0 r && p.1 == e && p.2 == f) i.roles

-- the number of the first entry of the individual with a number below n, and 0 without one
abbrev pub first_below : ℕ → List ℕ → List (List ℕ × ℕ) → ℕ
first_below n a [] = 0
first_below n a (p ∷ ps) = if bytes_eq p.0 a && nat_lt p.1 n then p.1 else first_below n a ps

-- the element that the individual is
unfoldable pub individual : Interp → List ℕ → ℕ
individual i a = first_below i.size a i.individuals

-- how many of the numbers below n pass
abbrev pub number_of : (ℕ → Bool) → ℕ → ℕ
number_of p zero = 0
number_of p (suc n) = (if p n then 1 else 0) + number_of p n

-- how many elements of the set the role leads to from e
abbrev pub reached : Interp → List ℕ → (ℕ → Bool) → ℕ → ℕ
reached i r c e = number_of (λ f. in_role i r e f && c f) i.size

-- whether an expression has the element, where the members of its parts are known: All has it where the role leads to
-- no element outside the part
unfoldable pub member_step : Interp → ClassExpr-F (ℕ → Bool) → ℕ → Bool
member_step i ClassExpr-F.Thing e = true
member_step i ClassExpr-F.Nothing e = false
member_step i (ClassExpr-F.Class a) e = in_class i a e
member_step i (ClassExpr-F.And cs) e = list_all (λ c. c e) cs
member_step i (ClassExpr-F.Or cs) e = list_any (λ c. c e) cs
member_step i (ClassExpr-F.Not c) e = not (c e)
member_step i (ClassExpr-F.Some r c) e = nat_le 1 (reached i r c e)
member_step i (ClassExpr-F.All r c) e = reached i r (λ f. not (c f)) e == 0
member_step i (ClassExpr-F.Min n r c) e = nat_le n (reached i r c e)
member_step i (ClassExpr-F.Max n r c) e = nat_le (reached i r c e) n
member_step i (ClassExpr-F.Exact n r c) e = reached i r c e == n

-- whether the expression has the element
unfoldable pub member : Interp → ClassExpr → ℕ → Bool
member i = fold-ClassExpr (ℕ → Bool) (member_step i)
