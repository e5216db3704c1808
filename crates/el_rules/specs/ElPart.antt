-- The EL part of axioms: the inclusions, disjointnesses and domains whose expressions are built of owl:Thing, owl:Nothing,
-- classes, intersections and existential restrictions alone, and what is said of inclusions, chains and transitivity of
-- roles. Equivalences stand for inclusions both ways, a transitive role for a chain of it with itself. (Constructors of
-- the OWL 2 EL profile, OWL 2 Profiles section 2; which axioms are taken is our own.)
use Rattle.std.specs.Prelude.{ℕ, Bool, true, false, not, ◌&&◌, if◌then◌else◌, List, [], ◌∷◌, filter, flat_map, length, nat_le}
use Rattle.std.specs.List.{list_all}
use Rattle.owl_axioms.specs.declared.body.Axiom.{Axiom}
use Rattle.owl_axioms.specs.declared.body.Body.{Body}
use Rattle.owl_axioms.specs.declared.body.Body.TheVariants as body
use Rattle.owl_axioms.specs.declared.expr.ClassExpr.{ClassExpr}
use Rattle.owl_axioms.specs.declared.expr.ClassExpr.TheFolds.{fold-ClassExpr}
use Rattle.owl_axioms.specs.declared.expr.ClassExpr.TheOpen.{ClassExpr-F}
use Rattle.owl_sem.specs.Models.{is_logical}

-- one layer of an EL expression, where the test of each part is known. An intersection has two operands or more
unfoldable pub el_step : ClassExpr-F Bool → Bool
el_step ClassExpr-F.Thing = true
el_step ClassExpr-F.Nothing = true
el_step (ClassExpr-F.Class iri) = true
el_step (ClassExpr-F.And parts) = nat_le 2 (length parts) && list_all (λ part. part) parts
el_step (ClassExpr-F.Some role part) = part
el_step _ = false

-- an expression of owl:Thing, owl:Nothing, classes, intersections and existential restrictions alone
unfoldable pub is_el : ClassExpr → Bool
is_el = fold-ClassExpr Bool el_step

-- what an axiom says, if its expressions are such
abbrev pub if_el : List ClassExpr → List Body → List Body
if_el exprs said = if list_all is_el exprs then said else []

-- what the EL part has of what an axiom says: inclusions, disjointnesses, domains, inclusions of roles, chains
unfoldable pub el_bodies : Body → List Body
el_bodies (body.Sub c d) = if_el (c ∷ d ∷ []) (body.Sub c d ∷ [])
el_bodies (body.Equiv c d) = if_el (c ∷ d ∷ []) (body.Sub c d ∷ body.Sub d c ∷ [])
el_bodies (body.Disjoint c d) = if_el (c ∷ d ∷ []) (body.Disjoint c d ∷ [])
el_bodies (body.Domain r c) = if_el (c ∷ []) (body.Domain r c ∷ [])
el_bodies (body.SubRole r s) = body.SubRole r s ∷ []
el_bodies (body.EquivRoles r s) = body.SubRole r s ∷ body.SubRole s r ∷ []
el_bodies (body.Chain r s t) = body.Chain r s t ∷ []
el_bodies (body.Transitive r) = body.Chain r r r ∷ []
el_bodies _ = []

-- the EL part of axioms, so written
abbrev pub el_axioms : List Axiom → List Body
el_axioms axioms = flat_map (λ a. el_bodies a.body) axioms

-- an axiom is of the EL part where that has something of it
abbrev pub has_some : List Body → Bool
has_some [] = false
has_some (b ∷ bs) = true

abbrev pub is_used : Axiom → Bool
is_used a = has_some (el_bodies a.body)

-- the axioms of the EL part as they stand
abbrev pub used_of : List Axiom → List Axiom
used_of axioms = filter is_used axioms

-- a logical axiom outside the EL part
abbrev pub is_unused : Axiom → Bool
is_unused a = is_logical a.body && not (is_used a)

-- how many there are
abbrev pub unused_of : List Axiom → ℕ
unused_of axioms = length (filter is_unused axioms)
