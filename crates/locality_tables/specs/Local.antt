-- Which axioms are local: those of which this test shows that they are satisfied, whatever the names inside a signature mean,
-- where those outside are filled. One kind of axiom a row; an axiom that is not logical is always satisfied. (After Cuenca Grau, Horrocks, Kazakov and Sattler, JAIR
-- 31 (2008), section 5; the rows for axioms about roles alone are our own.)
use Rattle.std.specs.Prelude.{ℕ, Bool, true, ◌&&◌, ◌||◌, List}
use Rattle.owl_axioms.specs.declared.body.Body.{Body}
use Rattle.owl_axioms.specs.declared.body.Body.TheVariants as body
use Rattle.owl_axioms.specs.declared.expr.ClassExpr.{ClassExpr}
use Rattle.owl_axioms.specs.Names.{Scope}
use Rattle.locality_tables.specs.Verdict.{is_empty, is_empty_role, is_full, is_full_role, is_identity, is_outside_role, role_finding, verdict}
use Rattle.locality_tables.specs.declared.fills.ClassFill.{ClassFill}
use Rattle.locality_tables.specs.declared.finding.Finding.{Finding}
use Rattle.locality_tables.specs.declared.fills.RoleFill.{RoleFill}
use Rattle.locality_tables.specs.declared.finding.RoleFinding.{RoleFinding}

-- from what is known of the expressions and of the roles of an axiom
unfoldable pub local_by : (ClassExpr → Finding) → (List ℕ → RoleFinding) → Body → Bool
local_by v k (body.Sub c d) = is_empty (v c) || is_full (v d)
local_by v k (body.Equiv c d) = (is_empty (v c) && is_empty (v d)) || (is_full (v c) && is_full (v d))
local_by v k (body.Disjoint c d) = is_empty (v c) || is_empty (v d)
local_by v k (body.SubRole r s) = is_empty_role (k r) || (is_full_role (k s) || (is_identity (k r) && is_identity (k s)))
local_by v k (body.Chain r s t) = is_empty_role (k r) || (is_empty_role (k s) || (is_full_role (k t) || (is_identity (k r) && (is_identity (k s) && is_identity (k t)))))
local_by v k (body.EquivRoles r s) = is_outside_role (k r) && is_outside_role (k s)
local_by v k (body.DisjointRoles r s) = is_empty_role (k r) || is_empty_role (k s)
local_by v k (body.Inverse r s) = is_outside_role (k r) && is_outside_role (k s)
local_by v k (body.Transitive r) = is_outside_role (k r)
local_by v k (body.Reflexive r) = is_full_role (k r) || is_identity (k r)
local_by v k (body.Symmetric r) = is_outside_role (k r)
local_by v k (body.Asymmetric r) = is_empty_role (k r)
local_by v k (body.Functional r) = is_empty_role (k r) || is_identity (k r)
local_by v k (body.InverseFunctional r) = is_empty_role (k r) || is_identity (k r)
local_by v k (body.Domain r c) = is_empty_role (k r) || is_full (v c)
local_by v k (body.Range r c) = is_empty_role (k r) || is_full (v c)
local_by v k (body.ClassAssertion c a) = is_full (v c)
local_by v k (body.RoleAssertion r a b) = is_full_role (k r)
local_by v k (body.Declaration name) = true
local_by v k (body.Note subject property value) = true
local_by v k (body.OntologyNote property value) = true

-- whether the axiom is local
unfoldable pub is_local : ClassFill → RoleFill → Scope → Body → Bool
is_local classes roles inside = local_by (verdict classes roles inside) (role_finding roles inside)
