-- What is known of a class expression, whatever the names inside a signature mean, where those outside are filled: the
-- table, one constructor a row. (After Cuenca Grau, Horrocks, Kazakov and Sattler, JAIR 31 (2008), section 5, where a
-- grammar gives the expressions that are empty and those that are full; the rows for
-- number restrictions, and those for roles that are full or the identity, are our own.)
use Rattle.std.specs.Prelude.{ℕ, Bool, true, false, ◌&&◌, ◌||◌, List, if◌then◌else◌, ◌==◌}
use Rattle.std.specs.List.{list_any, list_all}
use Rattle.owl_axioms.specs.Names.{Scope}
use Rattle.owl_axioms.specs.declared.expr.ClassExpr.{ClassExpr}
use Rattle.owl_axioms.specs.declared.expr.ClassExpr.TheOpen as layer
use Rattle.owl_axioms.specs.declared.expr.ClassExpr.TheOpen.{ClassExpr-F}
use Rattle.owl_axioms.specs.declared.expr.ClassExpr.TheFolds.{fold-ClassExpr}
use Rattle.owl_axioms.specs.declared.name.Kind.TheVariants as kind
use Rattle.locality_tables.specs.declared.fills.ClassFill.{ClassFill}
use Rattle.locality_tables.specs.declared.fills.ClassFill.TheVariants as class
use Rattle.locality_tables.specs.declared.fills.RoleFill.{RoleFill}
use Rattle.locality_tables.specs.declared.fills.RoleFill.TheVariants as role
use Rattle.locality_tables.specs.declared.finding.RoleFinding.{RoleFinding}
use Rattle.locality_tables.specs.declared.finding.RoleFinding.TheVariants.{Inside, Filled}
use Rattle.locality_tables.specs.declared.finding.Finding.{Finding}
use Rattle.locality_tables.specs.declared.finding.Finding.TheVariants.{Empty, Full, Unknown}

-- ---- findings

abbrev pub is_empty : Finding → Bool
is_empty Empty = true
is_empty Full = false
is_empty Unknown = false

abbrev pub is_full : Finding → Bool
is_full Empty = false
is_full Full = true
is_full Unknown = false

-- Empty for Full, and Full for Empty
abbrev pub exchanged : Finding → Finding
exchanged Empty = Full
exchanged Full = Empty
exchanged Unknown = Unknown

-- what is known of a role that is outside, and of none that is inside
abbrev pub is_empty_role : RoleFinding → Bool
is_empty_role (Filled role.Empty) = true
is_empty_role (Filled role.Full) = false
is_empty_role (Filled role.Identity) = false
is_empty_role Inside = false

abbrev pub is_full_role : RoleFinding → Bool
is_full_role (Filled role.Full) = true
is_full_role (Filled role.Empty) = false
is_full_role (Filled role.Identity) = false
is_full_role Inside = false

abbrev pub is_identity : RoleFinding → Bool
is_identity (Filled role.Identity) = true
is_identity (Filled role.Empty) = false
is_identity (Filled role.Full) = false
is_identity Inside = false

abbrev pub is_outside_role : RoleFinding → Bool
is_outside_role Inside = false
is_outside_role (Filled _) = true

-- a role is outside where the signature does not have it
abbrev pub role_finding : RoleFill → Scope → List ℕ → RoleFinding
role_finding roles inside r = if inside kind.Role r then Inside else Filled roles

-- what an outside class is
abbrev pub class_finding : ClassFill → Finding
class_finding class.Empty = Empty
class_finding class.Full = Full

-- ---- the rows: the operands' findings, or those of the role and of the filler

abbrev pub and_finding : List Finding → Finding
and_finding cs = if list_any is_empty cs then Empty else if list_all is_full cs then Full else Unknown

abbrev pub or_finding : List Finding → Finding
or_finding cs = if list_any is_full cs then Full else if list_all is_empty cs then Empty else Unknown

abbrev pub some_finding : RoleFinding → Finding → Finding
some_finding r c = if is_empty_role r || is_empty c then Empty else if is_full_role r && is_full c then Full else if is_identity r then c else Unknown

abbrev pub all_finding : RoleFinding → Finding → Finding
all_finding r c = if is_empty_role r || is_full c then Full else if is_full_role r && is_empty c then Empty else if is_identity r then c else Unknown

-- at least two fillers: an identity gives one at most
abbrev pub many_finding : RoleFinding → Finding → Finding
many_finding r c = if is_empty_role r || is_identity r || is_empty c then Empty else Unknown

abbrev pub min_finding : ℕ → RoleFinding → Finding → Finding
min_finding n r c = if n == 0 then Full else if n == 1 then some_finding r c else many_finding r c

abbrev pub max_finding : ℕ → RoleFinding → Finding → Finding
max_finding n r c = if n == 0 then exchanged (some_finding r c) else exchanged (many_finding r c)

abbrev pub one_finding : RoleFinding → Finding → Finding
one_finding r c = if is_empty_role r || is_empty c then Empty else if is_identity r then c else Unknown

abbrev pub exact_finding : ℕ → RoleFinding → Finding → Finding
exact_finding n r c = if n == 0 then exchanged (some_finding r c) else if n == 1 then one_finding r c else many_finding r c

-- ---- the table

abbrev pub verdict_step : ClassFill → RoleFill → Scope → ClassExpr-F Finding → Finding
verdict_step classes roles inside layer.Thing = Full
verdict_step classes roles inside layer.Nothing = Empty
verdict_step classes roles inside (layer.Class a) = if inside kind.Class a then Unknown else class_finding classes
verdict_step classes roles inside (layer.And cs) = and_finding cs
verdict_step classes roles inside (layer.Or cs) = or_finding cs
verdict_step classes roles inside (layer.Not c) = exchanged c
verdict_step classes roles inside (layer.Some r c) = some_finding (role_finding roles inside r) c
verdict_step classes roles inside (layer.All r c) = all_finding (role_finding roles inside r) c
verdict_step classes roles inside (layer.Min n r c) = min_finding n (role_finding roles inside r) c
verdict_step classes roles inside (layer.Max n r c) = max_finding n (role_finding roles inside r) c
verdict_step classes roles inside (layer.Exact n r c) = exact_finding n (role_finding roles inside r) c

-- what is known of an expression, from what is known of its parts
unfoldable pub verdict : ClassFill → RoleFill → Scope → ClassExpr → Finding
verdict classes roles inside = fold-ClassExpr Finding (verdict_step classes roles inside)
