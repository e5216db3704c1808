-- What the tables of locality amount to. (After Cuenca Grau, Horrocks, Kazakov and Sattler, JAIR 31 (2008), section 5; the
-- fill of finite interpretations is our own.)
use Rattle.std.specs.Prelude.{ℕ, ◌≡◌, ◌<◌, ◌≤◌, true, false, not, if◌then◌else◌, List}
use Rattle.owl_axioms.specs.Names.{Scope, body_names, covers, listed, names_in}
use Rattle.owl_axioms.specs.declared.body.Body.{Body}
use Rattle.owl_axioms.specs.declared.expr.ClassExpr.{ClassExpr}
use Rattle.owl_axioms.specs.declared.name.Name.{Name}
use Rattle.owl_sem.specs.Interp.{Interp, member}
use Rattle.owl_sem.specs.Laws.{Within}
use Rattle.owl_sem.specs.Models.{Agrees, Satisfies}
use Rattle.locality_tables.specs.Fill.{IsFilled, fill, left_by}
use Rattle.locality_tables.specs.Local.{is_local}
use Rattle.locality_tables.specs.Verdict.{verdict}
use Rattle.locality_tables.specs.declared.fills.ClassFill.{ClassFill}
use Rattle.locality_tables.specs.declared.fills.RoleFill.{RoleFill}
use Rattle.locality_tables.specs.declared.finding.Finding.TheVariants as finding

-- ---- the laws of a kind

-- in the fill of an interpretation the listed classes and roles outside are what the kind says, and the size, each other
-- class and role, and all individuals are as before
abbrev pub FillsNames : ClassFill → RoleFill → Type 0
FillsNames classes roles =
    (inside : Scope) (names : List Name) (i : Interp)
    → IsFilled classes roles inside (listed names) (fill classes roles inside names i) × Agrees i (fill classes roles inside names i) (left_by inside names)

-- a verdict of Empty or Full stays with a smaller signature
abbrev pub VerdictsStay : ClassFill → RoleFill → Type 0
VerdictsStay classes roles =
    (less more : Scope) → Within less more → (c : ClassExpr)
    → (verdict classes roles more c ≡ finding.Empty → verdict classes roles less c ≡ finding.Empty) × (verdict classes roles more c ≡ finding.Full → verdict classes roles less c ≡ finding.Full)

-- and so does a test of an axiom that is passed
abbrev pub TestsStay : ClassFill → RoleFill → Type 0
TestsStay classes roles = (less more : Scope) → Within less more → (b : Body) → is_local classes roles more b ≡ true → is_local classes roles less b ≡ true

-- each kind has these laws
abbrev pub FillsNamesAlways : Type 0
FillsNamesAlways = (classes : ClassFill) (roles : RoleFill) → FillsNames classes roles

abbrev pub VerdictsStayAlways : Type 0
VerdictsStayAlways = (classes : ClassFill) (roles : RoleFill) → VerdictsStay classes roles

abbrev pub TestsStayAlways : Type 0
TestsStayAlways = (classes : ClassFill) (roles : RoleFill) → TestsStay classes roles

-- ---- soundness

-- whatever interpretation is filled, over any list with the expression's names, no element is in it
abbrev pub EmptyInFills : ClassFill → RoleFill → Scope → ClassExpr → Type 0
EmptyInFills classes roles inside c =
    (names : List Name) (i : Interp) → covers (listed names) (names_in c) ≡ true → (e : ℕ) → e < i.size → member (fill classes roles inside names i) c e ≡ false

-- and here each element is
abbrev pub FullInFills : ClassFill → RoleFill → Scope → ClassExpr → Type 0
FullInFills classes roles inside c = (names : List Name) (i : Interp) → covers (listed names) (names_in c) ≡ true → (e : ℕ) → e < i.size → member (fill classes roles inside names i) c e ≡ true

-- whatever interpretation is filled, over any list with the axiom's names, it satisfies the axiom
abbrev pub SatisfiedInFills : ClassFill → RoleFill → Scope → Body → Type 0
SatisfiedInFills classes roles inside b = (names : List Name) (i : Interp) → 1 ≤ i.size → covers (listed names) (body_names b) ≡ true → Satisfies (fill classes roles inside names i) b

-- a verdict says what is so in each fill
abbrev pub VerdictsHold : Type 0
VerdictsHold =
    (classes : ClassFill) (roles : RoleFill) (inside : Scope) (c : ClassExpr)
    → (verdict classes roles inside c ≡ finding.Empty → EmptyInFills classes roles inside c) × (verdict classes roles inside c ≡ finding.Full → FullInFills classes roles inside c)

-- a local axiom is satisfied in each fill
abbrev pub LocalHolds : Type 0
LocalHolds = (classes : ClassFill) (roles : RoleFill) (inside : Scope) (b : Body) → is_local classes roles inside b ≡ true → SatisfiedInFills classes roles inside b

-- ---- names

-- whether two scopes tell the same of a name
abbrev pub same_of : Scope → Scope → Scope
same_of s t k a = if s k a then t k a else not (t k a)

-- whether an axiom is local depends on what the signature tells of its names
abbrev pub LocalDependsOnNames : Type 0
LocalDependsOnNames =
    (classes : ClassFill) (roles : RoleFill) (s t : Scope) (b : Body) → covers (same_of s t) (body_names b) ≡ true → is_local classes roles s b ≡ is_local classes roles t b
