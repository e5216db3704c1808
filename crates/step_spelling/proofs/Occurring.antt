-- The names in what occurs in an EL part are names of the axioms.
use Rattle.std.proofs.Common.{◌≡◌, ℕ, Bool, true, false, not, ◌||◌, List, [], ◌∷◌, ◌++◌, map, Contains, inl, inr, refl, sym, subst}
use Rattle.std.specs.List.{flat_map, list_all}
use Rattle.fact_rows.specs.Member.{In}
use Rattle.fact_rows.proofs.Members.{contains_from_in, from_flat_map, in_cons, in_none, in_one}
use Rattle.owl_axioms.specs.Names.{body_names, is_signed, listed, name_of, names_in, names_of, names_step, subject_names}
use Rattle.owl_axioms.specs.Vocabulary.{owl_nothing, owl_thing}
use Rattle.owl_axioms.specs.declared.body.Axiom.{Axiom}
use Rattle.owl_axioms.specs.declared.body.Body.{Body}
use Rattle.owl_axioms.specs.declared.body.Body.TheVariants as body
use Rattle.owl_axioms.specs.declared.expr.ClassExpr.{ClassExpr}
use Rattle.owl_axioms.specs.declared.expr.ClassExpr.TheFolds.{map-ClassExpr}
use Rattle.owl_axioms.specs.declared.expr.ClassExpr.TheOpen.{ClassExpr-F}
use Rattle.owl_axioms.specs.declared.expr.ClassExpr.TheVariants as expr
use Rattle.owl_axioms.specs.declared.expr.ClassExpr.TheViews.{out-ClassExpr, roll-ClassExpr, roll-out-ClassExpr}
use Rattle.owl_axioms.specs.declared.name.Kind.TheVariants as kind
use Rattle.owl_axioms.specs.declared.name.Name.{Name}
use Rattle.owl_axioms.proofs.Listed as names
use Rattle.expr_pool.specs.Part.{layer_parts, parts_of}
use Rattle.el_rules.specs.ElPart.{el_bodies, if_el, is_el}
use Rattle.el_rules.specs.Occurs.{IsDeclared, Occurs, declared, exprs_in, nothing, part, standing, thing}
use Rattle.step_spelling.proofs.Edges.{differ}

-- some names are all among others
abbrev Within : List Name → List Name → Type 0
Within some all = (n : Name) → Contains some n → Contains all n

-- ---- parts

names_at : (c : ClassExpr) (cs : List ClassExpr) → In c cs → Contains (map names_in cs) (names_in c)
names_at c [] i = in_none i
names_at c (d ∷ cs) i = elim (in_cons i) [
  | inl e ↦ subst (λ x. Contains (names_in d ∷ map names_in cs) (names_in x)) (sym e) (names.here (names_in d) (map names_in cs))
  | inr j ↦ names.later (names_in d) (names_in c) (map names_in cs) (names_at c cs j)
]

all_within : (p : ClassExpr) (cs : List ClassExpr) → In p cs → Within (names_in p) (flat_map (λ ns. ns) (map names_in cs))
all_within p cs i n h = names.in_flat (λ ns. ns) (names_in p) n (map names_in cs) (names_at p cs i) h

one_within : (p c : ClassExpr) → In p (c ∷ []) → Within (names_in p) (names_in c)
one_within p c i n h = subst (λ x. Contains (names_in x) n) (in_one i) h

behind_role : (r : List ℕ) (p c : ClassExpr) → In p (c ∷ []) → Within (names_in p) (name_of kind.Role r ∷ names_in c)
behind_role r p c i n h = names.later (name_of kind.Role r) n (names_in c) (one_within p c i n h)

layer_within : (x : ClassExpr-F ClassExpr) (p : ClassExpr) → In p (layer_parts x) → Within (names_in p) (names_step (map-ClassExpr _ _ names_in x))
unfolding layer_parts names_step
layer_within ClassExpr-F.Thing p i = in_none i
layer_within ClassExpr-F.Nothing p i = in_none i
layer_within (ClassExpr-F.Class a) p i = in_none i
layer_within (ClassExpr-F.And cs) p i = all_within p cs i
layer_within (ClassExpr-F.Or cs) p i = all_within p cs i
layer_within (ClassExpr-F.Not c) p i = one_within p c i
layer_within (ClassExpr-F.Some r c) p i = behind_role r p c i
layer_within (ClassExpr-F.All r c) p i = behind_role r p c i
layer_within (ClassExpr-F.Min k r c) p i = behind_role r p c i
layer_within (ClassExpr-F.Max k r c) p i = behind_role r p c i
layer_within (ClassExpr-F.Exact k r c) p i = behind_role r p c i

part_within : (c p : ClassExpr) → In p (parts_of c) → Within (names_in p) (names_in c)
unfolding parts_of
part_within c p i n h =
    subst (λ x. Contains (names_in x) n) (roll-out-ClassExpr c)
    (subst (λ ns. Contains ns n) (sym (names.names_layer (out-ClassExpr c))) (layer_within (out-ClassExpr c) p i n h))

-- ---- what stands in an axiom

if_el_said : (exprs : List ClassExpr) (said : List Body) (b : Body) → In b (if_el exprs said) → In b said
if_el_said exprs said b i = by (list_all is_el exprs) refl
  where
    by : (t : Bool) → list_all is_el exprs ≡ t → In b said
    by true e = subst (λ l. In b l) (rw e refl) i
    by false e = in_none (subst (λ l. In b l) (rw e refl) i)

two_within : (c d p : ClassExpr) → In p (c ∷ d ∷ []) → Within (names_in p) (names_in c ++ names_in d)
two_within c d p i n h = elim (in_cons i) [
  | inl e ↦ names.in_left n (names_in c) (names_in d) (subst (λ x. Contains (names_in x) n) e h)
  | inr j ↦ names.in_right n (names_in c) (names_in d) (one_within p d j n h)
]

two_turned : (c d p : ClassExpr) → In p (d ∷ c ∷ []) → Within (names_in p) (names_in c ++ names_in d)
two_turned c d p i n h = elim (in_cons i) [
  | inl e ↦ names.in_right n (names_in c) (names_in d) (subst (λ x. Contains (names_in x) n) e h)
  | inr j ↦ names.in_left n (names_in c) (names_in d) (one_within p c j n h)
]

only_in : (b d : Body) (c : ClassExpr) → In b (d ∷ []) → In c (exprs_in b) → In c (exprs_in d)
only_in b d c i j = subst (λ x. In c (exprs_in x)) (in_one i) j

body_within : (a b : Body) (c : ClassExpr) → In b (el_bodies a) → In c (exprs_in b) → Within (names_in c) (body_names a)
unfolding el_bodies exprs_in body_names
body_within (body.Sub c d) b x i j = two_within c d x (only_in b (body.Sub c d) x (if_el_said (c ∷ d ∷ []) (body.Sub c d ∷ []) b i) j)
body_within (body.Equiv c d) b x i j = elim (in_cons (if_el_said (c ∷ d ∷ []) (body.Sub c d ∷ body.Sub d c ∷ []) b i)) [
  | inl e ↦ two_within c d x (subst (λ y. In x (exprs_in y)) e j)
  | inr k ↦ two_turned c d x (only_in b (body.Sub d c) x k j)
]
body_within (body.Disjoint c d) b x i j = two_within c d x (only_in b (body.Disjoint c d) x (if_el_said (c ∷ d ∷ []) (body.Disjoint c d ∷ []) b i) j)
body_within (body.Domain r c) b x i j = behind_role r x c (only_in b (body.Domain r c) x (if_el_said (c ∷ []) (body.Domain r c ∷ []) b i) j)
body_within (body.SubRole r s) b x i j = in_none (only_in b (body.SubRole r s) x i j)
body_within (body.Chain r s t) b x i j = in_none (only_in b (body.Chain r s t) x i j)
body_within (body.EquivRoles r s) b x i j = elim (in_cons i) [
  | inl e ↦ in_none (subst (λ y. In x (exprs_in y)) e j)
  | inr k ↦ in_none (only_in b (body.SubRole s r) x k j)
]
body_within (body.Transitive r) b x i j = in_none (only_in b (body.Chain r r r) x i j)
body_within _ b x i j = in_none i

-- ---- declared classes

class_signed : (a : List ℕ) → ¬ (a ≡ owl_thing) → ¬ (a ≡ owl_nothing) → is_signed kind.Class a ≡ true
unfolding is_signed
class_signed a no_thing no_nothing = λ i. not (differ a owl_thing no_thing i || differ a owl_nothing no_nothing i)

subject_within : (s : Name) → is_signed s.kind s.iri ≡ true → Contains (subject_names s) s
subject_within s is = rw is (names.here s [])

class_within : (a : List ℕ) → Within (names_in (expr.Class a)) (name_of kind.Class a ∷ [])
unfolding names_step roll-ClassExpr denote.Hole.Carrier.roll
class_within a n h = subst (λ ns. Contains ns n) (names.names_layer (ClassExpr-F.Class a)) h

declared_within : (axioms : List Axiom) (a : List ℕ) → IsDeclared axioms a → ¬ (a ≡ owl_thing) → ¬ (a ≡ owl_nothing) → Within (names_in (expr.Class a)) (names_of axioms)
unfolding body_names
declared_within axioms a is no_thing no_nothing n h =
    let class = name_of kind.Class a in
    let among = subst (λ b. Contains (body_names b) class) (sym is.2) (subject_within class (class_signed a no_thing no_nothing)) in
    let named = names.name_of_axiom axioms is.0 class (contains_from_in is.1) among in
    names.by_place class n [] (class_within a n h) (λ same. subst (Contains (names_of axioms)) same named) (λ more. names.not_in_nothing n more)

-- ---- all that occurs

nothing_within : {P : Type 0} (x : ClassExpr-F ClassExpr) (n : Name) → names_step (map-ClassExpr _ _ names_in x) ≡ [] → Contains (names_in (roll-ClassExpr x)) n → P
nothing_within x n none h = names.not_in_nothing n (subst (λ ns. Contains ns n) none (subst (λ ns. Contains ns n) (names.names_layer x) h))

-- each name in an expression that occurs is one of the axioms
pub occurring_names : (axioms : List Axiom) {c : ClassExpr} → Occurs axioms c → Within (names_in c) (names_of axioms)
unfolding names_step roll-ClassExpr denote.Hole.Carrier.roll
occurring_names axioms thing n h = nothing_within ClassExpr-F.Thing n refl h
occurring_names axioms nothing n h = nothing_within ClassExpr-F.Nothing n refl h
occurring_names axioms (declared {a} is no_thing no_nothing) n h = declared_within axioms a is no_thing no_nothing n h
occurring_names axioms (standing {b} {c} i j) n h =
    let f = from_flat_map (λ (a : Axiom). el_bodies a.body) axioms i in
    names.name_of_axiom axioms f.it n (contains_from_in f.inside) (body_within f.it.body b c f.out j n h)
occurring_names axioms (part {c} {p} o i) n h = occurring_names axioms o n (part_within c p i n h)

-- a class that occurs is one that the axioms name
pub occurring_is_named : (axioms : List Axiom) (class : List ℕ) → Occurs axioms (expr.Class class) → listed (names_of axioms) kind.Class class ≡ true
unfolding names_step roll-ClassExpr denote.Hole.Carrier.roll
occurring_is_named axioms class is =
    let own = subst (λ ns. Contains ns (name_of kind.Class class)) (sym (names.names_layer (ClassExpr-F.Class class))) (names.here (name_of kind.Class class) []) in
    names.listed_in (names_of axioms) (name_of kind.Class class) (occurring_names axioms is (name_of kind.Class class) own)
