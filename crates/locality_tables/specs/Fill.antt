-- An interpretation with the names outside a signature filled. (Own; the extension of a model to the names outside: JAIR 31
-- (2008), section 5.)
use Rattle.std.specs.Prelude.{ℕ, zero, suc, ◌≡◌, ◌==◌, Bool, true, false, not, ◌&&◌, List, [], ◌∷◌, ◌++◌, filter, flat_map, map, nat_lt}
use Rattle.owl_axioms.specs.declared.name.Kind.{Kind}
use Rattle.owl_axioms.specs.declared.name.Kind.TheVariants as kind
use Rattle.owl_axioms.specs.declared.name.Name.{Name}
use Rattle.owl_sem.specs.Interp.{Interp, in_class, in_role}
use Rattle.owl_axioms.specs.Names.{Scope, listed}
use Rattle.locality_tables.specs.Verdict.{class_finding, is_full}
use Rattle.locality_tables.specs.declared.fills.ClassFill.{ClassFill}
use Rattle.locality_tables.specs.declared.fills.ClassFill.TheVariants as class
use Rattle.locality_tables.specs.declared.fills.RoleFill.{RoleFill}
use Rattle.locality_tables.specs.declared.fills.RoleFill.TheVariants as role

-- the pair is in a role that is so filled
abbrev pub role_holds : RoleFill → ℕ → ℕ → Bool
role_holds role.Empty e f = false
role_holds role.Full e f = true
role_holds role.Identity e f = e == f

-- each class and role of `within` that is not inside is, on the elements of the interpretation, what the kind says
pub record IsFilled (classes : ClassFill) (roles : RoleFill) (inside within : Scope) (j : Interp) : Type 0 where
  pub class : (a : List ℕ) → within kind.Class a ≡ true → inside kind.Class a ≡ false → (e : ℕ) → in_class j a e ≡ (nat_lt e j.size && is_full (class_finding classes))
  pub role : (r : List ℕ) → within kind.Role r ≡ true → inside kind.Role r ≡ false → (e f : ℕ) → in_role j r e f ≡ (nat_lt e j.size && nat_lt f j.size && role_holds roles e f)

-- a name that is listed and is not inside
abbrev pub is_outside : Scope → List Name → Kind → List ℕ → Bool
is_outside inside names k a = listed names k a && not (inside k a)

-- the names that a fill leaves as they are: the classes and roles that are inside or are not listed, and all individuals
abbrev pub left_by : Scope → List Name → Scope
left_by inside names kind.Class a = not (is_outside inside names kind.Class a)
left_by inside names kind.Role a = not (is_outside inside names kind.Role a)
left_by inside names kind.Individual a = true
left_by inside names kind.AnnotationProperty a = true

-- the numbers below n
abbrev pub below : ℕ → List ℕ
below zero = []
below (suc n) = n ∷ below n

-- the entries of a class that is so filled on n elements, and of a role
abbrev pub class_entries : ClassFill → ℕ → List ℕ → List (List ℕ × ℕ)
class_entries class.Empty n a = []
class_entries class.Full n a = map (λ e. (a, e)) (below n)

abbrev pub role_entries : RoleFill → ℕ → List ℕ → List (List ℕ × ℕ × ℕ)
role_entries role.Empty n r = []
role_entries role.Full n r = flat_map (λ e. map (λ f. (r, e, f)) (below n)) (below n)
role_entries role.Identity n r = map (λ e. (r, e, e)) (below n)

-- the listed names outside filled, all others as they are
unfoldable pub fill : ClassFill → RoleFill → Scope → List Name → Interp → Interp
fill classes roles inside names i = record {
  size = i.size;
  classes =
      filter (λ p. is_outside inside names kind.Class p.0) (flat_map (λ n. class_entries classes i.size n.iri) names)
      ++ filter (λ p. not (is_outside inside names kind.Class p.0)) i.classes;
  roles =
      filter (λ p. is_outside inside names kind.Role p.0) (flat_map (λ n. role_entries roles i.size n.iri) names)
      ++ filter (λ p. not (is_outside inside names kind.Role p.0)) i.roles;
  individuals = i.individuals;
}
