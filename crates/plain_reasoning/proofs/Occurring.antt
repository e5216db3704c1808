-- The list of expressions that occur has exactly those that occur.
use Rattle.std.proofs.Common.{◌≡◌, ℕ, Bool, true, false, not, ◌||◌, List, [], ◌∷◌, ◌++◌, map, ⊎_elim, refl, sym, ap, subst, ◌∙◌, true≢false}
use Rattle.std.specs.Cmp.Lexicographic.{same_text}
use Rattle.std.specs.List.{flat_map}
use Rattle.std.specs.Str.{bytes_eq}
use Rattle.fact_rows.specs.Member.{In, here, there}
use Rattle.fact_rows.proofs.Members.{from_filter, from_flat_map, from_map, in_cons, in_filter, in_flat_map, in_left, in_map, in_none, in_one, in_parts, in_right}
use Rattle.owl_axioms.proofs.Listed.{own_bytes}
use Rattle.owl_axioms.specs.Names.{name_of}
use Rattle.owl_axioms.specs.Vocabulary.{owl_nothing, owl_thing}
use Rattle.owl_axioms.specs.declared.body.Axiom.{Axiom}
use Rattle.owl_axioms.specs.declared.body.Body.{Body}
use Rattle.owl_axioms.specs.declared.body.Body.TheVariants as body
use Rattle.owl_axioms.specs.declared.expr.ClassExpr.{ClassExpr}
use Rattle.owl_axioms.specs.declared.expr.ClassExpr.TheFolds.{ind-ClassExpr, map-ClassExpr, para-roll-ClassExpr}
use Rattle.owl_axioms.specs.declared.expr.ClassExpr.TheOpen.{ClassExpr-F}
use Rattle.owl_axioms.specs.declared.expr.ClassExpr.TheVariants as expr
use Rattle.owl_axioms.specs.declared.expr.ClassExpr.TheViews.{out-ClassExpr, out-roll-ClassExpr, roll-ClassExpr, roll-out-ClassExpr}
use Rattle.owl_axioms.specs.declared.name.Kind.{Kind}
use Rattle.owl_axioms.specs.declared.name.Kind.TheVariants as kind
use Rattle.expr_pool.specs.Part.{layer_parts, parts_of}
use Rattle.el_rules.specs.ElPart.{el_axioms}
use Rattle.el_rules.specs.Occurs.{IsDeclared, Occurs, declared, exprs_in, nothing, part as a_part, standing, thing}
use Rattle.el_taxonomy.specs.Taxonomy.{IsDeclaredClass}
use Rattle.plain_reasoning.specs.Laws.{ViewIsElPart}
use Rattle.plain_reasoning.specs.Occurring.{class_declared, class_of, declared_classes, inside_of, inside_step, is_other_class, occurring_of, outermost_of, parts_in, view_of_axioms, with_inside}

-- ---- what is inside of an expression

parts_mapped : {A B : Type 0} (f : A → B) (layer : ClassExpr-F A) → parts_in (map-ClassExpr A B f layer) ≡ map f (parts_in layer)
unfolding parts_in
parts_mapped f ClassExpr-F.Thing = refl
parts_mapped f ClassExpr-F.Nothing = refl
parts_mapped f (ClassExpr-F.Class iri) = refl
parts_mapped f (ClassExpr-F.And parts) = refl
parts_mapped f (ClassExpr-F.Or parts) = refl
parts_mapped f (ClassExpr-F.Not part) = refl
parts_mapped f (ClassExpr-F.Some role part) = refl
parts_mapped f (ClassExpr-F.All role part) = refl
parts_mapped f (ClassExpr-F.Min n role part) = refl
parts_mapped f (ClassExpr-F.Max n role part) = refl
parts_mapped f (ClassExpr-F.Exact n role part) = refl

parts_are : (layer : ClassExpr-F ClassExpr) → parts_in layer ≡ layer_parts layer
unfolding parts_in layer_parts
parts_are ClassExpr-F.Thing = refl
parts_are ClassExpr-F.Nothing = refl
parts_are (ClassExpr-F.Class iri) = refl
parts_are (ClassExpr-F.And parts) = refl
parts_are (ClassExpr-F.Or parts) = refl
parts_are (ClassExpr-F.Not part) = refl
parts_are (ClassExpr-F.Some role part) = refl
parts_are (ClassExpr-F.All role part) = refl
parts_are (ClassExpr-F.Min n role part) = refl
parts_are (ClassExpr-F.Max n role part) = refl
parts_are (ClassExpr-F.Exact n role part) = refl

flat_mapped : {A B C : Type 0} (f : A → B) (g : B → List C) (xs : List A) → flat_map g (map f xs) ≡ flat_map (λ x. g (f x)) xs
flat_mapped f g [] = refl
flat_mapped f g (x ∷ xs) = ap (λ rest. g (f x) ++ rest) (flat_mapped f g xs)

abbrev beside : ClassExpr → ClassExpr × List ClassExpr
beside c = (c, inside_of c)

inside_layer : (layer : ClassExpr-F ClassExpr) → inside_of (roll-ClassExpr layer) ≡ flat_map with_inside (parts_in layer)
unfolding inside_of inside_step
inside_layer layer =
    para-roll-ClassExpr (List ClassExpr) inside_step layer
    ∙ ap (flat_map (λ (p : ClassExpr × List ClassExpr). p.0 ∷ p.1)) (parts_mapped beside layer)
    ∙ flat_mapped beside (λ (p : ClassExpr × List ClassExpr). p.0 ∷ p.1) (parts_in layer)

-- the parts, and what is inside of each
inside_is : (c : ClassExpr) → inside_of c ≡ flat_map with_inside (parts_of c)
unfolding parts_of
inside_is c = ap inside_of (sym (roll-out-ClassExpr c)) ∙ inside_layer (out-ClassExpr c) ∙ ap (flat_map with_inside) (parts_are (out-ClassExpr c))

-- ---- induction on the parts

module _ (P : ClassExpr → Type 0) where
  abbrev Part : Type 0
  Part = (d : ClassExpr) × P d

  each_part : (parts : List Part) (q : ClassExpr) → In q (map (λ (p : Part). p.0) parts) → P q
  each_part parts q i = let r = from_map (λ (p : Part). p.0) parts i in subst P (sym r.is) r.it.1

  by_layer : ((c : ClassExpr) → ((q : ClassExpr) → In q (parts_of c) → P q) → P c) → (layer : ClassExpr-F Part) → P (roll-ClassExpr (map-ClassExpr Part ClassExpr (λ p. p.0) layer))
  unfolding parts_of
  by_layer step layer =
      let bare = map-ClassExpr Part ClassExpr (λ p. p.0) layer in
      step (roll-ClassExpr bare) (λ q i. each_part (parts_in layer) q (subst (In q) (ap layer_parts (out-roll-ClassExpr bare) ∙ sym (parts_are bare) ∙ parts_mapped (λ (p : Part). p.0) layer) i))

  by_parts : ((c : ClassExpr) → ((q : ClassExpr) → In q (parts_of c) → P q) → P c) → (c : ClassExpr) → P c
  by_parts step = ind-ClassExpr P (λ x layer is. subst (λ l. P (roll-ClassExpr l)) is (by_layer step layer))

-- ---- all that is inside occurs

abbrev AllOccur : List Axiom → ClassExpr → Type 0
AllOccur axioms c = Occurs axioms c → (p : ClassExpr) → In p (with_inside c) → Occurs axioms p

inside_occurs : (axioms : List Axiom) (c : ClassExpr) → AllOccur axioms c
inside_occurs axioms = by_parts (AllOccur axioms) (λ c each o p i. ⊎_elim
    (λ e. subst (Occurs axioms) (sym e) o)
    (λ j. let r = from_flat_map with_inside (parts_of c) (subst (In p) (inside_is c) j) in each r.it r.inside (a_part o r.inside) p r.out)
    (in_cons i))

-- ---- the parts of what is inside are inside

abbrev IsClosed : ClassExpr → Type 0
IsClosed c = (q p : ClassExpr) → In q (with_inside c) → In p (parts_of q) → In p (inside_of c)

inside_closed : (c : ClassExpr) → IsClosed c
inside_closed = by_parts IsClosed (λ c each q p i k. subst (In p) (sym (inside_is c)) (⊎_elim
    (λ e. in_flat_map with_inside (subst (λ z. In p (parts_of z)) e k) here)
    (λ j. let r = from_flat_map with_inside (parts_of c) (subst (In q) (inside_is c) j) in in_flat_map with_inside r.inside (there (each r.it r.inside q p r.out k)))
    (in_cons i)))

-- ---- declared classes

class_is : (k : Kind) (a b : List ℕ) → In b (class_of k a) → (k ≡ kind.Class) × (a ≡ b)
class_is kind.Class a b i = (refl, sym (in_one i))
class_is kind.Role a b i = in_none i
class_is kind.Individual a b i = in_none i
class_is kind.AnnotationProperty a b i = in_none i

pub class_declared_is : (b : Body) (a : List ℕ) → In a (class_declared b) → b ≡ body.Declaration (name_of kind.Class a)
unfolding class_declared
class_declared_is (body.Declaration name) a i = let c = class_is name.kind name.iri a i in λ j. body.Declaration (record { kind = c.0 j; iri = c.1 j })
class_declared_is other a i = in_none i

pub is_class_declared : (a : List ℕ) → In a (class_declared (body.Declaration (name_of kind.Class a)))
unfolding class_declared
is_class_declared a = here

other_is : (a : List ℕ) → is_other_class a ≡ true → ¬ (a ≡ owl_thing) × ¬ (a ≡ owl_nothing)
other_is a h = (
  λ e. neither _ (or_first (bytes_eq a owl_thing) (bytes_eq a owl_nothing) (own a owl_thing e)) h,
  λ e. neither _ (or_second (bytes_eq a owl_thing) (bytes_eq a owl_nothing) (own a owl_nothing e)) h,
)
  where
    own : (a b : List ℕ) → a ≡ b → bytes_eq a b ≡ true
    own a b e = subst (λ c. bytes_eq a c ≡ true) e (own_bytes a)

    or_first : (x y : Bool) → x ≡ true → (x || y) ≡ true
    or_first x y e = ap (λ z. z || y) e

    or_second : (x y : Bool) → y ≡ true → (x || y) ≡ true
    or_second true y e = refl
    or_second false y e = e

    neither : (x : Bool) → x ≡ true → not x ≡ true → ⊥
    neither x e h = true≢false (sym h ∙ ap not e)

is_other : (a : List ℕ) → ¬ (a ≡ owl_thing) → ¬ (a ≡ owl_nothing) → is_other_class a ≡ true
is_other a t n = both (bytes_eq a owl_thing) (bytes_eq a owl_nothing) (λ h. t (same_text a owl_thing (sym h))) (λ h. n (same_text a owl_nothing (sym h)))
  where
    both : (x y : Bool) → ¬ (x ≡ true) → ¬ (y ≡ true) → not (x || y) ≡ true
    both true y p q = absurd (p refl)
    both false true p q = absurd (q refl)
    both false false p q = refl

pub from_declared : (axioms : List Axiom) (a : List ℕ) → In a (declared_classes axioms) → IsDeclaredClass axioms a
unfolding declared_classes
from_declared axioms a i =
    let f = from_filter is_other_class (flat_map (λ (x : Axiom). class_declared x.body) axioms) i in
    let r = from_flat_map (λ (x : Axiom). class_declared x.body) axioms f.0 in
    let o = other_is a f.1 in
    record { declared = (r.it, r.inside, class_declared_is r.it.body a r.out); no_thing = o.0; no_nothing = o.1 }

pub in_declared : (axioms : List Axiom) (a : List ℕ) → IsDeclared axioms a → ¬ (a ≡ owl_thing) → ¬ (a ≡ owl_nothing) → In a (declared_classes axioms)
unfolding declared_classes
in_declared axioms a d t n = in_filter is_other_class (in_flat_map (λ (x : Axiom). class_declared x.body) d.1 (subst (λ b. In a (class_declared b)) (sym d.2) (is_class_declared a))) (is_other a t n)

-- ---- what occurs

outermost_occurs : (axioms : List Axiom) (c : ClassExpr) → In c (outermost_of axioms) → Occurs axioms c
unfolding outermost_of
outermost_occurs axioms c i = ⊎_elim
    (λ e. subst (Occurs axioms) (sym e) thing)
    (λ j. ⊎_elim
    (λ e. subst (Occurs axioms) (sym e) nothing)
    (λ k. ⊎_elim
    (λ m. let r = from_map expr.Class (declared_classes axioms) m in let d = from_declared axioms r.it r.inside in subst (Occurs axioms) (sym r.is) (declared d.declared d.no_thing d.no_nothing))
    (λ m. let r = from_flat_map exprs_in (el_axioms axioms) m in standing r.inside r.out)
    (in_parts (map expr.Class (declared_classes axioms)) k))
    (in_cons j))
    (in_cons i)

in_outermost : (axioms : List Axiom) (c : ClassExpr) → In c (outermost_of axioms) → In c (occurring_of axioms)
unfolding occurring_of
in_outermost axioms c i = in_flat_map with_inside i here

part_there : (axioms : List Axiom) (c p : ClassExpr) → In c (occurring_of axioms) → In p (parts_of c) → In p (occurring_of axioms)
unfolding occurring_of
part_there axioms c p i k = let r = from_flat_map with_inside (outermost_of axioms) i in in_flat_map with_inside r.inside (there (inside_closed r.it c p r.out k))

pub occurs_there : (axioms : List Axiom) {c : ClassExpr} → Occurs axioms c → In c (occurring_of axioms)
unfolding outermost_of
occurs_there axioms thing = in_outermost axioms expr.Thing here
occurs_there axioms nothing = in_outermost axioms expr.Nothing (there here)
occurs_there axioms (declared {a} d t n) = in_outermost axioms (expr.Class a) (there (there (in_left (flat_map exprs_in (el_axioms axioms)) (in_map expr.Class (in_declared axioms a d t n)))))
occurs_there axioms (standing {b} {c} i k) = in_outermost axioms c (there (there (in_right (map expr.Class (declared_classes axioms)) (in_flat_map exprs_in i k))))
occurs_there axioms (a_part {c} {p} o k) = part_there axioms c p (occurs_there axioms o) k

there_occurs : (axioms : List Axiom) (c : ClassExpr) → In c (occurring_of axioms) → Occurs axioms c
unfolding occurring_of
there_occurs axioms c i = let r = from_flat_map with_inside (outermost_of axioms) i in inside_occurs axioms r.it (outermost_occurs axioms r.it r.inside) c r.out

pub view_is_el_part : ViewIsElPart
unfolding view_of_axioms
view_is_el_part axioms = record { axioms_are = refl; occurring_are = λ c. (there_occurs axioms c, occurs_there axioms) }
