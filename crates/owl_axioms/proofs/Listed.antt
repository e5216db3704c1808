-- Lists read as sets: of names, and of the names of axioms.
use Rattle.std.proofs.Common.{◌≡◌, ℕ, zero, suc, Bool, true, false, ◌&&◌, ◌||◌, List, [], ◌∷◌, ◌++◌, Some, Contains, flat_map, slice_get, refl, sym, ap, subst, ◌∙◌, true≢false, arith}
use Rattle.std.specs.Str.{bytes_eq}
use Rattle.std.specs.Cmp.Lexicographic.{same_text}
use Rattle.std.proofs.lemmas.Bool.Decides.{nat_tests}
use Rattle.std.proofs.lemmas.List.Folds.{list_all-append}
use Rattle.owl_axioms.specs.contracts.name.KindPartialEq.TheImpl as kind_eq
use Rattle.owl_axioms.specs.declared.body.Axiom.{Axiom}
use Rattle.owl_axioms.specs.declared.expr.ClassExpr.{ClassExpr}
use Rattle.owl_axioms.specs.declared.expr.ClassExpr.TheOpen.{ClassExpr-F}
use Rattle.owl_axioms.specs.declared.expr.ClassExpr.TheFolds.{fold-roll-ClassExpr, map-ClassExpr}
use Rattle.owl_axioms.specs.declared.expr.ClassExpr.TheViews.{roll-ClassExpr}
use Rattle.owl_axioms.specs.declared.name.Kind.{Kind}
use Rattle.owl_axioms.specs.declared.name.Kind.TheVariants as kind
use Rattle.owl_axioms.specs.declared.name.Name.{Name}
use Rattle.owl_axioms.specs.Names.{Scope, body_names, covers, listed, names_in, names_of, names_step}
use Rattle.owl_axioms.proofs.Tests.{both, by_either}
use Rattle.rel_io.proofs.Options.{none_there, same_there}

-- ---- elements of a list

pub not_in_nothing : {X : Type 0} {P : Type 0} (x : X) → Contains [] x → P
not_in_nothing x (at, l, h) = absurd (omega (arith, l))

pub here : {X : Type 0} (x : X) (xs : List X) → Contains (x ∷ xs) x
here x xs = (0, omega arith, refl)

pub later : {X : Type 0} (y x : X) (xs : List X) → Contains xs x → Contains (y ∷ xs) x
later y x xs (at, l, h) = (suc at, omega (arith, l), h)

-- first or later
pub by_place : {X : Type 0} {P : Type 0} (y x : X) (xs : List X) → Contains (y ∷ xs) x → (y ≡ x → P) → (Contains xs x → P) → P
by_place y x xs (zero, l, h) one other = one h
by_place y x xs (suc at, l, h) one other = other (at, omega (arith, l), h)

-- what stands at a place is in the list, and the other way
pub in_at : {X : Type 0} (xs : List X) (at : ℕ) (x : X) → slice_get xs at ≡ Some x → Contains xs x
in_at [] at x h = absurd (none_there h)
in_at (y ∷ xs) zero x h = subst (λ z. Contains (z ∷ xs) x) (sym (same_there h)) (here x xs)
in_at (y ∷ xs) (suc at) x h = later y x xs (in_at xs at x h)

pub at_in : {X : Type 0} (xs : List X) (x : X) → Contains xs x → (at : ℕ) × (slice_get xs at ≡ Some x)
at_in [] x h = not_in_nothing x h
at_in (y ∷ xs) x h = by_place y x xs h (λ e. (0, ap Some e)) (λ k. let found = at_in xs x k in (suc found.0, found.1))

pub in_left : {X : Type 0} (x : X) (xs ys : List X) → Contains xs x → Contains (xs ++ ys) x
in_left x [] ys h = not_in_nothing x h
in_left x (z ∷ xs) ys h = by_place z x xs h (λ e. subst (λ w. Contains (w ∷ (xs ++ ys)) x) (sym e) (here x (xs ++ ys))) (λ k. later z x (xs ++ ys) (in_left x xs ys k))

pub in_right : {X : Type 0} (x : X) (xs ys : List X) → Contains ys x → Contains (xs ++ ys) x
in_right x [] ys h = h
in_right x (z ∷ xs) ys h = later z x (xs ++ ys) (in_right x xs ys h)

pub in_flat : {X Y : Type 0} (g : X → List Y) (x : X) (y : Y) (xs : List X) → Contains xs x → Contains (g x) y → Contains (flat_map g xs) y
in_flat g x y [] h k = not_in_nothing x h
in_flat g x y (z ∷ xs) h k =
    by_place z x xs h (λ e. in_left y (g z) (flat_map g xs) (subst (λ w. Contains (g w) y) (sym e) k)) (λ l. in_right y (g z) (flat_map g xs) (in_flat g x y xs l k))

pub append_in : {X : Type 0} {P : Type 0} (x : X) (xs ys : List X) → Contains (xs ++ ys) x → (Contains xs x → P) → (Contains ys x → P) → P
append_in x [] ys h one other = other h
append_in x (z ∷ xs) ys h one other =
    by_place z x (xs ++ ys) h (λ e. one (subst (λ w. Contains (w ∷ xs) x) (sym e) (here x xs))) (λ k. append_in x xs ys k (λ l. one (later z x xs l)) other)

pub flat_in : {X Y : Type 0} {P : Type 0} (g : X → List Y) (y : Y) (xs : List X) → Contains (flat_map g xs) y → ((x : X) → Contains xs x → Contains (g x) y → P) → P
flat_in g y [] h to = not_in_nothing y h
flat_in g y (x ∷ xs) h to = append_in y (g x) (flat_map g xs) h (λ k. to x (here x xs) k) (λ k. flat_in g y xs k (λ z l m. to z (later x z xs l) m))

-- ---- tests of kinds and texts

pub same_kind : (k l : Kind) → kind_eq.ghosts.eq k l ≡ true → k ≡ l
same_kind kind.Class kind.Class h = refl
same_kind kind.Role kind.Role h = refl
same_kind kind.Individual kind.Individual h = refl
same_kind kind.AnnotationProperty kind.AnnotationProperty h = refl
same_kind k l h = absurd (true≢false (sym h))

pub own_kind : (k : Kind) → kind_eq.ghosts.eq k k ≡ true
own_kind kind.Class = refl
own_kind kind.Role = refl
own_kind kind.Individual = refl
own_kind kind.AnnotationProperty = refl

pub own_bytes : (xs : List ℕ) → bytes_eq xs xs ≡ true
own_bytes [] = refl
own_bytes (x ∷ xs) = grind (arith, own_bytes xs, nat_tests)

-- ---- lists of names

or_true : (x y : Bool) → y ≡ true → (x || y) ≡ true
or_true true y h = refl
or_true false y h = h

pub listed_in : (names : List Name) (n : Name) → Contains names n → listed names n.kind n.iri ≡ true
unfolding listed
listed_in [] n h = not_in_nothing n h
listed_in (m ∷ names) n h =
    by_place m n names h (λ e. let t : (kind_eq.ghosts.eq m.kind n.kind && bytes_eq m.iri n.iri) ≡ true = subst (λ w. (kind_eq.ghosts.eq w.kind n.kind && bytes_eq w.iri n.iri) ≡ true) (sym e) (λ i. own_kind n.kind i && own_bytes n.iri i) in
    ap (λ b. b || listed names n.kind n.iri) t)
    (λ k. or_true _ _ (listed_in names n k))

pub in_listed : {P : Type 0} (names : List Name) (k : Kind) (a : List ℕ) → listed names k a ≡ true → ((n : Name) → Contains names n → n.kind ≡ k → n.iri ≡ a → P) → P
unfolding listed
in_listed [] k a h to = absurd (true≢false (sym h))
in_listed (m ∷ names) k a h to =
    by_either _ _ h (λ q. let qs = both _ _ q in to m (here m names) (same_kind m.kind k qs.0) (same_text m.iri a (sym qs.1)))
    (λ q. in_listed names k a q (λ n l e f. to n (later m n names l) e f))

pub covers_from : (s : Scope) (names : List Name) → ((n : Name) → Contains names n → s n.kind n.iri ≡ true) → covers s names ≡ true
unfolding covers
covers_from s [] h = refl
covers_from s (n ∷ names) h = λ i. h n (here n names) i && covers_from s names (λ m k. h m (later n m names k)) i

pub covers_at : (s : Scope) (names : List Name) (n : Name) → covers s names ≡ true → Contains names n → s n.kind n.iri ≡ true
unfolding covers
covers_at s [] n h k = not_in_nothing n k
covers_at s (m ∷ names) n h k = let hs = both _ _ h in by_place m n names k (λ e. subst (λ w. s w.kind w.iri ≡ true) e hs.0) (λ l. covers_at s names n hs.1 l)

-- the names of an axiom are among those of the axioms
pub name_of_axiom : (axioms : List Axiom) (a : Axiom) (n : Name) → Contains axioms a → Contains (body_names a.body) n → Contains (names_of axioms) n
unfolding names_of
name_of_axiom axioms a n h k = in_flat (λ a. body_names a.body) a n axioms h k

pub axiom_of_name : {P : Type 0} (axioms : List Axiom) (n : Name) → Contains (names_of axioms) n → ((a : Axiom) → Contains axioms a → Contains (body_names a.body) n → P) → P
unfolding names_of
axiom_of_name axioms n h to = flat_in (λ a. body_names a.body) n axioms h to

pub covers_axiom : (s : Scope) (axioms : List Axiom) (a : Axiom) → covers s (names_of axioms) ≡ true → Contains axioms a → covers s (body_names a.body) ≡ true
covers_axiom s axioms a h k = covers_from s (body_names a.body) (λ n l. covers_at s (names_of axioms) n h (name_of_axiom axioms a n k l))

pub covers_listed : (names : List Name) → covers (listed names) names ≡ true
covers_listed names = covers_from (listed names) names (λ n k. listed_in names n k)

-- where each axiom is one of the others, so is each name
pub fewer_names : (axioms more : List Axiom) → ((a : Axiom) → Contains axioms a → Contains more a) → (k : Kind) (b : List ℕ) → listed (names_of axioms) k b ≡ true → listed (names_of more) k b ≡ true
fewer_names axioms more sub k b h =
    in_listed (names_of axioms) k b h (λ n l e f. axiom_of_name axioms n l (λ a m at. subst (λ x. listed (names_of more) x b ≡ true) e (subst (λ y. listed (names_of more) n.kind y ≡ true) f
    (listed_in (names_of more) n (name_of_axiom more a n (sub a m) at)))))

-- ---- parts of a list that a scope covers

pub covers_append : (s : Scope) (xs ys : List Name) → covers s (xs ++ ys) ≡ true → (covers s xs ≡ true) × (covers s ys ≡ true)
unfolding covers
covers_append s xs ys h = both _ _ (sym (list_all-append (λ n. s n.kind n.iri) xs ys) ∙ h)

pub covers_cons : (s : Scope) (n : Name) (ns : List Name) → covers s (n ∷ ns) ≡ true → (s n.kind n.iri ≡ true) × (covers s ns ≡ true)
unfolding covers
covers_cons s n ns h = both _ _ h

-- the names of an expression by its outermost layer
pub names_layer : (x : ClassExpr-F ClassExpr) → names_in (roll-ClassExpr x) ≡ names_step (map-ClassExpr _ _ names_in x)
unfolding names_in
names_layer x = fold-roll-ClassExpr (List Name) names_step x
