-- A signature that grows keeps what it began with.
use Rattle.std.proofs.Common.{◌≡◌, ℕ, Bool, true, false, cond, List, [], ◌∷◌, ◌++◌, Result, Ok, Err, OnOk, OnErr, length, take, refl, sym, ap, subst, arith}
use Rattle.owl_axioms.specs.declared.name.Kind.{Kind}
use Rattle.owl_axioms.specs.declared.name.Kind.TheVariants as kind
use Rattle.owl_axioms.specs.Signature.{SigState, add_name, has_text, with_text}
use Rattle.owl_axioms.specs.inner.Growth.{Begins, IsMore}

begins_self : (xs : List (List ℕ)) → Begins xs xs
begins_self [] = refl
begins_self (x ∷ xs) = ap (λ ys. x ∷ ys) (begins_self xs)

abbrev rest : List (List ℕ) → List (List ℕ)
rest [] = []
rest (x ∷ xs) = xs

begins_append : (first xs ys : List (List ℕ)) → Begins first xs → Begins first (xs ++ ys)
begins_append [] xs ys h = refl
begins_append (f ∷ first) [] ys h = absurd (let e = ap length h in omega (arith, e))
begins_append (f ∷ first) (x ∷ xs) ys h = λ i. head_of h i ∷ begins_append first xs ys (ap rest h) i
  where
    first_of' : List (List ℕ) → List ℕ
    first_of' [] = []
    first_of' (z ∷ zs) = z

    head_of : x ∷ take (length first) xs ≡ f ∷ first → x ≡ f
    head_of e = ap first_of' e

begins_with : (first xs : List (List ℕ)) (x : List ℕ) → Begins first xs → Begins first (with_text xs x)
begins_with first xs x h = by (has_text xs x)
  where
    by : (b : Bool) → Begins first (cond b xs (xs ++ x ∷ []))
    by true = h
    by false = begins_append first xs (x ∷ []) h

pub more_self : (s : SigState) → IsMore s s
unfolding IsMore
more_self s = (begins_self s.classes, begins_self s.roles, begins_self s.individuals)

more_add : (t s : SigState) (k : Kind) (a : List ℕ) → IsMore t s → IsMore t (add_name s k a)
unfolding IsMore
more_add t s kind.Class a h = (begins_with t.classes s.classes a h.0, h.1, h.2)
more_add t s kind.Role a h = (h.0, begins_with t.roles s.roles a h.1, h.2)
more_add t s kind.Individual a h = (h.0, h.1, begins_with t.individuals s.individuals a h.2)
more_add t s kind.AnnotationProperty a h = h

pub more_put : {X E : Type 0} (r : Result X E) (s n : SigState) (k : Kind) (a : List ℕ) → OnOk r (n ≡ add_name s k a) → OnErr r (n ≡ s) → (t : SigState) → IsMore t s → IsMore t n
more_put (Ok x) s n k a ok err t h = subst (IsMore t) (sym ok) (more_add t s k a h)
more_put (Err e) s n k a ok err t h = subst (IsMore t) (sym err) h

abbrev pub cut_to : SigState → SigState → SigState
cut_to s n = record { classes = take (length s.classes) n.classes; roles = take (length s.roles) n.roles; individuals = take (length s.individuals) n.individuals }

pub cut_back : (s n : SigState) → IsMore s n → cut_to s n ≡ s
unfolding IsMore
cut_back s n h = λ i. record { classes = h.0 i; roles = h.1 i; individuals = h.2 i }
