-- How many numbers below n pass a test.
use Rattle.std.proofs.Common.{◌≡◌, ℕ, zero, suc, ◌+◌, ◌<◌, ◌≤◌, Bool, true, false, cond, refl, sym, ap, ◌∙◌, arith, zero-add, if◌then◌else◌, ⊎_elim}
use Rattle.std.proofs.lemmas.Bool.{cases_lt}
use Rattle.owl_sem.specs.Interp.{number_of}

pub none_of : (p : ℕ → Bool) (n : ℕ) → ((f : ℕ) → f < n → p f ≡ false) → number_of p n ≡ 0
none_of p zero h = refl
none_of p (suc n) h = rw (h n (omega arith), none_of p n (λ f l. h f (omega arith))) refl

pub some_of : (p : ℕ → Bool) (n e : ℕ) → e < n → p e ≡ true → 1 ≤ number_of p n
some_of p zero e l h = absurd (omega arith)
some_of p (suc n) e l h = ⊎_elim
    (λ (below : e < n). omega (arith, some_of p n e below h))
    (λ (last : n ≤ e). let at : e ≡ n = omega arith in let here : p n ≡ true = ap p (sym at) ∙ h in rw here (omega arith))
    (cases_lt e n)

-- where only e may pass, the number is e's own
pub one_of : (p : ℕ → Bool) (n e : ℕ) → e < n → ((f : ℕ) → f < n → (f ≡ e → ⊥) → p f ≡ false) → number_of p n ≡ cond (p e) 1 0
one_of p zero e l h = absurd (omega arith)
one_of p (suc n) e l h = ⊎_elim
    (λ (below : e < n).
    let here : p n ≡ false = h n (omega arith) (λ same. omega arith) in
    rw (here, zero-add) (one_of p n e below (λ f fl other. h f (omega arith) other)))
    (λ (last : n ≤ e).
    let at : e ≡ n = omega arith in
    let rest : number_of p n ≡ 0 = none_of p n (λ f fl. h f (omega arith) (λ same. omega arith)) in
    rw (rest, at) (omega arith))
    (cases_lt e n)

-- where some number below n passes, one can be shown
pub from_some : (p : ℕ → Bool) (n : ℕ) → 1 ≤ number_of p n → (f : ℕ) × (f < n) × (p f ≡ true)
from_some p zero h = absurd (omega (arith, h))
from_some p (suc n) h = by (from_some p n) (p n) refl
  where
    by : (1 ≤ number_of p n → (f : ℕ) × (f < n) × (p f ≡ true)) → (b : Bool) → p n ≡ b → (f : ℕ) × (f < suc n) × (p f ≡ true)
    by below true e = (n, omega arith, e)
    by below false e =
        let more : number_of p (suc n) ≡ number_of p n = ap (λ b. (if b then 1 else 0) + number_of p n) e ∙ zero-add (number_of p n) in
        let found = below (omega (arith, h, more)) in
        (found.0, let l = found.1 in omega arith, found.2)

-- where none passes, none does
pub from_none : (p : ℕ → Bool) (n f : ℕ) → number_of p n ≡ 0 → f < n → p f ≡ false
from_none p n f h l = by (p f) refl
  where
    by : (b : Bool) → p f ≡ b → p f ≡ false
    by true e = absurd (omega (arith, h, some_of p n f l e))
    by false e = e
