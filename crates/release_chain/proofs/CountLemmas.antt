-- Axioms counted one by one.
use Rattle.std.proofs.Common.{◌≡◌, ◌+◌, ◌^◌, ◌<◌, ◌≤◌, ℕ, Bool, true, false, cond, List, [], ◌∷◌, ◌++◌, Some, add-one, ap, arith, filter, length, refl, sym, slice_get, suc, zero, take, take_all, ◌∙◌}
use Rattle.owl_axioms.specs.declared.body.Axiom.{Axiom}
use Rattle.owl_axioms.specs.declared.body.Body.{Body}
use Rattle.owl_axioms.specs.declared.body.Body.TheVariants as body
use Rattle.owl_axioms.proofs.Adding.{take_suc}
use Rattle.owl_sem.specs.Models.{is_logical}
use Rattle.release_report.specs.declared.entry.Counts.{Counts}
use Rattle.release_chain.specs.Counts.{counts_of, is_declaration, is_note, number_of}
use Rattle.release_chain.specs.inner.Counting.{HaveRoom, counted}

raised : ℕ → Bool → ℕ
raised n true = n + 1
raised n false = n

suc_raised : (n : ℕ) (b : Bool) → suc (raised n b) ≡ raised (suc n) b
unfolding raised
suc_raised n true = omega arith
suc_raised n false = refl

-- the counts with what is said of one body
added : Counts → Body → Counts
added counts said = record {
  logical = raised counts.logical (is_logical said);
  declared = raised counts.declared (is_declaration said);
  notes = raised counts.notes (is_note said);
}

one_more : (counts : Counts) (said : Body) → counted counts said ≡ added counts said
unfolding is_logical is_declaration is_note added raised
one_more counts (body.Sub c d) = refl
one_more counts (body.Equiv c d) = refl
one_more counts (body.Disjoint c d) = refl
one_more counts (body.SubRole r s) = refl
one_more counts (body.Chain r s t) = refl
one_more counts (body.EquivRoles r s) = refl
one_more counts (body.DisjointRoles r s) = refl
one_more counts (body.Inverse r s) = refl
one_more counts (body.Transitive r) = refl
one_more counts (body.Reflexive r) = refl
one_more counts (body.Symmetric r) = refl
one_more counts (body.Asymmetric r) = refl
one_more counts (body.Functional r) = refl
one_more counts (body.InverseFunctional r) = refl
one_more counts (body.Domain r c) = refl
one_more counts (body.Range r c) = refl
one_more counts (body.ClassAssertion c i) = refl
one_more counts (body.RoleAssertion r i j) = refl
one_more counts (body.Declaration n) = refl
one_more counts (body.Note n p v) = refl
one_more counts (body.OntologyNote p v) = refl

-- the last of a list
last_counted : (test : Body → Bool) (xs : List Axiom) (x : Axiom) → number_of test (xs ++ x ∷ []) ≡ raised (number_of test xs) (test x.body)
unfolding raised
last_counted test [] x = by_test (test x.body)
  where
    by_test : (b : Bool) → length (cond b (x ∷ []) []) ≡ raised 0 b
    by_test true = refl
    by_test false = refl
last_counted test (y ∷ ys) x = by_test (test y.body) (last_counted test ys x)
  where
    by_test : (b : Bool) → number_of test (ys ++ x ∷ []) ≡ raised (number_of test ys) (test x.body) → length (cond b (y ∷ filter (λ a. test a.body) (ys ++ x ∷ [])) (filter (λ a. test a.body) (ys ++ x ∷ []))) ≡ raised (length (cond b (y ∷ filter (λ a. test a.body) ys) (filter (λ a. test a.body) ys))) (test x.body)
    by_test true is = ap suc is ∙ suc_raised (number_of test ys) (test x.body)
    by_test false is = is

few : (test : Body → Bool) (xs : List Axiom) (at : ℕ) → number_of test (take at xs) ≤ at
few test xs zero = omega arith
few test [] (suc at) = omega arith
few test (x ∷ xs) (suc at) = by_test (test x.body) (few test xs at)
  where
    by_test : (b : Bool) → number_of test (take at xs) ≤ at → length (cond b (x ∷ filter (λ a. test a.body) (take at xs)) (filter (λ a. test a.body) (take at xs))) ≤ suc at
    by_test true is = omega (arith, is)
    by_test false is = omega (arith, is)

pub has_room : (axioms : List Axiom) (at : ℕ) → at + 1 < 2 ^ 64 → HaveRoom (counts_of (take at axioms))
has_room axioms at room = record {
  logical = let f = few is_logical axioms at in omega (arith, f, room);
  declared = let f = few is_declaration axioms at in omega (arith, f, room);
  notes = let f = few is_note axioms at in omega (arith, f, room);
}

pub counted_more : (axioms : List Axiom) (at : ℕ) (one : Axiom) → slice_get axioms at ≡ Some one → counted (counts_of (take at axioms)) one.body ≡ counts_of (take (at + 1) axioms)
unfolding added
counted_more axioms at one is =
    one_more (counts_of (take at axioms)) one.body
    ∙ (λ i. record {
      logical = sym (last_counted is_logical (take at axioms) one) i;
      declared = sym (last_counted is_declaration (take at axioms) one) i;
      notes = sym (last_counted is_note (take at axioms) one) i;
    })
    ∙ ap counts_of (sym (ap (λ n. take n axioms) (add-one at) ∙ take_suc axioms at one is))

pub counted_all : (axioms : List Axiom) (at : ℕ) → length axioms ≤ at → counts_of (take at axioms) ≡ counts_of axioms
counted_all axioms at ended = ap counts_of (take_all at axioms ended)
