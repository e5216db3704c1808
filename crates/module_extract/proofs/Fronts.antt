-- Names enter the front of a module.
use Rattle.std.proofs.Common.{◌≡◌, ℕ, zero, suc, ◌+◌, ◌<◌, ◌≤◌, ◌&&◌, ◌||◌, Bool, true, false, not, cond, List, [], ◌∷◌, ◌++◌, Contains, None, Some, inl, inr, get_or, length, replicate, slice_get, slice_set, take, refl, sym, ap, subst, ◌∙◌, add-one, true≢false, length-set, arith}
use Rattle.std.specs.Str.{bytes_eq}
use Rattle.fact_rows.specs.Member.{In, here}
use Rattle.fact_rows.proofs.Members.{by_bool, in_cons, in_left, in_none, in_parts, in_right}
use Rattle.name_lists.proofs.ListLemmas.{long_more}
use Rattle.name_lists.proofs.NamedLemmas.{name_itself}
use Rattle.name_lists.specs.Lists.{HaveLists, NamedState, number_count, place_of, same_name}
use Rattle.owl_axioms.proofs.Adding.{take_suc}
use Rattle.owl_axioms.proofs.Listed.{append_in, by_place, in_listed, not_in_nothing, same_kind}
use Rattle.owl_axioms.proofs.Signatures.{scope_added}
use Rattle.owl_axioms.specs.Names.{has_meaning, listed}
use Rattle.owl_axioms.specs.Signature.{SigState, add_name, added, has_text, scope_of}
use Rattle.owl_axioms.specs.contracts.name.KindPartialEq.TheImpl as kind_eq
use Rattle.owl_axioms.specs.declared.expr.ClassExpr.{ClassExpr}
use Rattle.owl_axioms.specs.declared.name.Kind.{Kind}
use Rattle.owl_axioms.specs.declared.name.Kind.TheVariants as kind
use Rattle.owl_axioms.specs.declared.name.Name.{Name}
use Rattle.rel_io.proofs.Options.{none_there, same_there}
use Rattle.locality_core.specs.Verdicts.{IsWithName, StandFor, VerdictState, is_named}
use Rattle.module_extract.proofs.Telling.{either_true, scope_one}
use Rattle.module_extract.specs.Module.{Fills, on_count}
use Rattle.module_extract.specs.inner.Front.{Entered, FrontState, IsFront, fresh_sum, waiting_sum}
use Rattle.module_extract.specs.inner.Setting.{is_new}

-- ---- flags and sums

flag_cases : {P : Type 0} (fs : List Bool) (i : ℕ) → i < length fs → (slice_get fs i ≡ Some true → P) → (slice_get fs i ≡ Some false → P) → P
flag_cases [] i l is isnt = absurd (omega (arith, l))
flag_cases (true ∷ fs) zero l is isnt = is refl
flag_cases (false ∷ fs) zero l is isnt = isnt refl
flag_cases (f ∷ fs) (suc i) l is isnt = flag_cases fs i (omega (arith, l)) is isnt

on_unset : (fs : List Bool) (at : ℕ) → slice_get fs at ≡ Some true → on_count (slice_set fs at false) + 1 ≡ on_count fs
on_unset [] at h = absurd (none_there h)
on_unset (true ∷ fs) zero h = omega arith
on_unset (false ∷ fs) zero h = absurd (true≢false (sym (same_there h)))
on_unset (f ∷ fs) (suc at) h = let rest = on_unset fs at h in omega (arith, rest)

unset_from : {P : Type 0} (fs : List Bool) (at s : ℕ) → slice_get (slice_set fs at false) s ≡ Some false → (s ≡ at → P) → (slice_get fs s ≡ Some false → P) → P
unset_from [] at s h new old = absurd (none_there h)
unset_from (f ∷ fs) zero zero h new old = new refl
unset_from (f ∷ fs) zero (suc s) h new old = old h
unset_from (f ∷ fs) (suc at) zero h new old = old h
unset_from (f ∷ fs) (suc at) (suc s) h new old = unset_from fs at s h (λ e. new (ap suc e)) old

sum_unset : (fs : List Bool) (lists : List (List ℕ)) (at : ℕ) → length fs ≡ length lists → slice_get fs at ≡ Some true → fresh_sum (slice_set fs at false) lists + length (get_or lists at []) ≡ fresh_sum fs lists
sum_unset [] lists at l h = absurd (none_there h)
sum_unset (f ∷ fs) [] at l h = absurd (omega (arith, l))
sum_unset (true ∷ fs) (x ∷ lists) zero l h = omega arith
sum_unset (false ∷ fs) (x ∷ lists) zero l h = absurd (true≢false (sym (same_there h)))
sum_unset (f ∷ fs) (x ∷ lists) (suc at) l h = let rest = sum_unset fs lists at (omega (arith, l)) h in omega (arith, rest)

pub sum_more : (lists : List (List ℕ)) (waiting : List ℕ) (at : ℕ) → waiting_sum lists (waiting ++ at ∷ []) ≡ waiting_sum lists waiting + length (get_or lists at [])
sum_more lists [] at = omega arith
sum_more lists (s ∷ waiting) at = let rest = sum_more lists waiting at in omega (arith, rest)

pub sum_first : (lists : List (List ℕ)) → fresh_sum (replicate (length lists) true) lists ≡ number_count lists
sum_first [] = refl
sum_first (l ∷ lists) = ap (λ n. length l + n) (sum_first lists)

never_false : (n s : ℕ) {P : Type 0} → slice_get (replicate n true) s ≡ Some false → P
never_false zero s h = absurd (none_there h)
never_false (suc n) zero h = absurd (true≢false (same_there h))
never_false (suc n) (suc s) h = never_false n s h

long_replicate : (n : ℕ) → length (replicate n true) ≡ n
long_replicate zero = refl
long_replicate (suc n) = ap suc (long_replicate n)

pub front_first : (k : Fills) (trees : List ClassExpr) (table : NamedState) (names : SigState) (verdicts : VerdictState) (fresh : List Bool) (waiting : List ℕ) → StandFor k.classes k.roles (scope_of names) trees verdicts
    → fresh ≡ replicate (length table.lists) true → waiting ≡ [] → IsFront k trees table (record { names = names; verdicts = verdicts; fresh = fresh; waiting = waiting })
front_first k trees table names verdicts fresh waiting stand is none = record {
  stand = stand;
  long = ap length is ∙ long_replicate (length table.lists);
  entered = λ s n h at. never_false (length table.lists) s (subst (λ fs. slice_get fs s ≡ Some false) is h);
  waits = λ s h. in_none (subst (λ ws. In s ws) none h);
}

-- ---- a name more in a signature

add_known : (s : SigState) (n : Name) → is_new s n ≡ false → add_name s n.kind n.iri ≡ s
add_known s n h = by n.kind h
  where
    same : (ts : List (List ℕ)) (b : Bool) → (true && not b) ≡ false → cond b ts (ts ++ n.iri ∷ []) ≡ ts
    same ts true e = refl
    same ts false e = absurd (true≢false e)

    by : (k : Kind) → (has_meaning k && not (scope_of s k n.iri)) ≡ false → add_name s k n.iri ≡ s
    by kind.Class e = let t = same s.classes (has_text s.classes n.iri) e in λ i. record s { classes = t i }
    by kind.Role e = let t = same s.roles (has_text s.roles n.iri) e in λ i. record s { roles = t i }
    by kind.Individual e = let t = same s.individuals (has_text s.individuals n.iri) e in λ i. record s { individuals = t i }
    by kind.AnnotationProperty e = refl

meaning_of : (s : SigState) (n : Name) → is_new s n ≡ true → has_meaning n.kind ≡ true
meaning_of s n h = by (has_meaning n.kind) h
  where
    by : (m : Bool) → (m && not (scope_of s n.kind n.iri)) ≡ true → m ≡ true
    by true e = refl
    by false e = absurd (true≢false (sym e))

outside_of : (s : SigState) (n : Name) → is_new s n ≡ true → scope_of s n.kind n.iri ≡ false
outside_of s n h = by (has_meaning n.kind) (scope_of s n.kind n.iri) h
  where
    by : (m b : Bool) → (m && not b) ≡ true → b ≡ false
    by true true e = absurd (true≢false (sym e))
    by true false e = refl
    by false b e = absurd (true≢false (sym e))

pub with_meant : (s s' : SigState) (n : Name) → s' ≡ add_name s n.kind n.iri → has_meaning n.kind ≡ true → IsWithName (scope_of s) (scope_of s') n
with_meant s s' n is m k a = ap (λ t. scope_of t k a) is ∙ scope_one s n k a ∙ ap (λ b. scope_of s k a || b) (meant (kind_eq.ghosts.eq n.kind k) refl)
  where
    none : (b : Bool) → (b && false) ≡ false
    none true = refl
    none false = refl

    meant : (b : Bool) → kind_eq.ghosts.eq n.kind k ≡ b → (has_meaning k && (kind_eq.ghosts.eq n.kind k && bytes_eq n.iri a)) ≡ is_named n k a
    meant true e = ap (λ b. b && (kind_eq.ghosts.eq n.kind k && bytes_eq n.iri a)) (ap has_meaning (sym (same_kind n.kind k e)) ∙ m)
    meant false e = ap (λ b. has_meaning k && (b && bytes_eq n.iri a)) e ∙ none (has_meaning k) ∙ sym (ap (λ b. b && bytes_eq n.iri a) e)

pub with_name : (s s' : SigState) (n : Name) → s' ≡ add_name s n.kind n.iri → is_new s n ≡ true → IsWithName (scope_of s) (scope_of s') n
with_name s s' n is h = with_meant s s' n is (meaning_of s n h)

only_name : (name n : Name) → Contains (name ∷ []) n → name ≡ n
only_name name n h = by_place name n [] h (λ e. e) (λ k. not_in_nothing n k)

one_added : (s : SigState) (n : Name) → add_name s n.kind n.iri ≡ added s (n ∷ [])
unfolding added
one_added s n = refl

module _ (k : Fills) (trees : List ClassExpr) (table : NamedState) (name : Name) (f : FrontState) (names' : SigState) (names_are : names' ≡ add_name f.names name.kind name.iri) where
  own_scope : (n : Name) → scope_of names' n.kind n.iri ≡ (scope_of f.names n.kind n.iri || (has_meaning n.kind && same_name name n))
  own_scope n = ap (λ t. scope_of t n.kind n.iri) names_are ∙ scope_one f.names name n.kind n.iri

  or_left : (b c : Bool) → b ≡ true → (b || c) ≡ true
  or_left b c h = ap (λ x. x || c) h

  wider : (n : Name) → scope_of f.names n.kind n.iri ≡ true → scope_of names' n.kind n.iri ≡ true
  wider n h = own_scope n ∙ or_left (scope_of f.names n.kind n.iri) (has_meaning n.kind && same_name name n) h

  pub known_front : is_new f.names name ≡ false → IsFront k trees table f → IsFront k trees table (record { names = names'; verdicts = f.verdicts; fresh = f.fresh; waiting = f.waiting })
  known_front h front = subst (λ s. IsFront k trees table (record { names = s; verdicts = f.verdicts; fresh = f.fresh; waiting = f.waiting })) (sym (names_are ∙ add_known f.names name h)) front

  pub known_entered : is_new f.names name ≡ false → Entered table (name ∷ []) f (record { names = names'; verdicts = f.verdicts; fresh = f.fresh; waiting = f.waiting })
  known_entered h = record {
    names_are = names_are ∙ one_added f.names name;
    stays = λ s w. w;
    waits = λ n s c m out at. absurd (true≢false (sym (λ i. m i && not (out i)) ∙ subst (λ q. is_new f.names q ≡ false) (only_name name n c) h));
    tests = refl;
    lists = refl;
  }

  module _ (fresh_name : is_new f.names name ≡ true) (front : IsFront k trees table f) (have : HaveLists table) (verdicts' : VerdictState) (stand : StandFor k.classes k.roles (scope_of names') trees verdicts') where
    pub none_front : IsFront k trees table (record { names = names'; verdicts = verdicts'; fresh = f.fresh; waiting = f.waiting })
    none_front = record { stand = stand; long = front.long; entered = λ s n h at. wider n (front.entered s n h at); waits = front.waits }

    pub none_entered : place_of table name ≡ None → Entered table (name ∷ []) f (record { names = names'; verdicts = verdicts'; fresh = f.fresh; waiting = f.waiting })
    none_entered none = record {
      names_are = names_are ∙ one_added f.names name;
      stays = λ s w. w;
      waits = λ n s c m out at. absurd (none_there (sym none ∙ ap (place_of table) (only_name name n c) ∙ at));
      tests = refl;
      lists = refl;
    }

    module _ (at : ℕ) (at_is : place_of table name ≡ Some at) where
      within : at < length f.fresh
      within = let l = have.there name at at_is in let e = front.long in omega (arith, l, e)

      was_fresh : slice_get f.fresh at ≡ Some true
      was_fresh = flag_cases f.fresh at within (λ e. e) (λ e. absurd (true≢false (sym (front.entered at name e at_is) ∙ outside_of f.names name fresh_name)))

      is_inside : scope_of names' name.kind name.iri ≡ true
      is_inside = with_name f.names names' name names_are fresh_name name.kind name.iri ∙ last (scope_of f.names name.kind name.iri)
        where
          last : (b : Bool) → (b || is_named name name.kind name.iri) ≡ true
          last true = refl
          last false = name_itself name

      pub some_front : IsFront k trees table (record { names = names'; verdicts = verdicts'; fresh = slice_set f.fresh at false; waiting = f.waiting ++ at ∷ [] })
      some_front = record {
        stand = stand;
        long = length-set f.fresh at false ∙ front.long;
        entered = λ s n h is. unset_from f.fresh at s h
            (λ e. subst (λ q. scope_of names' q.kind q.iri ≡ true) (have.own name n at at_is (is ∙ ap Some e)) is_inside)
            (λ h2. wider n (front.entered s n h2 is));
        waits = λ s w. elim (in_parts f.waiting w) [
          | inl m ↦ front.waits s m
          | inr m ↦ elim (in_cons m) [
            | inl e ↦ subst (λ j. j < length table.lists) (sym e) (have.there name at at_is)
            | inr z ↦ in_none z
          ]
        ];
      }

      pub some_entered : Entered table (name ∷ []) f (record { names = names'; verdicts = verdicts'; fresh = slice_set f.fresh at false; waiting = f.waiting ++ at ∷ [] })
      some_entered = record {
        names_are = names_are ∙ one_added f.names name;
        stays = λ s w. in_left (at ∷ []) w;
        waits = λ n s c m out is. in_right f.waiting (subst (λ j. In j (at ∷ [])) (same_there (sym at_is ∙ ap (place_of table) (only_name name n c) ∙ is)) here);
        tests = let a = sum_unset f.fresh table.lists at front.long was_fresh in let b = sum_more table.lists f.waiting at in omega (arith, a, b);
        lists = let a = on_unset f.fresh at was_fresh in let b = long_more f.waiting at in omega (arith, a, b);
      }

-- ---- names after one another

pub entered_none : (table : NamedState) (f : FrontState) → Entered table [] f f
unfolding added
entered_none table f = record { names_are = refl; stays = λ s w. w; waits = λ n s c m out at. not_in_nothing n c; tests = refl; lists = refl }

added_more : (s : SigState) (ns : List Name) (n : Name) → added s (ns ++ n ∷ []) ≡ added (added s ns) (n ∷ [])
unfolding added
added_more s [] n = refl
added_more s (m ∷ ns) n = added_more (add_name s m.kind m.iri) ns n

module _ (table : NamedState) (ns : List Name) (name : Name) (a b c : FrontState) (first : Entered table ns a b) (second : Entered table (name ∷ []) b c) where
  later : (s : ℕ) → In s a.waiting → In s c.waiting
  later s w = second.stays s (first.stays s w)

  -- a name that is in already entered before
  before : (n : Name) (s : ℕ) → has_meaning n.kind ≡ true → scope_of a.names n.kind n.iri ≡ false → scope_of b.names n.kind n.iri ≡ true → place_of table n ≡ Some s → In s c.waiting
  before n s m out in' at =
      either_true (scope_of a.names n.kind n.iri) (has_meaning n.kind) (listed ns n.kind n.iri)
      (sym (ap (λ t. scope_of t n.kind n.iri) first.names_are ∙ scope_added a.names ns n.kind n.iri) ∙ in')
      (λ e. absurd (true≢false (sym e ∙ out)))
      (λ m2 l. in_listed ns n.kind n.iri l (λ q c2 ke ie. second.stays s (first.waits n s (subst (Contains ns) (same_names q n ke ie) c2) m out at)))
    where
      same_names : (x y : Name) → x.kind ≡ y.kind → x.iri ≡ y.iri → x ≡ y
      same_names x y ke ie = λ i. record { kind = ke i; iri = ie i }

  pub entered_more : Entered table (ns ++ name ∷ []) a c
  entered_more = record {
    names_are = second.names_are ∙ ap (λ s. added s (name ∷ [])) first.names_are ∙ sym (added_more a.names ns name);
    stays = later;
    waits = λ n s h m out at. append_in n ns (name ∷ []) h
        (λ h1. second.stays s (first.waits n s h1 m out at))
        (λ h2. by_bool (scope_of b.names n.kind n.iri)
        (λ (t : scope_of b.names n.kind n.iri ≡ true). before n s m out t at)
        (λ (t : scope_of b.names n.kind n.iri ≡ false). second.waits n s h2 m t at));
    tests = second.tests ∙ first.tests;
    lists = second.lists ∙ first.lists;
  }

pub entered_next : (table : NamedState) (ns : List Name) (k : ℕ) (name : Name) (a b c : FrontState) → slice_get ns k ≡ Some name → Entered table (take k ns) a b → Entered table (name ∷ []) b c → Entered table (take (k + 1) ns) a c
entered_next table ns k name a b c h first second =
    subst (λ ms. Entered table ms a c) (sym (ap (λ m. take m ns) (add-one k) ∙ take_suc ns k name h)) (entered_more table (take k ns) name a b c first second)

take_all : {X : Type 0} (xs : List X) (k : ℕ) → length xs ≤ k → take k xs ≡ xs
take_all [] zero h = refl
take_all [] (suc k) h = refl
take_all (x ∷ xs) zero h = absurd (omega (arith, h))
take_all (x ∷ xs) (suc k) h = ap (λ ys. x ∷ ys) (take_all xs k (omega (arith, h)))

pub entered_all : (table : NamedState) (ns ms : List Name) (k : ℕ) (a b : FrontState) → length ns ≤ k → ns ≡ ms → Entered table (take k ns) a b → Entered table ms a b
entered_all table ns ms k a b l is e = subst (λ xs. Entered table xs a b) (take_all ns k l ∙ is) e
