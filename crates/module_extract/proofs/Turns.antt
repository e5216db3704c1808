-- An axiom that joins leaves a part of each closed part.
use Rattle.std.proofs.Common.{◌≡◌, ℕ, zero, suc, Bool, true, false, ◌&&◌, ◌||◌, List, [], ◌∷◌, ◌++◌, Some, slice_get, slice_set, refl, sym, ap, subst, ◌∙◌, true≢false, length-set}
use Rattle.std.specs.Str.{bytes_eq}
use Rattle.owl_axioms.specs.contracts.name.KindPartialEq.TheImpl as kind_eq
use Rattle.owl_axioms.specs.declared.body.Axiom.{Axiom}
use Rattle.owl_axioms.specs.declared.name.Kind.{Kind}
use Rattle.owl_axioms.specs.declared.name.Name.{Name}
use Rattle.owl_ontology.specs.Ontology.{flagged}
use Rattle.owl_axioms.specs.Names.{Scope, body_names, has_meaning, listed, meaningful, names_of}
use Rattle.rel_io.proofs.Options.{none_there, same_there}
use Rattle.owl_axioms.specs.Signature.{SigState, added, scope_of}
use Rattle.owl_axioms.proofs.Signatures.{scope_added}
use Rattle.locality_tables.specs.Local.{is_local}
use Rattle.locality_tables.proofs.Monotone.{local_meaning, tests_stay}
use Rattle.module_extract.specs.Module.{Fills, seed_and}
use Rattle.module_extract.specs.inner.Work.{IsGrowing, tests_local}
use Rattle.module_extract.proofs.Flags.{by_flag, smaller}

listed_append : (xs ys : List Name) (k : Kind) (a : List ℕ) → listed (xs ++ ys) k a ≡ (listed xs k a || listed ys k a)
unfolding listed
listed_append [] ys k a = refl
listed_append (x ∷ xs) ys k a = ap (λ b. (kind_eq.ghosts.eq x.kind k && bytes_eq x.iri a) || b) (listed_append xs ys k a) ∙ assoc _ (listed xs k a) (listed ys k a)
  where
    assoc : (a b c : Bool) → (a || (b || c)) ≡ ((a || b) || c)
    assoc true b c = refl
    assoc false b c = refl

-- one flag more is one axiom's names more
more_names : (axioms : List Axiom) (flags : List Bool) (at : ℕ) (x : Axiom) → slice_get axioms at ≡ Some x → slice_get flags at ≡ Some false → (k : Kind) (a : List ℕ)
    → listed (names_of (flagged (slice_set flags at true) axioms)) k a ≡ (listed (names_of (flagged flags axioms)) k a || listed (body_names x.body) k a)
unfolding names_of
more_names [] flags at x h f k a = absurd (none_there h)
more_names (y ∷ axioms) [] at x h f k a = absurd (none_there f)
more_names (y ∷ axioms) (true ∷ flags) zero x h f k a = absurd (true≢false (same_there f))
more_names (y ∷ axioms) (false ∷ flags) zero x h f k a =
    listed_append (body_names y.body) (names_of (flagged flags axioms)) k a ∙ comm _ (listed (names_of (flagged flags axioms)) k a) ∙ ap (λ z. listed (names_of (flagged flags axioms)) k a || listed (body_names z.body) k a) (same_there h)
  where
    comm : (b c : Bool) → (b || c) ≡ (c || b)
    comm true true = refl
    comm true false = refl
    comm false true = refl
    comm false false = refl
more_names (y ∷ axioms) (true ∷ flags) (suc at) x h f k a =
    listed_append (body_names y.body) (names_of (flagged (slice_set flags at true) axioms)) k a
    ∙ ap (λ b. listed (body_names y.body) k a || b) (more_names axioms flags at x h f k a)
    ∙ assoc (listed (body_names y.body) k a) (listed (names_of (flagged flags axioms)) k a) (listed (body_names x.body) k a)
    ∙ ap (λ b. b || listed (body_names x.body) k a) (sym (listed_append (body_names y.body) (names_of (flagged flags axioms)) k a))
  where
    assoc : (a b c : Bool) → (a || (b || c)) ≡ ((a || b) || c)
    assoc true b c = refl
    assoc false b c = refl
more_names (y ∷ axioms) (false ∷ flags) (suc at) x h f k a = more_names axioms flags at x h f k a

-- a flag that is set is the new one or an old one
set_other : (flags : List Bool) (at i : ℕ) {P : Type 0} → slice_get (slice_set flags at true) i ≡ Some true → (i ≡ at → P) → (slice_get flags i ≡ Some true → P) → P
set_other [] at i h new old = absurd (none_there h)
set_other (f ∷ flags) zero zero h new old = new refl
set_other (f ∷ flags) zero (suc i) h new old = old h
set_other (f ∷ flags) (suc at) zero h new old = old h
set_other (f ∷ flags) (suc at) (suc i) h new old = set_other flags at i h (λ e. new (ap suc e)) old

module _ (k : Fills) (axioms : List Axiom) (part : List Bool) (seed : Scope) where
  abbrev Growing : List Bool → SigState → Type 0
  Growing kept names = IsGrowing k axioms part seed kept names

  -- the test over the names as kept is the test over the seed and the names of the part
  pub same_test : (kept : List Bool) (names : SigState) → Growing kept names → (a : Axiom) → tests_local k names a ≡ is_local k.classes k.roles (seed_and seed axioms kept) a.body
  same_test kept names g a = ap (λ s. is_local k.classes k.roles s a.body) g.names_are ∙ local_meaning k.classes k.roles (seed_and seed axioms kept) a.body

  pub joins : (kept : List Bool) (names : SigState) (at : ℕ) (x : Axiom) → Growing kept names → slice_get axioms at ≡ Some x → slice_get part at ≡ Some true → slice_get kept at ≡ Some false → tests_local k names x ≡ false
      → Growing (slice_set kept at true) (added names (body_names x.body))
  joins kept names at x g here of' off outer = record {
    same_length = length-set kept at true ∙ g.same_length;
    is_part = λ i h. set_other kept at i h (λ e. subst (λ j. slice_get part j ≡ Some true) (sym e) of') (λ o. g.is_part i o);
    names_are = λ i l a. one l a i;
    least = λ other closed i h. set_other kept at i h
        (λ e. by_flag other axioms x at closed.same_length here (λ q. subst (λ j. slice_get other j ≡ Some true) (sym e) q)
        (λ q. absurd (true≢false (
        sym (tests_stay k.classes k.roles (seed_and seed axioms kept) (seed_and seed axioms other) (smaller axioms seed kept other (g.least other closed)) x.body (closed.outside at x here of' q))
        ∙ sym (same_test kept names g x) ∙ outer))))
        (λ o. g.least other closed i o);
  }
    where
      spread : (m s o n : Bool) → ((m && (s || o)) || (m && n)) ≡ (m && (s || (o || n)))
      spread true true o n = refl
      spread true false o n = refl
      spread false s o n = refl

      one : (l : Kind) (a : List ℕ) → scope_of (added names (body_names x.body)) l a ≡ meaningful (seed_and seed axioms (slice_set kept at true)) l a
      one l a =
          scope_added names (body_names x.body) l a
          ∙ ap (λ s. s l a || (has_meaning l && listed (body_names x.body) l a)) g.names_are
          ∙ spread (has_meaning l) (seed l a) (listed (names_of (flagged kept axioms)) l a) (listed (body_names x.body) l a)
          ∙ ap (λ b. has_meaning l && (seed l a || b)) (sym (more_names axioms kept at x here off l a))
