-- What is shipped with a part: its names and flags axiom by axiom, and that it keeps all axioms where the part keeps the
-- logical ones.
use Rattle.std.proofs.Common.{◌≡◌, ℕ, zero, suc, ◌+◌, add-one, Bool, true, false, not, ◌&&◌, ◌||◌, List, [], ◌∷◌, ◌++◌, Contains, Some, take, slice_get, if◌then◌else◌, refl, sym, ap, ◌∙◌, true≢false}
use Rattle.rel_io.proofs.Options.{none_there, same_there}
use Rattle.owl_axioms.specs.Names.{Scope, body_names, has_meaning, is_signed, listed, names_of}
use Rattle.owl_axioms.specs.Signature.{SigState, added, scope_of}
use Rattle.owl_axioms.specs.declared.body.Axiom.{Axiom}
use Rattle.owl_axioms.specs.declared.body.Body.{Body}
use Rattle.owl_axioms.specs.declared.body.Body.TheVariants as body
use Rattle.owl_axioms.specs.declared.name.Kind.{Kind}
use Rattle.owl_axioms.specs.declared.name.Kind.TheVariants as kind
use Rattle.owl_axioms.specs.declared.name.Name.{Name}
use Rattle.owl_axioms.proofs.Adding.{added_append, append_none, flat_append}
use Rattle.owl_axioms.proofs.Listed.{at_in, in_at}
use Rattle.owl_axioms.proofs.Signatures.{scope_added}
use Rattle.owl_ontology.specs.Ontology.{flagged}
use Rattle.owl_sem.specs.Models.{IsModel, is_logical}
use Rattle.owl_sem.proofs.Keeps.{satisfied_unless}
use Rattle.module_extract.specs.Laws.{ShippedKeeps}
use Rattle.module_extract.specs.Module.{logical_flags, seed_and}
use Rattle.module_extract.specs.Shipped.{is_said, shipped_flags, ships, ships_each}
use Rattle.module_extract.proofs.Flags.{at_place, place_of}

-- ---- one axiom more

flagged_next : {X : Type 0} (flags : List Bool) (xs : List X) (at : ℕ) (f : Bool) (x : X) → slice_get flags at ≡ Some f → slice_get xs at ≡ Some x
    → flagged (take (suc at) flags) (take (suc at) xs) ≡ flagged (take at flags) (take at xs) ++ (if f then x ∷ [] else [])
flagged_next [] xs at f x h k = absurd (none_there h)
flagged_next (g ∷ flags) [] at f x h k = absurd (none_there k)
flagged_next (g ∷ flags) (y ∷ xs) zero f x h k = λ i. if same_there h i then same_there k i ∷ [] else []
flagged_next (true ∷ flags) (y ∷ xs) (suc at) f x h k = ap (λ ys. y ∷ ys) (flagged_next flags xs at f x h k)
flagged_next (false ∷ flags) (y ∷ xs) (suc at) f x h k = flagged_next flags xs at f x h k

added_flag : (s : SigState) (ys : List Axiom) (f : Bool) (x : Axiom) → added s (names_of (ys ++ (if f then x ∷ [] else []))) ≡ (if f then added (added s (names_of ys)) (body_names x.body) else added s (names_of ys))
unfolding names_of
added_flag s ys true x =
    ap (added s) (flat_append (λ a. body_names a.body) ys (x ∷ []) ∙ ap (λ ws. names_of ys ++ ws) (append_none (body_names x.body)))
    ∙ added_append s (names_of ys) (body_names x.body)
added_flag s ys false x = ap (λ zs. added s (names_of zs)) (append_none ys)

-- the names of one axiom more
pub names_next : (s : SigState) (flags : List Bool) (axioms : List Axiom) (at : ℕ) (f : Bool) (x : Axiom) → slice_get flags at ≡ Some f → slice_get axioms at ≡ Some x
    → added s (names_of (flagged (take (at + 1) flags) (take (at + 1) axioms)))
    ≡ (if f then added (added s (names_of (flagged (take at flags) (take at axioms)))) (body_names x.body) else added s (names_of (flagged (take at flags) (take at axioms))))
names_next s flags axioms at f x h k =
    ap (λ n. added s (names_of (flagged (take n flags) (take n axioms)))) (add-one at) ∙ ap (λ ys. added s (names_of ys)) (flagged_next flags axioms at f x h k) ∙ added_flag s (flagged (take at flags) (take at axioms)) f x

-- and its flag
pub ships_next : (s : Scope) (axioms : List Axiom) (flags : List Bool) (at : ℕ) (x : Axiom) (f : Bool) → slice_get axioms at ≡ Some x → slice_get flags at ≡ Some f
    → ships_each s (take (at + 1) axioms) (take (at + 1) flags) ≡ ships_each s (take at axioms) (take at flags) ++ ships s f x.body ∷ []
ships_next s axioms flags at x f h k = ap (λ n. ships_each s (take n axioms) (take n flags)) (add-one at) ∙ by axioms flags at h k
  where
    by : (axioms : List Axiom) (flags : List Bool) (at : ℕ) → slice_get axioms at ≡ Some x → slice_get flags at ≡ Some f → ships_each s (take (suc at) axioms) (take (suc at) flags) ≡ ships_each s (take at axioms) (take at flags) ++ ships s f x.body ∷ []
    by [] flags at h k = absurd (none_there h)
    by (y ∷ axioms) [] at h k = absurd (none_there k)
    by (y ∷ axioms) (g ∷ flags) zero h k = λ i. ships s (same_there k i) (body_of (same_there h i)) ∷ []
      where
        body_of : Axiom → Body
        body_of a = a.body
    by (y ∷ axioms) (g ∷ flags) (suc at) h k = ap (λ ws. ships s g y.body ∷ ws) (by axioms flags at h k)

-- ---- the names of the signature and of the part

said_by : (s t : Scope) (n : Name) → (is_signed n.kind n.iri ≡ true → s n.kind n.iri ≡ t n.kind n.iri) → is_said s n ≡ is_said t n
unfolding is_said
said_by s t n same = by (is_signed n.kind n.iri) same
  where
    always : (b : Bool) → (b || true) ≡ true
    always true = refl
    always false = refl

    by : (m : Bool) → (m ≡ true → s n.kind n.iri ≡ t n.kind n.iri) → (s n.kind n.iri || not m) ≡ (t n.kind n.iri || not m)
    by true h = ap (λ b. b || false) (h refl)
    by false h = always _ ∙ sym (always _)

ships_by : (s t : Scope) (f : Bool) (b : Body) → ((n : Name) → is_said s n ≡ is_said t n) → ships s f b ≡ ships t f b
unfolding ships
ships_by s t f (body.Declaration name) same = same name
ships_by s t f (body.Note subject property value) same = same subject
ships_by s t f (body.OntologyNote property value) same = refl
ships_by s t f b same = refl

each_by : (s t : Scope) (axioms : List Axiom) (flags : List Bool) → ((n : Name) → is_said s n ≡ is_said t n) → ships_each s axioms flags ≡ ships_each t axioms flags
each_by s t [] flags same = refl
each_by s t (a ∷ axioms) [] same = refl
each_by s t (a ∷ axioms) (f ∷ flags) same = λ i. ships_by s t f a.body same i ∷ each_by s t axioms flags same i

meaning_of : (k : Kind) (a : List ℕ) → is_signed k a ≡ true → has_meaning k ≡ true
unfolding is_signed
meaning_of kind.Class a h = refl
meaning_of kind.Role a h = refl
meaning_of kind.Individual a h = refl
meaning_of kind.AnnotationProperty a h = h

-- the flags over the names as they are kept are those over the seed and the part
pub shipped_by : (s names : SigState) (axioms : List Axiom) (kept : List Bool) → names ≡ added s (names_of (flagged kept axioms)) → ships_each (scope_of names) axioms kept ≡ shipped_flags (scope_of s) axioms kept
shipped_by s names axioms kept is = each_by (scope_of names) (seed_and (scope_of s) axioms kept) axioms kept (λ n. said_by (scope_of names) (seed_and (scope_of s) axioms kept) n (λ h.
    let signed = meaning_of n.kind n.iri h in
    ap (λ z. scope_of z n.kind n.iri) is ∙ scope_added s (names_of (flagged kept axioms)) n.kind n.iri ∙ (λ i. scope_of s n.kind n.iri || (signed i && listed (names_of (flagged kept axioms)) n.kind n.iri))))

-- ---- what is shipped keeps all axioms

logical_at : (axioms : List Axiom) (at : ℕ) (a : Axiom) → slice_get axioms at ≡ Some a → slice_get (logical_flags axioms) at ≡ Some (is_logical a.body)
logical_at [] at a h = absurd (none_there h)
logical_at (x ∷ axioms) zero a h = ap (λ y. Some (logic_of y)) (same_there h)
  where
    logic_of : Axiom → Bool
    logic_of y = is_logical y.body
logical_at (x ∷ axioms) (suc at) a h = logical_at axioms at a h

ships_at : (s : Scope) (axioms : List Axiom) (flags : List Bool) (at : ℕ) (a : Axiom) (f : Bool) → slice_get axioms at ≡ Some a → slice_get flags at ≡ Some f → slice_get (ships_each s axioms flags) at ≡ Some (ships s f a.body)
ships_at s [] flags at a f h k = absurd (none_there h)
ships_at s (x ∷ axioms) [] at a f h k = absurd (none_there k)
ships_at s (x ∷ axioms) (g ∷ flags) zero a f h k = λ i. Some (ships s (same_there k i) (body_of (same_there h i)))
  where
    body_of : Axiom → Body
    body_of y = y.body
ships_at s (x ∷ axioms) (g ∷ flags) (suc at) a f h k = ships_at s axioms flags at a f h k

ships_logical : (s : Scope) (f : Bool) (b : Body) → is_logical b ≡ true → ships s f b ≡ f
unfolding ships is_logical
ships_logical s f (body.Declaration name) h = absurd (true≢false (sym h))
ships_logical s f (body.Note subject property value) h = absurd (true≢false (sym h))
ships_logical s f (body.OntologyNote property value) h = absurd (true≢false (sym h))
ships_logical s f b h = refl

flagged_in : {X : Type 0} (flags : List Bool) (xs : List X) (x : X) → Contains (flagged flags xs) x → Contains xs x
flagged_in flags xs x h = place_of flags xs x h (λ at p q. in_at xs at x p)

pub shipped_keeps : ShippedKeeps
shipped_keeps axioms seed kept long logic s keeps = record {
  follows = λ i m. record { some = m.some; each = λ a h. m.each a (flagged_in (shipped_flags seed axioms kept) axioms a h) };
  extends = λ i m.
      let part : IsModel i (flagged kept axioms) = record {
        some = m.some;
        each = λ a h. place_of kept axioms a h (λ at p q.
            let is : is_logical a.body ≡ true = same_there (sym (logical_at axioms at a p) ∙ logic at q) in
            m.each a (at_place (shipped_flags seed axioms kept) axioms a at p (ships_at (seed_and seed axioms kept) axioms kept at a true p q ∙ ap Some (ships_logical (seed_and seed axioms kept) true a.body is))));
      } in
      let j = keeps.extends i part in (
        j.0,
        (
          record {
            some = j.1.0.some;
            each = λ a h. satisfied_unless j.0 a.body (λ is. let found = at_in axioms a h in
                j.1.0.each a (at_place (logical_flags axioms) axioms a found.0 found.1 (logical_at axioms found.0 a found.1 ∙ ap Some is)));
          },
          j.1.1,
        ),
      );
}
