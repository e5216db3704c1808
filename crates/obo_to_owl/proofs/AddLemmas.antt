-- Entries that are added one after the other.
use Rattle.std.proofs.Common.{◌≡◌, ℕ, zero, suc, ◌+◌, ◌<◌, ◌≤◌, List, [], ◌∷◌, ◌++◌, length, get_or, take, refl, sym, ap, subst, ◌∙◌, arith, inl, inr, take_all}
use Rattle.std.specs.List.{flat_map}
use Rattle.std.proofs.lemmas.Grind.{flat_map-append}
use Rattle.text_sets.specs.Sets.{In}
use Rattle.owl_ontology.specs.Ontology.{Entry, OntologyState, add_entry}
use Rattle.obo_notes.proofs.LoopLemmas.{next_taken}
use Rattle.obo_to_owl.specs.inner.Adding.{AreAdded, add_all}

pub In-at : {X : Type 0} (xs : List X) (at : ℕ) (x : X) → at < length xs → x ≡ get_or xs at x → In x xs
In-at [] at x within is = absurd (omega arith)
In-at (z ∷ xs) zero x within is = inl (sym is)
In-at (z ∷ xs) (suc at) x within is = inr (In-at xs at x (omega arith) is)

append_nothing : {Y : Type 0} (ys : List Y) → ys ++ [] ≡ ys
append_nothing [] = refl
append_nothing (y ∷ ys) = ap (λ more. y ∷ more) (append_nothing ys)

pub add_all-then : (some others entries : List Entry) → add_all (some ++ others) entries ≡ add_all others (add_all some entries)
add_all-then [] others entries = refl
add_all-then (e ∷ some) others entries = add_all-then some others (add_entry e.axiom e.origin entries)

pub AreAdded-then : (before between after : OntologyState) (some others : List Entry) → AreAdded before between some → AreAdded between after others → AreAdded before after (some ++ others)
AreAdded-then before between after some others one two = record {
  name = two.name ∙ one.name;
  entries = two.entries ∙ ap (add_all others) one.entries ∙ sym (add_all-then some others before.entries);
}

-- each item brings entries
pub AreAdded-more : {X : Type 0} (f : X → List Entry) (xs : List X) (at : ℕ) (x : X) (before between after : OntologyState) → at < length xs → x ≡ get_or xs at x → AreAdded before between (flat_map f (take at xs)) → AreAdded between after (f x) → AreAdded before after (flat_map f (take (at + 1) xs))
AreAdded-more f xs at x before between after within is so_far next =
    let told = ap (flat_map f) (next_taken xs at x within is) ∙ flat_map-append f (take at xs) (x ∷ []) ∙ ap (λ ys. flat_map f (take at xs) ++ ys) (append_nothing (f x)) in
    subst (AreAdded before after) (sym told) (AreAdded-then before between after (flat_map f (take at xs)) (f x) so_far next)

pub AreAdded-all : {X : Type 0} (f : X → List Entry) (xs : List X) (at : ℕ) (before after : OntologyState) → length xs ≤ at → AreAdded before after (flat_map f (take at xs)) → AreAdded before after (flat_map f xs)
AreAdded-all f xs at before after ended so_far = subst (λ ys. AreAdded before after (flat_map f ys)) (take_all at xs ended) so_far
