-- What is left of a table where each entry has a flag.
use Rattle.std.proofs.Common.{◌≡◌, ℕ, zero, suc, Bool, true, false, cond, ◌&&◌, List, [], ◌∷◌, drop, take, refl, sym, ap, ◌∙◌}
use Rattle.std.specs.List.{list_all}
use Rattle.std.specs.Map.{keys_of}
use Rattle.std.specs.Map.Calls.{RetainsPairs}
use Rattle.owl_ontology.proofs.Entries.{Pairs, both}
use Rattle.owl_ontology.specs.Ontology.{entries_of, entry_of, first_flag, flagged}
use Rattle.owl_axioms.specs.Proper.{AreProper, is_proper}

-- nothing is left of nothing
flagged-none : {X : Type 0} (flags : List Bool) → flagged {X = X} flags [] ≡ []
flagged-none [] = refl
flagged-none (flag ∷ flags) = refl

-- one entry and its flag
flagged-next : {X : Type 0} (flags : List Bool) (x : X) (xs : List X) → cond (first_flag flags) (x ∷ flagged (drop 1 flags) xs) (flagged (drop 1 flags) xs) ≡ flagged flags (x ∷ xs)
flagged-next [] x xs = refl
flagged-next (flag ∷ flags) x xs = refl

-- a closure that answers the first flag, and has one flag less from then on, leaves what is flagged
module _ {K X F : Type 0} (T : F → K → X → Bool → X → F → Type 0) (flags_of : F → List Bool)
    (says : (f : F) (k : K) (v : X) (b : Bool) (w : X) (g : F) → T f k v b w g → (b ≡ first_flag (flags_of f)) × (flags_of g ≡ drop 1 (flags_of f)) × (w ≡ v)) where
  pub flagged-RetainsPairs : (f : F) (pairs kept : List (K × X)) → RetainsPairs T f pairs kept → kept ≡ flagged (flags_of f) pairs
  flagged-RetainsPairs f [] kept h = h ∙ sym (flagged-none (flags_of f))
  flagged-RetainsPairs f (p ∷ pairs) kept h =
      let s = says f p.0 p.1 h.0 h.1 h.2 h.4 in
      let rest : h.3 ≡ flagged (drop 1 (flags_of f)) pairs = flagged-RetainsPairs h.2 pairs h.3 h.5 ∙ ap (λ flags. flagged flags pairs) s.1 in
      h.6 ∙ (λ i. cond (s.0 i) ((p.0, s.2 i) ∷ rest i) (rest i)) ∙ flagged-next (flags_of f) p pairs

-- the entries of what is left are what is left of the entries
pub entries_of-flagged : (flags : List Bool) (pairs : Pairs) → entries_of (flagged flags pairs) ≡ flagged flags (entries_of pairs)
entries_of-flagged [] pairs = refl
entries_of-flagged (flag ∷ flags) [] = refl
entries_of-flagged (true ∷ flags) (p ∷ pairs) = ap (λ rest. entry_of p.0 p.1 ∷ rest) (entries_of-flagged flags pairs)
entries_of-flagged (false ∷ flags) (p ∷ pairs) = entries_of-flagged flags pairs

-- of proper axioms those that are left are proper
pub AreProper-flagged : (flags : List Bool) (pairs : Pairs) → AreProper (keys_of pairs) → AreProper (keys_of (flagged flags pairs))
AreProper-flagged [] pairs all = refl
AreProper-flagged (flag ∷ flags) [] all = refl
AreProper-flagged (true ∷ flags) (p ∷ pairs) all =
    let parts : (is_proper p.0 ≡ true) × (list_all is_proper (keys_of pairs) ≡ true) = both (is_proper p.0) (list_all is_proper (keys_of pairs)) all in
    let rest : list_all is_proper (keys_of (flagged flags pairs)) ≡ true = AreProper-flagged flags pairs parts.1 in
    λ i. parts.0 i && rest i
AreProper-flagged (false ∷ flags) (p ∷ pairs) all = AreProper-flagged flags pairs (both (is_proper p.0) (list_all is_proper (keys_of pairs)) all).1

-- the first entries are those of the first pairs
pub entries_of-take : (n : ℕ) (pairs : Pairs) → entries_of (take n pairs) ≡ take n (entries_of pairs)
entries_of-take zero pairs = refl
entries_of-take (suc n) [] = refl
entries_of-take (suc n) (p ∷ pairs) = ap (λ rest. entry_of p.0 p.1 ∷ rest) (entries_of-take n pairs)

-- of proper axioms the first ones are proper
pub AreProper-take : (n : ℕ) (pairs : Pairs) → AreProper (keys_of pairs) → AreProper (keys_of (take n pairs))
AreProper-take zero pairs all = refl
AreProper-take (suc n) [] all = refl
AreProper-take (suc n) (p ∷ pairs) all =
    let parts : (is_proper p.0 ≡ true) × (list_all is_proper (keys_of pairs) ≡ true) = both (is_proper p.0) (list_all is_proper (keys_of pairs)) all in
    let rest : list_all is_proper (keys_of (take n pairs)) ≡ true = AreProper-take n pairs parts.1 in
    λ i. parts.0 i && rest i
