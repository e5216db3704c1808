-- Which axioms stay: the flags that are made of the flags of edges.
use Rattle.std.proofs.Common.{◌≡◌, ℕ, ◌≤◌, zero, suc, Bool, true, false, List, [], ◌∷◌, ◌++◌, None, Some, drop, length, slice_get, take, inl, inr, ⊎_elim, refl, sym, ap, subst, ◌∙◌, arith, if◌then◌else◌}
use Rattle.owl_axioms.proofs.Members.{In}
use Rattle.owl_axioms.specs.declared.body.Axiom.{Axiom}
use Rattle.owl_ontology.specs.Ontology.{Entry, first_flag, flagged}
use Rattle.reduce_edges.specs.Edges.{Pair, edge_in, edge_list, edges_of}
use Rattle.reduce_edges.specs.inner.Staying.{flags_behind, flags_left, stays_by, stays_of}
use Rattle.reduce_edges.proofs.Numbers.{none_some, some_same}

-- ---- one axiom more

pub stays_push : (keep : Bool) (axioms : List Axiom) (a : Axiom) (flags : List Bool) → stays_of keep (axioms ++ a ∷ []) flags ≡ stays_of keep axioms flags ++ stays_by keep (edge_in a.body) a.sides (flags_left axioms flags) ∷ []
stays_push keep [] a flags = refl
stays_push keep (b ∷ axioms) a flags = ap (λ rest. stays_by keep (edge_in b.body) b.sides flags ∷ rest) (stays_push keep axioms a (flags_behind (edge_in b.body) flags))

pub left_push : (axioms : List Axiom) (a : Axiom) (flags : List Bool) → flags_left (axioms ++ a ∷ []) flags ≡ flags_behind (edge_in a.body) (flags_left axioms flags)
left_push [] a flags = refl
left_push (b ∷ axioms) a flags = left_push axioms a (flags_behind (edge_in b.body) flags)

pub stays_length : (keep : Bool) (axioms : List Axiom) (flags : List Bool) → length (stays_of keep axioms flags) ≡ length axioms
stays_length keep [] flags = refl
stays_length keep (a ∷ axioms) flags = ap suc (stays_length keep axioms (flags_behind (edge_in a.body) flags))

-- ---- the flag of one axiom, and that of its edge

pub stays_at : (keep : Bool) (axioms : List Axiom) (flags : List Bool) (i : ℕ) (a : Axiom) → slice_get axioms i ≡ Some a → slice_get (stays_of keep axioms flags) i ≡ Some (stays_by keep (edge_in a.body) a.sides (flags_left (take i axioms) flags))
stays_at keep [] flags i a at = none_some a at
stays_at keep (b ∷ axioms) flags zero a at = ap (λ (x : Axiom). Some (stays_by keep (edge_in x.body) x.sides flags)) (some_same b a at)
stays_at keep (b ∷ axioms) flags (suc i) a at = stays_at keep axioms (flags_behind (edge_in b.body) flags) i a at

pub edge_index : (axioms : List Axiom) (i : ℕ) (a : Axiom) (p : Pair) → slice_get axioms i ≡ Some a → edge_in a.body ≡ Some p → slice_get (edges_of axioms) (length (edges_of (take i axioms))) ≡ Some p
edge_index [] i a p at is = none_some a at
edge_index (b ∷ axioms) zero a p at is =
    let said : edge_in b.body ≡ Some p = ap (λ (x : Axiom). edge_in x.body) (some_same b a at) ∙ is in
    ap (λ o. slice_get (edge_list o ++ edges_of axioms) 0) said
edge_index (b ∷ axioms) (suc i) a p at is =
    elim (edge_in b.body) as (λ o. slice_get (edge_list o ++ edges_of axioms) (length (edge_list o ++ edges_of (take i axioms))) ≡ Some p) [
      | None ↦ edge_index axioms i a p at is
      | Some q ↦ edge_index axioms i a p at is
    ]

first_of : (flags : List Bool) (f : Bool) → slice_get flags 0 ≡ Some f → first_flag flags ≡ f
first_of [] f at = none_some f at
first_of (g ∷ flags) f at = some_same g f at

behind_first : (flags : List Bool) (n : ℕ) (f : Bool) → slice_get flags (suc n) ≡ Some f → slice_get (drop 1 flags) n ≡ Some f
behind_first [] n f at = none_some f at
behind_first (g ∷ flags) n f at = at

pub flag_there : (axioms : List Axiom) (flags : List Bool) (f : Bool) → slice_get flags (length (edges_of axioms)) ≡ Some f → first_flag (flags_left axioms flags) ≡ f
flag_there [] flags f at = first_of flags f at
flag_there (b ∷ axioms) flags f at =
    elim (edge_in b.body) as (λ o. slice_get flags (length (edge_list o ++ edges_of axioms)) ≡ Some f → first_flag (flags_left axioms (flags_behind o flags)) ≡ f) [
      | None ↦ λ there. flag_there axioms flags f there
      | Some q ↦ λ there. flag_there axioms (drop 1 flags) f (behind_first flags (length (edges_of axioms)) f there)
    ] at

-- ---- what is flagged

pub flagged_in : (flags : List Bool) (entries : List Entry) (i : ℕ) (e : Entry) → slice_get entries i ≡ Some e → slice_get flags i ≡ Some true → In e (flagged flags entries)
flagged_in [] entries i e at on = none_some true on
flagged_in (f ∷ flags) [] i e at on = none_some e at
flagged_in (f ∷ flags) (x ∷ entries) zero e at on = subst (λ b. In e (if b then x ∷ flagged flags entries else flagged flags entries)) (sym (some_same f true on)) (inl (some_same x e at))
flagged_in (f ∷ flags) (x ∷ entries) (suc i) e at on =
    elim f as (λ b. In e (if b then x ∷ flagged flags entries else flagged flags entries)) [
      | true ↦ inr (flagged_in flags entries i e at on)
      | false ↦ flagged_in flags entries i e at on
    ]

pub in_flagged : (flags : List Bool) (entries : List Entry) (e : Entry) → In e (flagged flags entries) → In e entries
in_flagged [] entries e here = absurd here
in_flagged (f ∷ flags) [] e here = absurd here
in_flagged (f ∷ flags) (x ∷ entries) e here =
    elim f as (λ b. In e (if b then x ∷ flagged flags entries else flagged flags entries) → In e (x ∷ entries)) [
      | true ↦ λ there. ⊎_elim (λ is. inl is) (λ later. inr (in_flagged flags entries e later)) there
      | false ↦ λ there. inr (in_flagged flags entries e there)
    ] here

pub flagged_length : (flags : List Bool) (entries : List Entry) → length (flagged flags entries) ≤ length entries
flagged_length [] entries = omega arith
flagged_length (f ∷ flags) [] = omega arith
flagged_length (f ∷ flags) (x ∷ entries) =
    elim f as (λ b. length (if b then x ∷ flagged flags entries else flagged flags entries) ≤ length (x ∷ entries)) [
      | true ↦ let h : length (flagged flags entries) ≤ length entries = flagged_length flags entries in omega (arith, h)
      | false ↦ let h : length (flagged flags entries) ≤ length entries = flagged_length flags entries in omega (arith, h)
    ]
