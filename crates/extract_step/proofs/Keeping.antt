-- What is left is a part of what was there, and keeps it over the seed.
use Rattle.std.proofs.Common.{◌≡◌, Bool, true, false, ◌||◌, List, [], ◌∷◌, length, refl, sym, ap, subst, ◌∙◌, arith}
use Rattle.chain_words.specs.declared.command.Method.{Method}
use Rattle.chain_words.specs.declared.command.Method.TheVariants as method
use Rattle.extract_step.specs.Extract.{chosen, extracted, left_flags}
use Rattle.extract_step.specs.Laws.{ExtractedIsPart, ExtractingKeeps}
use Rattle.locality_tables.specs.declared.fills.ClassFill.TheVariants as class
use Rattle.locality_tables.specs.declared.fills.RoleFill.TheVariants as role
use Rattle.module_extract.specs.Least.{module_of}
use Rattle.module_extract.specs.Module.{Fills, IsPart, fills_of, logical_flags, seed_and}
use Rattle.module_extract.specs.Shipped.{ships_each}
use Rattle.module_extract.proofs.Counting.{flags_length}
use Rattle.module_extract.proofs.Extending.{closed_keeps}
use Rattle.module_extract.proofs.Shipping.{shipped_keeps}
use Rattle.module_extract.proofs.Starting.{axioms_length}
use Rattle.module_extract.proofs.Told.{is_module}
use Rattle.owl_axioms.specs.Names.{Scope}
use Rattle.owl_axioms.specs.Signature.{scope_of}
use Rattle.owl_axioms.specs.declared.body.Axiom.{Axiom}
use Rattle.owl_ontology.specs.Ontology.{Entry, OntologyState, axioms_of, flagged}
use Rattle.owl_sem.specs.Models.{Keeps}
use Rattle.owl_sem.proofs.Keeps.{keeping_less}
use Rattle.seed_list.specs.declared.seed.Seed.{Seed}
use Rattle.star_module.specs.Star.{bottom_and_top}
use Rattle.star_module.specs.StarOf.{star_of}
use Rattle.star_module.proofs.EndTold.{star_is_told}
use Rattle.star_module.proofs.Rounds.{rounds_kept}

-- ---- flags

pub flagged_axioms : (flags : List Bool) (entries : List Entry) → axioms_of (flagged flags entries) ≡ flagged flags (axioms_of entries)
flagged_axioms [] entries = refl
flagged_axioms (f ∷ flags) [] = refl
flagged_axioms (true ∷ flags) (e ∷ entries) = ap (λ rest. e.axiom ∷ rest) (flagged_axioms flags entries)
flagged_axioms (false ∷ flags) (e ∷ entries) = flagged_axioms flags entries

shipped_long : (s : Scope) (axioms : List Axiom) (flags : List Bool) → length flags ≡ length axioms → length (ships_each s axioms flags) ≡ length axioms
shipped_long s [] flags long = refl
shipped_long s (a ∷ axioms) [] long = absurd (omega (arith, long))
shipped_long s (a ∷ axioms) (f ∷ flags) long = let rest = shipped_long s axioms flags (omega (arith, long)) in omega (arith, rest)

-- ---- what is chosen

-- a part of the logical axioms that keeps them
record KeptPart (seed : Scope) (axioms : List Axiom) (kept : List Bool) : Type 0 where
  pub long : length kept ≡ length axioms
  pub logic : IsPart kept (logical_flags axioms)
  pub keeps : Keeps (flagged (logical_flags axioms) axioms) (flagged kept axioms) (seed_and seed axioms kept)

single_kept : (k : Fills) (seed : Scope) (axioms : List Axiom) → KeptPart seed axioms (module_of k axioms (logical_flags axioms) seed)
single_kept k seed axioms =
    let part = logical_flags axioms in
    let is = is_module k axioms part seed (flags_length axioms) in
    record { long = is.closed.same_length; logic = is.closed.is_part; keeps = closed_keeps k axioms part seed (module_of k axioms part seed) is.closed }

star_kept : (seed : Scope) (axioms : List Axiom) → KeptPart seed axioms (star_of bottom_and_top axioms seed (logical_flags axioms)).0
star_kept seed axioms =
    let part = logical_flags axioms in
    let end = (star_is_told bottom_and_top axioms seed part (flags_length axioms)).0 in
    let last = end.3 in
    let kept = rounds_kept axioms seed bottom_and_top part (star_of bottom_and_top axioms seed part).0 end.0 end.2 in
    record { long = sym (ap length last.2.2) ∙ last.2.1.closed.same_length; logic = kept.1; keeps = kept.0 }

chosen_kept : (method : Method) (seed : Scope) (axioms : List Axiom) → KeptPart seed axioms (chosen method seed axioms).0
unfolding chosen
chosen_kept method.Bot seed axioms = single_kept (fills_of class.Empty role.Empty) seed axioms
chosen_kept method.Top seed axioms = single_kept (fills_of class.Full role.Full) seed axioms
chosen_kept method.Star seed axioms = star_kept seed axioms

-- ---- what is left

pub chosen_long : (method : Method) (seed : Scope) (axioms : List Axiom) → length (chosen method seed axioms).0 ≡ length axioms
chosen_long method seed axioms = (chosen_kept method seed axioms).long

pub left_long : (method : Method) (seed : Scope) (axioms : List Axiom) → length (left_flags method seed axioms) ≡ length axioms
left_long method seed axioms = shipped_long (seed_and seed axioms (chosen method seed axioms).0) axioms (chosen method seed axioms).0 (chosen_long method seed axioms)

-- what is kept by those flags is what an extract leaves
pub extracts : (method : Method) (seed : Seed) (before after : OntologyState) (flags : List Bool) → after ≡ record before { entries = flagged flags before.entries } → flags ≡ left_flags method (scope_of seed.sig) (axioms_of before.entries) → after ≡ extracted method seed before
unfolding extracted
extracts method seed before after flags is same = is ∙ (λ i. record before { entries = flagged (same i) before.entries })

pub extracted_is_part : (method : Method) (seed : Seed) (before : OntologyState) → ExtractedIsPart method seed before
unfolding extracted
extracted_is_part method seed before =
    let axioms = axioms_of before.entries in
    record {
      flags = left_flags method (scope_of seed.sig) axioms;
      long = left_long method (scope_of seed.sig) axioms ∙ axioms_length before.entries;
      entries = refl;
      name = refl;
    }

either_left : (x y : Bool) → x ≡ true → (x || y) ≡ true
either_left x y h = ap (λ b. b || y) h

pub extracting_keeps : (method : Method) (seed : Seed) (before : OntologyState) → ExtractingKeeps method seed before
unfolding extracted
extracting_keeps method seed before =
    let axioms = axioms_of before.entries in
    let scope : Scope = scope_of seed.sig in
    let kept = (chosen method scope axioms).0 in
    let part = chosen_kept method scope axioms in
    let flags = left_flags method scope axioms in
    let wide : Scope = seed_and scope axioms kept in
    let names : Keeps axioms (axioms_of (flagged flags before.entries)) wide =
    subst (λ rest. Keeps axioms rest wide) (sym (flagged_axioms flags before.entries)) (shipped_keeps axioms scope kept part.long part.logic wide part.keeps)
    in
    record { names = names; seeds = keeping_less axioms (axioms_of (flagged flags before.entries)) wide scope (λ k a h. either_left (scope k a) _ h) names }
