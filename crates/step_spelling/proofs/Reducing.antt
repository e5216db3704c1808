-- Reducing drops inclusions alone: all that is declared stays declared.
use Rattle.std.proofs.Common.{◌≡◌, Bool, List, sym, ap, subst, ◌∙◌}
use Rattle.std.specs.List.{filter_map}
use Rattle.text_sets.specs.Sets.{In}
use Rattle.text_sets.proofs.SetLemmas.{In-filter_map, In-from_filter_map, In-from_map, In-map}
use Rattle.owl_axioms.specs.declared.body.Axiom.{Axiom}
use Rattle.owl_axioms.specs.declared.body.Body.TheVariants as body
use Rattle.owl_axioms.specs.declared.name.Name.{Name}
use Rattle.owl_ontology.specs.Ontology.{Entry, axioms_of, flagged}
use Rattle.obo_mapping.specs.Documents.{declared_in}
use Rattle.obo_mapping.proofs.SinglesLaw.{IsStatement}
use Rattle.obo_mapping.proofs.SpelledLaw.{declared_name}
use Rattle.reduce_edges.specs.Redundant.{Goes}
use Rattle.spelling_laws.proofs.Gathering.{part_keeps_spelling}
use Rattle.step_spelling.specs.Laws.{CanBeWritten, ReducingKeepsSpelling}
use Rattle.step_spelling.proofs.Flagged.{axioms_of-flagged, flagged_each, flagged_kept}

-- no declaration goes
declaration_stays : (axioms : List Axiom) (keep : Bool) (one : Axiom) (entity : Name) → one.body ≡ body.Declaration entity → Goes axioms keep one → ⊥
declaration_stays axioms keep one entity is goes = let same = sym goes.says ∙ is in subst IsStatement same tt

pub reducing_keeps_spelling : ReducingKeepsSpelling
reducing_keeps_spelling before after keep count reduces spellable =
    subst CanBeWritten (sym reduces.is) (part_keeps_spelling before.name (axioms_of before.entries) (axioms_of (flagged reduces.stays before.entries)) spellable (record {
      each = λ one here. flagged_each reduces.stays (axioms_of before.entries) one (subst (In one) (axioms_of-flagged reduces.stays before.entries) here);
      declared = λ one entity here among known. stays_declared entity known;
    }))
  where
    stays_declared : (entity : Name) → In entity (filter_map declared_in (axioms_of before.entries)) → In entity (filter_map declared_in (axioms_of (flagged reduces.stays before.entries)))
    stays_declared entity known =
        let a = In-from_filter_map declared_in entity (axioms_of before.entries) known in
        let e = In-from_map (λ (e : Entry). e.axiom) a.0 before.entries a.1 in
        let said = ap declared_in e.2 ∙ a.2 in
        let kept = flagged_kept reduces.stays before.entries e.0 reduces.long
        (λ i at gone. declaration_stays (axioms_of before.entries) keep e.0.axiom entity (declared_name e.0.axiom entity said) (reduces.gone i e.0 at gone)) e.1 in
        In-filter_map declared_in entity (axioms_of (flagged reduces.stays before.entries)) e.0.axiom (In-map (λ (e : Entry). e.axiom) e.0 (flagged reduces.stays before.entries) kept) said
