-- The laws of the steps: what they make keeps the merged axioms over their scope.
use Rattle.std.proofs.Common.{◌≡◌, ◌&&◌, ◌||◌, ℕ, Bool, true, false, List, [], ◌∷◌, ◌++◌, Option, ap, refl, subst, sym, ◌∙◌}
use Rattle.std.specs.Cmp.Lexicographic.{bytes_decides}
use Rattle.rel_io.specs.FolderState.{Files}
use Rattle.owl_axioms.specs.Names.{Scope, all_names, common}
use Rattle.owl_axioms.specs.Signature.{scope_of}
use Rattle.owl_axioms.specs.declared.body.Axiom.{Axiom}
use Rattle.owl_ontology.specs.Ontology.{OntologyState, axioms_of}
use Rattle.owl_sem.specs.Laws.{KeepBoth}
use Rattle.owl_sem.specs.Models.{Keeps, KeepsAll}
use Rattle.owl_sem.proofs.Keeps.{keeping_composes, keeping_less}
use Rattle.chain_words.specs.Word.{Name}
use Rattle.chain_words.specs.declared.command.Method.{Method}
use Rattle.extract_step.specs.Extract.{extracted}
use Rattle.reduce_edges.specs.Reduce.{reduce_of}
use Rattle.relax_axioms.specs.Relax.{relax_of}
use Rattle.release_report.specs.declared.entry.Entry.{Entry}
use Rattle.release_report.specs.declared.entry.Entry.TheVariants as entry
use Rattle.seed_list.specs.declared.seed.Seed.{Seed}
use Rattle.release_chain.specs.Ending.{SameAt, SameAtAll}
use Rattle.release_chain.specs.Trace.{Trace}
use Rattle.release_chain.specs.Steps.{extracted_entry, extracted_trace, reduced_trace, relaxed_trace}
use Rattle.release_chain.specs.declared.work.Work.{Work}
use Rattle.release_chain.specs.inner.Work.{IsAt}

-- the one file of a list is held as it was
pub held_first : (name : Name) (files : Files) (held : Option Files) → SameAtAll (name ∷ []) files held → SameAt name files held
held_first name files held all = all name (ap (λ b. b || false) ((bytes_decides name name).1 refl))

-- what keeps over all names goes on over the scope
kept_over_all : (whole part rest : List Axiom) (s : Scope) → Keeps whole part s → KeepsAll part rest → Keeps whole rest s
kept_over_all whole part rest s kept keeps =
    keeping_less whole rest (common s all_names) s (λ k a is. ap (λ b. b && true) is) (keeping_composes whole part rest s all_names kept keeps)

-- the program's own state behind a step that keeps all names
pub changed_is_at : (work after : Work) (trace : Trace) (made : OntologyState) (line : Entry) → IsAt work trace → after.ontology ≡ made → after.files ≡ work.files → after.entries ≡ work.entries ++ line ∷ []
    → KeepBoth (axioms_of work.ontology.entries) (axioms_of made.entries) → IsAt after (record trace { ontology = made; entries = trace.entries ++ line ∷ [] })
changed_is_at work after trace made line at ontology files entries keeps = record {
  ontology = ontology;
  files = files ∙ at.files;
  entries = entries ∙ ap (λ (es : List Entry). es ++ line ∷ []) at.entries;
  keeps = kept_over_all (axioms_of trace.merged.entries) (axioms_of trace.ontology.entries) (axioms_of made.entries) trace.scope at.keeps
      (subst (λ (o : OntologyState). KeepsAll (axioms_of o.entries) (axioms_of made.entries)) at.ontology keeps.0);
}

-- behind relax
pub relaxed_is_at : (work after : Work) (trace : Trace) (made : OntologyState × ℕ) → IsAt work trace → relax_of work.ontology ≡ made → after.ontology ≡ made.0 → after.files ≡ work.files → after.entries ≡ work.entries ++ entry.Relaxed made.1 ∷ []
    → KeepBoth (axioms_of work.ontology.entries) (axioms_of made.0.entries) → IsAt after (relaxed_trace trace)
relaxed_is_at work after trace made at is ontology files entries keeps =
    subst (λ (m : OntologyState × ℕ). IsAt after (record trace { ontology = m.0; entries = trace.entries ++ entry.Relaxed m.1 ∷ [] })) (sym is ∙ ap relax_of at.ontology)
    (changed_is_at work after trace made.0 (entry.Relaxed made.1) at ontology files entries keeps)

-- behind reduce
pub reduced_is_at : (keep : Bool) (work after : Work) (trace : Trace) (made : OntologyState × ℕ) → IsAt work trace → reduce_of keep work.ontology ≡ made → after.ontology ≡ made.0 → after.files ≡ work.files → after.entries ≡ work.entries ++ entry.Reduced made.1 ∷ []
    → KeepBoth (axioms_of work.ontology.entries) (axioms_of made.0.entries) → IsAt after (reduced_trace keep trace)
reduced_is_at keep work after trace made at is ontology files entries keeps =
    subst (λ (m : OntologyState × ℕ). IsAt after (record trace { ontology = m.0; entries = trace.entries ++ entry.Reduced m.1 ∷ [] })) (sym is ∙ ap (reduce_of keep) at.ontology)
    (changed_is_at work after trace made.0 (entry.Reduced made.1) at ontology files entries keeps)

-- and behind an extract
pub extracted_is_at : (work after : Work) (trace : Trace) (method : Method) (seed : Seed) → IsAt work trace → after.ontology ≡ extracted method seed work.ontology → after.files ≡ work.files
    → after.entries ≡ work.entries ++ extracted_entry method seed work.ontology ∷ []
    → Keeps (axioms_of work.ontology.entries) (axioms_of (extracted method seed work.ontology).entries) (scope_of seed.sig) → IsAt after (extracted_trace method trace seed)
extracted_is_at work after trace method seed at ontology files entries keeps = record {
  ontology = ontology ∙ ap (extracted method seed) at.ontology;
  files = files ∙ at.files;
  entries = entries ∙ (λ i. at.entries i ++ extracted_entry method seed (at.ontology i) ∷ []);
  keeps = keeping_composes (axioms_of trace.merged.entries) (axioms_of trace.ontology.entries) (axioms_of (extracted method seed trace.ontology).entries) trace.scope (scope_of seed.sig) at.keeps
      (subst (λ (o : OntologyState). Keeps (axioms_of o.entries) (axioms_of (extracted method seed o).entries) (scope_of seed.sig)) at.ontology keeps);
}
