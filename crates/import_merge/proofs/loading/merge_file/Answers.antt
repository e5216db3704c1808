use Rattle.std.proofs.Common.{◌≡◌, ◌∷◌, [], Option, None, Some, arith, refl, sym, subst}
use Rattle.owl_ontology.specs.Ontology.{OntologyState}
use Rattle.import_closure.specs.declared.files.SourceFile.{SourceFile}
use Rattle.import_merge.specs.Merged.{IsMerged}
use Rattle.import_merge.proofs.MoveLemmas.{merged_more}
use Rattle.import_merge.proofs.loading.merge_file.Goals as goal

-- no file gives no axiom
none_merged : IsMerged [] (record { name = None; entries = [] })
none_merged = record {
  name = refl;
  given = λ entry here. absurd here;
  least = λ entry here other given. absurd here;
  all = λ place source one there given. absurd (let none : ◌≡◌ {A = Option SourceFile} None (Some source) = there in cc);
}

pub returns-clause-merged : goal.returns-clause-merged
returns-clause-merged c =
    merged_more (c.args.source.now ∷ []) 0 c.args.source.now c.in_ok-ontology.ontology c.join_file.new.ontology (omega arith) refl c.in_ok-note.ensures.joins
    (subst (λ (o : OntologyState). IsMerged [] o) (sym c.in_ok-ontology.ensures) none_merged)
