-- How the first part of `generate` ends. No public contract speaks of it.
use Rattle.std.specs.Prelude.{◌∷◌, [], ℕ, Option, IfSome, Result}
use Rattle.owl_ontology.specs.Ontology.{OntologyState}
use Rattle.import_closure.specs.declared.files.SourceFile.{SourceFile}
use Rattle.import_merge.specs.Merged.{IsMerged}
use Rattle.release_report.specs.declared.fault.Fault.{Fault}
use Rattle.release_chain.specs.Answer.{AnswersAs}
use Rattle.release_chain.specs.Generated.{IsGeneratedOrder, begun_in, begun_or}
use Rattle.release_chain.specs.declared.work.Work.{Work}
use Rattle.release_chain.specs.inner.Work.{IsAt}

-- the axioms of this file stand in some order
pub record MergedEnds (size : ℕ) (source : SourceFile) (result : Result Work Fault) : Type 0 where
  pub merged : Option OntologyState
  pub order : IfSome merged (λ merged. IsMerged (source ∷ []) merged)
  pub answers : AnswersAs IsAt (begun_in size merged source) result

-- those of the generated document do
pub record BegunEnds (size : ℕ) (result : Result Work Fault) : Type 0 where
  pub merged : Option OntologyState
  pub order : IsGeneratedOrder size merged
  pub answers : AnswersAs IsAt (begun_or size merged) result
