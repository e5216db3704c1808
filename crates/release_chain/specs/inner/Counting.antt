-- Axioms counted one by one. No public contract speaks of it.
use Rattle.std.specs.Prelude.{◌+◌, ◌^◌, ◌<◌}
use Rattle.owl_axioms.specs.declared.body.Body.{Body}
use Rattle.owl_axioms.specs.declared.body.Body.TheVariants as body
use Rattle.release_report.specs.declared.entry.Counts.{Counts}

-- each count may rise once more
pub record HaveRoom (counts : Counts) : Type 0 where
  pub logical : counts.logical + 1 < 2 ^ 64
  pub declared : counts.declared + 1 < 2 ^ 64
  pub notes : counts.notes + 1 < 2 ^ 64

-- the counts with one axiom more
abbrev pub counted : Counts → Body → Counts
counted counts (body.Declaration name) = record counts { declared = counts.declared + 1 }
counted counts (body.Note subject property value) = record counts { notes = counts.notes + 1 }
counted counts (body.OntologyNote property value) = record counts { notes = counts.notes + 1 }
counted counts other = record counts { logical = counts.logical + 1 }
