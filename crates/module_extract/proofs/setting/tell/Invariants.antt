use Rattle.std.proofs.Common.{take}
use Rattle.module_extract.specs.inner.Setting.{IsTold}
use Rattle.module_extract.proofs.setting.tell.Given as goal

abbrev pub invariant-names : goal.invariant-names
invariant-names l = IsTold l.initial.table (take l.name-index l.name-items) l.at l.seen l.table
