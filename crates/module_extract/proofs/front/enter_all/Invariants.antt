use Rattle.std.proofs.Common.{take}
use Rattle.module_extract.specs.Module.{fills_of}
use Rattle.module_extract.specs.inner.Front.{Entered, IsFront}
use Rattle.module_extract.proofs.front.enter_all.Given as goal

abbrev pub invariant-names : goal.invariant-names
invariant-names g l = record {
  front : IsFront (fills_of g.L.Locality.CLASSES g.L.Locality.ROLES) l.setting.pool l.setting.table l.front;
  entered : Entered l.setting.table (take l.name-index l.name-items) l.initial.front l.front;
}
