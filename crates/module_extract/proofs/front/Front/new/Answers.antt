use Rattle.std.proofs.Common.{ap, ◌∙◌, replicate, true}
use Rattle.module_extract.specs.Module.{fills_of}
use Rattle.module_extract.proofs.Fronts.{front_first}
use Rattle.module_extract.proofs.front.Front.new.Goals as goal

pub returns-clause-front : goal.returns-clause-front
returns-clause-front g c =
    front_first (fills_of g.L.Locality.CLASSES g.L.Locality.ROLES) c.args.setting.now.pool c.args.setting.now.table c.in_ok-names.names c.in_ok-verdicts.verdicts c.in_ok-fresh.fresh.items c.new-2.result.items c.in_ok-verdicts.ensures
    (c.in_ok-fresh.ensures.items_if_clones_equal (λ y e. e) ∙ ap (λ n. replicate n true) c.len.ensures) c.new-2.ensures.items
