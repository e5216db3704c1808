-- What verdicts and tests say of the fills of an interpretation.
use Rattle.std.proofs.Common.{◌<◌, ◌≤◌, subst}
use Rattle.owl_axioms.specs.Names.{listed}
use Rattle.locality_tables.specs.Fill.{fill}
use Rattle.locality_tables.specs.Laws.{LocalHolds, VerdictsHold}
use Rattle.locality_tables.proofs.FillLaws.{fills_names}
use Rattle.locality_tables.proofs.LocalSound.{local_sound}
use Rattle.locality_tables.proofs.Sound.{empty_sound, full_sound}

pub verdicts_hold : VerdictsHold
verdicts_hold classes roles inside c = (
  λ h names i w e l. let laws = fills_names classes roles inside names i in
      empty_sound classes roles inside (listed names) (fill classes roles inside names i) laws.0 c w e (subst (λ n. e < n) laws.1.sizes l) h,
  λ h names i w e l. let laws = fills_names classes roles inside names i in
      full_sound classes roles inside (listed names) (fill classes roles inside names i) laws.0 c w e (subst (λ n. e < n) laws.1.sizes l) h,
)

pub local_holds : LocalHolds
local_holds classes roles inside b h names i some w =
    let laws = fills_names classes roles inside names i in
    local_sound classes roles inside (listed names) (fill classes roles inside names i) laws.0 (subst (λ n. 1 ≤ n) laws.1.sizes some) b w h
