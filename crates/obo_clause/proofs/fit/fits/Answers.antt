use Rattle.std.specs.Bool.{Decides}
use Rattle.std.proofs.Common.{Bool, sym, subst}
use Rattle.obo_clause.specs.Fits.{Fits}
use Rattle.obo_clause.proofs.FitLemmas.{fits_decides}
use Rattle.obo_clause.proofs.fit.fits.Goals as goal

pub returns : goal.returns
returns c =
    subst (λ (b : Bool). Decides b (Fits c.args.kind c.args.first c.args.clause.now)) (sym c.passes.ensures) (fits_decides c.args.kind c.args.first c.args.clause.now)
