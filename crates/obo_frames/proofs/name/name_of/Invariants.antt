use Rattle.std.proofs.Common.{◌≡◌, None, drop, map}
use Rattle.obo_frames.specs.Framed.{unlined}
use Rattle.obo_frames.specs.Naming.{least_text, names_in}
use Rattle.obo_frames.proofs.name.name_of.Given as goal

abbrev pub invariant-loop-one : goal.invariant-loop-one
invariant-loop-one l =
    least_text l.best (names_in (map unlined (drop l.one-index l.placed))) ≡ least_text None (names_in (map unlined l.placed))
