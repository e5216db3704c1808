use Rattle.std.proofs.Common.{◌≡◌, ◌++◌, drop, map}
use Rattle.obo_frames.specs.Framed.{unlined}
use Rattle.obo_text.specs.inner.Rows as spec
use Rattle.obo_text.proofs.rows.rows_in.Given as goal

abbrev pub invariant-loop-one : goal.invariant-loop-one
invariant-loop-one l =
    l.rows.items ++ spec.rows_in l.kind (map unlined (drop l.one-index l.placed)) ≡ spec.rows_in l.kind (map unlined l.placed)
