-- The header so far has the names of the turns so far.
use Rattle.std.proofs.Common.{◌≡◌, ◌∷◌, ◌++◌, [], map, take}
use Rattle.std.specs.List.{flat_map}
use Rattle.obo_frames.specs.Framed.{unlined}
use Rattle.obo_canonical.specs.inner.Header.{format_clause}
use Rattle.obo_canonical.proofs.HeaderLemmas.{named_by}
use Rattle.obo_canonical.proofs.header.header.Given as goal

abbrev pub invariant-loop-one : goal.invariant-loop-one
invariant-loop-one l = map unlined l.made.items ≡ (format_clause ∷ []) ++ flat_map named_by (take l.one-index l.placed)
