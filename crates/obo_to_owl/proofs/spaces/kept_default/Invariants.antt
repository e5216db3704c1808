-- The least of those that are left and of the one so far is the least of all.
use Rattle.std.proofs.Common.{◌≡◌, None, drop}
use Rattle.std.specs.List.{filter_map}
use Rattle.obo_frames.specs.Naming.{least_text}
use Rattle.obo_to_owl.specs.inner.Spacing.{default_kept}
use Rattle.obo_to_owl.proofs.spaces.kept_default.Given as goal

abbrev pub invariant-loop-row : goal.invariant-loop-row
invariant-loop-row l = least_text l.least (filter_map default_kept (drop l.row-index l.left)) ≡ least_text None (filter_map default_kept l.left)
