-- The placed clauses so far are those of the turns so far.
use Rattle.std.proofs.Common.{◌≡◌, map}
use Rattle.obo_tags.specs.declared.kind.FrameKind.TheVariants.{Term}
use Rattle.obo_frames.specs.Framed.{framed, unlined}
use Rattle.obo_spelling.proofs.clauses.all_placed.Given as goal

abbrev pub invariant-loop-clause : goal.invariant-loop-clause
invariant-loop-clause l = map unlined l.all.items ≡ map (framed Term l.id) l.yielded
