use Rattle.std.proofs.Common.{[], ◌∷◌, codes, decimal, length}
use Rattle.std.specs.List.{flat_map}
use Rattle.release_report.specs.EntryText.{dropped_text}
use Rattle.release_report.specs.Line.{line}
use Rattle.release_report.proofs.Adding.{added_later}
use Rattle.release_report.proofs.report.add_read.Goals as goal

pub returns : goal.returns
returns c =
    added_later (λ made. made.items) c.args.text.items (line (codes "read " ∷ c.args.name.now ∷ codes ": " ∷ decimal c.args.frames ∷ codes " frames, " ∷ decimal (length c.args.dropped.now) ∷ codes " clauses not translated" ∷ [])) c.in_ok-text.text.items (flat_map (dropped_text c.args.name.now) c.args.dropped.now) c.add_all_dropped.result (rw (← c.as_slice.ensures) c.in_ok-text.ensures) c.add_all_dropped.ensures
