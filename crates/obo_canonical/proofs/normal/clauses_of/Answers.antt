use Rattle.std.proofs.Common.{ap, map, ◌∙◌}
use Rattle.obo_frames.specs.Framed.{unlined}
use Rattle.obo_mapping.specs.Documents.{header_with, names_in}
use Rattle.obo_canonical.proofs.PartLemmas.{norm_by}
use Rattle.obo_canonical.proofs.normal.clauses_of.Goals as goal

pub returns : goal.returns
returns c =
    norm_by (map unlined c.args.document.now) c.in_ok-placed.placed.items c.in_ok-kept.kept.items c.in_ok-spelled.spelled.items c.append.new.self.items c.append-2.new.self.items
    (c.in_ok-placed.ensures ∙ ap (λ placed. header_with (names_in (map unlined placed))) c.as_slice.ensures) c.in_ok-kept.ensures c.in_ok-spelled.ensures
    c.in_ok-append.ensures.items c.in_ok-append-2.ensures.items
