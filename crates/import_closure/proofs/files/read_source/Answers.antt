use Rattle.import_closure.specs.List.{listed}
use Rattle.import_closure.proofs.SourceLemmas.{source_taken}
use Rattle.import_closure.proofs.files.read_source.Goals as goal

pub returns-in-Ok-clause-turn : goal.returns-in-Ok-clause-turn
returns-in-Ok-clause-turn g c =
    source_taken c.args.limits.now c.args.left (listed c.args.name.now c.args.asker.now) (g.F.Folder.state c.args.folder.now) (g.F.Folder.state c.feed_file.new.folder) c.in-Ok.fed c.source_of.result c.in-Ok.ensures.feeds c.source_of.ensures
