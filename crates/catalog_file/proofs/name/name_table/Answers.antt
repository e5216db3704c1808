use Rattle.catalog_file.proofs.NameLemmas.{tells-more}
use Rattle.catalog_file.proofs.name.name_table.Goals as goal

pub loop-line-preserved : goal.loop-line-preserved
loop-line-preserved c =
    tells-more c.loop-line.yielded c.in-Some.line c.loop-line.names c.add_line.new.names c.loop-line.invariant c.in_ok-add_line.ensures
