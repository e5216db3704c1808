use Rattle.catalog_file.specs.Names.{TellsNames}
use Rattle.catalog_file.proofs.name.name_table.Given as goal

abbrev pub invariant-loop-line : goal.invariant-loop-line
invariant-loop-line l = TellsNames l.yielded l.names
