use Rattle.std.proofs.Common.{◌+◌, subst, sym, take}
use Rattle.rel_io.proofs.Lists.{take_rest}
use Rattle.text_columns.specs.Lines.{CutsLine}
use Rattle.text_columns.proofs.LineLemmas.{cut-none, cut-one}
use Rattle.text_columns.proofs.line.cut_line.Goals as goal

pub returns-in-Some-clause-cut : goal.returns-in-Some-clause-cut
returns-in-Some-clause-cut c =
    let bytes = c.args.bytes.now in
    let at = c.in-Some.at in
    subst (CutsLine bytes (take at bytes)) (sym (take_rest (at + 1) bytes)) (cut-one bytes at c.in-Some.ensures)

pub returns-in-None-clause-cut : goal.returns-in-None-clause-cut
returns-in-None-clause-cut c = cut-none c.args.bytes.now c.requires c.in-None.ensures
