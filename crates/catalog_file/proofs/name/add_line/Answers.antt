use Rattle.std.proofs.Common.{sym, ◌∙◌}
use Rattle.catalog_file.proofs.NameLemmas.{adds-held, adds-new}
use Rattle.catalog_file.proofs.name.add_line.Goals as goal

pub returns-then-contains_key : goal.returns-then-contains_key
returns-then-contains_key c =
    adds-held c.args.names.now c.args.line (sym c.contains_key.ensures ∙ c.if-contains_key.true)

pub returns : goal.returns
returns c =
    adds-new c.args.names.now c.insert.new.self c.args.line (sym c.contains_key.ensures ∙ c.if-contains_key.false) c.in_ok-insert.ensures.updates.0
