use Rattle.std.proofs.Common.{List, subst, sym}
use Rattle.catalog_file.specs.declared.catalog.CatalogLine.{CatalogLine}
use Rattle.catalog_file.proofs.LineLemmas.{ReadSoFar, read_begins}
use Rattle.catalog_file.proofs.catalog.read_catalog.Goals as goal

pub loop-left-init : goal.loop-left-init
loop-left-init c =
    let bytes = c.args.bytes.now in
    subst (λ (lines : List CatalogLine). ReadSoFar c.args.line_limit bytes lines 1 bytes) (sym c.new-lines.ensures.items) (read_begins c.args.line_limit bytes)
