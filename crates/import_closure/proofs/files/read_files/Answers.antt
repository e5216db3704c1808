use Rattle.std.proofs.Common.{List}
use Rattle.std.proofs.lemmas.Result.{err_from_is_err_and}
use Rattle.std.specs.Option.{option_copied}
use Rattle.rel_io.proofs.Options.{at_some}
use Rattle.catalog_file.specs.declared.catalog.CatalogLine.{CatalogLine}
use Rattle.import_closure.specs.Closure.{catalog_in, closure, reading, setting}
use Rattle.import_closure.specs.Loading.{cause_of, then_load}
use Rattle.import_closure.proofs.LoadingLemmas.{ahead_then, fails_first, loads_ahead}
use Rattle.import_closure.proofs.files.read_files.Goals as goal

pub returns-in_err-names-clause-reads : goal.returns-in_err-names-clause-reads
unfolding reading
returns-in_err-names-clause-reads g c =
    let p = err_from_is_err_and c.from_residual.result c.from_residual.ensures.1 in
    let limits = c.args.limits.now in
    let catalog = option_copied c.args.catalog in
    let inputs = c.args.inputs.now in
    rw (p.1, p.2) (fails_first (cause_of _) (λ files. catalog_in files limits catalog) (λ files lines. closure (setting files lines limits) inputs) (g.F.Folder.state c.args.folder.now) (g.F.Folder.state c.read_names.new.folder) _ c.in_err-names.ensures.reads)

pub returns-clause-reads : goal.returns-clause-reads
unfolding reading
returns-clause-reads g c =
    let limits = c.args.limits.now in
    let catalog = option_copied c.args.catalog in
    let inputs = c.args.inputs.now in
    let start = g.F.Folder.state c.args.folder.now in
    let mid = g.F.Folder.state c.read_names.new.folder in
    let read = c.in_ok-names.ensures.reads in
    let lines : List CatalogLine = read.0 in
    loads_ahead (λ files. closure (setting files lines limits) inputs) (λ files. then_load (catalog_in files limits catalog) (λ lines. closure (setting files lines limits) inputs)) start mid (g.F.Folder.state c.read_listed.new.folder) c.read_listed.result
    c.read_names.ensures.holds c.read_names.ensures.counts
    (λ files told. ahead_then (catalog_in files limits catalog) (λ lines. closure (setting files lines limits) inputs) lines (at_some _ told read.2))
    (c.read_listed.ensures.reads lines read.1)
