use Rattle.std.proofs.Common.{◌≡◌, List, drop}
use Rattle.std.specs.List.{filter_map}
use Rattle.catalog_file.specs.Names.{TellsNames}
use Rattle.catalog_file.specs.declared.catalog.CatalogLine.{CatalogLine}
use Rattle.import_closure.specs.Imports.{asked_in}
use Rattle.import_closure.specs.List.{with_all_new}
use Rattle.import_closure.specs.inner.Listing.{listed_in}
use Rattle.import_closure.proofs.list.add_clauses.Given as goal

abbrev pub invariant-loop-one : goal.invariant-loop-one
invariant-loop-one l =
    (catalog : List CatalogLine) → TellsNames catalog l.names → with_all_new (listed_in l.list.entries) (filter_map (asked_in catalog l.file) (drop l.one-index l.placed)) ≡ with_all_new (listed_in l.fn.list.entries) (filter_map (asked_in catalog l.file) l.placed)
