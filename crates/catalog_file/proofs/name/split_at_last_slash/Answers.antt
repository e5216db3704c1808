use Rattle.std.proofs.Common.{sym, ap, ◌∙◌}
use Rattle.iri_map.specs.Split.{parts_lent}
use Rattle.iri_map.proofs.SplitLemmas.{all_other-nowhere, rest_of_slice, split_at_last-none, split_at_last-place}
use Rattle.catalog_file.specs.Names.{slash}
use Rattle.catalog_file.proofs.name.split_at_last_slash.Goals as goal

pub returns : goal.returns
returns c =
    rw rest_of_slice (sym (split_at_last-place _ _ _ c.in_ok-at.ensures.0 c.in_ok-at.ensures.1))

pub returns-in_err-at : goal.returns-in_err-at
returns-in_err-at c =
    ap parts_lent c.from_residual.ensures
    ∙ sym (split_at_last-none slash c.args.text.now (all_other-nowhere slash c.args.text.now c.in_err-at.ensures))
