use Rattle.std.proofs.Common.{sym, ap, ◌∙◌, ◌++◌, ◌∷◌, [], take}
use Rattle.std.specs.Option.{option_map_or}
use Rattle.std.proofs.lemmas.Bool.{eqb-true}
use Rattle.std.proofs.lemmas.List.{take_more}
use Rattle.iri_map.specs.Split.{Parts}
use Rattle.iri_map.proofs.SplitLemmas.{all_other-nowhere, split_at_last-none, split_at_last-place}
use Rattle.catalog_file.specs.Names.{folder_of, slash}
use Rattle.catalog_file.proofs.name.folder_of.Goals as goal

pub returns-in-Some : goal.returns-in-Some
unfolding folder_of
returns-in-Some c =
    let file = c.args.file.now in
    let at = c.in-Some.at in
    take_more file at 0 c.in-Some.ensures.0.high
    ∙ (ap (λ byte. take at file ++ byte ∷ []) (eqb-true _ slash c.in-Some.ensures.1) ∙ sym (ap (λ cut. option_map_or (λ (parts : Parts). parts.0 ++ slash ∷ []) cut []) (split_at_last-place slash file at c.in-Some.ensures.0 c.in-Some.ensures.1)))

pub returns-in-None : goal.returns-in-None
unfolding folder_of
returns-in-None c =
    sym (ap (λ cut. option_map_or (λ (parts : Parts). parts.0 ++ slash ∷ []) cut []) (split_at_last-none slash c.args.file.now (all_other-nowhere slash c.args.file.now c.in-None.ensures)))
