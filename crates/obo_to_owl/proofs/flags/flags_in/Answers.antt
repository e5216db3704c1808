use Rattle.std.proofs.Common.{ap, map, sym, ◌∙◌}
use Rattle.std.proofs.lemmas.Result.{IfOk-weaker}
use Rattle.iri_map.specs.Ontology.{name_or_temp}
use Rattle.obo_statements.specs.Groups.{intersection, union}
use Rattle.obo_to_owl.specs.inner.Known.{among, has_misfit, is_metadata_clause}
use Rattle.obo_to_owl.specs.inner.Left.{is_left}
use Rattle.obo_to_owl.proofs.FlagLemmas.{flags_by}
use Rattle.obo_to_owl.proofs.flags.flags_in.Goals as goal

pub returns : goal.returns
returns c =
    let rows = c.in_ok-rows.rows.items in
    let s = c.in_ok-situation.situation in
    let found = c.in_ok-situation.ensures in
    let same = c.as_slice.ensures.value in
    IfOk-weaker c.each_flag.result _ _ (λ flags is. flags_by c.args.placed.now c.args.space.now rows s flags.items
    c.in_ok-rows.ensures.clauses c.in_ok-rows.ensures.read (found.name ∙ c.requires.named) (c.requires.spaced ∙ ap name_or_temp (sym found.name))
    (λ x. found.metadata x ∙ ap (among is_metadata_clause x) same) (λ x. found.intersections x ∙ ap (among (has_misfit intersection) x) same) (λ x. found.unions x ∙ ap (among (has_misfit union) x) same)
    (is ∙ ap (map (is_left s)) c.as_slice-2.ensures.value)) c.each_flag.ensures
