use Rattle.std.proofs.Common.{◌≡◌, ℕ, List, Some, get_or, slice_get, sym, ◌∙◌}
use Rattle.std.proofs.lemmas.Option.{same_Some}
use Rattle.obo_statements.specs.Groups.{group_meant}
use Rattle.obo_to_owl.specs.inner.Grouping.{Grouped, group_entries}
use Rattle.obo_to_owl.proofs.AddLemmas.{AreAdded-more, In-at}
use Rattle.obo_to_owl.proofs.RowLemmas.{get_at, within-some}
use Rattle.obo_to_owl.proofs.groups.add_groups.Goals as goal

here : (groups : List Grouped) (at : ℕ) (one : Grouped) → slice_get groups at ≡ Some one → one ≡ get_or groups at one
here groups at one is = same_Some one (get_or groups at one) (sym is ∙ get_at groups at one (within-some groups at one is))

pub add_group-requires : goal.add_group-requires
add_group-requires c =
    let groups = c.args.groups.now.entries in
    let one : Grouped = (c.group_at.result.0.now, c.group_at.result.1.now) in
    λ said is. c.requires one said (In-at groups c.loop-at.at one (within-some groups c.loop-at.at one c.group_at.ensures) (here groups c.loop-at.at one c.group_at.ensures)) is

pub loop-at-preserved : goal.loop-at-preserved
loop-at-preserved c =
    let groups = c.args.groups.now.entries in
    let one : Grouped = (c.group_at.result.0.now, c.group_at.result.1.now) in
    AreAdded-more (group_entries c.args.space.now c.args.file (group_meant c.args.group)) groups c.loop-at.at one c.args.ontology.now c.loop-at.ontology c.add_group.new.ontology (within-some groups c.loop-at.at one c.group_at.ensures) (here groups c.loop-at.at one c.group_at.ensures) c.loop-at.invariant c.in_ok-add_group.ensures
