use Rattle.std.proofs.Common.{sym, subst, ◌∙◌}
use Rattle.std.specs.List.{flat_map}
use Rattle.text_sets.specs.Sets.{In}
use Rattle.text_sets.proofs.SetLemmas.{In-flat_map, In-from_flat_map}
use Rattle.obo_statements.specs.Groups.{group_meant}
use Rattle.obo_to_owl.specs.inner.Grouping.{group_entries, seen, seen_entries}
use Rattle.obo_to_owl.proofs.GroupLemmas.{group_found, group_held}
use Rattle.obo_to_owl.proofs.translation.add_kind.Goals as goal

pub add_groups-requires : goal.add_groups-requires
add_groups-requires c =
    let groups = c.in_ok-groups.groups in
    λ one said here says. c.requires one.0 (seen one.1) said (sym (c.in_ok-groups.ensures.members one.0) ∙ group_held groups c.in_ok-groups.ensures.unique one here) says

pub returns : goal.returns
returns c =
    let groups = c.in_ok-groups.groups in
    let members = c.in_ok-groups.ensures.members in
    let unique = c.in_ok-groups.ensures.unique in
    let of = group_entries c.args.space.now c.args.file (group_meant c.args.group) in
    record {
      added = flat_map of groups.entries;
      are = c.in_ok-add_groups.ensures;
      each = λ e here. (let one = In-from_flat_map of e groups.entries here in (one.0.0, seen one.0.1, sym (members one.0.0) ∙ group_held groups unique one.0 one.1, one.2));
      all = λ x held e is here. (let found = group_found groups unique x held (members x ∙ is) in In-flat_map of e groups.entries (x, found.0) found.1 (subst (λ h. In e (seen_entries c.args.space.now c.args.file (group_meant c.args.group) x h)) (sym found.2) here));
    }
