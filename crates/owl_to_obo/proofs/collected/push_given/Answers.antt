use Rattle.std.proofs.Common.{map}
use Rattle.owl_to_obo.specs.Clashes.{given_meant}
use Rattle.owl_to_obo.proofs.CollectLemmas.{all_parts}
use Rattle.owl_to_obo.proofs.collected.push_given.Goals as goal

pub returns : goal.returns
returns c =
    all_parts (map given_meant c.args.all.now.items) _ _ (map given_meant c.push_checked.new.all.items) (map given_meant c.push_group.new.all.items) (map given_meant c.push_group-2.new.all.items) (map given_meant c.push_kind.new.all.items) _ _ c.in_ok-push_checked.ensures c.in_ok-push_group.ensures c.in_ok-push_group-2.ensures (c.in_ok-push_kind.ensures c.args.declared.now)
