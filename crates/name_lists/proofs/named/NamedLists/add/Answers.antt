use Rattle.std.proofs.Common.{[], ◌∷◌, Some, cond, arith, ap, ◌∙◌, length}
use Rattle.std.specs.Map.{lookup}
use Rattle.name_lists.proofs.NamedLemmas.{have_longer, have_one_more}
use Rattle.name_lists.proofs.ListLemmas.{long_more}
use Rattle.name_lists.specs.Lists.{NamedState, same_name}
use Rattle.name_lists.proofs.named.NamedLists.add.Goals as goal

pub invariant_of-self : goal.invariant_of-self
invariant_of-self c = have_longer (record { places = c.self.inside.places.entries; lists = c.self.inside.lists }) c.self.invariant c.add.new.self (let l = c.add.ensures.long in omega (arith, l))

pub invariant_of-self-in_err-add_list-in-None : goal.invariant_of-self-in_err-add_list-in-None
invariant_of-self-in_err-add_list-in-None c = have_longer (record { places = c.self.inside.places.entries; lists = c.self.inside.lists }) c.self.invariant c.add_list.new.self c.add_list.ensures.long

pub invariant_of-self-in-None : goal.invariant_of-self-in-None
invariant_of-self-in-None c =
    let name = c.in_ok-name-in-None.name in
    let old : NamedState = record { places = c.self.inside.places.entries; lists = c.self.inside.lists } in
    have_one_more old c.self.invariant name c.insert.new.self.entries c.add_list.new.self
    (λ q. c.in_ok-insert-in-None.ensures.updates.0 q ∙ ap (λ n. cond (same_name name q) (Some n) (lookup (same_name q) c.self.inside.places.entries)) c.len-at.ensures)
    (ap length c.in_ok-add_list-in-None.ensures.added ∙ long_more c.self.inside.lists (c.args.number ∷ []))
