use Rattle.std.proofs.Common.{◌≡◌, ◌<◌, ◌++◌, [], ◌∷◌, sym, ap, subst, ◌∙◌, get_or, length, map, slice_set}
use Rattle.name_lists.specs.Lists.{list_with}
use Rattle.name_lists.proofs.ListLemmas.{long_map_set, map_set, read_map, within_map}
use Rattle.name_lists.proofs.lists.Lists.add.Goals as goal

pub returns-clause-added : goal.returns-clause-added
returns-clause-added c =
    let vs = c.self.inside.lists.items in
    let within : c.args.at < length vs = within_map (λ v. v.items) vs c.args.at (subst (λ ls. c.args.at < length ls) (sym c.self.view_is) c.requires) in
    let read : get_or (map (λ v. v.items) vs) c.args.at [] ≡ c.index_mut.result.now.items = read_map (λ v. v.items) vs c.args.at c.index_mut.result.now [] within c.index_mut.ensures.value in
    map_set (λ v. v.items) vs c.args.at c.push.new.self
    ∙ ap (slice_set (map (λ v. v.items) vs) c.args.at) (c.in_ok-push.ensures.items ∙ ap (λ l. l ++ c.args.number ∷ []) (sym read))
    ∙ ap (λ ls. list_with ls c.args.at c.args.number) c.self.view_is

pub returns-clause-long : goal.returns-clause-long
returns-clause-long c = long_map_set (λ v. v.items) c.self.inside.lists.items c.args.at c.push.new.self ∙ ap length c.self.view_is
