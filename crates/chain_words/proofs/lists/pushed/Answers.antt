use Rattle.std.proofs.Common.{[], ◌∷◌, ◌++◌, ap, ◌∙◌}
use Rattle.chain_words.proofs.lists.pushed.Goals as goal

pub returns : goal.returns
returns c = λ c'. c'.from_vec.ensures ∙ c'.in_ok-push.ensures.items ∙ ap (λ items. items ++ c'.args.item ∷ []) c'.into_vec-items.ensures
