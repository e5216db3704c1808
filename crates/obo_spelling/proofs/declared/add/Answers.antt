use Rattle.std.proofs.Common.{◌++◌, ◌∷◌, [], subst, sym}
use Rattle.text_sets.specs.Sets.{SameMembers}
use Rattle.obo_spelling.proofs.DeclaredLemmas.{one_added}
use Rattle.obo_spelling.proofs.declared.add.Goals as goal

pub returns : goal.returns
returns c = subst (λ keys. SameMembers keys (c.args.names.now.keys ++ c.args.name ∷ [])) (sym c.in_ok-insert.ensures.keys) (one_added c.args.names.now.keys c.args.name)
