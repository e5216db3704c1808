use Rattle.std.proofs.Common.{ap, sym}
use Rattle.chain_words.specs.Draft.{step_begun}
use Rattle.chain_words.proofs.draft.begun.Goals as goal

pub returns-in-Ok : goal.returns-in-Ok
returns-in-Ok c =
    rw c.nothing.ensures (ap (λ told. step_begun c.args.outputs told c.args.at c.args.chain) (sym (rw c.as_slice.ensures at c.in-Ok.ensures)))
