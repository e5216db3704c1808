use Rattle.std.proofs.Common.{◌≡◌, ◌<◌, ◌^◌, length, subst, sym}
use Rattle.std.proofs.lemmas.Result.{IfOk-weaker}
use Rattle.obo_gen.proofs.Lengths.{generated_is_small}
use Rattle.obo_gen.specs.Generated.{generated}
use Rattle.obo_gen.proofs.document.generate.Goals as goal

pub returns-clause-small : goal.returns-clause-small
returns-clause-small c =
    let n = c.args.n in
    IfOk-weaker c.document.result (λ text. text ≡ generated n) (λ text. length text < 2 ^ 32)
    (λ text is. subst (λ t. length t < 2 ^ 32) (sym is) (generated_is_small n c.requires.1)) c.document.ensures
