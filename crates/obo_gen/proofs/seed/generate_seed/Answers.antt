use Rattle.std.proofs.Common.{◌≡◌, ◌≤◌, length, subst, sym}
use Rattle.std.proofs.lemmas.Result.{IfOk-weaker}
use Rattle.rel_io.specs.Limits
use Rattle.obo_gen.proofs.Lengths.{seed_is_small}
use Rattle.obo_gen.specs.Seed.{generated_seed}
use Rattle.obo_gen.proofs.seed.generate_seed.Goals as goal

pub returns-clause-small : goal.returns-clause-small
returns-clause-small c =
    let n = c.args.n in
    IfOk-weaker c.seed_text.result (λ text. text ≡ generated_seed n) (λ text. length text ≤ Limits.bytes)
    (λ text is. subst (λ t. length t ≤ Limits.bytes) (sym is) (seed_is_small n c.requires.1)) c.seed_text.ensures
