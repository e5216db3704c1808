use Rattle.std.proofs.Common.{◌≡◌, ◌<◌, ℕ, List, get_or, length, subst, sym, ◌∙◌}
use Rattle.std.proofs.Math.Logic.{∥∥₁_map}
use Rattle.obo_clause.specs.Spelled.{CanBeSpelled}
use Rattle.obo_frames.specs.Soundness.{IsSound}
use Rattle.obo_frames.specs.declared.placed.Placed.{Placed}
use Rattle.obo_frames.proofs.document.Document.get.Goals as goal

spelled_at : (placed : List Placed) (at : ℕ) (one : Placed) → IsSound placed → at < length placed → one ≡ get_or placed at one → CanBeSpelled one.clause
spelled_at placed at one sound within is =
    ∥∥₁_map sound (λ kept. record { kind = one.frame; spelled = kept.spelled one (at, within, sym is) })

pub returns-clause-spelled : goal.returns-clause-spelled
returns-clause-spelled c =
    spelled_at c.as_slice.result.now c.args.at c.index-as_slice-at.result
    (subst IsSound (sym c.as_slice.ensures) c.self.invariant)
    (subst (λ (placed : List Placed). c.args.at < length placed) (sym (c.as_slice.ensures ∙ c.self.view_is)) c.requires)
    c.index-as_slice-at.is
