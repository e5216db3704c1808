use Rattle.std.proofs.Common.{◌++◌, ◌≤◌, ap, arith, length, map, ◌∙◌}
use Rattle.obo_frames.specs.Framed.{unlined}
use Rattle.obo_frames.specs.declared.placed.Placed.{Placed}
use Rattle.obo_mapping.specs.Documents.{is_untranslatable}
use Rattle.obo_canonical.specs.inner.Settled.{kept_of}
use Rattle.obo_canonical.proofs.KeptLemmas.{flag_at, kept_all, kept_more}
use Rattle.obo_canonical.proofs.kept.kept.Goals as goal

pub loop-at-preserved : goal.loop-at-preserved
loop-at-preserved c =
    let u = is_untranslatable (map unlined c.args.document.now) in
    let one = c.get.result.now in
    let held = map unlined c.loop-at.made.items in
    let flag = flag_at (λ (p : Placed). u (unlined p)) c.args.document.now c.args.untranslated.now c.loop-at.at one _ c.requires c.get.ensures.clause in
    kept_more (λ (p : Placed). kept_of c.args.space.now (u (unlined p)) (unlined p)) c.args.document.now c.loop-at.at one held (map unlined c.push_kept.new.made.items) c.get.ensures.clause c.loop-at.invariant
    (c.in_ok-push_kept.ensures ∙ ap (λ b. held ++ kept_of c.args.space.now b (unlined one)) flag)

pub returns : goal.returns
returns c =
    let ended : length c.args.document.now ≤ c.loop-at.at = omega (arith, c.loop-at-test.false, c.len-at-end.ensures.len) in
    c.loop-at.invariant ∙ kept_all c.args.space.now (is_untranslatable (map unlined c.args.document.now)) c.args.document.now c.loop-at.at ended
