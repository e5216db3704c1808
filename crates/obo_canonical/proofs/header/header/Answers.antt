use Rattle.std.proofs.Common.{◌∷◌, [], map}
use Rattle.obo_frames.specs.Framed.{unlined}
use Rattle.obo_canonical.specs.inner.Header.{format_clause}
use Rattle.obo_canonical.proofs.HeaderLemmas.{appended_more, header_all, named_by}
use Rattle.obo_canonical.proofs.header.header.Goals as goal

pub loop-one-preserved : goal.loop-one-preserved
loop-one-preserved c =
    appended_more named_by c.args.placed.now c.loop-one.one-index c.one-item.result (format_clause ∷ []) (map unlined c.loop-one.made.items) _ c.loop-one-test.true c.one-item.is c.loop-one.invariant c.in_ok-push_name.ensures

pub returns : goal.returns
returns c = header_all c.args.placed.now c.loop-one.one-index (map unlined c.loop-one.made.items) c.loop-one-test.false c.loop-one.invariant
