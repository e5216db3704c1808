use Rattle.std.proofs.Common.{◌≡◌, ◌<◌, ◌++◌, [], ◌∷◌, Some, refl, arith, length, slice_get, sym, ap, ◌∙◌, map}
use Rattle.std.proofs.lemmas.Option.{slice_get-get_or}
use Rattle.owl_axioms.specs.Signature.{scope_of}
use Rattle.owl_axioms.specs.declared.expr.ClassExpr.{out-ClassExpr}
use Rattle.expr_pool.specs.Pool.{tree_at}
use Rattle.locality_tables.specs.Verdict.{verdict}
use Rattle.locality_core.proofs.Layers.{verdict_at}
use Rattle.locality_core.proofs.Taken.{long_taken, map_taken, take_whole, taken_reads}
use Rattle.locality_core.proofs.verdicts.verdicts_of.Goals as goal

pub renewed-row-requires-clause-parts : goal.renewed-row-requires-clause-parts
renewed-row-requires-clause-parts g c =
    let w = c.nodes-test.true in
    let f = c.len-count.ensures.len in
    let v = verdict g.L.Locality.CLASSES g.L.Locality.ROLES (scope_of c.args.sig.now) in
    let l : length c.as_slice.result.now ≡ c.nodes.at = ap length (c.as_slice.ensures.value ∙ c.nodes.invariant) ∙ long_taken v c.args.pool.now c.nodes.at (omega (arith, w, f)) in
    let e = c.at.ensures in
    omega (arith, l, e)

pub nodes-preserved : goal.nodes-preserved
nodes-preserved g c =
    let w = c.nodes-test.true in
    let f = c.len-count.ensures.len in
    let v = verdict g.L.Locality.CLASSES g.L.Locality.ROLES (scope_of c.args.sig.now) in
    let ts = c.args.pool.now in
    let t = tree_at ts c.at.result in
    let within : c.at.result.place < length ts = let e = c.at.ensures in omega (arith, w, f, e) in
    let here : slice_get ts c.nodes.at ≡ Some t = ap (slice_get ts) (sym c.at.ensures) ∙ slice_get-get_or ts c.at.result.place _ within in
    let row : c.renewed-row.result ≡ v t = c.renewed-row.ensures v (taken_reads v ts c.nodes.at c.as_slice.result.now (c.as_slice.ensures.value ∙ c.nodes.invariant)) ∙ sym (verdict_at g.L.Locality.CLASSES g.L.Locality.ROLES (scope_of c.args.sig.now) t (out-ClassExpr t) refl) in
    c.in_ok-push.ensures.items ∙ (λ i. c.nodes.invariant i ++ row i ∷ []) ∙ sym (map_taken v ts c.nodes.at t here)

pub returns : goal.returns
returns g c =
    let w = c.nodes-test.false in
    let f = c.len-count.ensures.len in
    c.nodes.invariant ∙ ap (map (verdict g.L.Locality.CLASSES g.L.Locality.ROLES (scope_of c.args.sig.now))) (take_whole c.args.pool.now c.nodes.at (omega (arith, w, f)))
