use Rattle.std.proofs.Common.{◌∷◌, ◌++◌, [], ap, sym, take, ◌∙◌}
use Rattle.owl_ontology.specs.Ontology.{axioms_of}
use Rattle.reduce_edges.specs.Edges.{edge_in}
use Rattle.reduce_edges.specs.inner.Staying.{flags_behind, flags_left, stays_by, stays_of}
use Rattle.reduce_edges.proofs.Numbers.{take_at}
use Rattle.reduce_edges.proofs.Flags.{left_push, stays_push}
use Rattle.reduce_edges.proofs.staying.staying.Goals as goal

pub loop-at-preserved : goal.loop-at-preserved
loop-at-preserved c =
    let axioms = axioms_of c.args.ontology.now.entries in
    let flags = c.args.redundant.now in
    let keep = c.args.keep_annotated in
    let i = c.loop-at.at in
    let one = c.get.result.now in
    let front = take i axioms in
    let next = take_at axioms i one c.get.ensures.found in (
      c.in_ok-push.ensures.items
          ∙ (λ j. c.loop-at.invariant.0 j ++ (c.judged-flag.ensures.stays ∙ ap (stays_by keep (edge_in one.body) one.sides) c.loop-at.invariant.1) j ∷ [])
          ∙ sym (stays_push keep front one flags)
          ∙ ap (λ axs. stays_of keep axs flags) (sym next),
      c.judged-flag.ensures.behind
          ∙ ap (flags_behind (edge_in one.body)) c.loop-at.invariant.1
          ∙ sym (left_push front one flags)
          ∙ ap (λ axs. flags_left axs flags) (sym next),
    )
