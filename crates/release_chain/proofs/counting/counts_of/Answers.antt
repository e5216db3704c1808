use Rattle.std.proofs.Common.{ap, arith, subst, sym, ◌∙◌}
use Rattle.std.proofs.lemmas.List.{length-map}
use Rattle.owl_ontology.specs.Ontology.{Entry, axioms_of}
use Rattle.release_chain.specs.inner.Counting.{HaveRoom, counted}
use Rattle.release_chain.proofs.CountLemmas.{counted_all, counted_more, has_room}
use Rattle.release_chain.proofs.counting.counts_of.Goals as goal

pub counted-counts-requires : goal.counted-counts-requires
counted-counts-requires c = subst HaveRoom (sym c.loop-at.invariant) (has_room (axioms_of c.args.ontology.now.entries) c.loop-at.at (omega arith))

pub loop-at-preserved : goal.loop-at-preserved
loop-at-preserved c =
    c.counted-counts.ensures ∙ ap (λ counts. counted counts c.get.result.now.body) c.loop-at.invariant
    ∙ counted_more (axioms_of c.args.ontology.now.entries) c.loop-at.at c.get.result.now c.get.ensures.found

pub returns : goal.returns
returns c =
    let same = length-map c.args.ontology.now.entries (λ (e : Entry). e.«axiom») in
    c.loop-at.invariant ∙ counted_all (axioms_of c.args.ontology.now.entries) c.loop-at.at (omega (arith, same, c.loop-at-test.false, c.len-at-end.ensures.len))
