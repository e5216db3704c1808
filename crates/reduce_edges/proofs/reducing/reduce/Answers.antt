use Rattle.std.proofs.Common.{ap, ◌∙◌, ◌-◌}
use Rattle.owl_ontology.specs.Ontology.{axioms_of}
use Rattle.reduce_edges.specs.inner.Staying.{stays_of}
use Rattle.reduce_edges.proofs.After.{fewer, reduced_by, stays_long}
use Rattle.reduce_edges.proofs.Going.{reduce_by}
use Rattle.reduce_edges.proofs.reducing.reduce.Goals as goal

pub keep-requires : goal.keep-requires
keep-requires c = stays_long c.args.ontology.now.entries c.args.keep_annotated c.as_slice.result.now c.in_ok-stays.stays.items c.in_ok-stays.ensures

pub overflow_sub-result : goal.overflow_sub-result
overflow_sub-result c = fewer c.args.ontology.now c.keep.new.self c.in_ok-stays.stays.items c.len-before.result c.len-after.result c.keep.ensures c.len-before.ensures.len c.len-after.ensures.len

pub returns-clause-exact : goal.returns-clause-exact
returns-clause-exact c =
    reduce_by c.args.ontology.now c.keep.new.self c.args.keep_annotated (c.len-before.result - c.len-after.result)
    (reduced_by c.args.ontology.now c.keep.new.self c.in_ok-graph.graph.names.keys c.in_ok-graph.graph.edges.items c.in_ok-flags.flags.items c.in_ok-stays.stays.items c.args.keep_annotated c.len-before.result c.len-after.result
    c.in_ok-graph.ensures c.in_ok-flags.ensures.apart c.in_ok-flags.ensures.flags (c.in_ok-stays.ensures ∙ ap (stays_of c.args.keep_annotated (axioms_of c.args.ontology.now.entries)) c.as_slice.ensures.value) c.keep.ensures c.len-before.ensures.len c.len-after.ensures.len).reduced

pub returns-clause-reduced : goal.returns-clause-reduced
returns-clause-reduced c =
    (reduced_by c.args.ontology.now c.keep.new.self c.in_ok-graph.graph.names.keys c.in_ok-graph.graph.edges.items c.in_ok-flags.flags.items c.in_ok-stays.stays.items c.args.keep_annotated c.len-before.result c.len-after.result
    c.in_ok-graph.ensures c.in_ok-flags.ensures.apart c.in_ok-flags.ensures.flags (c.in_ok-stays.ensures ∙ ap (stays_of c.args.keep_annotated (axioms_of c.args.ontology.now.entries)) c.as_slice.ensures.value) c.keep.ensures c.len-before.ensures.len c.len-after.ensures.len).reduced

pub returns-clause-reach : goal.returns-clause-reach
returns-clause-reach c =
    (reduced_by c.args.ontology.now c.keep.new.self c.in_ok-graph.graph.names.keys c.in_ok-graph.graph.edges.items c.in_ok-flags.flags.items c.in_ok-stays.stays.items c.args.keep_annotated c.len-before.result c.len-after.result
    c.in_ok-graph.ensures c.in_ok-flags.ensures.apart c.in_ok-flags.ensures.flags (c.in_ok-stays.ensures ∙ ap (stays_of c.args.keep_annotated (axioms_of c.args.ontology.now.entries)) c.as_slice.ensures.value) c.keep.ensures c.len-before.ensures.len c.len-after.ensures.len).reach

pub returns-clause-entailed : goal.returns-clause-entailed
returns-clause-entailed c =
    (reduced_by c.args.ontology.now c.keep.new.self c.in_ok-graph.graph.names.keys c.in_ok-graph.graph.edges.items c.in_ok-flags.flags.items c.in_ok-stays.stays.items c.args.keep_annotated c.len-before.result c.len-after.result
    c.in_ok-graph.ensures c.in_ok-flags.ensures.apart c.in_ok-flags.ensures.flags (c.in_ok-stays.ensures ∙ ap (stays_of c.args.keep_annotated (axioms_of c.args.ontology.now.entries)) c.as_slice.ensures.value) c.keep.ensures c.len-before.ensures.len c.len-after.ensures.len).entailed

pub returns-clause-keeps : goal.returns-clause-keeps
returns-clause-keeps c =
    (reduced_by c.args.ontology.now c.keep.new.self c.in_ok-graph.graph.names.keys c.in_ok-graph.graph.edges.items c.in_ok-flags.flags.items c.in_ok-stays.stays.items c.args.keep_annotated c.len-before.result c.len-after.result
    c.in_ok-graph.ensures c.in_ok-flags.ensures.apart c.in_ok-flags.ensures.flags (c.in_ok-stays.ensures ∙ ap (stays_of c.args.keep_annotated (axioms_of c.args.ontology.now.entries)) c.as_slice.ensures.value) c.keep.ensures c.len-before.ensures.len c.len-after.ensures.len).keeps
