use Rattle.std.proofs.Common.{ap, ◌∙◌}
use Rattle.el_part.specs.Part.{view_of}
use Rattle.el_taxonomy.specs.inner.Adding.{said_of_all}
use Rattle.el_taxonomy.proofs.Adding.{infers, key_absent, key_proper}
use Rattle.el_taxonomy.proofs.reasoning.with_edges.Goals as goal

pub add_all-requires : goal.add_all-requires
add_all-requires c =
    let before = c.args.ontology.now in
    let view = view_of c.args.pool.now c.args.part.now in
    let edges = c.in_ok-edges.edges.items in
    let keys = c.in_ok-bodies.bodies.keys in
    let put = c.in_ok-bodies.ensures ∙ ap said_of_all c.as_slice.ensures.value in
    record {
      proper = key_proper before view c.requires.1.part_is edges c.in_ok-edges.ensures keys put c.len-proper.ensures.proper;
      absent = key_absent before view c.requires.1.part_is edges c.in_ok-edges.ensures keys put;
    }

pub returns-clause-infers : goal.returns-clause-infers
returns-clause-infers c =
    let before = c.args.ontology.now in
    let view = view_of c.args.pool.now c.args.part.now in
    let edges = c.in_ok-edges.edges.items in
    let keys = c.in_ok-bodies.bodies.keys in
    let put = c.in_ok-bodies.ensures ∙ ap said_of_all c.as_slice.ensures.value in
    infers before view c.requires.1.part_is edges c.in_ok-edges.ensures keys put c.add_all.new.ontology c.len.result c.len.ensures.len c.in_ok-add_all.ensures.added
