-- What is left is what the definitions leave.
use Rattle.std.proofs.Common.{List, ap, map, subst, ◌∙◌}
use Rattle.text_sets.specs.Sorted.{sorted_by}
use Rattle.obo_to_owl.specs.Reports.{report_key, report_of}
use Rattle.obo_to_owl.specs.inner.Known.{IsKnown}
use Rattle.obo_to_owl.specs.inner.Rows.{AreRead, clause_of}
use Rattle.obo_to_owl.specs.declared.rows.Row.{Row}
use Rattle.obo_to_owl.proofs.Linking.{left_rows}
use Rattle.obo_to_owl.proofs.translation.of_rows.Goals as goal

pub axioms_in-requires-clause-known : goal.axioms_in-requires-clause-known
axioms_in-requires-clause-known c = record {
  name = c.in_ok-situation.ensures.name ∙ c.requires.name;
  metadata = c.in_ok-situation.ensures.metadata;
  intersections = c.in_ok-situation.ensures.intersections;
  unions = c.in_ok-situation.ensures.unions;
}

pub returns-clause-dropped : goal.returns-clause-dropped
returns-clause-dropped c =
    let rows = c.args.rows.now in
    let s = c.in_ok-situation.situation in
    let known : IsKnown rows s = record {
      name = c.in_ok-situation.ensures.name ∙ c.requires.name;
      metadata = c.in_ok-situation.ensures.metadata;
      intersections = c.in_ok-situation.ensures.intersections;
      unions = c.in_ok-situation.ensures.unions;
    } in
    let read = subst (λ space. AreRead space rows) c.requires.space c.requires.read in
    c.in_ok-dropped.ensures
    ∙ ap (λ (left : List Row). sorted_by report_key (map report_of (map clause_of left))) (c.as_slice.ensures.value ∙ c.in_ok-translated.ensures.left ∙ left_rows rows s known read rows (λ row here. here))
