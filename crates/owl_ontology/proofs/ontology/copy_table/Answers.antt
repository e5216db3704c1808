use Rattle.std.proofs.Common.{◌≡◌, Some, add-one, ap, slice_get, sym, take, ◌∙◌}
use Rattle.std.specs.Map.Iter.{deref_pair}
use Rattle.std.specs.Option.{option_map}
use Rattle.indexmap.specs.IndexMap.{insert_entry}
use Rattle.owl_axioms.specs.Same.{same_axiom}
use Rattle.owl_ontology.proofs.Entries.{insert_next}
use Rattle.owl_ontology.proofs.ontology.copy_table.Goals as goal

pub loop-at-preserved : goal.loop-at-preserved
loop-at-preserved c =
    let pairs = c.args.axioms.now.entries in
    let origin = c.unwrap.result.1.now in
    let here : slice_get pairs c.loop-at.at ≡ Some (c.unwrap.result.0.now, origin) = sym c.get_index.ensures.entry ∙ ap (option_map deref_pair) c.unwrap.ensures in (
      c.in_ok-put.ensures.entries
          ∙ (λ i. insert_entry same_axiom (c.loop-at.invariant.0 i) (c.in_ok-twin.ensures i) origin)
          ∙ insert_next pairs c.loop-at.at c.unwrap.result.0.now origin c.len-at-end.ensures.unique here
          ∙ ap (λ n. take n pairs) (sym (add-one c.loop-at.at)),
      c.in_ok-put.ensures.unique,
    )
