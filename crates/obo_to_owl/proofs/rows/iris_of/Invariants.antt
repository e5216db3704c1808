-- The IRIs so far are those of the clauses so far, and that of the last one stands last.
use Rattle.std.proofs.Common.{take}
use Rattle.std.specs.Option.{IfSome, option_copied}
use Rattle.iri_map.specs.Id.{iri_of}
use Rattle.obo_to_owl.specs.inner.Rows.{AreIris, EndsWith}
use Rattle.obo_to_owl.proofs.rows.iris_of.Given as goal

abbrev pub invariant-loop-one : goal.invariant-loop-one
invariant-loop-one l = record {
  last : IfSome (option_copied l.last) (λ before. EndsWith (iri_of before.id l.space) l.texts.items);
  iris : AreIris l.space (take l.one-index l.placed) l.texts.items l.places.items;
}
