use Rattle.std.proofs.Common.{◌<◌, ap, length, slice_get, subst, sym, ◌∙◌, Some}
use Rattle.std.proofs.lemmas.Option.{same_Some}
use Rattle.iri_map.specs.Id.{iri_of}
use Rattle.obo_to_owl.proofs.RowLemmas.{AreIris-at, get_at, place-within}
use Rattle.obo_to_owl.proofs.rows.row_at.Goals as goal

pub iri_at-iri-requires : goal.iri_at-iri-requires
iri_at-iri-requires c =
    let iris = c.args.iris.now in
    subst (λ texts. c.index-place.result.now < length texts) (sym c.as_slice.ensures.value)
    (subst (λ place. place < length iris.texts.items) (sym c.index-place.ensures)
    (place-within c.args.space.now c.args.placed.now iris.texts.items iris.places.items c.args.at c.index-place.result.now c.requires.iris c.requires.within))

pub returns-clause-clause : goal.returns-clause-clause
returns-clause-clause c = get_at c.args.placed.now c.args.at c.index-placed-at.result c.requires.within ∙ ap Some (sym c.index-placed-at.is)

pub returns-clause-iri : goal.returns-clause-iri
returns-clause-iri c =
    let iris = c.args.iris.now in
    let found = ap (slice_get iris.texts.items) c.index-place.ensures ∙ AreIris-at c.args.space.now c.args.placed.now iris.texts.items iris.places.items c.args.at c.index-place.result.now c.index-placed-at.result c.requires.iris c.requires.within in
    let told = sym c.iri_at-iri.ensures ∙ ap (λ texts. slice_get texts c.index-place.result.now) c.as_slice.ensures.value ∙ found in
    same_Some _ _ told ∙ ap (λ one. iri_of one.id c.args.space.now) (sym c.index-placed-at.is)
