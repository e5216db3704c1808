use Rattle.iri_map.proofs.LawLemmas.{FollowsForms-all}
use Rattle.iri_map.proofs.laws.iri_follows_forms.Goals as goal

pub returns : goal.returns
returns c = FollowsForms-all c.args.id.now c.args.ontology.now
