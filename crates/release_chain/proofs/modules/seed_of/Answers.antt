use Rattle.std.proofs.Common.{ap, ◌∙◌}
use Rattle.iri_map.specs.Ontology.{name_or_temp}
use Rattle.rel_io.specs.declared.limits.Limits.{Limits}
use Rattle.release_chain.proofs.Seeds.{seeded}
use Rattle.release_chain.proofs.modules.seed_of.Goals as goal

pub returns-in-Ok-read_seed : goal.returns-in-Ok-read_seed
returns-in-Ok-read_seed c =
    seeded c.args.terms.now c.args.ontology.now c.in-Ok.space c.release.result.seed_lines c.args.bytes.now c.in-Ok-read_seed.seed (c.in-Ok.ensures ∙ ap name_or_temp c.name.ensures) (ap (λ (l : Limits). l.seed_lines) c.release.ensures) c.in-Ok-read_seed.ensures
