use Rattle.std.proofs.Common.{map}
use Rattle.obo_frames.specs.Framed.{unlined}
use Rattle.owl_ontology.specs.Ontology.{axioms_of}
use Rattle.obo_canonical.proofs.PartLemmas.{spelled_by}
use Rattle.obo_canonical.proofs.normal.spelled_clauses.Goals as goal

pub returns : goal.returns
returns c =
    spelled_by (map unlined c.args.document.now) c.in_ok-translated.translated.ontology.name (axioms_of c.in_ok-translated.translated.ontology.entries) (map unlined c.in_ok-spelling.spelling.placed.items)
    c.in_ok-translated.ensures.name c.in_ok-translated.ensures.axioms c.in_ok-spelling.ensures.clauses
