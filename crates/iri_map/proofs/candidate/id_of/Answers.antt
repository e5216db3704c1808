use Rattle.std.proofs.Common.{◌≡◌, ◌↔◌, IfSome, IsTrue, subst, sym}
use Rattle.std.specs.Option.{IsNone}
use Rattle.std.proofs.lemmas.Option.{IfSome_then}
use Rattle.std.proofs.lemmas.Result.{IfOk-weaker}
use Rattle.iri_map.specs.Candidate.{HasNoId}
use Rattle.iri_map.specs.Id.{iri_of}
use Rattle.rel_io.specs.Texts.{is_readable}
use Rattle.iri_map.proofs.CandidateLemmas.{id_of-names_iri, id_of-none}
use Rattle.iri_map.proofs.candidate.id_of.Goals as goal

pub returns-clause-missing : goal.returns-clause-missing
returns-clause-missing c =
    IfOk-weaker c.first_fitting.result _ _ (λ found same.
    subst (λ o. IsNone o ↔ HasNoId c.args.iri.now c.args.ontology.now) (sym same) (id_of-none c.args.iri.now c.args.ontology.now))
    c.first_fitting.ensures

pub returns-clause-readable : goal.returns-clause-readable
returns-clause-readable c =
    IfOk-weaker c.first_fitting.result _ _ (λ found same.
    subst (λ o. IfSome o (λ id. IsTrue (is_readable id))) (sym same)
    (IfSome_then _ (id_of-names_iri c.args.iri.now c.args.ontology.now) (λ id (both : IsTrue (is_readable id) × (iri_of id c.args.ontology.now ≡ c.args.iri.now)). both.0)))
    c.first_fitting.ensures

pub returns-clause-names : goal.returns-clause-names
returns-clause-names c =
    IfOk-weaker c.first_fitting.result _ _ (λ found same.
    subst (λ o. IfSome o (λ id. iri_of id c.args.ontology.now ≡ c.args.iri.now)) (sym same)
    (IfSome_then _ (id_of-names_iri c.args.iri.now c.args.ontology.now) (λ id (both : IsTrue (is_readable id) × (iri_of id c.args.ontology.now ≡ c.args.iri.now)). both.1)))
    c.first_fitting.ensures
