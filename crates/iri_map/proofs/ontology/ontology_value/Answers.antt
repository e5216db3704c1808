use Rattle.std.proofs.Common.{◌≡◌, ℕ, List, Result, Ok, Err, IfOk, rules, subst, sym}
use Rattle.iri_map.specs.Ontology.{IsNormalisedValue, ontology_value}
use Rattle.iri_map.proofs.OntologyLemmas.{IsNormalisedValue-ontology_value}
use Rattle.iri_map.proofs.ontology.ontology_value.Goals as goal

-- what the definition computes is a normalised value
meant : {E : Type 0} (iri : List ℕ) (r : Result (List ℕ) E) → IfOk r (λ value. value ≡ ontology_value iri) → IfOk r (IsNormalisedValue iri)
meant iri (Ok value) e = subst (IsNormalisedValue iri) (sym e) (IsNormalisedValue-ontology_value iri)
meant iri (Err e) _ = tt

pub returns-clause-exact : goal.returns-clause-exact
unfolding ontology_value
returns-clause-exact c = search rules

pub returns-clause-meaning : goal.returns-clause-meaning
returns-clause-meaning c = meant c.args.iri.now c.from_slice.result (returns-clause-exact c)

pub returns-in-Some-clause-exact : goal.returns-in-Some-clause-exact
unfolding ontology_value
returns-in-Some-clause-exact c = search rules

pub returns-in-Some-clause-meaning : goal.returns-in-Some-clause-meaning
returns-in-Some-clause-meaning c =
    subst (IsNormalisedValue c.args.iri.now) (sym (returns-in-Some-clause-exact c)) (IsNormalisedValue-ontology_value c.args.iri.now)
