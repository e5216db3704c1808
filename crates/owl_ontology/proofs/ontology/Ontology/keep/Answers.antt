use Rattle.std.proofs.Common.{◌≡◌, ap, rules, subst, sym, ◌∙◌}
use Rattle.std.specs.Map.{keys_of}
use Rattle.owl_ontology.specs.Ontology.{OntologyState, entries_of, flagged}
use Rattle.owl_axioms.specs.Proper.{AreProper}
use Rattle.owl_ontology.proofs.Keeping.{AreProper-flagged, entries_of-flagged, flagged-RetainsPairs}
use Rattle.owl_ontology.proofs.ontology.Ontology.keep.Goals as goal

pub invariant_of-self : goal.invariant_of-self
invariant_of-self c =
    let pairs = c.self.inside.axioms.entries in
    let kept : c.retain.new.self.entries ≡ flagged c.args.flags.now.items pairs =
    flagged-RetainsPairs _ (λ f. f.0.now.now) (λ f k v b w g call. search rules) _ pairs c.retain.new.self.entries c.retain.ensures.filtered
    ∙ ap (λ flags. flagged flags pairs) c.as_slice-rest.ensures.value in
    (c.retain.ensures.unique, subst (λ es. AreProper (keys_of es)) (sym kept) (AreProper-flagged c.args.flags.now.items pairs c.self.invariant.1))

pub returns : goal.returns
returns c =
    let pairs = c.self.inside.axioms.entries in
    let kept : c.retain.new.self.entries ≡ flagged c.args.flags.now.items pairs =
    flagged-RetainsPairs _ (λ f. f.0.now.now) (λ f k v b w g call. search rules) _ pairs c.retain.new.self.entries c.retain.ensures.filtered
    ∙ ap (λ flags. flagged flags pairs) c.as_slice-rest.ensures.value in
    let after : OntologyState = record { name = c.self.inside.name; entries = entries_of c.retain.new.self.entries } in
    let entries : entries_of c.retain.new.self.entries ≡ flagged c.args.flags.now.items (entries_of pairs) = ap entries_of kept ∙ entries_of-flagged c.args.flags.now.items pairs in
    subst (λ (o : OntologyState). after ≡ record o { entries = flagged c.args.flags.now.items o.entries }) c.self.view_is (λ i. record { name = c.self.inside.name; entries = entries i })
