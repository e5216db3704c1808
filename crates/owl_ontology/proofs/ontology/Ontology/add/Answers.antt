use Rattle.std.proofs.Common.{◌≡◌, ◌↔◌, IsTrue, ap, is_some, subst, sym, ◌∙◌, if◌then◌else◌, ◌+◌, not, ◌==◌}
use Rattle.std.specs.Map.{keys_of, lookup}
use Rattle.std.specs.Option.{option_map_or}
use Rattle.owl_axioms.specs.Same.{same_axiom}
use Rattle.owl_ontology.specs.Ontology.{IsHeld, OntologyState, add_entry, entries_of}
use Rattle.owl_ontology.specs.Origins.{lesser}
use Rattle.owl_axioms.specs.Proper.{AreProper}
use Rattle.owl_ontology.proofs.Entries.{AreProper-insert, entries_of-insert, grown, is_new}
use Rattle.owl_ontology.proofs.ontology.Ontology.add.Goals as goal

pub invariant_of-self-2 : goal.invariant_of-self-2
invariant_of-self-2 c =
    let pairs = c.self.inside.axioms.entries in (
      c.in_ok-put_least.ensures.unique,
      subst (λ es. AreProper (keys_of es)) (sym c.in_ok-put_least.ensures.entries)
          (AreProper-insert pairs c.args.axiom (option_map_or (lesser c.args.origin) (lookup (same_axiom c.args.axiom) pairs) c.args.origin) c.requires c.self.invariant.1),
    )

pub returns-clause-entries : goal.returns-clause-entries
returns-clause-entries c =
    let pairs = c.self.inside.axioms.entries in
    let entries : entries_of c.put_least.new.axioms.entries ≡ add_entry c.args.axiom c.args.origin (entries_of pairs) = ap entries_of c.in_ok-put_least.ensures.entries ∙ entries_of-insert pairs c.args.axiom c.args.origin in
    let after : OntologyState = record { name = c.self.inside.name; entries = entries_of c.put_least.new.axioms.entries } in
    subst (λ (o : OntologyState). after ≡ record o { entries = add_entry c.args.axiom c.args.origin o.entries }) c.self.view_is (λ i. record { name = c.self.inside.name; entries = entries i })

pub returns-clause-is_new : goal.returns-clause-is_new
returns-clause-is_new c =
    let pairs = c.self.inside.axioms.entries in
    let held = is_some (lookup (same_axiom c.args.axiom) pairs) in
    let longer : c.len.result ≡ c.len-count.result + (if held then 0 else 1) = c.len.ensures.len ∙ c.in_ok-put_least.ensures.len ∙ ap (λ n. n + (if held then 0 else 1)) (sym c.len-count.ensures.len) in
    subst (λ (o : OntologyState). IsTrue (not (c.len.result == c.len-count.result)) ↔ ¬ (IsHeld c.args.axiom o.entries)) c.self.view_is
    (is_new pairs c.args.axiom (not (c.len.result == c.len-count.result)) (grown held c.len-count.result c.len.result longer))
