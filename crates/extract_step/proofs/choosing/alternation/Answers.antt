use Rattle.std.proofs.Common.{ℕ, Bool, List, ap, ◌∙◌}
use Rattle.module_extract.specs.Module.{logical_flags}
use Rattle.module_extract.proofs.Counting.{flags_length}
use Rattle.owl_axioms.specs.Signature.{scope_of}
use Rattle.owl_ontology.specs.Ontology.{axioms_of}
use Rattle.star_module.specs.Star.{bottom_and_top}
use Rattle.star_module.proofs.EndTold.{star_is_told}
use Rattle.extract_step.proofs.choosing.alternation.Goals as goal

pub returns-clause-kept : goal.returns-clause-kept
returns-clause-kept g c =
    let axioms = axioms_of c.args.ontology.now.entries in
    c.into_vec.ensures ∙ ap (λ (p : List Bool × ℕ). p.0) ((star_is_told bottom_and_top axioms (scope_of c.args.sig.now) (logical_flags axioms) (flags_length axioms)).1 c.in_ok-part.part.kept c.in_ok-part.part.rounds c.in_ok-part.ensures.exact)

pub returns-clause-rounds : goal.returns-clause-rounds
returns-clause-rounds g c =
    let axioms = axioms_of c.args.ontology.now.entries in
    ap (λ (p : List Bool × ℕ). p.1) ((star_is_told bottom_and_top axioms (scope_of c.args.sig.now) (logical_flags axioms) (flags_length axioms)).1 c.in_ok-part.part.kept c.in_ok-part.part.rounds c.in_ok-part.ensures.exact)
