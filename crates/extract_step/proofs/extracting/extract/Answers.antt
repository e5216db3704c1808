use Rattle.std.proofs.Common.{ap, length, subst, sym, ◌∙◌}
use Rattle.module_extract.specs.Shipped.{shipped_flags}
use Rattle.module_extract.proofs.Starting.{axioms_length}
use Rattle.owl_axioms.specs.Signature.{scope_of}
use Rattle.owl_ontology.specs.Ontology.{axioms_of}
use Rattle.owl_sem.specs.Models.{Keeps}
use Rattle.extract_step.proofs.Keeping.{chosen_long, extracting_keeps, extracts, left_long}
use Rattle.extract_step.proofs.extracting.extract.Goals as goal

pub shipped-requires : goal.shipped-requires
shipped-requires c =
    let before = c.args.ontology.now.entries in
    ap length c.in_ok-kept.ensures.kept ∙ chosen_long c.args.method (scope_of c.args.seed.now.sig) (axioms_of before) ∙ axioms_length before

pub keep-requires : goal.keep-requires
keep-requires c =
    let before = c.args.ontology.now.entries in
    let scope = scope_of c.args.seed.now.sig in
    ap length (c.in_ok-flags.ensures.exact ∙ ap (shipped_flags scope (axioms_of before)) c.in_ok-kept.ensures.kept) ∙ left_long c.args.method scope (axioms_of before) ∙ axioms_length before

pub returns-clause-extracted : goal.returns-clause-extracted
returns-clause-extracted c =
    let before = c.args.ontology.now in
    extracts c.args.method c.args.seed.now before c.keep.new.self c.in_ok-flags.flags.items c.keep.ensures
    (c.in_ok-flags.ensures.exact ∙ ap (shipped_flags (scope_of c.args.seed.now.sig) (axioms_of before.entries)) c.in_ok-kept.ensures.kept)

pub returns-clause-keeps : goal.returns-clause-keeps
returns-clause-keeps c =
    let before = c.args.ontology.now in
    let scope = scope_of c.args.seed.now.sig in
    let is =
    extracts c.args.method c.args.seed.now before c.keep.new.self c.in_ok-flags.flags.items c.keep.ensures
    (c.in_ok-flags.ensures.exact ∙ ap (shipped_flags scope (axioms_of before.entries)) c.in_ok-kept.ensures.kept)
    in
    subst (λ after. Keeps (axioms_of before.entries) (axioms_of after.entries) scope) (sym is) (extracting_keeps c.args.method c.args.seed.now before).seeds
