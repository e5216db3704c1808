use Rattle.std.proofs.Common.{◌++◌, ap, codes, ◌∙◌, append_assoc}
use Rattle.obo_gen.specs.Generated.{clause}
use Rattle.obo_gen.proofs.frames.push_definition.Goals as goal

pub returns : goal.returns
returns c =
    let whole = clause (codes "intersection_of: part_of ") c.args.whole in
    c.in_ok-push_clause-2.ensures
    ∙ ap (λ xs. xs ++ whole) c.in_ok-push_clause.ensures
    ∙ append_assoc c.args.out.now.items (clause (codes "intersection_of: ") c.args.class) whole
