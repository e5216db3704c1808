use Rattle.std.proofs.Common.{◌≡◌, ◌<◌, Some, true, ap, length, refl, slice_get, subst, sym, true≢false, ◌∙◌}
use Rattle.std.proofs.lemmas.Option.{slice_get_read}
use Rattle.expr_pool.proofs.Lists.{some_is}
use Rattle.expr_pool.proofs.PartLemmas.{flag_kept, flag_long, marks_parts, marks_sound, nodes_before}
use Rattle.expr_pool.specs.Pool.{is_before, nodes_of, tree_of}
use Rattle.expr_pool.specs.Part.{AreBefore, AreMarked, AreReached, Keeps, flag_nodes, parts_at}
use Rattle.expr_pool.proofs.part.mark_at.Goals as goal

pub flag-requires : goal.flag-requires
flag-requires c =
    let before : AreBefore (length c.args.pool.now) (nodes_of c.node.result.now) = nodes_before c.args.pool.now c.args.at c.node.result.now c.requires.at (subst (λ p. is_before p c.node.result.now ≡ true) c.at.ensures c.node.ensures.before) in
    subst (λ ns. AreBefore (length c.args.flags.now.items) ns) (sym c.parts.ensures) (subst (λ n. AreBefore n (nodes_of c.node.result.now)) (sym c.requires.long) before)

pub returns-then-index-clause-long : goal.returns-then-index-clause-long
returns-then-index-clause-long c = ap length c.flag.ensures ∙ flag_long c.parts.result.now c.args.flags.now.items ∙ c.requires.long

pub returns-then-index-clause-kept : goal.returns-then-index-clause-kept
returns-then-index-clause-kept c = subst (Keeps c.args.flags.now.items) (sym c.flag.ensures) (flag_kept c.parts.result.now c.args.flags.now.items)

pub returns-then-index-clause-parts : goal.returns-then-index-clause-parts
returns-then-index-clause-parts c marked =
    let is : c.flag.new.flags.items ≡ flag_nodes c.args.flags.now.items (nodes_of c.node.result.now) = c.flag.ensures ∙ ap (flag_nodes c.args.flags.now.items) c.parts.ensures in
    let there : slice_get c.args.pool.now c.args.at ≡ Some (tree_of c.args.pool.now c.node.result.now) = ap (slice_get c.args.pool.now) (sym c.at.ensures) ∙ c.node.ensures.cell in
    let before : is_before c.args.at c.node.result.now ≡ true = subst (λ p. is_before p c.node.result.now ≡ true) c.at.ensures c.node.ensures.before in
    subst (λ fs. AreMarked c.args.pool.now fs (parts_at c.args.pool.now c.args.at)) (sym is) (marks_parts c.args.pool.now c.args.flags.now.items c.args.at c.node.result.now c.requires.long c.requires.at there before)

pub returns-then-index-clause-sound : goal.returns-then-index-clause-sound
returns-then-index-clause-sound c =
    let is : c.flag.new.flags.items ≡ flag_nodes c.args.flags.now.items (nodes_of c.node.result.now) = c.flag.ensures ∙ ap (flag_nodes c.args.flags.now.items) c.parts.ensures in
    let there : slice_get c.args.pool.now c.args.at ≡ Some (tree_of c.args.pool.now c.node.result.now) = ap (slice_get c.args.pool.now) (sym c.at.ensures) ∙ c.node.ensures.cell in
    subst (AreReached c.args.pool.now c.args.at c.args.flags.now.items) (sym is) (marks_sound c.args.pool.now c.args.flags.now.items c.args.at c.node.result.now there (subst (λ p. is_before p c.node.result.now ≡ true) c.at.ensures c.node.ensures.before)
    (slice_get_read c.args.flags.now.items (length c.args.flags.now.items) c.args.at c.index.result.now refl (subst (λ n. c.args.at < n) (sym c.requires.long) c.requires.at) c.index.ensures ∙ ap (λ b. Some b) c.if-index.true))

pub returns-else-index-clause-parts : goal.returns-else-index-clause-parts
returns-else-index-clause-parts c marked =
    let here : slice_get c.args.flags.now.items c.args.at ≡ Some c.index.result.now = slice_get_read c.args.flags.now.items (length c.args.flags.now.items) c.args.at c.index.result.now refl (subst (λ n. c.args.at < n) (sym c.requires.long) c.requires.at) c.index.ensures in
    absurd (true≢false (some_is (sym marked ∙ here) ∙ c.if-index.false))
