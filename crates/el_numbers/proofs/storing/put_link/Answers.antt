use Rattle.std.proofs.Common.{refl, subst, true, false}
use Rattle.fact_rows.specs.Rows.{InsertsAt}
use Rattle.el_numbers.proofs.PutLemmas.{puts_link, puts_old}
use Rattle.el_numbers.proofs.storing.put_link.Goals as goal

pub returns-then-not-is_new : goal.returns-then-not-is_new
returns-then-not-is_new c =
    let i : InsertsAt c.args.rows.now.links.items c.args.start (c.args.role, c.args.end) false c.insert_pair_at.new.rows.items =
    subst (λ f. InsertsAt c.args.rows.now.links.items c.args.start (c.args.role, c.args.end) f c.insert_pair_at.new.rows.items) c.if-not-is_new.true c.in_ok-is_new.ensures.inserts in
    puts_old c.args.rows.now (record c.args.rows.now { links = c.insert_pair_at.new.rows }) _ c.requires.linked i.1 refl i.0 refl refl

pub returns : goal.returns
returns c =
    let i : InsertsAt c.args.rows.now.links.items c.args.start (c.args.role, c.args.end) true c.insert_pair_at.new.rows.items =
    subst (λ f. InsertsAt c.args.rows.now.links.items c.args.start (c.args.role, c.args.end) f c.insert_pair_at.new.rows.items) c.if-not-is_new.false c.in_ok-is_new.ensures.inserts in
    puts_link c.args.rows.now (record c.args.rows.now { links = c.insert_pair_at.new.rows; back = c.push_pair_at.new.rows }) c.args.start c.args.role c.args.end
    c.requires.linked c.requires.start c.requires.end i.0 i.1 c.in_ok-push_pair_at.ensures.pushes refl refl
