use Rattle.std.proofs.Common.{◌≡◌, IsTrue, Some, ap, false, slice_get, subst, sym, true≢false, ◌∙◌}
use Rattle.el_saturate.proofs.SaturationLemmas.{no_role, with_role}
use Rattle.el_saturate.specs.Table.{Facts, SaysLink}
use Rattle.el_saturate.proofs.table.Table.link.Goals as goal

pub returns-in-None-get_index_of : goal.returns-in-None-get_index_of
returns-in-None-get_index_of c =
    let t : Facts = record { numbers = c.self.inside.numbers.items; roles = c.self.inside.roles.keys; table = c.self.inside.table } in
    subst (λ (f : Facts). (IsTrue false → SaysLink f c.args.a c.args.role.now c.args.b) × (SaysLink f c.args.a c.args.role.now c.args.b → IsTrue false)) c.self.view_is
    (λ y. absurd (true≢false (sym y)), λ says. absurd (no_role t c.args.a c.args.role.now c.args.b (sym c.get_index_of.ensures.index ∙ c.in-None-get_index_of.is) says))

pub returns-in-Some-number_at : goal.returns-in-Some-number_at
returns-in-Some-number_at c =
    let t : Facts = record { numbers = c.self.inside.numbers.items; roles = c.self.inside.roles.keys; table = c.self.inside.table } in
    let at_a : slice_get t.numbers c.args.a.place ≡ Some c.in-Some.start = ap (λ ns. slice_get ns c.args.a.place) (sym c.deref.ensures.value) ∙ sym c.number_at.ensures ∙ c.in-Some.is in
    let at_b : slice_get t.numbers c.args.b.place ≡ Some c.in-Some-number_at.end = ap (λ ns. slice_get ns c.args.b.place) (sym c.deref-in-Some-get_index_of.ensures.value) ∙ sym c.number_at-in-Some-get_index_of.ensures ∙ c.in-Some-number_at.is in
    subst (λ (f : Facts). (IsTrue c.link.result → SaysLink f c.args.a c.args.role.now c.args.b) × (SaysLink f c.args.a c.args.role.now c.args.b → IsTrue c.link.result)) c.self.view_is
    (with_role t c.args.a c.args.role.now c.args.b c.in-Some.start c.in-Some-get_index_of.number c.in-Some-number_at.end c.link.result at_a (sym c.get_index_of.ensures.index ∙ c.in-Some-get_index_of.is) at_b c.link.ensures)
