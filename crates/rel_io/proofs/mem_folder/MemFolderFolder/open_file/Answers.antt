use Rattle.std.proofs.Common.{◌≡◌, Some, nat_eq, false, true, ap, refl, subst, sym, ◌∙◌}
use Rattle.std.specs.List.{list_any}
use Rattle.rel_io.specs.inner.Finding.{IsAbsent, IsFoundAt, IsOpenAt}
use Rattle.rel_io.specs.MemFolder.{MemFolderState, fails}
use Rattle.rel_io.proofs.Counts.{from_zero, rose}
use Rattle.rel_io.proofs.Options.{none_there, same_there}
use Rattle.rel_io.proofs.mem_folder.MemFolderFolder.open_file.Goals as goal

pub invariant_of-self : goal.invariant_of-self
invariant_of-self c = (c.self.invariant.0, λ _ none. absurd (none_there none))

pub returns-then-failing-clause-opens : goal.returns-then-failing-clause-opens
returns-then-failing-clause-opens c =
    rw (← c.self.view_is) (record { closed = refl; counted = rose _ _ c.saturating_add-self-inside-then-failing.ensures })

pub returns-then-failing-clause-holds : goal.returns-then-failing-clause-holds
returns-then-failing-clause-holds c = ap (λ (m : MemFolderState). Some m.files) c.self.view_is

pub returns-then-failing-clause-answer : goal.returns-then-failing-clause-answer
returns-then-failing-clause-answer c =
    let failing : fails c.args.self.now ≡ true = ap fails (sym c.self.view_is) ∙ ap (list_any (λ number. nat_eq number c.self.inside.calls)) (sym c.deref.ensures.value) ∙ sym c.is_listed-failing.ensures ∙ c.if-failing.true in
    rw failing refl

pub returns-then-failing-clause-after : goal.returns-then-failing-clause-after
returns-then-failing-clause-after c =
    rw (← c.self.view_is, c.saturating_add-self-inside.ensures, c.saturating_add-self-inside-then-failing.ensures) refl

pub invariant_of-self-in-Some : goal.invariant_of-self-in-Some
invariant_of-self-in-Some c =
    let found : IsFoundAt c.self.inside.files.items c.args.name.now c.in-Some.at = rw c.deref-2.ensures.value at c.in-Some.ensures in
    (c.self.invariant.0, λ _ is. subst (IsOpenAt c.self.inside.files.items) (same_there is) (found.within, rw found.named found.held, from_zero _))

pub returns-in-Some-clause-opens : goal.returns-in-Some-clause-opens
returns-in-Some-clause-opens c =
    let found : IsFoundAt c.self.inside.files.items c.args.name.now c.in-Some.at = rw c.deref-2.ensures.value at c.in-Some.ensures in
    rw (← c.self.view_is) (record { is_open = refl; held = rw found.held refl; at_start = rw found.named refl })

pub returns-in-Some-clause-holds : goal.returns-in-Some-clause-holds
returns-in-Some-clause-holds c = ap (λ (m : MemFolderState). Some m.files) c.self.view_is

pub returns-in-Some-clause-answer : goal.returns-in-Some-clause-answer
returns-in-Some-clause-answer c =
    let found : IsFoundAt c.self.inside.files.items c.args.name.now c.in-Some.at = rw c.deref-2.ensures.value at c.in-Some.ensures in
    let works : fails c.args.self.now ≡ false = ap fails (sym c.self.view_is) ∙ ap (list_any (λ number. nat_eq number c.self.inside.calls)) (sym c.deref.ensures.value) ∙ sym c.is_listed-failing.ensures ∙ c.if-failing.false in
    rw (works, ← c.self.view_is, found.held) refl

pub returns-in-Some-clause-after : goal.returns-in-Some-clause-after
returns-in-Some-clause-after c =
    let found : IsFoundAt c.self.inside.files.items c.args.name.now c.in-Some.at = rw c.deref-2.ensures.value at c.in-Some.ensures in
    rw (← c.self.view_is, c.saturating_add-self-inside.ensures, found.named) refl

pub invariant_of-self-in-None : goal.invariant_of-self-in-None
invariant_of-self-in-None c = (c.self.invariant.0, λ _ none. absurd (none_there none))

pub returns-in-None-clause-opens : goal.returns-in-None-clause-opens
returns-in-None-clause-opens c =
    let absent : IsAbsent c.self.inside.files.items c.args.name.now = rw c.deref-2.ensures.value at c.in-None.ensures in
    rw (← c.self.view_is) (record { closed = refl; counted = rose _ _ c.saturating_add-self-inside-in-None.ensures; not_held = rw absent.not_held refl })

pub returns-in-None-clause-holds : goal.returns-in-None-clause-holds
returns-in-None-clause-holds c = ap (λ (m : MemFolderState). Some m.files) c.self.view_is

pub returns-in-None-clause-answer : goal.returns-in-None-clause-answer
returns-in-None-clause-answer c =
    let absent : IsAbsent c.self.inside.files.items c.args.name.now = rw c.deref-2.ensures.value at c.in-None.ensures in
    let works : fails c.args.self.now ≡ false = ap fails (sym c.self.view_is) ∙ ap (list_any (λ number. nat_eq number c.self.inside.calls)) (sym c.deref.ensures.value) ∙ sym c.is_listed-failing.ensures ∙ c.if-failing.false in
    rw (works, ← c.self.view_is, absent.not_held) refl

pub returns-in-None-clause-after : goal.returns-in-None-clause-after
returns-in-None-clause-after c =
    rw (← c.self.view_is, c.saturating_add-self-inside.ensures, c.saturating_add-self-inside-in-None.ensures) refl
