use Rattle.std.proofs.Common.{◌≡◌, ◌==◌, ℕ, [], Some, length, nat_eq, false, true, ap, refl, sym, ◌∙◌, eq-eqb, arith}
use Rattle.std.proofs.lemmas.Grind.{common_steps}
use Rattle.std.specs.List.{list_any}
use Rattle.std.specs.Option.{unwrap_or}
use Rattle.rel_io.specs.inner.Finding.{IsOpenAt, bytes_at}
use Rattle.rel_io.specs.FolderState.{Position}
use Rattle.rel_io.specs.MemFolder.{MemFolderState, fails, next_count, read_answer}
use Rattle.rel_io.specs.declared.folder.Got.TheVariants as got
use Rattle.rel_io.proofs.Counts.{rose}
use Rattle.rel_io.proofs.Options.{none_there}
use Rattle.rel_io.proofs.mem_folder.MemFolderFolder.read.Goals as goal

-- a call that does not fail and gives no byte is at the file's end
at_end : (m : MemFolderState) (at : Position) (room : ℕ) → fails m ≡ false → next_count m at room ≡ 0 → got.AtEnd ≡ read_answer m at room
at_end m at room works none = let nothing : (next_count m at room == 0) ≡ true = eq-eqb _ _ none in rw (works, nothing) refl

pub returns-then-count-eq0-clause-answer : goal.returns-then-count-eq0-clause-answer
returns-then-count-eq0-clause-answer c =
    let is_open : IsOpenAt c.self.inside.files.items c.unwrap-at.result = c.self.invariant.1 _ c.unwrap-at.ensures in
    at_end c.args.self.now (unwrap_or c.args.self.now.opened (record { name = []; place = 0 })) (length c.args.into.now)
    (rw (← c.self.view_is) (cc))
    (let content : c.content-file.result.now ≡ bytes_at c.self.inside.files.items c.unwrap-at.result.0 = rw c.deref-2.ensures.value at c.content-file.ensures in
    rw (← c.self.view_is, c.unwrap-at.ensures, is_open.1, ← content) (grind (arith, common_steps, c.copy_front-count.ensures.count, c.if-count-eq0.true)))

pub invariant_of-self : goal.invariant_of-self
invariant_of-self c = (c.self.invariant.0, λ _ none. absurd (none_there none))

pub returns-then-failing-clause-reads : goal.returns-then-failing-clause-reads
returns-then-failing-clause-reads c =
    rw (← c.self.view_is) (record { closed = refl; counted = rose _ _ c.saturating_add-self-inside-then-failing.ensures })

pub returns-then-failing-clause-holds : goal.returns-then-failing-clause-holds
returns-then-failing-clause-holds c = ap (λ (m : MemFolderState). Some m.files) c.self.view_is

pub returns-then-failing-clause-answer : goal.returns-then-failing-clause-answer
returns-then-failing-clause-answer c =
    let failing : fails c.args.self.now ≡ true = ap fails (sym c.self.view_is) ∙ ap (list_any (λ number. nat_eq number c.self.inside.calls)) (sym c.deref.ensures.value) ∙ sym c.is_listed-failing.ensures ∙ c.if-failing.true in
    rw failing refl

pub returns-then-failing-clause-after : goal.returns-then-failing-clause-after
returns-then-failing-clause-after c =
    rw (← c.self.view_is, c.saturating_add-self-inside.ensures, c.saturating_add-self-inside-then-failing.ensures) refl

pub returns-then-failing-clause-bytes : goal.returns-then-failing-clause-bytes
returns-then-failing-clause-bytes c = refl

pub content-file-requires : goal.content-file-requires
content-file-requires c = rw c.deref-2.ensures.value (c.self.invariant.1 _ c.unwrap-at.ensures).0

pub invariant_of-self-then-count-eq0 : goal.invariant_of-self-then-count-eq0
invariant_of-self-then-count-eq0 c = c.self.invariant

pub returns-then-count-eq0-clause-holds : goal.returns-then-count-eq0-clause-holds
returns-then-count-eq0-clause-holds c = ap (λ (m : MemFolderState). Some m.files) c.self.view_is

pub returns-then-count-eq0-clause-after : goal.returns-then-count-eq0-clause-after
returns-then-count-eq0-clause-after c = rw (← c.self.view_is, c.saturating_add-self-inside.ensures) refl

pub returns-clause-holds : goal.returns-clause-holds
returns-clause-holds c = ap (λ (m : MemFolderState). Some m.files) c.self.view_is
