use Rattle.std.proofs.Common.{arith, ◌≡◌, ◌∙◌, ℕ, sym, subst, ap, length}
use Rattle.edge_detours.proofs.RankLemmas.{within_ranked, rising, inside_rows, from_row, spoken, length_map, loops_long}
use Rattle.edge_detours.specs.Reach.{AreWithin}
use Rattle.edge_detours.specs.inner.Flags.{AreFlagged}
use Rattle.edge_detours.specs.inner.Ranks.{rank, ranked}
use Rattle.edge_detours.specs.inner.Rows.{AreRows, IsRising, IsInside}
use Rattle.fact_rows.proofs.Places.{get_inside, put_back}
use Rattle.edge_detours.proofs.by_ranks.redundant_by_ranks.Goals as goal

pub rows_of-requires-clause-within : goal.rows_of-requires-clause-within
rows_of-requires-clause-within c = subst (AreWithin c.args.node_count) (sym (c.as_slice.ensures.value ∙ c.in_ok-ends.ensures)) (within_ranked c.args.edges.now c.args.node_count c.args.ranks.now c.requires.within c.requires.ranks)

pub rows_of-requires-clause-small : goal.rows_of-requires-clause-small
rows_of-requires-clause-small c =
    let e = ap length (c.as_slice.ensures.value ∙ c.in_ok-ends.ensures) in
    let m = length_map {B = ℕ × ℕ} (λ (e : ℕ × ℕ). (rank c.args.ranks.now e.0, rank c.args.ranks.now e.1)) c.args.edges.now in
    let s = c.requires.small in
    omega (arith, e, m, s)

pub flag_detours-requires-clause-rising : goal.flag_detours-requires-clause-rising
flag_detours-requires-clause-rising c =
    let r : AreRows (ranked c.args.ranks.now c.args.edges.now) c.in_ok-rows.rows.items = subst (λ es. AreRows es c.in_ok-rows.rows.items) (c.as_slice.ensures.value ∙ c.in_ok-ends.ensures) c.in_ok-rows.ensures.rows in
    subst IsRising (sym c.as_slice-2.ensures.value) (rising c.args.edges.now c.args.node_count c.requires.within c.args.ranks.now c.requires.ranks c.in_ok-rows.rows.items r)

pub flag_detours-requires-clause-inside : goal.flag_detours-requires-clause-inside
flag_detours-requires-clause-inside c =
    let r : AreRows (ranked c.args.ranks.now c.args.edges.now) c.in_ok-rows.rows.items = subst (λ es. AreRows es c.in_ok-rows.rows.items) (c.as_slice.ensures.value ∙ c.in_ok-ends.ensures) c.in_ok-rows.ensures.rows in
    subst (IsInside c.args.node_count) (sym c.as_slice-2.ensures.value) (inside_rows c.args.edges.now c.args.node_count c.requires.within c.args.ranks.now c.requires.ranks c.in_ok-rows.rows.items r)

pub flag_detours-requires-clause-places : goal.flag_detours-requires-clause-places
flag_detours-requires-clause-places c = λ k d i m.
    let r : AreRows (ranked c.args.ranks.now c.args.edges.now) c.as_slice-2.result.now = subst (AreRows (ranked c.args.ranks.now c.args.edges.now)) (sym c.as_slice-2.ensures.value) (subst (λ es. AreRows es c.in_ok-rows.rows.items) (c.as_slice.ensures.value ∙ c.in_ok-ends.ensures) c.in_ok-rows.ensures.rows) in
    let f = from_row c.args.edges.now c.args.node_count c.requires.within c.args.ranks.now c.requires.ranks c.as_slice-2.result.now r k d i m in
    let l = get_inside c.args.edges.now i (f.from, f.to) f.at in
    let e = loops_long c.args.edges.now c.in_ok-flags.flags.items c.in_ok-flags.ensures in
    let v = c.as_mut_slice.ensures.len in
    let o = c.in_ok-flags.flags.ok.0 in
    omega arith

pub returns : goal.returns
returns c =
    let r : AreRows (ranked c.args.ranks.now c.args.edges.now) c.as_slice-2.result.now = subst (AreRows (ranked c.args.ranks.now c.args.edges.now)) (sym c.as_slice-2.ensures.value) (subst (λ es. AreRows es c.in_ok-rows.rows.items) (c.as_slice.ensures.value ∙ c.in_ok-ends.ensures) c.in_ok-rows.ensures.rows) in
    let old : c.as_mut_slice.result.now ≡ c.in_ok-flags.flags.items = c.as_mut_slice.ensures.value in
    let f : AreFlagged c.as_slice-2.result.now c.args.node_count c.in_ok-flags.flags.items c.flag_detours.new.flags = subst (λ fs. AreFlagged c.as_slice-2.result.now c.args.node_count fs c.flag_detours.new.flags) old c.in_ok-flag_detours.ensures in
    rw (put_back c.in_ok-flags.flags.items c.flag_detours.new.flags c.in_ok-flags.flags.len (omega (arith, c.in_ok-flags.flags.ok.0)) f.long)
    (spoken c.args.edges.now c.args.node_count c.requires.within c.args.ranks.now c.requires.ranks c.as_slice-2.result.now r c.in_ok-flags.flags.items c.flag_detours.new.flags c.in_ok-flags.ensures f)
