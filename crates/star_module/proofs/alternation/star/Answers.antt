use Rattle.std.proofs.Common.{◌≡◌, ◌<◌, ◌≤◌, ◌+◌, ◌*◌, arith, ap, sym, subst, ◌∙◌, length}
use Rattle.std.proofs.lemmas.Bool.Decides.{nat_tests}
use Rattle.owl_ontology.specs.Ontology.{axioms_of}
use Rattle.owl_axioms.specs.Signature.{scope_of}
use Rattle.module_extract.specs.Module.{IsPart, logical_flags, on_count}
use Rattle.module_extract.specs.Tests.{test_bound}
use Rattle.star_module.specs.Star.{AreRounds, IsEnd, bottom_and_top, start}
use Rattle.module_extract.proofs.Counting.{count_most, flags_length}
use Rattle.module_extract.proofs.Weights.{bound_less}
use Rattle.star_module.proofs.OneMore.{ended, fewer, goes_on}
use Rattle.star_module.proofs.Ticks.{round_ticks, times_less}
use Rattle.star_module.proofs.Rounds.{round_length, rounds_keep}
use Rattle.module_extract.proofs.Starting.{axioms_length}
use Rattle.star_module.proofs.alternation.star.Goals as goal

pub rounds-init : goal.rounds-init
rounds-init g c =
    let all = axioms_of c.args.ontology.now.entries in
    subst (λ z. record {
      long : length z ≡ length c.args.ontology.now.entries;
      falls : 0 + on_count z ≤ on_count (logical_flags all);
      of' : IsPart z (logical_flags all);
      ticks : c.args.steps.now ≤ c.args.steps.now + 0 * (2 * test_bound all (logical_flags all));
      ran : AreRounds bottom_and_top all (scope_of c.args.sig.now) (logical_flags all) 0 z;
    }) (sym c.in_ok-part.ensures) (record { long = flags_length all ∙ axioms_length c.args.ontology.now.entries; falls = omega arith; of' = λ i h. h; ticks = omega arith; ran = start })

pub overflow_add-rounds : goal.overflow_add-rounds
overflow_add-rounds g c =
    let v = c.in_ok-part.part in
    let fits : length v.items < 9223372036854775808 = omega (arith, v.ok, v.small) in
    let most = count_most v.items in
    let same = ap on_count c.in_ok-part.ensures in
    omega (arith, fits, most, same, c.rounds.invariant.falls)

pub returns-then-count-clause-exact : goal.returns-then-count-clause-exact
returns-then-count-clause-exact g c =
    let all = axioms_of c.args.ontology.now.entries in
    subst (IsEnd bottom_and_top all (scope_of c.args.sig.now) (logical_flags all) (c.rounds.rounds + 1)) (sym c.from_vec.ensures)
    (ended bottom_and_top all (scope_of c.args.sig.now) (logical_flags all) c.rounds.part.items c.in_ok-next.next.items c.rounds.rounds
    (c.rounds.invariant.long ∙ sym (axioms_length c.args.ontology.now.entries)) c.rounds.invariant.ran c.in_ok-next.ensures.round
    (sym c.count.ensures ∙ c.if-count.true ∙ c.count-in-rounds.ensures))

pub returns-then-count-clause-keeps : goal.returns-then-count-clause-keeps
returns-then-count-clause-keeps g c =
    let all = axioms_of c.args.ontology.now.entries in
    rounds_keep bottom_and_top all (scope_of c.args.sig.now) (logical_flags all) c.from_vec.result (c.rounds.rounds + 1)
    (subst (IsEnd bottom_and_top all (scope_of c.args.sig.now) (logical_flags all) (c.rounds.rounds + 1)) (sym c.from_vec.ensures)
    (ended bottom_and_top all (scope_of c.args.sig.now) (logical_flags all) c.rounds.part.items c.in_ok-next.next.items c.rounds.rounds
    (c.rounds.invariant.long ∙ sym (axioms_length c.args.ontology.now.entries)) c.rounds.invariant.ran c.in_ok-next.ensures.round
    (sym c.count.ensures ∙ c.if-count.true ∙ c.count-in-rounds.ensures)))

pub rounds-smaller : goal.rounds-smaller
rounds-smaller g c =
    let all = axioms_of c.args.ontology.now.entries in
    fewer bottom_and_top all (scope_of c.args.sig.now) (logical_flags all) c.rounds.part.items c.in_ok-next.next.items c.rounds.rounds
    (c.rounds.invariant.long ∙ sym (axioms_length c.args.ontology.now.entries)) c.rounds.invariant.ran c.in_ok-next.ensures.round
    (λ h. let e : c.count.result ≡ c.count-in-rounds.result = c.count.ensures ∙ h ∙ sym c.count-in-rounds.ensures in grind (arith, e, nat_tests))

pub rounds-preserved : goal.rounds-preserved
rounds-preserved g c =
    let all = axioms_of c.args.ontology.now.entries in
    let long = c.rounds.invariant.long ∙ sym (axioms_length c.args.ontology.now.entries) in
    let apart : on_count c.in_ok-next.next.items ≡ on_count c.rounds.part.items → ⊥ = λ h. let e : c.count.result ≡ c.count-in-rounds.result = c.count.ensures ∙ h ∙ sym c.count-in-rounds.ensures in grind (arith, e, nat_tests) in
    let less = fewer bottom_and_top all (scope_of c.args.sig.now) (logical_flags all) c.rounds.part.items c.in_ok-next.next.items c.rounds.rounds long c.rounds.invariant.ran c.in_ok-next.ensures.round apart in
    record {
      long = round_length bottom_and_top all (scope_of c.args.sig.now) c.rounds.part.items c.in_ok-next.next.items long c.in_ok-next.ensures.round ∙ axioms_length c.args.ontology.now.entries;
      falls = omega (arith, less, c.rounds.invariant.falls);
      of' = λ i h. c.rounds.invariant.of' i (c.in_ok-next.ensures.part i h);
      ticks = round_ticks c.args.steps.now c.rounds.steps c.star_round.new.steps c.rounds.rounds (test_bound all c.rounds.part.items) (test_bound all (logical_flags all)) c.rounds.invariant.ticks c.star_round.ensures.ticks (bound_less all c.rounds.part.items (logical_flags all) c.rounds.invariant.of');
      ran = goes_on bottom_and_top all (scope_of c.args.sig.now) (logical_flags all) c.rounds.part.items c.in_ok-next.next.items c.rounds.rounds long c.rounds.invariant.ran c.in_ok-next.ensures.round apart;
    }

pub returns-then-count-clause-ticks : goal.returns-then-count-clause-ticks
returns-then-count-clause-ticks g c =
    let all = axioms_of c.args.ontology.now.entries in
    round_ticks c.args.steps.now c.rounds.steps c.star_round.new.steps c.rounds.rounds (test_bound all c.rounds.part.items) (test_bound all (logical_flags all)) c.rounds.invariant.ticks c.star_round.ensures.ticks (bound_less all c.rounds.part.items (logical_flags all) c.rounds.invariant.of')

pub returns-then-count-clause-most : goal.returns-then-count-clause-most
returns-then-count-clause-most g c =
    let all = axioms_of c.args.ontology.now.entries in
    let a = round_ticks c.args.steps.now c.rounds.steps c.star_round.new.steps c.rounds.rounds (test_bound all c.rounds.part.items) (test_bound all (logical_flags all)) c.rounds.invariant.ticks c.star_round.ensures.ticks (bound_less all c.rounds.part.items (logical_flags all) c.rounds.invariant.of') in
    times_less c.args.steps.now c.star_round.new.steps (c.rounds.rounds + 1) (on_count (logical_flags all) + 1) (2 * test_bound all (logical_flags all)) a (let f = c.rounds.invariant.falls in omega (arith, f))

pub returns-in_err-next-clause-most : goal.returns-in_err-next-clause-most
returns-in_err-next-clause-most g c =
    let all = axioms_of c.args.ontology.now.entries in
    let a = round_ticks c.args.steps.now c.rounds.steps c.star_round.new.steps c.rounds.rounds (test_bound all c.rounds.part.items) (test_bound all (logical_flags all)) c.rounds.invariant.ticks c.star_round.ensures.ticks (bound_less all c.rounds.part.items (logical_flags all) c.rounds.invariant.of') in
    times_less c.args.steps.now c.star_round.new.steps (c.rounds.rounds + 1) (on_count (logical_flags all) + 1) (2 * test_bound all (logical_flags all)) a (let f = c.rounds.invariant.falls in omega (arith, f))
