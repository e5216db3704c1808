use Rattle.std.proofs.Common.{◌++◌, ap, append-nil, get_or, refl, sym, ◌∙◌}
use Rattle.clause_printer.specs.Printing as spec
use Rattle.clause_printer.proofs.LoopLemmas.{all_told, one_more}
use Rattle.clause_printer.proofs.printer.push_inside_quotes.Goals as goal

pub loop-byte-preserved : goal.loop-byte-preserved
loop-byte-preserved c =
    let held = c.loop-byte.out.items in
    let byte = get_or c.args.text.now c.loop-byte.byte-index 0 in
    let pushed = c.in_ok-push_byte.ensures ∙ ap (λ is_escaped. held ++ spec.spelled_byte is_escaped byte) c.is_escaped_in_quotes.ensures in
    one_more (λ b. spec.spelled_byte (spec.is_escaped_in_quotes b) b) c.args.text.now c.loop-byte.byte-index byte 0 c.args.out.now.items held _ c.loop-byte-test.true refl c.loop-byte.invariant pushed

pub loop-byte-init : goal.loop-byte-init
loop-byte-init c = sym (append-nil c.args.out.now.items)

pub returns : goal.returns
returns c =
    all_told (λ b. spec.spelled_byte (spec.is_escaped_in_quotes b) b) c.args.text.now c.loop-byte.byte-index c.args.out.now.items c.loop-byte.out.items c.loop-byte-test.false c.loop-byte.invariant
