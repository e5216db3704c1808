-- At the line's end nothing is left to cover.
use Rattle.std.proofs.Common.{◌≡◌, arith, subst, List, ℕ, length, []}
use Rattle.std.proofs.lemmas.List.{append-nil}
use Rattle.obo_lexer.specs.Tokens.{Covers}
use Rattle.obo_lexer.proofs.token.tokens.Goals as goal

pub returns : goal.returns
returns c =
    let line = c.args.line.now in
    let tokens = c.loop-place.tokens.items in
    let at_end : c.loop-place.place ≡ length c.as_slice-bytes.result.now = omega arith in
    let all = c.loop-place.invariant.covers [] at_end in
    let P : List ℕ → Type 0 = λ bytes. Covers bytes 0 tokens in
    subst P c.as_slice-bytes.ensures (rw append-nil at all)
