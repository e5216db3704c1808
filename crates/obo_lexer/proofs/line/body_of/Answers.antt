-- The body is that of the text: each way out is one case of `body_of`.
use Rattle.std.proofs.Common.{◌∙◌, rules}
use Rattle.obo_lexer.proofs.BodyLemmas.{body_of-not_utf8, body_of-text, body_of-too_long}
use Rattle.obo_lexer.proofs.line.body_of.Goals as goal

pub returns-then-not-is_utf8 : goal.returns-then-not-is_utf8
returns-then-not-is_utf8 c =
    body_of-not_utf8 c.args.limit c.args.line.items c.as_slice.result.now (c.as_slice.ensures.value ∙ c.text_of-text.ensures) (search rules)

pub returns-then-len-limit : goal.returns-then-len-limit
returns-then-len-limit c =
    body_of-too_long c.args.limit c.args.line.items c.as_slice.result.now (c.as_slice.ensures.value ∙ c.text_of-text.ensures) (search rules) (search rules)

pub returns : goal.returns
returns c =
    rw (c.from_vec.ensures, ← c.as_slice.ensures.value) (body_of-text c.args.limit c.args.line.items c.as_slice.result.now (c.as_slice.ensures.value ∙ c.text_of-text.ensures) (search rules) (search rules))
