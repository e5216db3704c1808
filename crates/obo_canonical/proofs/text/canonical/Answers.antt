use Rattle.std.proofs.Common.{◌∙◌}
use Rattle.obo_canonical.proofs.LawLemmas.{text_of}
use Rattle.obo_canonical.proofs.text.canonical.Goals as goal

pub returns : goal.returns
returns c = record {
  exact = c.from_vec.ensures ∙ c.in_ok-text.ensures ∙ text_of c.args.document.now c.in_ok-normal.normal c.len-count.ensures.sound c.in_ok-normal.ensures.exact;
}
