use Rattle.std.proofs.Common.{◌≡◌, sym, ap, ◌∙◌}
use Rattle.std.specs.String.{string_bytes}
use Rattle.chain_words.specs.Table.{command_of}
use Rattle.chain_words.proofs.ReadLemmas.{first_begins}
use Rattle.chain_words.proofs.read.all_words.Goals as goal

pub returns : goal.returns
returns c =
    let command : c.command_of.result ≡ command_of (string_bytes c.index-words-0.result) = c.command_of.ensures ∙ ap command_of c.as_bytes.ensures.value in
    rw (first_begins string_bytes c.args.words.now c.index-words-0.result (sym c.if-is_empty.ensures) c.index-words-0.is) (rw command at c.begun_by.ensures)
