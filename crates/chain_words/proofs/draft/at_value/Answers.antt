use Rattle.chain_words.proofs.draft.at_value.Goals as goal

pub returns-in-Err : goal.returns-in-Err
returns-in-Err c = c.in-Err.ensures.bad_value c.args.draft
