use Rattle.std.proofs.Common.{◌∙◌, inl, inr, ⊎_elim}
use Rattle.obo_frames.proofs.AnswerLemmas.{document_answered, fault_answered, is_exact}
use Rattle.obo_frames.proofs.read.read_document.Goals as goal

pub returns-clause-document : goal.returns-clause-document
returns-clause-document c = document_answered c.args.line_limit c.args.bytes.now c.fed_whole.result c.fed_whole.ensures

pub returns-clause-read : goal.returns-clause-read
returns-clause-read c placed is =
    ⊎_elim (λ same. inl (same ∙ ((is_exact c.args.line_limit c.args.bytes.now).document placed).1 is)) (λ none. inr none) c.fed_whole.ensures

pub returns-clause-fault : goal.returns-clause-fault
returns-clause-fault c = fault_answered c.args.line_limit c.args.bytes.now c.fed_whole.result c.fed_whole.ensures

pub returns-clause-refused : goal.returns-clause-refused
returns-clause-refused c one is =
    ⊎_elim (λ same. inl (same ∙ ((is_exact c.args.line_limit c.args.bytes.now).fault one).1 is)) (λ none. inr none) c.fed_whole.ensures
