use Rattle.std.proofs.Common.{ℕ, List, ◌≡◌, refl}
use Rattle.release_chain.specs.Part.{answers, reads}
use Rattle.release_chain.specs.Steps.{extracted_or, seed_in}
use Rattle.release_chain.specs.inner.Work.{IsAt}
use Rattle.release_chain.proofs.Parts.{answer_caused, answer_ends, some_trace, some_trace-is_at, then_ends}
use Rattle.release_chain.proofs.modules.extract_terms.Goals as goal

pub returns-clause-caused : goal.returns-clause-caused
returns-clause-caused g c =
    answer_caused IsAt _ c.extract_named.result _ _ (c.extract_named.ensures.answer (some_trace c.args.work) (some_trace-is_at c.args.work))

pub returns-clause-ends : goal.returns-clause-ends
returns-clause-ends g c files trace at same =
    let before = (g.F.Folder.state c.args.folder.now).holds in
    let now = (g.F.Folder.state c.read_named.new.folder).holds in
    then_ends (λ (bytes told : List ℕ). bytes ≡ told) IsAt (reads files c.args.terms.now) (λ bytes. answers (extracted_or c.args.method trace (seed_in c.args.terms.now trace.ontology bytes))) c.in_ok-bytes.bytes c.extract_named.result before now now
    (c.in_ok-bytes.ensures.ends files same)
    (λ bytes is. answer_ends IsAt (extracted_or c.args.method trace (seed_in c.args.terms.now trace.ontology bytes)) c.extract_named.result now now refl (rw (← is) (c.extract_named.ensures.answer trace at)))
