-- What a run wrote is held at its end.
use Rattle.std.proofs.Common.{◌≡◌, ◌≤◌, Bool, true, false, ◌||◌, cond, List, [], ◌∷◌, Option, Some, Result, Ok, Err, IfSome, refl, sym, ap, subst, ◌∙◌, length, filter, arith}
use Rattle.std.specs.Cmp.Lexicographic.{bytes_decides}
use Rattle.std.specs.FinMap.{get, insert}
use Rattle.rel_io.specs.FolderState.{Files, FolderState}
use Rattle.owl_ontology.specs.Ontology.{OntologyState}
use Rattle.chain_words.specs.Command.{is_one_of, output_names, times, writes_of, written_names}
use Rattle.chain_words.specs.Laws.{NoOutputTwice}
use Rattle.chain_words.specs.Word.{Name, same}
use Rattle.chain_words.specs.declared.command.Chain.{Chain}
use Rattle.chain_words.specs.declared.command.Command.{Command}
use Rattle.chain_words.specs.declared.command.Command.TheVariants.{Run, Generate}
use Rattle.release_report.specs.declared.fault.Fault.{Fault}
use Rattle.release_chain.specs.Ending.{Did, IsTold, SameAt}
use Rattle.release_chain.specs.Part.{Act, Opens, Puts}
use Rattle.release_chain.specs.Release.{IsReleased, PutsAll}
use Rattle.release_chain.specs.Trace.{Trace}
use Rattle.release_chain.specs.Steps.{chain_part, steps_part, turn_part}
use Rattle.release_chain.specs.Run.{OfTold}
use Rattle.release_chain.specs.declared.work.Work.{Work}
use Rattle.release_chain.specs.inner.Finish.{WordsEnd}
use Rattle.release_chain.specs.inner.Names.{all_written, put_names}
use Rattle.release_chain.specs.inner.Work.{IsAt}
use Rattle.release_chain.proofs.Chains.{first_part, first_puts}
use Rattle.release_chain.proofs.Clauses.{of_chain}
use Rattle.release_chain.proofs.Names.{get_put, names_then, same_after}
use Rattle.release_chain.proofs.Turns.{Turn, turn_puts}

-- no name is put twice
abbrev pub Once : List Name → Type 0
Once names = (name : Name) → times name names ≤ 1

any_counts : (name : Name) (names : List Name) → is_one_of name names ≡ true → 1 ≤ times name names
any_counts name [] is = absurd cc
any_counts name (x ∷ xs) is = by_test (same x name) (any_counts name xs) is
  where
    by_test : (b : Bool) → (is_one_of name xs ≡ true → 1 ≤ times name xs) → (b || is_one_of name xs) ≡ true → 1 ≤ length (cond b (x ∷ filter (λ other. same other name) xs) (filter (λ other. same other name) xs))
    by_test true later is = omega arith
    by_test false later is = later is

same_itself : (name : Name) → same name name ≡ true
same_itself name = (bytes_decides name name).1 refl

not_again : (name : Name) (names : List Name) → Once (name ∷ names) → is_one_of name names ≡ false
not_again name names once =
    let rest = filter (λ other. same other name) names in
    let all : times name (name ∷ names) ≡ length (name ∷ rest) = ap (λ b. length (cond b (name ∷ rest) rest)) (same_itself name) in
    elim (is_one_of name names) as (λ r. is_one_of name names ≡ r → r ≡ false) [
      | true ↦ λ here. absurd (let some : 1 ≤ times name names = any_counts name names here in let most : times name (name ∷ names) ≤ 1 = once name in omega arith)
      | false ↦ λ _. refl
    ] refl

-- a list is no longer with one more
no_longer : (b : Bool) (x : Name) (xs : List Name) → length (cond b (x ∷ xs) xs) ≤ 1 → length xs ≤ 1
no_longer true x xs few = omega arith
no_longer false x xs few = few

-- each output that was put is held
pub all_held : (acts : List Act) (files : Files) (now : Option Files) → Once (put_names acts) → Did acts (Some files) now → PutsAll (IsReleased now) acts
all_held [] files now once did = tt
all_held (Opens name ∷ acts) files now once did = all_held acts files now once did
all_held (Puts output ∷ acts) files now once did =
    let put = insert files output.name did.0 in
    let there : SameAt output.name put now = same_after acts output.name put (Some put) now (not_again output.name (put_names acts) once) did.2 (put, refl, refl) in (
      record {
        bytes = did.0;
        fits = did.1;
        held = subst (λ held. IfSome held (λ files. get files output.name ≡ Some did.0)) (sym there.1)
            (there.2 ∙ (get_put files output.name did.0 output.name ∙ ap (λ b. cond b (Some did.0) (get files output.name)) (same_itself output.name)));
      },
      all_held acts put now (λ name. no_longer (same output.name name) output.name (filter (λ other. same other name) (put_names acts)) (once name)) did.2,
    )

-- the names that all steps write
steps_put : (files : Files) (turns : List Turn) (trace state : Trace) → (steps_part files turns trace).answer ≡ Ok state → put_names (steps_part files turns trace).acts ≡ all_written turns
steps_put files [] trace state is = refl
steps_put files (turn ∷ turns) trace state is =
    names_then (turn_part files turn trace).acts (turn_part files turn trace).answer (steps_part files turns) state (writes_of turn) (all_written turns) is
    (λ value e. turn_puts files turn trace value e) (λ value e done. steps_put files turns value state done)

-- the names that a chain puts are those that it writes
chain_puts : (files : Files) (merged : Option OntologyState) (chain : Chain) (state : Trace) → (chain_part files merged chain).answer ≡ Ok state → put_names (chain_part files merged chain).acts ≡ written_names chain
chain_puts files merged chain state is =
    names_then (first_part files merged chain).acts (first_part files merged chain).answer (steps_part files chain.steps) state (output_names chain.first) (all_written chain.steps) is
    (λ value e. first_puts files merged chain value e) (λ value e done. steps_put files chain.steps value state done)

chain_released : (files : Files) (merged : Option OntologyState) (chain : Chain) (work : Work) (before now : Option Files) → NoOutputTwice chain → before ≡ Some files → IsTold IsAt (chain_part files merged chain) work before now → PutsAll (IsReleased now) (chain_part files merged chain).acts
chain_released files merged chain work before now once is done =
    all_held (chain_part files merged chain).acts files now
    (λ name. rw (chain_puts files merged chain done.state done.done.answered) (once name))
    (subst (λ held. Did (chain_part files merged chain).acts held now) is done.done.did)

pub released : (told : Result Command Fault) (work : Work) (before now : FolderState) → WordsEnd told before (Ok work) now → OfTold told before.holds (λ run. PutsAll (IsReleased now.holds) run.acts)
released (Err refusal) work before now ends = tt
released (Ok (Generate size)) work before now ends = record { merged = ends.ends.merged; order = ends.ends.order; says = tt }
released (Ok (Run chain)) work before now ends =
    of_chain chain before.holds (λ run. PutsAll (IsReleased now.holds) run.acts) (λ files is.
    let told = ends.ends files is in
    record {
      merged = told.merged;
      order = told.order;
      says = chain_released files told.merged chain work before.holds now.holds ends.once is told.ends;
    })
