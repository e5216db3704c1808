-- How a chain ends.
use Rattle.std.proofs.Common.{◌≡◌, Bool, true, false, [], ◌++◌, Option, Some, Result, Ok, Err, refl}
use Rattle.rel_io.specs.FolderState.{Files}
use Rattle.owl_ontology.specs.Ontology.{OntologyState}
use Rattle.chain_words.specs.Command.{is_one_of, output_names, read_names, written_names}
use Rattle.chain_words.specs.Given.{option_list}
use Rattle.chain_words.specs.Laws.{NoOutputIsInput}
use Rattle.chain_words.specs.Word.{Name, same}
use Rattle.chain_words.specs.declared.command.Chain.{Chain}
use Rattle.release_report.specs.declared.fault.Fault.{Fault}
use Rattle.release_chain.specs.Ending.{Did, Ends, IsTold, SameAtAll}
use Rattle.release_chain.specs.Part.{Part, then_do}
use Rattle.release_chain.specs.Trace.{Trace, load_part, sources_of}
use Rattle.release_chain.specs.Steps.{output_part, steps_part}
use Rattle.release_chain.specs.declared.work.Work.{Work}
use Rattle.release_chain.specs.inner.Finish.{ChainEnds, LoadEnds}
use Rattle.release_chain.specs.inner.Names.{AreApart, all_read, all_written, put_names}
use Rattle.release_chain.specs.inner.Work.{IsAt}
use Rattle.release_chain.proofs.Loading.{load_puts}
use Rattle.release_chain.proofs.Names.{names_then, same_after}
use Rattle.release_chain.proofs.Parts.{first_fails, then_at, then_ends}
use Rattle.release_chain.proofs.Turns.{any_first, any_later, output_puts}

-- the inputs, and then the output of `merge`
abbrev pub first_part : Files → Option OntologyState → Chain → Part Trace
first_part files merged chain = then_do (load_part files merged chain) (output_part chain.first)

-- what a step reads is read by the chain
read_later : (chain : Chain) (name : Name) → is_one_of name (all_read chain.steps) ≡ true → is_one_of name (read_names chain) ≡ true
read_later chain name here =
    any_later (λ other. same other name) chain.inputs (option_list chain.catalog ++ all_read chain.steps)
    (any_later (λ other. same other name) (option_list chain.catalog) (all_read chain.steps) here)

-- what is false of all that would make it true
refuted : (a b : Bool) → (a ≡ true → b ≡ false) → b ≡ true → a ≡ false
refuted true b h it = absurd (let none : b ≡ false = h refl in cc)
refuted false b h it = refl

pub chain_apart : (chain : Chain) → NoOutputIsInput chain → AreApart chain.steps
chain_apart chain apart name here =
    refuted (is_one_of name (all_read chain.steps)) (is_one_of name (written_names chain))
    (λ reads. refuted (is_one_of name (written_names chain)) (is_one_of name (read_names chain)) (apart name) (read_later chain name reads))
    (any_later (λ other. same other name) (output_names chain.first) (all_written chain.steps) here)

first_apart : (chain : Chain) (name : Name) → NoOutputIsInput chain → is_one_of name (all_read chain.steps) ≡ true → is_one_of name (output_names chain.first) ≡ false
first_apart chain name apart reads =
    refuted (is_one_of name (output_names chain.first)) (is_one_of name (read_names chain))
    (λ here. apart name (any_first (λ other. same other name) (output_names chain.first) (all_written chain.steps) here))
    (read_later chain name reads)

pub first_puts : (files : Files) (merged : Option OntologyState) (chain : Chain) (state : Trace) → (first_part files merged chain).answer ≡ Ok state → put_names (first_part files merged chain).acts ≡ output_names chain.first
first_puts files merged chain state is =
    names_then (load_part files merged chain).acts (load_part files merged chain).answer (output_part chain.first) state [] (output_names chain.first) is
    (λ value e. load_puts (sources_of files chain).opened) (λ value e done. output_puts chain.first value state done)

-- where the inputs are read and the first output is written, the files of the steps are held as they were
pub first_held : (files : Files) (merged : Option OntologyState) (chain : Chain) (state : Trace) (before now : Option Files) → NoOutputIsInput chain → before ≡ Some files → (first_part files merged chain).answer ≡ Ok state → Did (first_part files merged chain).acts before now → SameAtAll (all_read chain.steps) files now
first_held files merged chain state before now apart is answered did name reads =
    same_after (first_part files merged chain).acts name files before now
    (rw (first_puts files merged chain state answered) (first_apart chain name apart reads))
    did (files, is, refl)

-- the inputs are not read
pub load_stops : (files : Files) (chain : Chain) (fault : Fault) (before now : Option Files) → LoadEnds files chain (Err fault) before now → ChainEnds files chain (Err fault) before now
load_stops files chain fault before now load = record {
  merged = load.merged;
  order = load.order;
  ends = first_fails IsAt IsAt (first_part files load.merged chain) (λ trace. steps_part files chain.steps trace) fault before now
      (first_fails IsAt IsAt (load_part files load.merged chain) (output_part chain.first) fault before now load.ends);
}

-- the first output is not written
pub first_output_fails : (files : Files) (chain : Chain) (work : Work) (fault : Fault) (before mid now : Option Files) → LoadEnds files chain (Ok work) before mid → ((state : Trace) → IsAt work state → Ends IsAt (output_part chain.first state) (Err fault) mid now) → ChainEnds files chain (Err fault) before now
first_output_fails files chain work fault before mid now load fails = record {
  merged = load.merged;
  order = load.order;
  ends = first_fails IsAt IsAt (first_part files load.merged chain) (λ trace. steps_part files chain.steps trace) fault before now
      (then_ends IsAt IsAt (load_part files load.merged chain) (output_part chain.first) work (Err fault) before mid now load.ends fails);
}

-- the steps end as they end
pub steps_end : (files : Files) (chain : Chain) (work later : Work) (result : Result Work Fault) (before mid between now : Option Files) → NoOutputIsInput chain → before ≡ Some files → LoadEnds files chain (Ok work) before mid → ((state : Trace) → IsAt work state → IsTold IsAt (output_part chain.first state) later mid between)
    → ((state : Trace) → IsAt later state → SameAtAll (all_read chain.steps) files between → Ends IsAt (steps_part files chain.steps state) result between now) → ChainEnds files chain result before now
steps_end files chain work later result before mid between now apart is load put ends =
    let merged = load.merged in
    let first : IsTold IsAt (first_part files merged chain) later before between = then_ends IsAt IsAt (load_part files merged chain) (output_part chain.first) work (Ok later) before mid between load.ends put in
    record {
      merged = merged;
      order = load.order;
      ends = then_at IsAt IsAt (first_part files merged chain) (λ trace. steps_part files chain.steps trace) later result before between now first
          (ends first.state first.told (first_held files merged chain first.state before between apart is first.done.answered first.done.did));
    }
