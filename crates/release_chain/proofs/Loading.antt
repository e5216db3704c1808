-- How the reading of the inputs ends.
use Rattle.std.proofs.Common.{◌≡◌, List, [], ◌∷◌, ◌++◌, map, Option, Some, None, IfOk, Result, Ok, Err, Contains, suc, take, drop, refl, sym, ap, subst, ◌∙◌}
use Rattle.std.proofs.Math.Seq.{drop-cons}
use Rattle.std.proofs.lemmas.List.{append-nil, map-append, take-append-drop}
use Rattle.rel_io.proofs.Options.{at_some}
use Rattle.rel_io.specs.FolderState.{Files, FolderState}
use Rattle.chain_words.specs.Word.{Name}
use Rattle.chain_words.specs.declared.command.Chain.{Chain}
use Rattle.import_closure.specs.Loading.{GivesAs, IsRefusal, Loading, LoadsAs}
use Rattle.import_closure.specs.declared.fault.LoadFault.{LoadFault}
use Rattle.import_closure.specs.declared.fault.LoadFault.TheVariants as load
use Rattle.import_closure.specs.declared.files.SourceFile.{SourceFile}
use Rattle.import_merge.specs.Merged.{IsMerged}
use Rattle.import_merge.specs.Notes.{IsLoaded}
use Rattle.import_merge.specs.declared.merged.Merged.{Merged}
use Rattle.release_report.specs.Cause.{cause_of}
use Rattle.release_report.specs.declared.fault.Fault.{Fault}
use Rattle.release_chain.specs.Answer.{AnswersAs}
use Rattle.release_chain.specs.Ending.{Did, Ends, IsDone, StopsBy}
use Rattle.release_chain.specs.Part.{Act, Opens, answers}
use Rattle.release_chain.specs.Trace.{Trace, fault_of_load, load_part, merged_or, merged_trace, sources_of}
use Rattle.release_chain.specs.declared.work.Work.{Work}
use Rattle.release_chain.specs.inner.Finish.{LoadEnds}
use Rattle.release_chain.specs.inner.Names.{put_names}
use Rattle.release_chain.specs.inner.Work.{IsAt}
use Rattle.release_chain.proofs.Parts.{answer_ends, ends_behind, ran_out_first}

-- opening files changes nothing
pub did_open : (names : List Name) (before now : Option Files) → now ≡ before → Did (map (λ name. Opens name) names) before now
did_open [] before now same = same
did_open (name ∷ names) before now same = did_open names before now same

-- the loading that is told
abbrev pub told : Chain → Files → Loading (List SourceFile)
told chain files = sources_of files chain

refused : (files : Files) (chain : Chain) (before now : FolderState) (fault : LoadFault) → before.holds ≡ Some files → now.holds ≡ before.holds → IsRefusal (told chain) before fault → IsDone (load_part files None chain) (Err (fault_of_load fault)) before.holds now.holds
refused files chain before now fault is same answer = record {
  answered = ap (merged_or None) (at_some (λ files. (told chain files).answer ≡ Err fault) is answer);
  did = did_open (told chain files).opened before.holds now.holds same;
}

-- an element of a list stands between two parts of it
pub record Between {X : Type 0} (xs : List X) (x : X) : Type 0 where
  pub front : List X
  pub back : List X
  pub is : xs ≡ front ++ x ∷ back

between : {X : Type 0} (xs : List X) (x : X) → Contains xs x → Between xs x
between xs x here = record {
  front = take here.0 xs;
  back = drop (suc here.0) xs;
  is = sym (take-append-drop here.0 xs) ∙ ap (λ rest. take here.0 xs ++ rest) (drop-cons xs here.0 x here.1 ∙ ap (λ y. y ∷ drop (suc here.0) xs) here.2);
}

stops : (files : Files) (chain : Chain) (before now : FolderState) (fault : LoadFault) → before.holds ≡ Some files → now.holds ≡ before.holds → LoadsAs IsLoaded (told chain) before (Err fault) now → StopsBy (cause_of (fault_of_load fault)) (load_part files None chain) (fault_of_load fault) before.holds now.holds
stops files chain before now (load.MissingInput name) is same loads = refused files chain before now (load.MissingInput name) is same loads.0
stops files chain before now (load.MissingImport file line value) is same loads = refused files chain before now (load.MissingImport file line value) is same loads.0
stops files chain before now (load.TooManyFiles limit) is same loads = refused files chain before now (load.TooManyFiles limit) is same loads
stops files chain before now (load.TooManyBytes name limit) is same loads = refused files chain before now (load.TooManyBytes name limit) is same loads
stops files chain before now (load.CatalogLine file line) is same loads = refused files chain before now (load.CatalogLine file line) is same loads
stops files chain before now (load.ReadFault name) is same loads =
    let parts = between (told chain files).opened name (at_some (λ files. Contains (told chain files).opened name) is loads.0) in
    record {
      done = map (λ name. Opens name) parts.front;
      rest = map (λ name. Opens name) parts.back;
      in_order = ap (map (λ name. Opens name)) parts.is ∙ map-append (λ name. Opens name) parts.front (name ∷ parts.back);
      did = did_open parts.front before.holds now.holds same;
    }
stops files chain before now (load.NotUtf8 file line) is same loads = refused files chain before now (load.NotUtf8 file line) is same loads
stops files chain before now (load.LineTooLong file line) is same loads = refused files chain before now (load.LineTooLong file line) is same loads
stops files chain before now (load.Syntax file line kind) is same loads = refused files chain before now (load.Syntax file line kind) is same loads
stops files chain before now (load.NoId file line) is same loads = refused files chain before now (load.NoId file line) is same loads
stops files chain before now (load.ShortGroup file line) is same loads = refused files chain before now (load.ShortGroup file line) is same loads
stops files chain before now load.NoMemory is same loads = ran_out_first (load_part files None chain) (fault_of_load load.NoMemory) before.holds now.holds same

-- nothing was merged
pub load_fails : (files : Files) (chain : Chain) (before now : FolderState) (fault : LoadFault) → before.holds ≡ Some files → now.holds ≡ before.holds → LoadsAs IsLoaded (told chain) before (Err fault) now → LoadEnds files chain (Err (fault_of_load fault)) before.holds now.holds
load_fails files chain before now fault is same loads = record { merged = None; order = tt; ends = stops files chain before now fault is same loads }

-- the axioms stand in the order in which the program has them
loaded_is : (answer : Result (List SourceFile) LoadFault) (merged : Merged) → GivesAs IsLoaded answer merged → (sources : List SourceFile) × (answer ≡ Ok sources) × IsLoaded sources merged
loaded_is (Ok sources) merged given = (sources, refl, given)
loaded_is (Err one) merged given = absurd given

pub load_ends : (files : Files) (chain : Chain) (before now : FolderState) (merged : Merged) (result : Result Work Fault) → before.holds ≡ Some files → now.holds ≡ before.holds → LoadsAs IsLoaded (told chain) before (Ok merged) now
    → AnswersAs IsAt (Ok (merged_trace merged.files merged.ontology)) result → LoadEnds files chain result before.holds now.holds
load_ends files chain before now merged result is same loads answer =
    let loaded = loaded_is (told chain files).answer merged (at_some (λ files. GivesAs IsLoaded (told chain files).answer merged) is loads) in
    let trace : merged_or (Some merged.ontology) (told chain files).answer ≡ Ok (merged_trace merged.files merged.ontology) =
    ap (merged_or (Some merged.ontology)) loaded.1 ∙ ap (λ notes. Ok (merged_trace notes merged.ontology)) (sym loaded.2.files) in
    record {
      merged = Some merged.ontology;
      order = subst (λ answer. IfOk answer (λ sources. IsMerged sources merged.ontology)) (sym loaded.1) loaded.2.ontology;
      ends = subst (λ answer. Ends IsAt (record { acts = map (λ name. Opens name) (told chain files).opened; answer = answer }) result before.holds now.holds) (sym trace)
          (opened_ends (map (λ name. Opens name) (told chain files).opened) (Ok (merged_trace merged.files merged.ontology)) result before.holds now.holds (did_open (told chain files).opened before.holds before.holds refl) same answer);
    }
  where
    opened_ends : (acts : List Act) (answer : Result Trace Fault) (result : Result Work Fault) (before now : Option Files) → Did acts before before → now ≡ before → AnswersAs IsAt answer result → Ends IsAt (record { acts = acts; answer = answer }) result before now
    opened_ends acts answer result before now did same told =
        subst (λ acts. Ends IsAt (record { acts = acts; answer = answer }) result before now) (append-nil acts) (ends_behind IsAt acts (answers answer) result before before now did (answer_ends IsAt answer result before now same told))

pub load_puts : (names : List Name) → put_names (map (λ name. Opens name) names) ≡ []
load_puts [] = refl
load_puts (name ∷ names) = load_puts names
