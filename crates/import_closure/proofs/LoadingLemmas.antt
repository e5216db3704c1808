-- One loading and then another.
use Rattle.std.proofs.Common.{◌≡◌, ℕ, ◌≤◌, List, [], ◌++◌, Option, Some, None, Result, Ok, Err, Contains, IfSome, refl, sym, ap, subst, ◌∙◌, arith, append_assoc}
use Rattle.std.proofs.lemmas.List.Elements.{Contains-append_left, Contains-append_right}
use Rattle.rel_io.specs.Count.{Rose}
use Rattle.rel_io.specs.FolderState.{Files, FolderState, NoCountFell}
use Rattle.import_closure.specs.Loading.{Cause, FailsBy, GivesAs, Loading, LoadsAs, Same, absent, cause_of, load_behind, not_read, ran_out, refused, then_load}
use Rattle.import_closure.specs.declared.fault.LoadFault.{LoadFault}
use Rattle.import_closure.specs.declared.files.SourceFile.{SourceFile}

-- ---- facts of told files

pub if_told : {A : Type 0} {P Q : A → Type 0} (o : Option A) → ((x : A) → o ≡ Some x → P x → Q x) → IfSome o P → IfSome o Q
if_told None f h = tt
if_told (Some x) f h = f x refl h

-- ---- the first of two

refused-first : {A B : Type 0} (first : Loading A) (next : A → Loading B) (one : LoadFault) → first.answer ≡ Err one → (then_load first next).answer ≡ Err one
refused-first first next one is = ap (λ answer. (load_behind first.opened answer next).answer) is

opened-load_behind : {A B : Type 0} (opened : List (List ℕ)) (answer : Result A LoadFault) (next : A → Loading B) (name : List ℕ) → Contains opened name → Contains (load_behind opened answer next).opened name
opened-load_behind opened (Ok value) next name among = Contains-append_left opened (next value).opened name among
opened-load_behind opened (Err one) next name among = among

-- what the first fails with, both fail with
pub fails_first : {A B : Type 0} (cause : Cause) (first : Files → Loading A) (next : Files → A → Loading B) (before now : FolderState) (one : LoadFault) → FailsBy cause first before one now → FailsBy cause (λ files. then_load (first files) (next files)) before one now
fails_first refused first next before now one fails =
    if_told before.holds (λ files _ is. refused-first (first files) (next files) one is) fails
fails_first absent first next before now one fails =
    (if_told before.holds (λ files _ is. refused-first (first files) (next files) one is) fails.0, fails.1)
fails_first (not_read name) first next before now one fails =
    (if_told before.holds (λ files _ among. opened-load_behind (first files).opened (first files).answer (next files) name among) fails.0, fails.1)
fails_first ran_out first next before now one fails = tt

-- ---- what is loaded behind files that were read

abbrev pub with_sources : List SourceFile → Result (List SourceFile) LoadFault → Result (List SourceFile) LoadFault
with_sources done (Ok sources) = Ok (done ++ sources)
with_sources done (Err one) = Err one

-- behind these files, what the rest comes to, the whole comes to
pub record IsAhead (done : List SourceFile) (rest whole : Loading (List SourceFile)) : Type 0 where
  pub answer : with_sources done rest.answer ≡ whole.answer
  pub opened : (name : List ℕ) → Contains rest.opened name → Contains whole.opened name

pub rose_before : (before mid now : ℕ) → before ≤ mid → Rose mid now → Rose before now
rose_before before mid now less rose = omega arith

-- an answer to the rest is one to the whole
pub fails_ahead : (cause : Cause) (done : List SourceFile) (rest whole : Files → Loading (List SourceFile)) (before mid now : FolderState) (one : LoadFault) → mid.holds ≡ before.holds → NoCountFell before mid → ((files : Files) → before.holds ≡ Some files → IsAhead done (rest files) (whole files)) → FailsBy cause rest mid one now → FailsBy cause whole before one now
fails_ahead refused done rest whole before mid now one holds counts ahead fails =
    if_told before.holds (λ files is answer. sym ((ahead files is).answer) ∙ ap (with_sources done) answer) (subst (λ held. IfSome held (λ files. (rest files).answer ≡ Err one)) holds fails)
fails_ahead absent done rest whole before mid now one holds counts ahead fails =
    let less = counts.misses in (
      if_told before.holds (λ files is answer. sym ((ahead files is).answer) ∙ ap (with_sources done) answer) (subst (λ held. IfSome held (λ files. (rest files).answer ≡ Err one)) holds fails.0),
      rose_before before.misses mid.misses now.misses less fails.1,
    )
fails_ahead (not_read name) done rest whole before mid now one holds counts ahead fails =
    let less = counts.read_faults in (
      if_told before.holds (λ files is among. (ahead files is).opened name among) (subst (λ held. IfSome held (λ files. Contains (rest files).opened name)) holds fails.0),
      rose_before before.read_faults mid.read_faults now.read_faults less fails.1,
    )
fails_ahead ran_out done rest whole before mid now one holds counts ahead fails = tt

same_ahead : (done : List SourceFile) (rest whole : Result (List SourceFile) LoadFault) (given : List SourceFile) → with_sources done rest ≡ whole → GivesAs Same rest given → GivesAs Same whole (done ++ given)
same_ahead done (Ok sources) whole given is same = subst (λ answer. GivesAs Same answer (done ++ given)) is (ap (λ sources. done ++ sources) same)
same_ahead done (Err one) whole given is same = absurd same

pub loads_ahead : (rest whole : Files → Loading (List SourceFile)) (before mid now : FolderState) (result : Result (List SourceFile) LoadFault) → mid.holds ≡ before.holds → NoCountFell before mid → ((files : Files) → before.holds ≡ Some files → IsAhead [] (rest files) (whole files)) → LoadsAs Same rest mid result now → LoadsAs Same whole before result now
loads_ahead rest whole before mid now (Ok given) holds counts ahead loads =
    if_told before.holds (λ files is same. same_ahead [] (rest files).answer (whole files).answer given (ahead files is).answer same)
    (subst (λ held. IfSome held (λ files. GivesAs Same (rest files).answer given)) holds loads)
loads_ahead rest whole before mid now (Err one) holds counts ahead loads =
    fails_ahead (cause_of one) [] rest whole before mid now one holds counts ahead loads

-- where the first gives a value, what goes on with it is ahead of both
pub ahead_then : {A : Type 0} (first : Loading A) (next : A → Loading (List SourceFile)) (value : A) → first.answer ≡ Ok value → IsAhead [] (next value) (then_load first next)
ahead_then first next value is = record {
  answer = nothing_before (next value).answer ∙ sym (ap (λ answer. (load_behind first.opened answer next).answer) is);
  opened = λ name among. subst (λ answer. Contains (load_behind first.opened answer next).opened name) (sym is) (Contains-append_right first.opened (next value).opened name among);
}
  where
    nothing_before : (answer : Result (List SourceFile) LoadFault) → with_sources [] answer ≡ answer
    nothing_before (Ok sources) = refl
    nothing_before (Err one) = refl

pub ahead_through : (done more : List SourceFile) (rest mid whole : Loading (List SourceFile)) → IsAhead more rest mid → IsAhead done mid whole → IsAhead (done ++ more) rest whole
ahead_through done more rest mid whole one two = record {
  answer = joined rest.answer ∙ (ap (with_sources done) one.answer ∙ two.answer);
  opened = λ name among. two.opened name (one.opened name among);
}
  where
    joined : (answer : Result (List SourceFile) LoadFault) → with_sources (done ++ more) answer ≡ with_sources done (with_sources more answer)
    joined (Ok sources) = ap Ok (append_assoc done more sources)
    joined (Err one) = refl
