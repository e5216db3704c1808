-- The turns of the files, one after the other.
use Rattle.std.proofs.Common.{◌≡◌, inl, inr, ℕ, zero, suc, ◌+◌, ◌-◌, ◌<◌, ◌≤◌, List, [], ◌∷◌, ◌++◌, Some, None, Result, Ok, Err, Contains, IfSome, length, get_or, slice_get, refl, sym, ap, subst, ◌∙◌, arith, append-nil, length-append}
use Rattle.std.specs.BTreeMap.{BTreeMap}
use Rattle.std.proofs.lemmas.List.{length-map}
use Rattle.std.proofs.lemmas.Option.{slice_get-get_or, slice_get_past}
use Rattle.rel_io.proofs.Options.{at_some, if_some}
use Rattle.rel_io.specs.FolderState.{Files, FolderState, NoCountFell}
use Rattle.rel_io.specs.declared.limits.Limits.{Limits}
use Rattle.catalog_file.specs.Names.{TellsNames}
use Rattle.catalog_file.specs.declared.catalog.CatalogLine.{CatalogLine}
use Rattle.import_closure.specs.Closure.{Setting, closure, setting, size_in, turn, turns, with_file}
use Rattle.import_closure.specs.Imports.{asked_by}
use Rattle.import_closure.specs.List.{Listed, inputs_listed, with_all_new}
use Rattle.import_closure.specs.Loading.{FailsBy, GivesAs, Loading, Same, cause_of, gives, load_behind, refuses, then_load}
use Rattle.import_closure.specs.declared.fault.LoadFault.{LoadFault}
use Rattle.import_closure.specs.declared.fault.LoadFault.TheVariants as fault
use Rattle.import_closure.specs.declared.files.SourceFile.{SourceFile}
use Rattle.import_closure.specs.declared.files.Turn.{Turn}
use Rattle.import_closure.specs.declared.list.Asker.TheVariants.{Input}
use Rattle.import_closure.specs.inner.Listing.{AddsImports, Rows, listed_in}
use Rattle.import_closure.specs.inner.Turns.{HasOne, HasTurn, IsTurn}
use Rattle.import_closure.proofs.LoadingLemmas.{IsAhead, ahead_then, ahead_through, fails_ahead, fails_first, with_sources}

-- ---- one turn

-- the rest behind a turn
abbrev pub later : Setting → ℕ → ℕ → List Listed → ℕ → Listed → SourceFile → Loading (List SourceFile)
later s room left list at one source =
    turns s (room - 1) (left - size_in s.files one.name) (with_all_new list (asked_by s.catalog source)) (at + 1)

turns-one : (s : Setting) (room left : ℕ) (list : List Listed) (at : ℕ) (one : Listed) → 0 < room → slice_get list at ≡ Some one → turns s room left list at ≡ then_load (turn s.files s.limits left one) (λ source. with_file source (later s room left list at one source))
turns-one s zero left list at one some there = absurd (omega arith)
turns-one s (suc room) left list at one some there =
    let e : suc room - 1 ≡ room = omega arith in rw (there, e) refl

turns-over : (s : Setting) (room left : ℕ) (list : List Listed) (at : ℕ) (one : Listed) → room ≡ 0 → slice_get list at ≡ Some one → turns s room left list at ≡ refuses (fault.TooManyFiles s.limits.files)
turns-over s zero left list at one none there = rw there refl
turns-over s (suc room) left list at one none there = absurd (omega arith)

turns-end : (s : Setting) (room left : ℕ) (list : List Listed) (at : ℕ) → slice_get list at ≡ None → turns s room left list at ≡ gives []
turns-end s zero left list at none = rw none refl
turns-end s (suc room) left list at none = rw none refl

-- a file that was read is before what the others come to
ahead-file : (source : SourceFile) (others : Loading (List SourceFile)) → IsAhead (source ∷ []) others (with_file source others)
ahead-file source others = record { answer = joined others.opened others.answer; opened = λ name among. opened-still others.opened others.answer name among }
  where
    joined : (opened : List (List ℕ)) (answer : Result (List SourceFile) LoadFault) → with_sources (source ∷ []) answer ≡ (load_behind opened answer (λ sources. gives (source ∷ sources))).answer
    joined opened (Ok sources) = refl
    joined opened (Err one) = refl

    opened-still : (opened : List (List ℕ)) (answer : Result (List SourceFile) LoadFault) (name : List ℕ) → Contains opened name → Contains (load_behind opened answer (λ sources. gives (source ∷ sources))).opened name
    opened-still opened (Ok sources) name among = subst (λ names. Contains names name) (sym (append-nil opened)) among
    opened-still opened (Err one) name among = among

-- ---- what was read so far

pub record TurnsSoFar (names : BTreeMap (List ℕ) (List ℕ)) (inputs : List (List ℕ)) (limits : Limits) (start now : FolderState) (rows : Rows) (sources : List SourceFile) (left : ℕ) : Type 0 where
  pub holds : now.holds ≡ start.holds
  pub counts : NoCountFell start now
  pub few : left ≤ limits.bytes
  pub within : length sources ≤ limits.files
  pub ahead : (lines : List CatalogLine) (files : Files) → TellsNames lines names → start.holds ≡ Some files → IsAhead sources (turns (setting files lines limits) (limits.files - length sources) left (listed_in rows) (length sources)) (closure (setting files lines limits) inputs)

minus_nothing : (n : ℕ) → n - 0 ≡ n
minus_nothing n = omega arith

same_ahead : (rest whole : Loading (List SourceFile)) → rest ≡ whole → IsAhead [] rest whole
same_ahead rest whole is = record {
  answer = nothing_before rest.answer ∙ ap (λ loading. loading.answer) is;
  opened = λ name among. subst (λ (loading : Loading (List SourceFile)). Contains loading.opened name) is among;
}
  where
    nothing_before : (answer : Result (List SourceFile) LoadFault) → with_sources [] answer ≡ answer
    nothing_before (Ok sources) = refl
    nothing_before (Err one) = refl

pub turns_begin : (names : BTreeMap (List ℕ) (List ℕ)) (inputs : List (List ℕ)) (limits : Limits) (start : FolderState) (rows : Rows) → listed_in rows ≡ inputs_listed inputs → TurnsSoFar names inputs limits start start rows [] limits.bytes
unfolding closure
turns_begin names inputs limits start rows is = record {
  holds = refl;
  counts = record { read_faults = omega arith; write_faults = omega arith; misses = omega arith };
  few = omega arith;
  within = omega arith;
  ahead = λ lines files tells told. same_ahead _ _ (λ i. turns (setting files lines limits) (minus_nothing limits.files i) limits.bytes (is i) 0);
}

no_count_fell : (a b c : FolderState) → NoCountFell a b → NoCountFell b c → NoCountFell a c
no_count_fell a b c p q = record {
  read_faults = let h = p.read_faults in let k = q.read_faults in omega arith;
  write_faults = let h = p.write_faults in let k = q.write_faults in omega arith;
  misses = let h = p.misses in let k = q.misses in omega arith;
}

-- ---- one turn more

one_more : (sources : List SourceFile) (source : SourceFile) → length (sources ++ source ∷ []) ≡ length sources + 1
one_more sources source = length-append sources (source ∷ [])

one_less : (files read more : ℕ) → more ≡ read + 1 → files - read - 1 ≡ files - more
one_less files read more is = omega arith

turned : (s : Setting) (room left : ℕ) (list : List Listed) (at : ℕ) (one : Listed) (source : SourceFile) → 0 < room → slice_get list at ≡ Some one → (turn s.files s.limits left one).answer ≡ Ok source → IsAhead (source ∷ []) (later s room left list at one source) (turns s room left list at)
turned s room left list at one source some there answer =
    subst (IsAhead (source ∷ []) (later s room left list at one source)) (sym (turns-one s room left list at one some there))
    (ahead_through [] (source ∷ []) _ _ _ (ahead-file source (later s room left list at one source))
    (ahead_then (turn s.files s.limits left one) (λ source. with_file source (later s room left list at one source)) source answer))

pub turn_taken : (names : BTreeMap (List ℕ) (List ℕ)) (inputs : List (List ℕ)) (limits : Limits) (start now next : FolderState) (rows more : Rows) (sources : List SourceFile) (left : ℕ) (taken : Turn) → TurnsSoFar names inputs limits start now rows sources left → HasOne limits left rows (length sources) now (Ok taken) next → AddsImports names taken.source rows more → next.holds ≡ now.holds → NoCountFell now next → TurnsSoFar names inputs limits start next more (sources ++ taken.source ∷ []) (left - taken.size)
turn_taken names inputs limits start now next rows more sources left taken so_far has adds holds counts = record {
  holds = holds ∙ so_far.holds;
  counts = no_count_fell start now next so_far.counts counts;
  few = let few = so_far.few in omega arith;
  within = let long = one_more sources taken.source in let within = has.within in omega arith;
  ahead = λ lines files tells told.
      let s = setting files lines limits in
      let at = length sources in
      let room = limits.files - at in
      let is : IsTurn files limits left has.one taken = at_some _ (so_far.holds ∙ told) has.takes.1 in
      let within : at < limits.files = has.within in
      let some : 0 < room = omega arith in
      let here = so_far.ahead lines files tells told in
      let long = one_more sources taken.source in
      let rest : later s room left (listed_in rows) at has.one taken.source ≡ turns s (limits.files - length (sources ++ taken.source ∷ [])) (left - taken.size) (listed_in more) (length (sources ++ taken.source ∷ [])) =
      (λ i. turns s (one_less limits.files at (length (sources ++ taken.source ∷ [])) long i) (left - sym is.size i) (sym (adds lines tells) i) (sym long i)) in
      subst (λ rest. IsAhead (sources ++ taken.source ∷ []) rest (closure s inputs)) rest
      (ahead_through sources (taken.source ∷ []) _ _ _ (turned s room left (listed_in rows) at has.one taken.source some has.there is.answer) here);
}

-- ---- a turn that fails

listed_within : (list : List Listed) (at : ℕ) → at < length list → (one : Listed) × (slice_get list at ≡ Some one)
listed_within list at within =
    let other : Listed = record { name = []; asker = Input } in (get_or list at other, slice_get-get_or list at other within)

over_limit : (limits : Limits) (files : Files) (lines : List CatalogLine) (inputs : List (List ℕ)) (list : List Listed) (sources : List SourceFile) (left : ℕ) → limits.files ≤ length sources → length sources < length list → IsAhead sources (turns (setting files lines limits) (limits.files - length sources) left list (length sources)) (closure (setting files lines limits) inputs) → (closure (setting files lines limits) inputs).answer ≡ Err (fault.TooManyFiles limits.files)
over_limit limits files lines inputs list sources left over within ahead =
    let one = listed_within list (length sources) within in
    let none : limits.files - length sources ≡ 0 = omega arith in
    sym ahead.answer ∙ ap (λ loading. with_sources sources loading.answer) (turns-over (setting files lines limits) (limits.files - length sources) left list (length sources) one.0 none one.1)

pub turn_failed : (names : BTreeMap (List ℕ) (List ℕ)) (inputs : List (List ℕ)) (limits : Limits) (start now next : FolderState) (rows : Rows) (sources : List SourceFile) (left : ℕ) (one : LoadFault) (lines : List CatalogLine) → TurnsSoFar names inputs limits start now rows sources left → length sources < length rows → HasTurn limits left rows (length sources) now (Err one) next → TellsNames lines names → FailsBy (cause_of one) (λ files. closure (setting files lines limits) inputs) start one next
turn_failed names inputs limits start now next rows sources left one lines so_far within (inl has) tells =
    let at = length sources in
    let room = limits.files - at in
    let list = listed_in rows in
    let inside : at < limits.files = has.within in
    let some : 0 < room = omega arith in
    fails_ahead (cause_of one) sources (λ files. then_load (turn files limits left has.one) (λ source. with_file source (later (setting files lines limits) room left list at has.one source)))
    (λ files. closure (setting files lines limits) inputs) start now next one so_far.holds so_far.counts
    (λ files told. subst (λ rest. IsAhead sources rest (closure (setting files lines limits) inputs)) (turns-one (setting files lines limits) room left list at has.one some has.there) (so_far.ahead lines files tells told))
    (fails_first (cause_of one) (λ files. turn files limits left has.one) (λ files source. with_file source (later (setting files lines limits) room left list at has.one source)) now next one has.takes)
turn_failed names inputs limits start now next rows sources left one lines so_far within (inr over) tells =
    let is : one ≡ fault.TooManyFiles limits.files = cc in
    let long : length (listed_in rows) ≡ length rows = length-map rows _ in
    let inside : length sources < length (listed_in rows) = omega arith in
    subst (λ f. FailsBy (cause_of f) (λ files. closure (setting files lines limits) inputs) start f next) (sym is)
    (if_some _ start.holds (λ files told. over_limit limits files lines inputs (listed_in rows) sources left over.0 inside (so_far.ahead lines files tells told)))

-- ---- all turns taken

pub turns_taken : (names : BTreeMap (List ℕ) (List ℕ)) (inputs : List (List ℕ)) (limits : Limits) (start now : FolderState) (rows : Rows) (sources : List SourceFile) (left : ℕ) (lines : List CatalogLine) → TurnsSoFar names inputs limits start now rows sources left → length rows ≤ length sources → TellsNames lines names → IfSome start.holds (λ files. GivesAs Same (closure (setting files lines limits) inputs).answer sources)
turns_taken names inputs limits start now rows sources left lines so_far past tells =
    if_some _ start.holds (λ files told.
    let ahead = so_far.ahead lines files tells told in
    let long : length (listed_in rows) ≡ length rows = length-map rows _ in
    let none = slice_get_past (listed_in rows) (length sources) (omega arith) in
    let answer : Ok (sources ++ []) ≡ (closure (setting files lines limits) inputs).answer =
    sym (ap (λ loading. with_sources sources loading.answer) (turns-end (setting files lines limits) (limits.files - length sources) left (listed_in rows) (length sources) none)) ∙ ahead.answer in
    subst (λ (answer : Result (List SourceFile) LoadFault). GivesAs Same answer sources) answer (append-nil sources))

-- a file that was read had its turn
pub has_one : (limits : Limits) (left : ℕ) (rows : Rows) (at : ℕ) (before now : FolderState) (taken : Turn) → HasTurn limits left rows at before (Ok taken) now → HasOne limits left rows at before (Ok taken) now
has_one limits left rows at before now taken (inl has) = has
has_one limits left rows at before now taken (inr over) = let is = over.1 in absurd (cc)
