-- Each file is read once: the names on the list are all different, and what is read are the files of the list in its order.
use Rattle.std.proofs.Common.{◌≡◌, ℕ, zero, suc, ◌+◌, ◌-◌, ◌||◌, Bool, true, false, if◌then◌else◌, List, [], ◌∷◌, ◌++◌, Option, Some, None, Result, Ok, Err, drop, length, map, slice_get, refl, sym, ap, subst, ◌∙◌, arith, append_assoc, append-nil}
use Rattle.std.specs.FinMap.{get}
use Rattle.std.specs.List.{list_any}
use Rattle.std.specs.Prelude.{nat_lt}
use Rattle.std.specs.Str.{bytes_eq}
use Rattle.std.proofs.lemmas.Bool.{false≢true, false_from_ne_true}
use Rattle.std.proofs.lemmas.Option.{slice_get_past}
use Rattle.std.proofs.lemmas.Slice.Eq.{bytes_eq-Decides}
use Rattle.obo_frames.specs.Answer.{document_of}
use Rattle.obo_frames.specs.declared.fault.DocFault.{DocFault}
use Rattle.obo_frames.specs.declared.placed.Placed.{Placed}
use Rattle.rel_io.specs.declared.limits.Limits.{Limits}
use Rattle.rel_io.proofs.Options.{none_there, same_there}
use Rattle.import_closure.specs.Closure.{Setting, closure, document_answer, file_answer, size_in, turn, turns, where_listed, with_file}
use Rattle.import_closure.specs.Imports.{asked_by}
use Rattle.import_closure.specs.Laws.{AreApart, EachIsReadOnce}
use Rattle.import_closure.specs.List.{Listed, inputs_listed, is_listed, listed, with_all_new, with_new}
use Rattle.import_closure.specs.Loading.{Loading, gives, load_behind, refuses, then_load}
use Rattle.import_closure.specs.declared.fault.LoadFault.{LoadFault}
use Rattle.import_closure.specs.declared.fault.LoadFault.TheVariants as fault
use Rattle.import_closure.specs.declared.list.Asker.TheVariants.{Input}
use Rattle.import_closure.specs.declared.files.SourceFile.{SourceFile}

-- ---- names on the list

abbrev names_of : List Listed → List (List ℕ)
names_of list = map (λ (one : Listed). one.name) list

-- another name behind names that are all different
or_false : (a b : Bool) → (a || b) ≡ false → (a ≡ false) × (b ≡ false)
or_false true b h = absurd (false≢true (sym h))
or_false false b h = (refl, h)

apart-turned : (one other : List ℕ) → bytes_eq one other ≡ false → bytes_eq other one ≡ false
apart-turned one other differ =
    false_from_ne_true _ (λ same. false≢true (sym differ ∙ (bytes_eq-Decides one other).1 (sym ((bytes_eq-Decides other one).0 same))))

none-more : (name new : List ℕ) (names : List (List ℕ)) → list_any (bytes_eq name) names ≡ false → bytes_eq name new ≡ false → list_any (bytes_eq name) (names ++ new ∷ []) ≡ false
none-more name new [] none differ = rw differ refl
none-more name new (first ∷ names) none differ =
    let p = or_false (bytes_eq name first) (list_any (bytes_eq name) names) none in rw p.0 (none-more name new names p.1 differ)

apart-more : (names : List (List ℕ)) (new : List ℕ) → AreApart names → list_any (bytes_eq new) names ≡ false → AreApart (names ++ new ∷ [])
apart-more [] new apart none = (refl, tt)
apart-more (first ∷ names) new apart none =
    let p = or_false (bytes_eq new first) (list_any (bytes_eq new) names) none in
    (none-more first new names apart.0 (apart-turned new first p.0), apart-more names new apart.1 p.1)

listed-names : (name : List ℕ) (list : List Listed) → is_listed name list ≡ list_any (bytes_eq name) (names_of list)
listed-names name [] = refl
listed-names name (one ∷ list) = ap (λ b. bytes_eq name one.name || b) (listed-names name list)

names-more : (list : List Listed) (one : Listed) → names_of (list ++ one ∷ []) ≡ names_of list ++ one.name ∷ []
names-more [] one = refl
names-more (first ∷ list) one = ap (λ more. first.name ∷ more) (names-more list one)

-- a list that goes on, all of whose names are different
record Goes (list longer : List Listed) : Type 0 where
  more : List Listed
  is : longer ≡ list ++ more
  apart : AreApart (names_of longer)

goes-through : (one two three : List Listed) → Goes one two → Goes two three → Goes one three
goes-through one two three first second = record {
  more = first.more ++ second.more;
  is = second.is ∙ (ap (λ front. front ++ second.more) first.is ∙ append_assoc one first.more second.more);
  apart = second.apart;
}

goes-new : (list : List Listed) (one : Listed) → AreApart (names_of list) → Goes list (with_new list one)
goes-new list one apart =
    elim (is_listed one.name list) as (λ b. is_listed one.name list ≡ b → Goes list (if b then list else list ++ one ∷ [])) [
      | true ↦ λ is. record { more = []; is = sym (append-nil list); apart = apart }
      | false ↦ λ is. record { more = one ∷ []; is = refl; apart = subst AreApart (sym (names-more list one)) (apart-more (names_of list) one.name apart (sym (listed-names one.name list) ∙ is)) }
    ] refl

goes-all : (list asked : List Listed) → AreApart (names_of list) → Goes list (with_all_new list asked)
goes-all list [] apart = record { more = []; is = sym (append-nil list); apart = apart }
goes-all list (one ∷ asked) apart =
    let first = goes-new list one apart in
    goes-through list (with_new list one) (with_all_new (with_new list one) asked) first (goes-all (with_new list one) asked first.apart)

-- ---- answers that are there

record IsThen (A B : Type 0) (first : Result A LoadFault) (next : A → Loading B) (value : B) : Type 0 where
  one : A
  first_is : first ≡ Ok one
  next_is : (next one).answer ≡ Ok value

then_ok : {A B : Type 0} (opened : List (List ℕ)) (first : Result A LoadFault) (next : A → Loading B) (value : B) → (load_behind opened first next).answer ≡ Ok value → IsThen A B first next value
then_ok opened (Ok one) next value is = record { one = one; first_is = refl; next_is = is }
then_ok opened (Err fault) next value is = absurd (cc)

document-name : (name : List ℕ) (answer : Result (List Placed) DocFault) (source : SourceFile) → document_answer name answer ≡ Ok source → source.name ≡ name
document-name name (Ok placed) source is =
    let same : record { name = name; document = placed } ≡ source = cc in ap (λ (s : SourceFile). s.name) (sym same)
document-name name (Err fault) source is = absurd (cc)

bounded-name : (limits : Limits) (one : Listed) (bytes : List ℕ) (fault : LoadFault) (b : Bool) (source : SourceFile) → (if b then Err fault else document_answer one.name (document_of limits.line bytes)) ≡ Ok source → source.name ≡ one.name
bounded-name limits one bytes fault true source is = absurd (cc)
bounded-name limits one bytes fault false source is = document-name one.name (document_of limits.line bytes) source is

file-name : (limits : Limits) (left : ℕ) (one : Listed) (held : Option (List ℕ)) (source : SourceFile) → file_answer limits left one held ≡ Ok source → source.name ≡ one.name
file-name limits left one None source is = absurd (cc)
file-name limits left one (Some bytes) source is = bounded-name limits one bytes _ (nat_lt left (length bytes)) source is

-- ---- places of the list

nothing-there : (at : ℕ) (one : Listed) → slice_get [] at ≡ Some one → ⊥
nothing-there at one is = none_there (sym (slice_get_past [] at (omega arith)) ∙ is)

drop-there : (list more : List Listed) (at : ℕ) (one : Listed) → slice_get list at ≡ Some one → drop at (list ++ more) ≡ one ∷ drop (at + 1) (list ++ more)
drop-there [] more at one is = absurd (nothing-there at one is)
drop-there (first ∷ list) more zero one is = ap (λ x. x ∷ (list ++ more)) (same_there is)
drop-there (first ∷ list) more (suc at) one is =
    let e : suc at + 1 ≡ suc (at + 1) = omega arith in rw e (drop-there list more at one is)

drop-past : (list : List Listed) (at : ℕ) → slice_get list at ≡ None → drop at list ≡ []
drop-past [] zero is = refl
drop-past [] (suc at) is = refl
drop-past (first ∷ list) zero is = absurd (none_there (sym is))
drop-past (first ∷ list) (suc at) is = drop-past list at is

-- ---- what is read

abbrev source_names : List SourceFile → List (List ℕ)
source_names sources = map (λ (source : SourceFile). source.name) sources

record ReadFrom (list : List Listed) (at : ℕ) (sources : List SourceFile) : Type 0 where
  longer : List Listed
  goes : Goes list longer
  named : source_names sources ≡ names_of (drop at longer)

same_ok : (one other : List SourceFile) (first second : Result (List SourceFile) LoadFault) → first ≡ Ok one → second ≡ Ok other → first ≡ second → one ≡ other
same_ok one other first second a b e = cc

read_all : (list : List Listed) (at : ℕ) (sources : List SourceFile) → AreApart (names_of list) → slice_get list at ≡ None → (gives {A = List SourceFile} []).answer ≡ Ok sources → ReadFrom list at sources
read_all list at sources apart none is =
    let nothing : [] ≡ sources = same_ok [] sources (gives {A = List SourceFile} []).answer (Ok sources) refl refl is in
    record { longer = list; goes = record { more = []; is = sym (append-nil list); apart = apart }; named = ap source_names (sym nothing) ∙ ap names_of (sym (drop-past list at none)) }

read_from : (s : Setting) (room left : ℕ) (list : List Listed) (at : ℕ) (sources : List SourceFile) → AreApart (names_of list) → (turns s room left list at).answer ≡ Ok sources → ReadFrom list at sources
read_from s zero left list at sources apart is =
    elim (slice_get list at) as (λ found. slice_get list at ≡ found → (where_listed found (λ one. refuses (fault.TooManyFiles s.limits.files))).answer ≡ Ok sources → ReadFrom list at sources) [
      | None ↦ λ none e. read_all list at sources apart none e
      | Some one ↦ λ there e. absurd (cc)
    ] refl is
read_from s (suc room) left list at sources apart is =
    elim (slice_get list at) as (λ found. slice_get list at ≡ found → (where_listed found (λ one. then_load (turn s.files s.limits left one) (λ source. with_file source (turns s room (left - size_in s.files one.name) (with_all_new list (asked_by s.catalog source)) (at + 1))))).answer ≡ Ok sources → ReadFrom list at sources) [
      | None ↦ λ none e. read_all list at sources apart none e
      | Some one ↦ λ there e.
          let rest : SourceFile → Loading (List SourceFile) = λ source. turns s room (left - size_in s.files one.name) (with_all_new list (asked_by s.catalog source)) (at + 1) in
          let first = then_ok (one.name ∷ []) (file_answer s.limits left one (get s.files one.name)) (λ source. with_file source (rest source)) sources e in
          let source = first.one in
          let second = then_ok (rest source).opened (rest source).answer (λ others. gives (source ∷ others)) sources first.next_is in
          let others = second.one in
          let all : source ∷ others ≡ sources = same_ok (source ∷ others) sources (Ok (source ∷ others)) (Ok sources) refl refl second.next_is in
          let list2 = with_all_new list (asked_by s.catalog source) in
          let g = goes-all list (asked_by s.catalog source) apart in
          let more = read_from s room (left - size_in s.files one.name) list2 (at + 1) others g.apart second.first_is in
          let goes = goes-through list list2 more.longer g more.goes in
          let here : drop at more.longer ≡ one ∷ drop (at + 1) more.longer = subst (λ l. drop at l ≡ one ∷ drop (at + 1) l) (sym goes.is) (drop-there list goes.more at one there) in
          record {
            longer = more.longer;
            goes = goes;
            named = ap source_names (sym all) ∙ ((λ i. file-name s.limits left one (get s.files one.name) source first.first_is i ∷ more.named i) ∙ ap names_of (sym here));
          }
    ] refl is

pub read_once : (s : Setting) (inputs : List (List ℕ)) → EachIsReadOnce s inputs
unfolding closure
read_once s inputs sources is =
    let asked = map (λ name. listed name Input) inputs in
    let from = read_from s s.limits.files s.limits.bytes (inputs_listed inputs) 0 sources (goes-all [] asked tt).apart is in
    subst AreApart (sym from.named) from.goes.apart
