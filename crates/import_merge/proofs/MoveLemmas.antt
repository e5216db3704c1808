-- Axioms that are moved into an ontology, and the file that joins by them.
use Rattle.std.proofs.Common.{◌≡◌, ◌∙◌, ℕ, zero, suc, true, false, not, List, [], ◌∷◌, ◌++◌, inl, inr, ⊎_elim, filter, length, map, refl, sym, ap, subst, ◌<◌, ◌+◌, get_or, take, arith}
use Rattle.std.proofs.Math.Seq.{take-suc}
use Rattle.std.proofs.lemmas.List.{length-take-le, map-append, reverse-append, reverse-reverse}
use Rattle.std.proofs.lemmas.List.Elements.{filter-append}
use Rattle.std.specs.Prelude.{reverse}
use Rattle.text_sets.specs.Sets.{In, SameMembers}
use Rattle.text_sets.proofs.SetLemmas.{In-append, In-append_left, In-append_right, In-filter, In-from_contains, In-from_filter, In-from_map, In-map, contains-from_In}
use Rattle.owl_ontology.specs.Ontology.{AreDifferent, Entry, OntologyState, add_entries, axioms_of, entry_of}
use Rattle.owl_ontology.specs.Origins.{comes_before}
use Rattle.owl_ontology.proofs.Held.{add_entries-append, all_added_is_held, all_held_stays}
use Rattle.owl_ontology.proofs.Least.{before-itself, least_stays}
use Rattle.obo_frames.specs.Framed.{unlined}
use Rattle.obo_frames.specs.declared.placed.Placed.{Placed}
use Rattle.obo_mapping.specs.Documents.{name_of, owl}
use Rattle.obo_mapping.specs.Lines.{line_of}
use Rattle.obo_to_owl.specs.Translated.{IsPlaced}
use Rattle.import_closure.specs.declared.files.SourceFile.{SourceFile}
use Rattle.spelling_laws.specs.Laws.{is_ontology_note}
use Rattle.import_merge.specs.Merged.{IsMerged, given_by, said_in}
use Rattle.import_merge.specs.Notes.{file_note}
use Rattle.import_merge.specs.declared.merged.FileNote.{FileNote}
use Rattle.import_merge.specs.inner.Joining.{Joins, moved, with_moved}
use Rattle.import_merge.proofs.MergeLemmas.{AreJoined, AreOf, first_name-more, merged_next, no_entry}
use Rattle.import_merge.proofs.PlaceLemmas.{some_is}

-- ---- the last first

In-reverse : {X : Type 0} (x : X) (xs : List X) → In x xs → In x (reverse xs)
In-reverse x [] here = here
In-reverse x (y ∷ ys) here =
    subst (In x) (sym (reverse-append (y ∷ []) ys))
    (⊎_elim
    (λ first. In-append_right x (reverse ys) (y ∷ []) (inl first))
    (λ later. In-append_left x (reverse ys) (y ∷ []) (In-reverse x ys later))
    here)

In-reversed : {X : Type 0} (x : X) (xs : List X) → In x (reverse xs) → In x xs
In-reversed x xs here = subst (In x) (reverse-reverse xs) (In-reverse x (reverse xs) here)

-- ---- one axiom after the other

moved-last : (rest : List Entry) (e : Entry) → moved (rest ++ e ∷ []) ≡ moved (e ∷ []) ++ moved rest
moved-last rest e =
    ap reverse (filter-append (λ (x : Entry). not (is_ontology_note x.axiom)) rest (e ∷ []))
    ∙ reverse-append (filter (λ (x : Entry). not (is_ontology_note x.axiom)) rest) (filter (λ (x : Entry). not (is_ontology_note x.axiom)) (e ∷ []))

-- the last one first, and then the others
pub moved_then : (o : OntologyState) (rest : List Entry) (e : Entry) → with_moved (with_moved o (e ∷ [])) rest ≡ with_moved o (rest ++ e ∷ [])
moved_then o rest e =
    let same : add_entries (add_entries o.entries (moved (e ∷ []))) (moved rest) ≡ add_entries o.entries (moved (rest ++ e ∷ [])) =
    sym (add_entries-append o.entries (moved (e ∷ [])) (moved rest)) ∙ ap (add_entries o.entries) (sym (moved-last rest e)) in
    λ i. record { name = o.name; entries = same i }

-- ---- a file behind the first

joined : (old added : List Entry) → AreDifferent old → AreJoined old added (add_entries old added)
joined old added apart = record {
  from = λ e here. In-append e old added (In-from_contains e (old ++ added) (least_stays old added apart e (contains-from_In e (add_entries old added) here)).given);
  least = λ e here other there same.
      (least_stays old added apart e (contains-from_In e (add_entries old added) here)).least other.origin
      (contains-from_In (entry_of e.axiom other.origin) (old ++ added)
      (subst (λ a. In (entry_of a other.origin) (old ++ added)) same
      (⊎_elim (λ before. In-append_left other old added before) (λ later. In-append_right other old added later) there)));
  all = λ a there. In-from_contains a (axioms_of (add_entries old added))
      (⊎_elim
      (λ before. all_held_stays old added a (contains-from_In a (axioms_of old) before))
      (λ later. all_added_is_held old added a (contains-from_In a (axioms_of added) later))
      there);
}

given_later : (place : ℕ) (source : SourceFile) → (place ≡ zero → ⊥) → given_by place source ≡ filter (λ one. not (is_ontology_note one)) (said_in source)
given_later zero source later = absurd (later refl)
given_later (suc place) source later = refl

pub in_moved : (e : Entry) (entries : List Entry) → In e (moved entries) → In e entries × (not (is_ontology_note e.axiom) ≡ true)
in_moved e entries here = In-from_filter (λ (x : Entry). not (is_ontology_note x.axiom)) e entries (In-reversed e (filter (λ (x : Entry). not (is_ontology_note x.axiom)) entries) here)

pub moved_in : (e : Entry) (entries : List Entry) → In e entries → not (is_ontology_note e.axiom) ≡ true → In e (moved entries)
moved_in e entries here other = In-reverse e (filter (λ (x : Entry). not (is_ontology_note x.axiom)) entries) (In-filter (λ (x : Entry). not (is_ontology_note x.axiom)) e entries here other)

-- the entries of a file's own ontology
record IsSaid (place : ℕ) (source : SourceFile) (entries : List Entry) : Type 0 where
  same : SameMembers (axioms_of entries) (said_in source)
  placed : (e : Entry) → In e entries → IsPlaced place source.document e

moved_of : (place : ℕ) (source : SourceFile) (entries : List Entry) → (place ≡ zero → ⊥) → IsSaid place source entries → AreOf place source (moved entries)
moved_of place source entries later said = record {
  placed = λ e here. said.placed e (in_moved e entries here).0;
  given = λ e here.
      let there = in_moved e entries here in
      subst (In e.axiom) (sym (given_later place source later))
      (In-filter (λ one. not (is_ontology_note one)) e.axiom (said_in source) ((said.same e.axiom).0 (In-map (λ (x : Entry). x.axiom) e entries there.0)) there.1);
  all = λ a given.
      let parts = In-from_filter (λ one. not (is_ontology_note one)) a (said_in source) (subst (In a) (given_later place source later) given) in
      let f = In-from_map (λ (x : Entry). x.axiom) a entries ((said.same a).1 parts.0) in
      subst (λ x. In x (axioms_of (moved entries))) f.2
      (In-map (λ (x : Entry). x.axiom) f.0 (moved entries) (moved_in f.0 entries f.1 (subst (λ x. not (is_ontology_note x) ≡ true) (sym f.2) parts.1)));
}

-- ---- the first file

first_of : (source : SourceFile) (entries : List Entry) → IsSaid zero source entries → AreOf zero source entries
first_of source entries said = record {
  placed = said.placed;
  given = λ e here. (said.same e.axiom).0 (In-map (λ (x : Entry). x.axiom) e entries here);
  all = λ a given. (said.same a).1 given;
}

-- entries of one axiom in one file are one
one_place : (source : SourceFile) (one other : Entry) → IsPlaced zero source.document one → IsPlaced zero source.document other → other.axiom ≡ one.axiom → other.origin ≡ one.origin
one_place source one other here there same =
    let file : other.origin.file ≡ one.origin.file = there.from ∙ sym here.from in
    let line : other.origin.line ≡ one.origin.line = some_is other.origin.line one.origin.line (sym there.line ∙ ap (line_of source.document) same ∙ here.line) in
    λ i. record { file = file i; line = line i }

taken_over : (o : OntologyState) (source : SourceFile) (entries : List Entry) → IsMerged [] o → IsSaid zero source entries → AreJoined o.entries entries entries
taken_over o source entries m said = record {
  from = λ e here. inr here;
  least = λ e here other there same.
      ⊎_elim
      (λ before. absurd (no_entry o m other before))
      (λ later. subst (λ origin. comes_before origin e.origin ≡ false) (sym (one_place source e other (said.placed e here) (said.placed other later) same)) (before-itself e.origin))
      there;
  all = λ a there.
      ⊎_elim
      (λ before. let f = In-from_map (λ (x : Entry). x.axiom) a o.entries before in absurd (no_entry o m f.0 f.1))
      (λ later. later)
      there;
}

-- ---- the documents

-- the ontology of a document
pub record IsOf (place : ℕ) (document : List Placed) (said : OntologyState) : Type 0 where
  pub name : said.name ≡ name_of (map unlined document)
  pub same : SameMembers (axioms_of said.entries) (owl (map unlined document))
  pub placed : (e : Entry) → In e said.entries → IsPlaced place document e

said_of : (place : ℕ) (source : SourceFile) (document : List Placed) (said : OntologyState) → source.document ≡ document → IsOf place document said → IsOf place source.document said
said_of place source document said is of = subst (λ d. IsOf place d said) (sym is) of

pub joins_first : (document : List Placed) (old said : OntologyState) → IsOf zero document said → Joins zero document old said
joins_first document old said of [] source long is m =
    let o : IsOf zero source.document said = said_of zero source document said is of in
    let s : IsSaid zero source said.entries = record { same = o.same; placed = o.placed } in
    merged_next [] source old said said.entries o.name (first_of source said.entries s) (taken_over old source said.entries m s) m
joins_first document old said of (first ∷ sources) source long is m = absurd (some_more (length sources) long)
  where
    some_more : (n : ℕ) → suc n ≡ zero → ⊥
    some_more n same = cc

pub joins_later : (place : ℕ) (document : List Placed) (old said : OntologyState) → (place ≡ zero → ⊥) → AreDifferent old.entries → IsOf place document said → Joins place document old (with_moved old said.entries)
joins_later place document old said later apart of sources source long is m =
    let o : IsOf place source.document said = said_of place source document said is of in
    let s : IsSaid place source said.entries = record { same = o.same; placed = o.placed } in
    merged_next sources source old (with_moved old said.entries) (moved said.entries)
    (first_name-more sources source old.name m.name (λ empty. later (sym long ∙ ap length empty)))
    (subst (λ n. AreOf n source (moved said.entries)) (sym long) (moved_of place source said.entries later s))
    (joined old.entries (moved said.entries) apart) m

pub joins_as_first : (place : ℕ) (document : List Placed) (old said : OntologyState) → place ≡ zero → IsOf place document said → Joins place document old said
joins_as_first place document old said is of = subst (λ n. IsOf n document said → Joins n document old said) (sym is) (joins_first document old said) of

-- ---- file after file

one_more : (sources : List SourceFile) (at : ℕ) (source : SourceFile) → at < length sources → source ≡ get_or sources at source → take at sources ++ source ∷ [] ≡ take (at + 1) sources
one_more sources at source within is =
    let next : suc at ≡ at + 1 = omega arith in
    ap (λ (x : SourceFile). take at sources ++ x ∷ []) is ∙ sym (take-suc sources at source within) ∙ ap (λ n. take n sources) next

pub merged_more : (sources : List SourceFile) (at : ℕ) (source : SourceFile) (old new : OntologyState)
    → at < length sources → source ≡ get_or sources at source → Joins at source.document old new → IsMerged (take at sources) old → IsMerged (take (at + 1) sources) new
merged_more sources at source old new within is joins m =
    subst (λ some. IsMerged some new) (one_more sources at source within is)
    (joins (take at sources) source (length-take-le at sources (omega arith)) refl m)

pub noted_more : (sources : List SourceFile) (at : ℕ) (source : SourceFile) (old new : List FileNote) (note : FileNote)
    → at < length sources → source ≡ get_or sources at source → note ≡ file_note source → old ≡ map file_note (take at sources) → new ≡ old ++ note ∷ [] → new ≡ map file_note (take (at + 1) sources)
noted_more sources at source old new note within is noted before more =
    more
    ∙ ap (λ notes. notes ++ note ∷ []) before
    ∙ ap (λ (n : FileNote). map file_note (take at sources) ++ n ∷ []) noted
    ∙ sym (map-append file_note (take at sources) (source ∷ []))
    ∙ ap (map file_note) (one_more sources at source within is)
