-- One file more: what its axioms and an ontology of the files before it come to is the ontology of all of them.
use Rattle.std.proofs.Common.{◌≡◌, ◌⊎◌, ◌∙◌, ℕ, false, List, [], ◌∷◌, ◌++◌, None, Some, inl, inr, ⊎_elim, length, slice_get, refl, sym, ap, subst}
use Rattle.text_sets.specs.Sets.{In}
use Rattle.text_sets.proofs.SetLemmas.{In-from_map}
use Rattle.owl_axioms.specs.declared.body.Axiom.{Axiom}
use Rattle.owl_ontology.specs.Ontology.{Entry, OntologyState, axioms_of, entry_of}
use Rattle.owl_ontology.specs.Origins.{comes_before}
use Rattle.owl_ontology.specs.declared.origin.Origin.{Origin}
use Rattle.owl_ontology.proofs.Least.{before-through}
use Rattle.obo_mapping.specs.Lines.{line_of}
use Rattle.obo_to_owl.specs.Translated.{IsPlaced}
use Rattle.import_closure.specs.declared.files.SourceFile.{SourceFile}
use Rattle.import_merge.specs.Merged.{IsGiven, IsMerged, first_name, given_by}
use Rattle.import_merge.proofs.DecidingLemmas.{given_same}
use Rattle.import_merge.proofs.PlaceLemmas.{place-before, place-cases, place-last, some_is}

-- entries that are what a file gives
pub record AreOf (place : ℕ) (source : SourceFile) (added : List Entry) : Type 0 where
  pub placed : (e : Entry) → In e added → IsPlaced place source.document e
  pub given : (e : Entry) → In e added → In e.axiom (given_by place source)
  pub all : (a : Axiom) → In a (given_by place source) → In a (axioms_of added)

-- entries and others are joined, each axiom with the least of its origins
pub record AreJoined (old added new : List Entry) : Type 0 where
  pub from : (e : Entry) → In e new → In e old ⊎ In e added
  pub least : (e : Entry) → In e new → (other : Entry) → In other old ⊎ In other added → other.axiom ≡ e.axiom → comes_before other.origin e.origin ≡ false
  pub all : (a : Axiom) → In a (axioms_of old) ⊎ In a (axioms_of added) → In a (axioms_of new)

-- ---- what one file more gives

given-before : (sources : List SourceFile) (source : SourceFile) (e : Entry) → IsGiven sources e → IsGiven (sources ++ source ∷ []) e
given-before sources source e g = record {
  source = g.source;
  there = place-before sources source e.origin.file g.source g.there;
  given = g.given;
  line = g.line;
}

given-last : (sources : List SourceFile) (source : SourceFile) (e : Entry) → IsPlaced (length sources) source.document e → In e.axiom (given_by (length sources) source) → IsGiven (sources ++ source ∷ []) e
given-last sources source e is given = record {
  source = source;
  there = subst (λ n. slice_get (sources ++ source ∷ []) n ≡ Some source) (sym is.from) (place-last sources source);
  given = subst (λ n. In e.axiom (given_by n source)) (sym is.from) given;
  line = is.line;
}

-- the last file gives the entry
record IsOfLast (sources : List SourceFile) (source : SourceFile) (e : Entry) : Type 0 where
  file : e.origin.file ≡ length sources
  given : In e.axiom (given_by (length sources) source)
  line : line_of source.document e.axiom ≡ Some e.origin.line

given-cases : (sources : List SourceFile) (source : SourceFile) (e : Entry) → IsGiven (sources ++ source ∷ []) e → IsGiven sources e ⊎ IsOfLast sources source e
given-cases sources source e g =
    ⊎_elim
    (λ before. inl (record { source = g.source; there = before; given = g.given; line = g.line }))
    (λ last. inr (record {
      file = last.0;
      given = subst (λ n. In e.axiom (given_by n source)) last.0 (subst (λ s. In e.axiom (given_by e.origin.file s)) (sym last.1) g.given);
      line = subst (λ (s : SourceFile). line_of s.document e.axiom ≡ Some e.origin.line) (sym last.1) g.line;
    }))
    (place-cases sources source e.origin.file g.source g.there)

-- an entry of the last file has the one origin that its axiom has there
one_origin : (sources : List SourceFile) (source : SourceFile) (a : Axiom) (origin : Origin) (e : Entry) → IsOfLast sources source (entry_of a origin) → IsPlaced (length sources) source.document e → e.axiom ≡ a → e.origin ≡ origin
one_origin sources source a origin e last is same =
    let file : e.origin.file ≡ origin.file = is.from ∙ sym last.file in
    let line : e.origin.line ≡ origin.line = some_is e.origin.line origin.line (sym is.line ∙ ap (line_of source.document) same ∙ last.line) in
    λ i. record { file = file i; line = line i }

pub first_name-more : (sources : List SourceFile) (source : SourceFile) (name : _) → name ≡ first_name sources → (sources ≡ [] → ⊥) → name ≡ first_name (sources ++ source ∷ [])
first_name-more [] source name is some = absurd (some refl)
first_name-more (first ∷ sources) source name is some = is

-- ---- the ontology of one file more

pub merged_next : (sources : List SourceFile) (source : SourceFile) (old new : OntologyState) (added : List Entry)
    → new.name ≡ first_name (sources ++ source ∷ []) → AreOf (length sources) source added → AreJoined old.entries added new.entries
    → IsMerged sources old → IsMerged (sources ++ source ∷ []) new
merged_next sources source old new added name o j m = record {
  name = name;
  given = λ e here.
      ⊎_elim
      (λ before. given-before sources source e (m.given e before))
      (λ last. given-last sources source e (o.placed e last) (o.given e last))
      (j.from e here);
  least = λ e here other g.
      ⊎_elim
      (λ (before : IsGiven sources (entry_of e.axiom other)).
      let f = In-from_map (λ (x : Entry). x.axiom) e.axiom old.entries (m.all other.file before.source e.axiom before.there before.given) in
      before-through other f.0.origin e.origin
      (m.least f.0 f.1 other (given_same sources (entry_of e.axiom other) f.0.axiom (sym f.2) before))
      (j.least e here f.0 (inl f.1) f.2))
      (λ (last : IsOfLast sources source (entry_of e.axiom other)).
      let f = In-from_map (λ (x : Entry). x.axiom) e.axiom added (o.all e.axiom last.given) in
      subst (λ origin. comes_before origin e.origin ≡ false) (one_origin sources source e.axiom other f.0 last (o.placed f.0 f.1) f.2)
      (j.least e here f.0 (inr f.1) f.2))
      (given-cases sources source (entry_of e.axiom other) g);
  all = λ place one a there given.
      ⊎_elim
      (λ before. j.all a (inl (m.all place one a before given)))
      (λ last. j.all a (inr (o.all a (subst (λ n. In a (given_by n source)) last.0 (subst (λ s. In a (given_by place s)) (sym last.1) given)))))
      (place-cases sources source place one there);
}

-- ---- the first file

pub no_entry : (o : OntologyState) → IsMerged [] o → (e : Entry) → In e o.entries → ⊥
no_entry o m e here = none_there (m.given e here).source (m.given e here).there
  where
    none_there : (source : SourceFile) → None ≡ Some source → ⊥
    none_there source is = cc
