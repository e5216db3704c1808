-- That the files decide their ontology, and that their order is free.
use Rattle.std.proofs.Common.{◌≡◌, ◌∙◌, ℕ, zero, suc, true, false, not, List, [], ◌∷◌, Some, ⊎_elim, slice_get, refl, sym, ap, subst, arith, true≢false}
use Rattle.std.proofs.lemmas.Bool.{cases_Bool}
use Rattle.std.proofs.lemmas.Bool.Decides.{nat_tests}
use Rattle.text_sets.specs.Sets.{In}
use Rattle.text_sets.proofs.SetLemmas.{In-filter, In-from_contains, In-from_filter, In-from_map, contains-from_In}
use Rattle.owl_axioms.specs.declared.body.Axiom.{Axiom}
use Rattle.owl_ontology.specs.Ontology.{Entry, IsHeld, OntologyState, axioms_of, entry_of}
use Rattle.owl_ontology.specs.Origins.{comes_before}
use Rattle.owl_ontology.specs.declared.origin.Origin.{Origin}
use Rattle.import_closure.specs.declared.files.SourceFile.{SourceFile}
use Rattle.import_merge.specs.Laws.{FilesDecide, IsNoted, OrderIsFree}
use Rattle.spelling_laws.specs.Laws.{is_ontology_note}
use Rattle.import_merge.specs.Merged.{IsGiven, IsMerged, given_by, said_in}
use Rattle.import_merge.proofs.PlaceLemmas.{In-place, place_of, some_is}

-- origins of which none comes before the other are one
same_file : (a b : Origin) → comes_before a b ≡ false → comes_before b a ≡ false → a.file ≡ b.file
same_file a b one other = grind (arith, nat_tests, one, other)

same_line : (a b : Origin) → comes_before a b ≡ false → comes_before b a ≡ false → a.line ≡ b.line
same_line a b one other = grind (arith, nat_tests, one, other)

pub same_origin : (a b : Origin) → comes_before a b ≡ false → comes_before b a ≡ false → a ≡ b
same_origin a b one other =
    let file = same_file a b one other in let line = same_line a b one other in λ i. record { file = file i; line = line i }

-- what a file gives of an axiom of this entry it gives of the same axiom
pub given_same : (sources : List SourceFile) (e : Entry) (a : Axiom) → e.axiom ≡ a → IsGiven sources e → IsGiven sources (entry_of a e.origin)
given_same sources e a is given = subst (λ x. IsGiven sources (entry_of x e.origin)) is given

-- an entry of an ontology of the files is one of each other
decided : (sources : List SourceFile) (one other : OntologyState) → IsMerged sources one → IsMerged sources other → (e : Entry) → In e one.entries → In e other.entries
decided sources one other m n e here =
    let g = m.given e here in
    let f = In-from_map (λ (x : Entry). x.axiom) e.axiom other.entries (n.all e.origin.file g.source e.axiom g.there g.given) in
    let there : In f.0 other.entries = f.1 in
    let same : f.0.axiom ≡ e.axiom = f.2 in
    let not_later : comes_before f.0.origin e.origin ≡ false = m.least e here f.0.origin (given_same sources f.0 e.axiom same (n.given f.0 there)) in
    let not_sooner : comes_before e.origin f.0.origin ≡ false = n.least f.0 there e.origin (given_same sources e f.0.axiom (sym same) g) in
    let origin : f.0.origin ≡ e.origin = same_origin f.0.origin e.origin not_later not_sooner in
    subst (λ x. In x other.entries) (λ i. entry_of (same i) (origin i)) there

pub files_decide : (one other : OntologyState) → FilesDecide one other
files_decide one other sources m n e = (decided sources one other m n e, decided sources other one n m e)

-- ---- another order

-- what a file gives it says
pub given_said : (place : ℕ) (source : SourceFile) (a : Axiom) → In a (given_by place source) → In a (said_in source)
given_said zero source a given = given
given_said (suc place) source a given = (In-from_filter (λ one. not (is_ontology_note one)) a (said_in source) given).0

-- and what it says it gives, but for notes about the ontology
pub said_given : (place : ℕ) (source : SourceFile) (a : Axiom) → is_ontology_note a ≡ false → In a (said_in source) → In a (given_by place source)
said_given zero source a other said = said
said_given (suc place) source a other said = In-filter (λ one. not (is_ontology_note one)) a (said_in source) said (ap not other)

-- a note about the ontology is given by the first file alone
noted : (sources : List SourceFile) (place : ℕ) (source : SourceFile) (a : Axiom) → is_ontology_note a ≡ true → slice_get sources place ≡ Some source → In a (given_by place source) → IsNoted sources a
noted [] place source a is there given = absurd (In-place [] place source there)
noted (first ∷ sources) zero source a is there given = (is, subst (λ s. In a (said_in s)) (sym (some_is first source there)) given)
noted (first ∷ sources) (suc place) source a is there given =
    absurd (true≢false (sym (In-from_filter (λ one. not (is_ontology_note one)) a (said_in source) given).1 ∙ ap not is))

noted_held : (others : List SourceFile) (other : OntologyState) → IsMerged others other → (a : Axiom) → IsNoted others a → In a (axioms_of other.entries)
noted_held [] other n a note = absurd note
noted_held (first ∷ others) other n a note = n.all zero first a refl note.1

moved_over : (sources others : List SourceFile) (one other : OntologyState)
    → ((source : SourceFile) → In source sources → In source others)
    → ((a : Axiom) → IsNoted sources a → IsNoted others a)
    → IsMerged sources one → IsMerged others other → (a : Axiom) → IsHeld a one.entries → IsHeld a other.entries
moved_over sources others one other files notes m n a held =
    let e = In-from_map (λ (x : Entry). x.axiom) a one.entries (In-from_contains a (axioms_of one.entries) held) in
    let g = given_same sources e.0 a e.2 (m.given e.0 e.1) in
    let source : SourceFile = g.source in
    contains-from_In a (axioms_of other.entries)
    (⊎_elim
    (λ is. noted_held others other n a (notes a (noted sources e.0.origin.file source a is g.there g.given)))
    (λ is.
    let at = place_of others source (files source (In-place sources e.0.origin.file source g.there)) in
    n.all at.0 source a at.1 (said_given at.0 source a is (given_said e.0.origin.file source a g.given)))
    (cases_Bool (is_ontology_note a)))

pub order_is_free : (one other : OntologyState) → OrderIsFree one other
order_is_free one other sources others same m n = record {
  name = m.name ∙ same.name ∙ sym n.name;
  axioms = λ a. (
    moved_over sources others one other (λ s. (same.files s).0) (λ x. (same.notes x).0) m n a,
    moved_over others sources other one (λ s. (same.files s).1) (λ x. (same.notes x).1) n m a,
  );
}
