-- The two definitions of the name that a header gives agree: the first of the sorted names is the least.
use Rattle.std.proofs.Common.{◌≡◌, ℕ, Bool, true, false, ◌&&◌, List, [], ◌∷◌, codes, cond, Option, None, Some, inl, inr, refl, ap, subst, ◌∙◌}
use Rattle.std.specs.List.{filter_map}
use Rattle.std.specs.Option.{option_map}
use Rattle.std.specs.Str.{bytes_eq}
use Rattle.std.specs.declared.cmp.Ordering.TheVariants.{Less}
use Rattle.iri_map.specs.Ontology.{name_or_temp, normalised}
use Rattle.text_sets.specs.Sets.{In}
use Rattle.text_sets.specs.Sorted.{IsBelow, Rises, sorted_by, sorted_on, text_cmp}
use Rattle.text_sets.proofs.SortedLemmas.{Rises-sorted_by, sorted_by-each, sorted_by-only}
use Rattle.obo_tags.specs.declared.kind.FrameKind.{FrameKind}
use Rattle.obo_tags.specs.declared.kind.FrameKind.TheVariants.{Header, Instance, Term, Typedef}
use Rattle.obo_clause.specs.declared.clause.Clause.{Clause}
use Rattle.obo_clause.specs.declared.clause.Value.{Value}
use Rattle.obo_clause.specs.declared.clause.Value.TheVariants as value
use Rattle.obo_frames.specs.Frames as frames
use Rattle.obo_frames.specs.Framed.{Framed, framed}
use Rattle.obo_frames.specs.Laws.{IsLeastName}
use Rattle.obo_frames.specs.Naming as naming
use Rattle.obo_frames.proofs.SameLemmas.{name_is_least}
use Rattle.obo_notes.specs.Context.{where_true}
use Rattle.obo_notes.specs.Forms.{first_part}
use Rattle.obo_mapping.specs.Documents.{has_tag, is_header, name_of, names_in, space_of, word_in}

-- ---- the names

word_same : (v : Value) → word_in v ≡ frames.word_in v
word_same (value.Id word) = refl
word_same _ = refl

header_same : (kind : FrameKind) (id : List ℕ) (c : Clause) → is_header (framed kind id c) ≡ naming.is_header kind
header_same Header id c = refl
header_same Term id c = refl
header_same Typedef id c = refl
header_same Instance id c = refl

guard_moved : {X Y : Type 0} (f : X → Y) (test : Bool) (o : Option X) → cond test (option_map f o) None ≡ option_map f (cond test o None)
guard_moved f true o = refl
guard_moved f false o = refl

name_same : (one : Framed) → where_true (is_header one && has_tag (codes "ontology") one) (option_map normalised (word_in one.clause.value)) ≡ option_map normalised (naming.ontology_in one.frame one.clause)
name_same one =
    let head = header_same one.frame one.id one.clause in
    let word = word_same one.clause.value in
    (λ i. where_true (head i && bytes_eq one.clause.tag (codes "ontology")) (option_map normalised (word i)))
    ∙ guard_moved normalised (naming.is_header one.frame && bytes_eq one.clause.tag (codes "ontology")) (frames.word_in one.clause.value)

names_same : (d : List Framed) → names_in d ≡ naming.names_in d
names_same d = λ i. filter_map (λ one. name_same one i) d

-- ---- the least of them

abbrev text : List ℕ → List ℕ
text t = t

below_each : (y x : List ℕ) (ys : List (List ℕ)) → IsBelow text y ys → In x ys → text_cmp y x ≡ Less
below_each y x [] below here = absurd here
below_each y x (z ∷ ys) below (inl same) = subst (λ t. text_cmp y t ≡ Less) same below.0
below_each y x (z ∷ ys) below (inr later) = below_each y x ys below.1 later

first_is : (s : List (List ℕ)) (least : List ℕ) → Rises text s → In least s → ((y : List ℕ) → In y s → text_cmp y least ≡ Less → ⊥) → first_part s ≡ Some least
first_is [] least rises here low = absurd here
first_is (y ∷ ys) least rises (inl same) low = ap Some same
first_is (y ∷ ys) least rises (inr later) low = absurd (low y (inl refl) (below_each y least ys rises.0 later))

pub least_is : (names : List (List ℕ)) (name : Option (List ℕ)) → IsLeastName names name → first_part (sorted_by text names) ≡ name
unfolding sorted_on
least_is names None is = ap (λ (ns : List (List ℕ)). first_part (sorted_by text ns)) (is.none.0 refl)
least_is names (Some least) is =
    first_is (sorted_by text names) least (Rises-sorted_by text names) (sorted_by-each text names (λ x y p q same. same) least (is.among least refl))
    (λ y here below. is.least least y refl (sorted_by-only text names y here) below)

pub same_name : (d : List Framed) → name_of d ≡ naming.name_of d
same_name d =
    ap (λ (names : List (List ℕ)). first_part (sorted_by text names)) (names_same d) ∙ least_is (naming.names_in d) (naming.name_of d) (name_is_least d)

pub same_space : (d : List Framed) → space_of d ≡ naming.space_of d
same_space d = ap name_or_temp (same_name d)
