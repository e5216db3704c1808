-- Each form of an id is read back by its candidate, and the IRI of an id is never without an id.
use Rattle.std.proofs.Common.{◌≡◌, ℕ, Bool, true, false, not, ◌||◌, ◌==◌, List, [], ◌∷◌, ◌++◌, codes, All, Option, Some, None, is_some, refl, sym, ap, subst, ◌∙◌, ◌↔◌, ⊎_elim, append_assoc, arith}
use Rattle.std.specs.Bool.{IsTrue}
use Rattle.std.specs.Char.{is_ascii_digit}
use Rattle.std.specs.List.{cons_option, find, list_any}
use Rattle.std.specs.Option.{IfSome, IsNone, option_map}
use Rattle.std.specs.Str.{bytes_eq}
use Rattle.std.proofs.Math.Seq.{drop-append_seam, take-append_seam}
use Rattle.std.proofs.lemmas.Bool.{and_from, and_parts, both_ways, cases_Bool, cond-false, cond-true, eqb-true, false≢true, not-true, or_left, or_right}
use Rattle.std.proofs.lemmas.Bool.Decides.{nat_tests}
use Rattle.std.proofs.lemmas.List.Elements.{All-cons, All-head, All-nil, All-tail, All-weaker}
use Rattle.std.proofs.lemmas.List.Sums.{AllPass-from_list_all}
use Rattle.std.proofs.lemmas.Map.Views.{Contains-from_any}
use Rattle.std.proofs.lemmas.Option.{none-some, same_Some}
use Rattle.std.proofs.lemmas.Slice.Eq.{bytes_eq-Decides}
use Rattle.percent_encoding.proofs.PercentLemmas.{IsByte}
use Rattle.iri_map.specs.Escape.{escaped_part, stays_in_part}
use Rattle.iri_map.specs.Split.{Parts, after_start, onto_front, split_at_first}
use Rattle.rel_io.specs.Texts.{is_readable}
use Rattle.iri_map.specs.Id.{base, colon, underscore, is_canonical, is_number, is_url, iri_of, plain_iri}
use Rattle.iri_map.specs.Candidate.{hash, candidates, canonical_candidate, id_of, names_iri, plain_candidate, prefixed_candidate, HasNoId}
use Rattle.iri_map.specs.Laws.{IdIsCandidate, IdIsSettled, IdNamesIri, IriHasId, IsCleanUrl}
use Rattle.iri_map.proofs.EscapeLemmas.{AllPass-escaped_part, escaped_url_unchanged, implies_by_table, percent_decode-escaped_part, stays_in_part-high}
use Rattle.iri_map.proofs.SplitLemmas.{IsOther, split_at_first-parts, split_at_last-parts}
use Rattle.iri_map.proofs.ReadableLemmas.{bytes_from_readable}
use Rattle.iri_map.proofs.FormLemmas.{EachForm, iri_of-each, iri_of-url}
use Rattle.iri_map.proofs.UrlLemmas.{IsCleanUrl-iri_of, is_readable-clean}

-- ---- cuts of joined texts

pub bytes_eq-refl : (bs : List ℕ) → bytes_eq bs bs ≡ true
bytes_eq-refl bs = (bytes_eq-Decides bs bs).1 refl

pub after_start-append : (start rest : List ℕ) → after_start start (start ++ rest) ≡ Some rest
after_start-append start rest =
    cond-true _ _ _ (ap (λ x. bytes_eq start x) (take-append_seam start rest) ∙ bytes_eq-refl start)
    ∙ ap Some (drop-append_seam start rest)

option_map_some : {X Y : Type 0} (f : X → Y) (o : Option X) (y : Y) → option_map f o ≡ Some y → (x : X) × (o ≡ Some x) × (f x ≡ y)
option_map_some f None y is = absurd (none-some y is)
option_map_some f (Some x) y is = (x, refl, same_Some (f x) y is)

-- the parts around the first separator, joined by it, are the text
pub split_at_first-joined : (separator : ℕ) (bs : List ℕ) (parts : Parts) → split_at_first separator bs ≡ Some parts → bs ≡ parts.0 ++ separator ∷ parts.1
split_at_first-joined separator [] parts split = absurd (none-some parts split)
split_at_first-joined separator (b ∷ bs) parts split =
    ⊎_elim
    (λ here.
    let same : ([], bs) ≡ parts = same_Some ([], bs) parts (sym (cond-true _ _ _ here) ∙ split) in
    subst (λ (q : Parts). b ∷ bs ≡ q.0 ++ separator ∷ q.1) same (ap (λ x. x ∷ bs) (eqb-true b separator here)))
    (λ later.
    let found = option_map_some (onto_front b) (split_at_first separator bs) parts (sym (cond-false _ _ _ later) ∙ split) in
    subst (λ (q : Parts). b ∷ bs ≡ q.0 ++ separator ∷ q.1) found.2 (ap (λ x. b ∷ x) (split_at_first-joined separator bs found.0 found.1)))
    (cases_Bool (b == separator))

-- ---- canonical

digit_is_no_underscore : (b : ℕ) → is_ascii_digit b ≡ true → IsOther underscore b
digit_is_no_underscore b digit = grind (arith, nat_tests)

pub canonical_candidate-canonical : (prefix number : List ℕ) → is_number number ≡ true → canonical_candidate (base ++ prefix ++ codes "_" ++ number) ≡ Some (prefix ++ colon ∷ number)
canonical_candidate-canonical prefix number digits =
    let joined : base ++ prefix ++ codes "_" ++ number ≡ base ++ (prefix ++ underscore ∷ number) = simp append_assoc in
    let others = All-weaker (λ b. is_ascii_digit b ≡ true) (IsOther underscore) digit_is_no_underscore number (AllPass-from_list_all is_ascii_digit number (and_parts _ _ digits).1) in
    rw (joined, after_start-append base (prefix ++ underscore ∷ number), split_at_last-parts underscore prefix number others) refl

-- ---- prefixed

pub part_has_no_hash : (bs : List ℕ) → All (IsOther hash) (escaped_part bs)
part_has_no_hash bs =
    let other : (b : ℕ) → stays_in_part b ≡ true → not (b == hash) ≡ true = implies_by_table stays_in_part (λ b. not (b == hash)) refl stays_in_part-high in
    All-weaker (λ b. not (b == hash) ≡ true) (IsOther hash) (λ b. not-true (b == hash)) (escaped_part bs) (AllPass-escaped_part (λ b. not (b == hash)) refl other bs)

pub prefixed_candidate-prefixed : (prefix local : List ℕ) → All IsByte prefix → All IsByte local → prefixed_candidate (base ++ escaped_part prefix ++ codes "#_" ++ escaped_part local) ≡ Some (prefix ++ colon ∷ local)
prefixed_candidate-prefixed prefix local small_prefix small_local =
    let joined : base ++ escaped_part prefix ++ codes "#_" ++ escaped_part local ≡ base ++ (escaped_part prefix ++ hash ∷ (codes "_" ++ escaped_part local)) = simp append_assoc in
    rw (
      joined,
      after_start-append base (escaped_part prefix ++ hash ∷ (codes "_" ++ escaped_part local)),
      split_at_first-parts hash (escaped_part prefix) (codes "_" ++ escaped_part local) (part_has_no_hash prefix),
      percent_decode-escaped_part prefix small_prefix,
      percent_decode-escaped_part local small_local,
    )
    refl

-- ---- plain

pub plain_candidate-plain : (id ontology : List ℕ) → All IsByte id → plain_candidate (plain_iri id ontology) ontology ≡ Some id
plain_candidate-plain id ontology small =
    rw (after_start-append (base ++ escaped_part ontology ++ codes "#") (escaped_part id), percent_decode-escaped_part id small) refl

-- ---- the search

pub is_some-find : {X : Type 0} (p : X → Bool) (xs : List X) → list_any p xs ≡ true → is_some (find p xs) ≡ true
is_some-find p [] any = absurd (false≢true any)
is_some-find p (x ∷ xs) any =
    ⊎_elim
    (λ here. ap is_some (cond-true _ _ _ here))
    (λ later. ap is_some (cond-false _ _ _ later) ∙ is_some-find p xs (ap (λ t. t || list_any p xs) (sym later) ∙ any))
    (cases_Bool (p x))

pub find-passes : {X : Type 0} (p : X → Bool) (xs : List X) (x : X) → find p xs ≡ Some x → p x ≡ true
find-passes p [] x found = absurd (none-some x found)
find-passes p (y ∷ ys) x found =
    ⊎_elim
    (λ here. subst (λ z. p z ≡ true) (same_Some y x (sym (cond-true _ _ _ here) ∙ found)) here)
    (λ later. find-passes p ys x (sym (cond-false _ _ _ later) ∙ found))
    (cases_Bool (p y))

any_here : (p : List ℕ → Bool) (o : Option (List ℕ)) (x : List ℕ) (xs : List (List ℕ)) → o ≡ Some x → p x ≡ true → list_any p (cons_option o xs) ≡ true
any_here p o x xs is passes = ap (λ t. list_any p (cons_option t xs)) is ∙ or_left _ _ passes

any_later : (p : List ℕ → Bool) (o : Option (List ℕ)) (xs : List (List ℕ)) → list_any p xs ≡ true → list_any p (cons_option o xs) ≡ true
any_later p None xs any = any
any_later p (Some x) xs any = or_right _ _ any

-- a candidate passes the test
abbrev pub SomePasses : (List ℕ → Bool) → List ℕ → List ℕ → Type 0
SomePasses p iri ontology = list_any p (candidates iri ontology) ≡ true

first_passes : (p : List ℕ → Bool) (iri ontology id : List ℕ) → canonical_candidate iri ≡ Some id → p id ≡ true → SomePasses p iri ontology
unfolding candidates
first_passes p iri ontology id candidate passes =
    any_here p (canonical_candidate iri) id (cons_option (prefixed_candidate iri) (cons_option (plain_candidate iri ontology) (iri ∷ []))) candidate passes

second_passes : (p : List ℕ → Bool) (iri ontology id : List ℕ) → prefixed_candidate iri ≡ Some id → p id ≡ true → SomePasses p iri ontology
unfolding candidates
second_passes p iri ontology id candidate passes =
    any_later p (canonical_candidate iri) (cons_option (prefixed_candidate iri) (cons_option (plain_candidate iri ontology) (iri ∷ [])))
    (any_here p (prefixed_candidate iri) id (cons_option (plain_candidate iri ontology) (iri ∷ [])) candidate passes)

third_passes : (p : List ℕ → Bool) (iri ontology id : List ℕ) → plain_candidate iri ontology ≡ Some id → p id ≡ true → SomePasses p iri ontology
unfolding candidates
third_passes p iri ontology id candidate passes =
    any_later p (canonical_candidate iri) (cons_option (prefixed_candidate iri) (cons_option (plain_candidate iri ontology) (iri ∷ [])))
    (any_later p (prefixed_candidate iri) (cons_option (plain_candidate iri ontology) (iri ∷ []))
    (any_here p (plain_candidate iri ontology) id (iri ∷ []) candidate passes))

last_passes : (p : List ℕ → Bool) (iri ontology : List ℕ) → p iri ≡ true → SomePasses p iri ontology
unfolding candidates
last_passes p iri ontology passes =
    any_later p (canonical_candidate iri) (cons_option (prefixed_candidate iri) (cons_option (plain_candidate iri ontology) (iri ∷ [])))
    (any_later p (prefixed_candidate iri) (cons_option (plain_candidate iri ontology) (iri ∷ []))
    (any_later p (plain_candidate iri ontology) (iri ∷ []) (or_left _ _ passes)))

some_from_equation : {X : Type 0} (o : Option X) (P : X → Type 0) → ((x : X) → o ≡ Some x → P x) → IfSome o P
some_from_equation None P each = tt
some_from_equation (Some x) P each = each x refl

option_none : {X : Type 0} (o : Option X) → ((x : X) → o ≡ Some x → ⊥) → IsNone o
option_none None never = refl
option_none (Some x) never = absurd (never x refl)

-- ---- what `id_of` gives

pub id_of-names : (iri ontology id : List ℕ) → id_of iri ontology ≡ Some id → (is_readable id ≡ true) × (iri_of id ontology ≡ iri)
unfolding id_of
id_of-names iri ontology id found =
    let parts = and_parts _ _ (find-passes (names_iri iri ontology) (candidates iri ontology) id found) in
    (parts.0, (bytes_eq-Decides _ _).0 parts.1)

-- ---- an id is a candidate of its own IRI

-- the id is a candidate of this IRI
abbrev pub Reads : List ℕ → List ℕ → List ℕ → Type 0
Reads id ontology iri = SomePasses (bytes_eq id) iri ontology

reads_canonical : (id ontology : List ℕ) (parts : Parts) → split_at_first colon id ≡ Some parts → is_canonical parts ≡ true → Reads id ontology (base ++ parts.0 ++ codes "_" ++ parts.1)
reads_canonical id ontology parts split canonical =
    let candidate = canonical_candidate-canonical parts.0 parts.1 (and_parts _ _ canonical).1 ∙ ap Some (sym (split_at_first-joined colon id parts split)) in
    first_passes (bytes_eq id) _ ontology id candidate (bytes_eq-refl id)

All-parts : (P : ℕ → Type 0) (xs ys : List ℕ) → All P (xs ++ ys) → All P xs × All P ys
All-parts P [] ys each = (All-nil P, each)
All-parts P (x ∷ xs) ys each =
    let rest = All-parts P xs ys (All-tail P x (xs ++ ys) each) in
    (All-cons P x xs (All-head P x (xs ++ ys) each) rest.0, rest.1)

reads_prefixed : (id ontology : List ℕ) → All IsByte id → (parts : Parts) → split_at_first colon id ≡ Some parts → Reads id ontology (base ++ escaped_part parts.0 ++ codes "#_" ++ escaped_part parts.1)
reads_prefixed id ontology bytes parts split =
    let joined = split_at_first-joined colon id parts split in
    let small = All-parts IsByte parts.0 (colon ∷ parts.1) (subst (All IsByte) joined bytes) in
    let candidate = prefixed_candidate-prefixed parts.0 parts.1 small.0 (All-tail IsByte colon parts.1 small.1) ∙ ap Some (sym joined) in
    second_passes (bytes_eq id) _ ontology id candidate (bytes_eq-refl id)

reads_plain : (id ontology : List ℕ) → All IsByte id → Reads id ontology (plain_iri id ontology)
reads_plain id ontology bytes =
    third_passes (bytes_eq id) _ ontology id (plain_candidate-plain id ontology bytes) (bytes_eq-refl id)

reads_own : (id ontology : List ℕ) → All IsByte id → is_url id ≡ false → Reads id ontology (iri_of id ontology)
reads_own id ontology bytes no_url =
    let each : EachForm id ontology (Reads id ontology) = record {
      url = λ url. absurd (both_ways _ no_url url);
      canonical = reads_canonical id ontology;
      prefixed = reads_prefixed id ontology bytes;
      plain = reads_plain id ontology bytes;
    } in
    iri_of-each id ontology (Reads id ontology) each

pub IdIsCandidate-all : (id ontology : List ℕ) → IdIsCandidate id ontology
IdIsCandidate-all id ontology readable no_url =
    Contains-from_any (λ x y. (bytes_eq-Decides x y).0) id (candidates (iri_of id ontology) ontology) (reads_own id ontology (bytes_from_readable id readable) no_url)

-- ---- the IRI of an id is a candidate that fits

names_itself : (iri ontology : List ℕ) → IsCleanUrl iri → names_iri iri ontology iri ≡ true
names_itself iri ontology own =
    let same = iri_of-url iri ontology own.url ∙ escaped_url_unchanged iri own.clean in
    and_from _ _ (is_readable-clean iri own) ((bytes_eq-Decides _ _).1 same)

pub id_of-found : (id ontology : List ℕ) → IriHasId id ontology
unfolding id_of
id_of-found id ontology =
    let iri = iri_of id ontology in
    is_some-find (names_iri iri ontology) (candidates iri ontology) (last_passes (names_iri iri ontology) iri ontology (names_itself iri ontology (IsCleanUrl-iri_of id ontology)))

-- ---- the laws

pub id_of-none : (iri ontology : List ℕ) → IsNone (id_of iri ontology) ↔ HasNoId iri ontology
id_of-none iri ontology = (
  λ none id readable names. both_ways _ none (subst (λ i. is_some (id_of i ontology) ≡ true) names (id_of-found id ontology)),
  λ nobody. option_none (id_of iri ontology) (λ id found. let parts = id_of-names iri ontology id found in nobody id parts.0 parts.1),
)

pub id_of-settled : (iri ontology : List ℕ) → IdIsSettled iri ontology
id_of-settled iri ontology =
    some_from_equation (id_of iri ontology) (λ id. id_of (iri_of id ontology) ontology ≡ Some id)
    (λ id found. ap (λ i. id_of i ontology) (id_of-names iri ontology id found).1 ∙ found)

pub id_of-names_iri : (iri ontology : List ℕ) → IdNamesIri iri ontology
id_of-names_iri iri ontology =
    some_from_equation (id_of iri ontology) (λ id. IsTrue (is_readable id) × (iri_of id ontology ≡ iri)) (id_of-names iri ontology)
