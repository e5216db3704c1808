-- Parts of a text one behind the other: where each part is told by its front, so are all of them.
use Rattle.std.proofs.Common.{◌≡◌, ℕ, Bool, true, ◌&&◌, List, [], ◌∷◌, ◌++◌, codes, sym, ◌∙◌, append_assoc}
use Rattle.std.proofs.lemmas.Bool.{and_parts}
use Rattle.rel_io.specs.Texts.{is_clean_iri}
use Rattle.owl_axioms.specs.Proper.{is_proper_expr, is_proper_value}
use Rattle.owl_axioms.specs.Text.{expr_text, iri_text, phrase, value_text}
use Rattle.owl_axioms.specs.inner.Joined.{end_one, end_three, end_two}
use Rattle.owl_axioms.proofs.TellingSides.{value_front}
use Rattle.owl_axioms.proofs.TellingTexts.{expr_front}
use Rattle.owl_axioms.proofs.TextFronts.{Ends, append_parts, cons_parts, iri_front, phrase_front}

-- a longer text begins with the text of one thing only, among those that pass a test
abbrev pub IsFront : {A : Type 0} → (A → List ℕ) → (A → Bool) → Type 0
IsFront {A} text test = (a b : A) (x y : List ℕ) → test a ≡ true → test b ≡ true → text a ++ x ≡ text b ++ y → Ends a b x y

-- the text of one thing only stands before the last bracket
abbrev pub IsLast : {A : Type 0} → (A → List ℕ) → (A → Bool) → Type 0
IsLast {A} text test = (a b : A) → test a ≡ true → test b ≡ true → end_one (text a) ≡ end_one (text b) → a ≡ b

pub last_of : {A : Type 0} (text : A → List ℕ) (test : A → Bool) → IsFront text test → IsLast text test
unfolding end_one
last_of text test front a b one other same = (front a b (codes ")") (codes ")") one other same).same

-- one part, a space, and what stands behind it
pub spaced_front : {A : Type 0} (text : A → List ℕ) (test : A → Bool) → IsFront text test → (a b : A) (x y : List ℕ) → test a ≡ true → test b ≡ true → text a ++ 32 ∷ x ≡ text b ++ 32 ∷ y → Ends a b x y
spaced_front text test front a b x y one other same =
    let ends = front a b (32 ∷ x) (32 ∷ y) one other same in
    record { same = ends.same; rest_same = (cons_parts 32 32 x y ends.rest_same).1 }

-- two parts before the last bracket
pub two_told : {A B : Type 0} (text : A → List ℕ) (test : A → Bool) (more : B → List ℕ) (also : B → Bool) → IsFront text test → IsLast more also
    → (a b : A) (c d : B) → test a ≡ true → test b ≡ true → also c ≡ true → also d ≡ true → end_two (text a) (more c) ≡ end_two (text b) (more d) → (a ≡ b) × (c ≡ d)
unfolding end_two
two_told text test more also front last a b c d pa pb pc pd same =
    let ends = spaced_front text test front a b (end_one (more c)) (end_one (more d)) pa pb same in
    (ends.same, last c d pc pd ends.rest_same)

-- three parts before the last bracket
pub three_told : {A B C : Type 0} (text : A → List ℕ) (test : A → Bool) (more : B → List ℕ) (also : B → Bool) (most : C → List ℕ) (too : C → Bool) → IsFront text test → IsFront more also → IsLast most too
    → (a b : A) (c d : B) (e f : C) → test a ≡ true → test b ≡ true → also c ≡ true → also d ≡ true → too e ≡ true → too f ≡ true
    → end_three (text a) (more c) (most e) ≡ end_three (text b) (more d) (most f) → (a ≡ b) × (c ≡ d) × (e ≡ f)
unfolding end_three
three_told text test more also most too front next last a b c d e f pa pb pc pd pe pf same =
    let ends = spaced_front text test front a b (end_two (more c) (most e)) (end_two (more d) (most f)) pa pb same in
    let rest = two_told more also most too next last c d e f pc pd pe pf ends.rest_same in
    (ends.same, rest.0, rest.1)

-- ---- the parts that axioms have

pub iris : IsFront iri_text is_clean_iri
iris a b x y = iri_front a b x y

pub exprs : IsFront expr_text is_proper_expr
exprs a b x y = expr_front a b x y

pub last_iri : IsLast iri_text is_clean_iri
last_iri = last_of iri_text is_clean_iri iris

pub last_expr : IsLast expr_text is_proper_expr
last_expr = last_of expr_text is_proper_expr exprs

pub last_value : IsLast value_text is_proper_value
unfolding end_one
last_value a b one other same = (value_front a b [] [] one other same).same

-- a chain of two properties
abbrev pub Link : Type 0
Link = List ℕ × List ℕ

abbrev pub link_text : Link → List ℕ
link_text link = phrase (codes "ObjectPropertyChain") (iri_text link.0 ∷ iri_text link.1 ∷ [])

abbrev pub is_clean_link : Link → Bool
is_clean_link link = is_clean_iri link.0 && is_clean_iri link.1

pub links : IsFront link_text is_clean_link
links a b x y one other same =
    let word = codes "ObjectPropertyChain" in
    let mine = and_parts (is_clean_iri a.0) (is_clean_iri a.1) one in
    let yours = and_parts (is_clean_iri b.0) (is_clean_iri b.1) other in
    let behind = λ (p : List ℕ) (z : List ℕ). (iri_text p ++ codes ")") ++ z in
    let texts : word ++ 40 ∷ (iri_text a.0 ++ 32 ∷ behind a.1 x) ≡ word ++ 40 ∷ (iri_text b.0 ++ 32 ∷ behind b.1 y) =
    sym (phrase_front word (iri_text a.0) (iri_text a.1 ∷ []) x) ∙ same ∙ phrase_front word (iri_text b.0) (iri_text b.1 ∷ []) y in
    let inner = append_parts (word ++ codes "(") (iri_text a.0 ++ 32 ∷ behind a.1 x) (iri_text b.0 ++ 32 ∷ behind b.1 y) texts in
    let first = spaced_front iri_text is_clean_iri iris a.0 b.0 (behind a.1 x) (behind b.1 y) mine.0 yours.0 inner in
    let second = iri_front a.1 b.1 (41 ∷ x) (41 ∷ y) mine.1 yours.1 (sym (append_assoc (iri_text a.1) (codes ")") x) ∙ first.rest_same ∙ append_assoc (iri_text b.1) (codes ")") y) in
    record { same = λ i. (first.same i, second.same i); rest_same = (cons_parts 41 41 x y second.rest_same).1 }
