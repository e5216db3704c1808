-- The text of a proper annotation tells it.
use Rattle.std.proofs.Common.{◌≡◌, ℕ, true, ◌&&◌, List, [], ◌∷◌, ◌++◌, codes, Option, None, Some, refl, sym, ap, ◌∙◌, arith, append_assoc}
use Rattle.std.proofs.lemmas.Bool.{and_parts}
use Rattle.rel_io.specs.Texts.{is_clean_iri}
use Rattle.owl_axioms.specs.Proper.{is_proper_side, is_proper_value}
use Rattle.owl_axioms.specs.Text.{iri_text, label_texts, phrase, quoted, side_text, value_text}
use Rattle.owl_axioms.specs.Vocabulary.{rdfs_label}
use Rattle.owl_axioms.specs.declared.annotation.NoteValue.{NoteValue}
use Rattle.owl_axioms.specs.declared.annotation.NoteValue.TheVariants as note
use Rattle.owl_axioms.specs.declared.annotation.Side.{Side}
use Rattle.owl_axioms.proofs.TextFronts.{Ends, append_parts, cons_parts, head_of, iri_front, iri_head, phrase_front, quoted_front, quoted_head}

-- ---- values

link_or_text : (iri t x y : List ℕ) → iri_text iri ++ x ≡ quoted t ++ y → ⊥
link_or_text iri t x y same =
    let h = iri_head iri x in
    let k : head_of (iri_text iri ++ x) ≡ 34 = ap head_of same ∙ quoted_head t y in
    absurd (omega (arith, h, k))

typed_text : (t d x : List ℕ) → (quoted t ++ codes "^^" ++ iri_text d) ++ x ≡ quoted t ++ 94 ∷ 94 ∷ (iri_text d ++ x)
typed_text t d x = append_assoc (quoted t ++ codes "^^") (iri_text d) x ∙ append_assoc (quoted t) (codes "^^") (iri_text d ++ x)

pub value_front : (a b : NoteValue) (x y : List ℕ) → is_proper_value a ≡ true → is_proper_value b ≡ true → value_text a ++ 41 ∷ x ≡ value_text b ++ 41 ∷ y → Ends a b x y
unfolding value_text is_proper_value
value_front (note.Text t) (note.Text u) x y one other same =
    let ends = quoted_front t u (41 ∷ x) (41 ∷ y) same in
    record { same = ap note.Text ends.same; rest_same = (cons_parts 41 41 x y ends.rest_same).1 }
value_front (note.Text t) (note.Typed u d) x y one other same =
    let ends = quoted_front t u (41 ∷ x) (94 ∷ 94 ∷ (iri_text d ++ 41 ∷ y)) (same ∙ typed_text u d (41 ∷ y)) in
    let h : 41 ≡ 94 = (cons_parts 41 94 x (94 ∷ (iri_text d ++ 41 ∷ y)) ends.rest_same).0 in absurd (omega (arith, h))
value_front (note.Text t) (note.Link iri) x y one other same = absurd (link_or_text iri t (41 ∷ y) (41 ∷ x) (sym same))
value_front (note.Typed t d) (note.Text u) x y one other same =
    let ends = quoted_front t u (94 ∷ 94 ∷ (iri_text d ++ 41 ∷ x)) (41 ∷ y) (sym (typed_text t d (41 ∷ x)) ∙ same) in
    let h : 94 ≡ 41 = (cons_parts 94 41 (94 ∷ (iri_text d ++ 41 ∷ x)) y ends.rest_same).0 in absurd (omega (arith, h))
value_front (note.Typed t d) (note.Typed u e) x y one other same =
    let ends = quoted_front t u (94 ∷ 94 ∷ (iri_text d ++ 41 ∷ x)) (94 ∷ 94 ∷ (iri_text e ++ 41 ∷ y)) (sym (typed_text t d (41 ∷ x)) ∙ same ∙ typed_text u e (41 ∷ y)) in
    let iris = iri_front d e (41 ∷ x) (41 ∷ y) one other (append_parts (codes "^^") (iri_text d ++ 41 ∷ x) (iri_text e ++ 41 ∷ y) ends.rest_same) in
    record { same = λ i. note.Typed (ends.same i) (iris.same i); rest_same = (cons_parts 41 41 x y iris.rest_same).1 }
value_front (note.Typed t d) (note.Link iri) x y one other same = absurd (link_or_text iri t (41 ∷ y) (94 ∷ 94 ∷ (iri_text d ++ 41 ∷ x)) (sym same ∙ typed_text t d (41 ∷ x)))
value_front (note.Link iri) (note.Text u) x y one other same = absurd (link_or_text iri u (41 ∷ x) (41 ∷ y) same)
value_front (note.Link iri) (note.Typed u d) x y one other same = absurd (link_or_text iri u (41 ∷ x) (94 ∷ 94 ∷ (iri_text d ++ 41 ∷ y)) (same ∙ typed_text u d (41 ∷ y)))
value_front (note.Link i) (note.Link j) x y one other same =
    let ends = iri_front i j (41 ∷ x) (41 ∷ y) one other same in
    record { same = ap note.Link ends.same; rest_same = (cons_parts 41 41 x y ends.rest_same).1 }

-- ---- the property and the value

pub record Valued (p q : List ℕ) (a b : NoteValue) (x y : List ℕ) : Type 0 where
  pub property_same : p ≡ q
  pub value_same : a ≡ b
  pub rest_same : x ≡ y

pub valued_front : (p q : List ℕ) (a b : NoteValue) (x y : List ℕ) → (is_clean_iri p && is_proper_value a) ≡ true → (is_clean_iri q && is_proper_value b) ≡ true
    → iri_text p ++ 32 ∷ ((value_text a ++ codes ")") ++ x) ≡ iri_text q ++ 32 ∷ ((value_text b ++ codes ")") ++ y) → Valued p q a b x y
valued_front p q a b x y one other same =
    let mine = and_parts (is_clean_iri p) (is_proper_value a) one in
    let yours = and_parts (is_clean_iri q) (is_proper_value b) other in
    let iris = iri_front p q (32 ∷ ((value_text a ++ codes ")") ++ x)) (32 ∷ ((value_text b ++ codes ")") ++ y)) mine.0 yours.0 same in
    let inner = (cons_parts 32 32 ((value_text a ++ codes ")") ++ x) ((value_text b ++ codes ")") ++ y) iris.rest_same).1 in
    let value = value_front a b x y mine.1 yours.1 (sym (append_assoc (value_text a) (codes ")") x) ∙ inner ∙ append_assoc (value_text b) (codes ")") y) in
    record { property_same = iris.same; value_same = value.same; rest_same = value.rest_same }

-- ---- annotations

-- what stands behind the word and the bracket of an annotation: its property, a space and its value
abbrev plain : List ℕ → NoteValue → List ℕ → List ℕ
plain p a x = iri_text p ++ 32 ∷ ((value_text a ++ codes ")") ++ x)

-- the same with a label in front
abbrev labelled : List ℕ → List ℕ → NoteValue → List ℕ → List ℕ
labelled label p a x = codes "Annotation(" ++ (iri_text rdfs_label ++ 32 ∷ (quoted label ++ 41 ∷ 32 ∷ plain p a x))

parts_text : (p : List ℕ) (a : NoteValue) (x : List ℕ) → phrase (codes "Annotation") (iri_text p ∷ value_text a ∷ []) ++ x ≡ codes "Annotation(" ++ plain p a x
parts_text p a x = phrase_front (codes "Annotation") (iri_text p) (value_text a ∷ []) x

label_text : (label z : List ℕ) → phrase (codes "Annotation") (iri_text rdfs_label ∷ quoted label ∷ []) ++ z ≡ codes "Annotation(" ++ (iri_text rdfs_label ++ 32 ∷ (quoted label ++ 41 ∷ z))
label_text label z =
    phrase_front (codes "Annotation") (iri_text rdfs_label) (quoted label ∷ []) z
    ∙ ap (λ t. codes "Annotation(" ++ (iri_text rdfs_label ++ 32 ∷ t)) (append_assoc (quoted label) (codes ")") z)

labelled_text : (label p : List ℕ) (a : NoteValue) (x : List ℕ)
    → phrase (codes "Annotation") (phrase (codes "Annotation") (iri_text rdfs_label ∷ quoted label ∷ []) ∷ iri_text p ∷ value_text a ∷ []) ++ x ≡ codes "Annotation(" ++ labelled label p a x
labelled_text label p a x =
    phrase_front (codes "Annotation") (phrase (codes "Annotation") (iri_text rdfs_label ∷ quoted label ∷ [])) (iri_text p ∷ value_text a ∷ []) x
    ∙ ap (λ t. codes "Annotation(" ++ t) (label_text label (32 ∷ ((iri_text p ++ 32 ∷ (value_text a ++ codes ")")) ++ x)))
    ∙ ap (λ t. codes "Annotation(" ++ (codes "Annotation(" ++ (iri_text rdfs_label ++ 32 ∷ (quoted label ++ 41 ∷ 32 ∷ t)))) (append_assoc (iri_text p) (32 ∷ (value_text a ++ codes ")")) x)

inside_side : Option (List ℕ) → List ℕ → NoteValue → List ℕ → List ℕ
inside_side None p a x = plain p a x
inside_side (Some label) p a x = labelled label p a x

side_inside : (o : Option (List ℕ)) (p : List ℕ) (a : NoteValue) (x : List ℕ) → phrase (codes "Annotation") (label_texts o ++ iri_text p ∷ value_text a ∷ []) ++ x ≡ codes "Annotation(" ++ inside_side o p a x
unfolding inside_side label_texts
side_inside None p a x = parts_text p a x
side_inside (Some label) p a x = labelled_text label p a x

labelled_head : (z : List ℕ) → head_of (codes "Annotation(" ++ z) ≡ 65
unfolding head_of
labelled_head z = refl

plain_or_labelled : (label p q : List ℕ) (a b : NoteValue) (x y : List ℕ) → plain p a x ≡ labelled label q b y → ⊥
plain_or_labelled label p q a b x y same =
    let h = iri_head p (32 ∷ ((value_text a ++ codes ")") ++ x)) in
    let k : head_of (plain p a x) ≡ 65 = ap head_of same ∙ labelled_head (iri_text rdfs_label ++ 32 ∷ (quoted label ++ 41 ∷ 32 ∷ plain q b y)) in
    absurd (omega (arith, h, k))

record Labelled (o p : Option (List ℕ)) (q r : List ℕ) (a b : NoteValue) (x y : List ℕ) : Type 0 where
  label_same : o ≡ p
  valued : Valued q r a b x y

labels_told : (o p : Option (List ℕ)) (q r : List ℕ) (a b : NoteValue) (x y : List ℕ) → (is_clean_iri q && is_proper_value a) ≡ true → (is_clean_iri r && is_proper_value b) ≡ true → inside_side o q a x ≡ inside_side p r b y → Labelled o p q r a b x y
unfolding inside_side
labels_told None None q r a b x y one other same = record { label_same = refl; valued = valued_front q r a b x y one other same }
labels_told None (Some label) q r a b x y one other same = absurd (plain_or_labelled label q r a b x y same)
labels_told (Some label) None q r a b x y one other same = absurd (plain_or_labelled label r q b a y x (sym same))
labels_told (Some label) (Some more) q r a b x y one other same =
    let inner = append_parts (codes "Annotation(") (iri_text rdfs_label ++ 32 ∷ (quoted label ++ 41 ∷ 32 ∷ plain q a x)) (iri_text rdfs_label ++ 32 ∷ (quoted more ++ 41 ∷ 32 ∷ plain r b y)) same in
    let behind = append_parts (iri_text rdfs_label) (32 ∷ (quoted label ++ 41 ∷ 32 ∷ plain q a x)) (32 ∷ (quoted more ++ 41 ∷ 32 ∷ plain r b y)) inner in
    let texts = (cons_parts 32 32 (quoted label ++ 41 ∷ 32 ∷ plain q a x) (quoted more ++ 41 ∷ 32 ∷ plain r b y) behind).1 in
    let labels = quoted_front label more (41 ∷ 32 ∷ plain q a x) (41 ∷ 32 ∷ plain r b y) texts in
    record { label_same = ap Some labels.same; valued = valued_front q r a b x y one other (append_parts (codes ") ") (plain q a x) (plain r b y) labels.rest_same) }

-- a longer text begins with the text of one proper annotation only
pub side_front : (s t : Side) (x y : List ℕ) → is_proper_side s ≡ true → is_proper_side t ≡ true → side_text s ++ x ≡ side_text t ++ y → Ends s t x y
unfolding side_text is_proper_side
side_front s t x y one other same =
    let inner = append_parts (codes "Annotation(") (inside_side s.label s.property s.value x) (inside_side t.label t.property t.value y) (sym (side_inside s.label s.property s.value x) ∙ same ∙ side_inside t.label t.property t.value y) in
    let told = labels_told s.label t.label s.property t.property s.value t.value x y one other inner in
    record {
      same = λ i. record { property = told.valued.property_same i; value = told.valued.value_same i; label = told.label_same i };
      rest_same = told.valued.rest_same;
    }

pub side_told : (s t : Side) → is_proper_side s ≡ true → is_proper_side t ≡ true → side_text s ≡ side_text t → s ≡ t
side_told s t one other same = (side_front s t [] [] one other (ap (λ text. text ++ []) same)).same
