-- The text of an annotation tells it, where its IRIs are clean.
use Rattle.std.proofs.Common.{◌≡◌, ◌⊎◌, ℕ, Bool, true, false, ◌||◌, ◌==◌, List, [], ◌∷◌, ◌++◌, codes, Option, None, Some, inl, inr, ⊎_elim, refl, sym, ap, subst, ◌∙◌, arith, if◌then◌else◌, append_assoc, append-nil}
use Rattle.std.specs.List.{flat_map, join_with_byte, list_all}
use Rattle.std.proofs.lemmas.Bool.{and_parts, both_ways, cases_Bool, cond-false, cond-true, or_parts}
use Rattle.std.proofs.lemmas.List.{append_cancel_left, append_cancel_right}
use Rattle.rel_io.specs.Texts.{is_clean_iri, is_iri_byte}
use Rattle.owl_axioms.specs.Proper.{is_proper_side, is_proper_value}
use Rattle.owl_axioms.specs.Vocabulary.{rdfs_label}
use Rattle.owl_axioms.specs.Text.{iri_text, label_texts, phrase, quoted, side_text, value_text}
use Rattle.owl_axioms.specs.declared.annotation.NoteValue.{NoteValue}
use Rattle.owl_axioms.specs.declared.annotation.NoteValue.TheVariants as note
use Rattle.owl_axioms.specs.declared.annotation.Side.{Side}
use Rattle.obo_notes.specs.inner.Texts as parts

head_of : List ℕ → ℕ
head_of [] = 0
head_of (b ∷ bs) = b

abbrev is_special : ℕ → Bool
is_special b = b == 34 || b == 92

abbrev spelled_byte : ℕ → List ℕ
spelled_byte b = if is_special b then 92 ∷ b ∷ [] else b ∷ []

no_quote : (b : ℕ) → is_special b ≡ false → (b ≡ 34 → ⊥) × (b ≡ 92 → ⊥)
no_quote b plain =
    let parts = or_parts (b == 34) (b == 92) plain in
    ((λ is. both_ways (b == 34) parts.0 (subst (λ c. (c == 34) ≡ true) (sym is) refl)), (λ is. both_ways (b == 92) parts.1 (subst (λ c. (c == 92) ≡ true) (sym is) refl)))

cons_parts : (a b : ℕ) (x y : List ℕ) → a ∷ x ≡ b ∷ y → (a ≡ b) × (x ≡ y)
cons_parts a b x y same = (cc, cc)

record Ends (t u x y : List ℕ) : Type 0 where
  text : t ≡ u
  rest : x ≡ y

byte_and : (b : ℕ) (more : List ℕ) → (is_special b ≡ true) ⊎ (is_special b ≡ false) → (spelled_byte b ++ more ≡ 92 ∷ b ∷ more) ⊎ ((spelled_byte b ++ more ≡ b ∷ more) × (is_special b ≡ false))
byte_and b more (inl is) = inl (ap (λ s. s ++ more) (cond-true (is_special b) (92 ∷ b ∷ []) (b ∷ []) is))
byte_and b more (inr is) = inr (ap (λ s. s ++ more) (cond-false (is_special b) (92 ∷ b ∷ []) (b ∷ []) is), is)

step : (t : List ℕ) (b : ℕ) (x : List ℕ) → flat_map spelled_byte (b ∷ t) ++ 34 ∷ x ≡ spelled_byte b ++ (flat_map spelled_byte t ++ 34 ∷ x)
step t b x = append_assoc (spelled_byte b) (flat_map spelled_byte t) (34 ∷ x)

quoted_body : (t u x y : List ℕ) → flat_map spelled_byte t ++ 34 ∷ x ≡ flat_map spelled_byte u ++ 34 ∷ y → Ends t u x y
quoted_body [] [] x y same = record { text = refl; rest = (cons_parts 34 34 x y same).1 }
quoted_body [] (b ∷ u) x y same =
    let more = flat_map spelled_byte u ++ 34 ∷ y in
    let all = same ∙ step u b y in
    ⊎_elim
    (λ special. let h : 34 ≡ 92 = (cons_parts 34 92 x (b ∷ more) (all ∙ special)).0 in absurd (omega (arith, h)))
    (λ plain. absurd ((no_quote b plain.1).0 (sym (cons_parts 34 b x more (all ∙ plain.0)).0)))
    (byte_and b more (cases_Bool (is_special b)))
quoted_body (a ∷ t) [] x y same =
    let more = flat_map spelled_byte t ++ 34 ∷ x in
    let all = sym (step t a x) ∙ same in
    ⊎_elim
    (λ special. let h : 92 ≡ 34 = (cons_parts 92 34 (a ∷ more) y (sym special ∙ all)).0 in absurd (omega (arith, h)))
    (λ plain. absurd ((no_quote a plain.1).0 (cons_parts a 34 more y (sym plain.0 ∙ all)).0))
    (byte_and a more (cases_Bool (is_special a)))
quoted_body (a ∷ t) (b ∷ u) x y same =
    let one = flat_map spelled_byte t ++ 34 ∷ x in
    let two = flat_map spelled_byte u ++ 34 ∷ y in
    let all = sym (step t a x) ∙ same ∙ step u b y in
    let both = λ (first : a ≡ b) (rest : one ≡ two). let ends = quoted_body t u x y rest in
    let made : Ends (a ∷ t) (b ∷ u) x y = record { text = λ i. first i ∷ ends.text i; rest = ends.rest } in made in
    ⊎_elim
    (λ special. ⊎_elim
    (λ also. let tails = (cons_parts 92 92 (a ∷ one) (b ∷ two) (sym special ∙ all ∙ also)).1 in let inner = cons_parts a b one two tails in both inner.0 inner.1)
    (λ plain. absurd ((no_quote b plain.1).1 (sym (cons_parts 92 b (a ∷ one) two (sym special ∙ all ∙ plain.0)).0)))
    (byte_and b two (cases_Bool (is_special b))))
    (λ plain. ⊎_elim
    (λ special. absurd ((no_quote a plain.1).1 (cons_parts a 92 one (b ∷ two) (sym plain.0 ∙ all ∙ special)).0))
    (λ also. let inner = cons_parts a b one two (sym plain.0 ∙ all ∙ also.0) in both inner.0 inner.1)
    (byte_and b two (cases_Bool (is_special b))))
    (byte_and a one (cases_Bool (is_special a)))

quoted_front : (t u x y : List ℕ) → quoted t ++ x ≡ quoted u ++ y → Ends t u x y
unfolding quoted
quoted_front t u x y same =
    let a = append_assoc (flat_map spelled_byte t) (34 ∷ []) x in
    let b = append_assoc (flat_map spelled_byte u) (34 ∷ []) y in
    quoted_body t u x y (sym a ∙ (cons_parts 34 34 ((flat_map spelled_byte t ++ 34 ∷ []) ++ x) ((flat_map spelled_byte u ++ 34 ∷ []) ++ y) same).1 ∙ b)

-- ---- IRIs

no_close : (b : ℕ) → is_iri_byte b ≡ true → b ≡ 62 → ⊥
no_close b is same = let h : is_iri_byte 62 ≡ true = subst (λ c. is_iri_byte c ≡ true) same is in let k : false ≡ true = h in absurd (cc)

iri_body : (p q x y : List ℕ) → list_all is_iri_byte p ≡ true → list_all is_iri_byte q ≡ true → p ++ 62 ∷ x ≡ q ++ 62 ∷ y → Ends p q x y
iri_body [] [] x y one other same = record { text = refl; rest = (cons_parts 62 62 x y same).1 }
iri_body [] (b ∷ q) x y one other same = absurd (no_close b (and_parts (is_iri_byte b) (list_all is_iri_byte q) other).0 (sym (cons_parts 62 b x (q ++ 62 ∷ y) same).0))
iri_body (a ∷ p) [] x y one other same = absurd (no_close a (and_parts (is_iri_byte a) (list_all is_iri_byte p) one).0 (cons_parts a 62 (p ++ 62 ∷ x) y same).0)
iri_body (a ∷ p) (b ∷ q) x y one other same =
    let parts = cons_parts a b (p ++ 62 ∷ x) (q ++ 62 ∷ y) same in
    let ends = iri_body p q x y (and_parts (is_iri_byte a) (list_all is_iri_byte p) one).1 (and_parts (is_iri_byte b) (list_all is_iri_byte q) other).1 parts.1 in
    record { text = λ i. parts.0 i ∷ ends.text i; rest = ends.rest }

iri_front : (p q x y : List ℕ) → is_clean_iri p ≡ true → is_clean_iri q ≡ true → iri_text p ++ x ≡ iri_text q ++ y → Ends p q x y
unfolding iri_text is_clean_iri
iri_front p q x y one other same =
    let a = append_assoc p (62 ∷ []) x in
    let b = append_assoc q (62 ∷ []) y in
    iri_body p q x y one other (sym a ∙ (cons_parts 60 60 ((p ++ 62 ∷ []) ++ x) ((q ++ 62 ∷ []) ++ y) same).1 ∙ b)

-- ---- values

open_quote : (t x : List ℕ) → head_of (quoted t ++ x) ≡ 34
unfolding quoted head_of
open_quote t x = refl

open_iri : (p x : List ℕ) → head_of (iri_text p ++ x) ≡ 60
unfolding iri_text head_of
open_iri p x = refl

link_or_text : (p t x y : List ℕ) → iri_text p ++ x ≡ quoted t ++ y → ⊥
link_or_text p t x y same =
    let h = open_iri p x in
    let k : head_of (iri_text p ++ x) ≡ 34 = ap head_of same ∙ open_quote t y in
    absurd (omega (arith, h, k))

same_value : (a b : NoteValue) → is_proper_value a ≡ true → is_proper_value b ≡ true → value_text a ≡ value_text b → a ≡ b
unfolding value_text is_proper_value
same_value (note.Text t) (note.Text u) one other same =
    ap note.Text (quoted_front t u [] [] (append-nil (quoted t) ∙ same ∙ sym (append-nil (quoted u)))).text
same_value (note.Text t) (note.Typed u d) one other same =
    let ends = quoted_front t u [] (codes "^^" ++ iri_text d) (append-nil (quoted t) ∙ same ∙ append_assoc (quoted u) (codes "^^") (iri_text d)) in
    let h : ◌≡◌ {A = List ℕ} [] (94 ∷ 94 ∷ iri_text d) = ends.rest in absurd (cc)
same_value (note.Text t) (note.Link iri) one other same = absurd (link_or_text iri t [] [] (append-nil (iri_text iri) ∙ sym same ∙ sym (append-nil (quoted t))))
same_value (note.Typed t d) (note.Text u) one other same =
    let ends = quoted_front t u (codes "^^" ++ iri_text d) [] (sym (append_assoc (quoted t) (codes "^^") (iri_text d)) ∙ same ∙ sym (append-nil (quoted u))) in
    let h : ◌≡◌ {A = List ℕ} (94 ∷ 94 ∷ iri_text d) [] = ends.rest in absurd (cc)
same_value (note.Typed t d) (note.Typed u e) one other same =
    let ends = quoted_front t u (codes "^^" ++ iri_text d) (codes "^^" ++ iri_text e) (sym (append_assoc (quoted t) (codes "^^") (iri_text d)) ∙ same ∙ append_assoc (quoted u) (codes "^^") (iri_text e)) in
    let iris = iri_front d e [] [] one other (append-nil (iri_text d) ∙ append_cancel_left (codes "^^") (iri_text d) (iri_text e) ends.rest ∙ sym (append-nil (iri_text e))) in
    λ i. note.Typed (ends.text i) (iris.text i)
same_value (note.Typed t d) (note.Link iri) one other same = absurd (link_or_text iri t [] (codes "^^" ++ iri_text d) (append-nil (iri_text iri) ∙ sym same ∙ append_assoc (quoted t) (codes "^^") (iri_text d)))
same_value (note.Link iri) (note.Text u) one other same = absurd (link_or_text iri u [] [] (append-nil (iri_text iri) ∙ same ∙ sym (append-nil (quoted u))))
same_value (note.Link iri) (note.Typed u d) one other same = absurd (link_or_text iri u [] (codes "^^" ++ iri_text d) (append-nil (iri_text iri) ∙ same ∙ append_assoc (quoted u) (codes "^^") (iri_text d)))
same_value (note.Link iri) (note.Link other_iri) one other same = ap note.Link (iri_front iri other_iri [] [] one other (append-nil (iri_text iri) ∙ same ∙ sym (append-nil (iri_text other_iri)))).text

-- ---- annotations

-- what stands behind the label
abbrev behind_label : Side → List ℕ
behind_label side = iri_text side.property ++ 32 ∷ value_text side.value

-- the text of an annotation by its label
plain_side : (side : Side) → side.label ≡ None → side_text side ≡ codes "Annotation(" ++ (behind_label side ++ codes ")")
unfolding side_text label_texts phrase
plain_side side none = ap (λ labels. codes "Annotation(" ++ (join_with_byte 32 (label_texts labels ++ iri_text side.property ∷ value_text side.value ∷ []) ++ codes ")")) none

abbrev label_front : List ℕ
label_front = codes "Annotation(" ++ (iri_text rdfs_label ++ codes " ")

regrouped : (a x q b : List ℕ) → (((a ++ (x ++ 32 ∷ q)) ++ 41 ∷ []) ++ 32 ∷ b) ++ 41 ∷ [] ≡ (a ++ (x ++ 32 ∷ [])) ++ (q ++ (41 ∷ 32 ∷ (b ++ 41 ∷ [])))
regrouped a x q b = simp append_assoc

labelled_side : (side : Side) (label : List ℕ) → side.label ≡ Some label
    → side_text side ≡ codes "Annotation(" ++ (label_front ++ (quoted label ++ (codes ") " ++ (behind_label side ++ codes ")"))))
unfolding side_text label_texts phrase
labelled_side side label some =
    ap (λ labels. codes "Annotation(" ++ (join_with_byte 32 (label_texts labels ++ iri_text side.property ∷ value_text side.value ∷ []) ++ codes ")")) some
    ∙ ap (λ x. codes "Annotation(" ++ x) (regrouped (codes "Annotation(") (iri_text rdfs_label) (quoted label) (behind_label side))

first_of_plain : (side : Side) → head_of (behind_label side ++ codes ")") ≡ 60
unfolding iri_text head_of
first_of_plain side = refl

first_of_labelled : (x : List ℕ) → head_of (label_front ++ x) ≡ 65
unfolding iri_text head_of
first_of_labelled x = refl

record SameBehind (one other : Side) : Type 0 where
  property : one.property ≡ other.property
  value : one.value ≡ other.value

same_behind : (one other : Side) → is_proper_side one ≡ true → is_proper_side other ≡ true → behind_label one ≡ behind_label other → SameBehind one other
unfolding is_proper_side
same_behind one other proper also same =
    let a = and_parts (is_clean_iri one.property) (is_proper_value one.value) proper in
    let b = and_parts (is_clean_iri other.property) (is_proper_value other.value) also in
    let ends = iri_front one.property other.property (32 ∷ value_text one.value) (32 ∷ value_text other.value) a.0 b.0 same in
    record { property = ends.text; value = same_value one.value other.value a.1 b.1 (cons_parts 32 32 (value_text one.value) (value_text other.value) ends.rest).1 }

made_same : (one other : Side) → SameBehind one other → one.label ≡ other.label → one ≡ other
made_same one other behind label = λ i. record { property = behind.property i; value = behind.value i; label = label i }

label_cases : (o : Option (List ℕ)) → (o ≡ None) ⊎ ((label : List ℕ) × (o ≡ Some label))
label_cases None = inl refl
label_cases (Some label) = inr (label, refl)

pub text_tells_side : (one other : Side) → is_proper_side one ≡ true → is_proper_side other ≡ true → side_text one ≡ side_text other → one ≡ other
text_tells_side one other proper also same =
    ⊎_elim
    (λ none. ⊎_elim
    (λ none_too.
    let inner = append_cancel_left (codes "Annotation(") (behind_label one ++ codes ")") (behind_label other ++ codes ")") (sym (plain_side one none) ∙ same ∙ plain_side other none_too) in
    made_same one other (same_behind one other proper also (append_cancel_right (behind_label one) (behind_label other) (codes ")") inner)) (none ∙ sym none_too))
    (λ some.
    let rest = quoted some.0 ++ (codes ") " ++ (behind_label other ++ codes ")")) in
    let inner = append_cancel_left (codes "Annotation(") (behind_label one ++ codes ")") (label_front ++ rest) (sym (plain_side one none) ∙ same ∙ labelled_side other some.0 some.1) in
    absurd (apart one rest inner))
    (label_cases other.label))
    (λ some. ⊎_elim
    (λ none_too.
    let rest = quoted some.0 ++ (codes ") " ++ (behind_label one ++ codes ")")) in
    let inner = append_cancel_left (codes "Annotation(") (label_front ++ rest) (behind_label other ++ codes ")") (sym (labelled_side one some.0 some.1) ∙ same ∙ plain_side other none_too) in
    absurd (apart other rest (sym inner)))
    (λ some_too.
    let x = codes ") " ++ (behind_label one ++ codes ")") in
    let y = codes ") " ++ (behind_label other ++ codes ")") in
    let outer = append_cancel_left (codes "Annotation(") (label_front ++ (quoted some.0 ++ x)) (label_front ++ (quoted some_too.0 ++ y)) (sym (labelled_side one some.0 some.1) ∙ same ∙ labelled_side other some_too.0 some_too.1) in
    let ends = quoted_front some.0 some_too.0 x y (append_cancel_left label_front (quoted some.0 ++ x) (quoted some_too.0 ++ y) outer) in
    let inner = append_cancel_left (codes ") ") (behind_label one ++ codes ")") (behind_label other ++ codes ")") ends.rest in
    made_same one other (same_behind one other proper also (append_cancel_right (behind_label one) (behind_label other) (codes ")") inner)) (some.1 ∙ ap Some ends.text ∙ sym some_too.1))
    (label_cases other.label))
    (label_cases one.label)
  where
    apart : (side : Side) (rest : List ℕ) → behind_label side ++ codes ")" ≡ label_front ++ rest → ⊥
    apart side rest same =
        let h = first_of_plain side in
        let k : head_of (behind_label side ++ codes ")") ≡ 65 = ap head_of same ∙ first_of_labelled rest in
        absurd (omega (arith, h, k))

-- the text of an annotation, part by part
pub side_text_parts : (side : Side) → side_text side ≡ codes "Annotation(" ++ (parts.label_front side.label ++ (behind_label side ++ codes ")"))
side_text_parts side =
    ⊎_elim
    (λ none. plain_side side none ∙ ap (λ l. codes "Annotation(" ++ (parts.label_front l ++ (behind_label side ++ codes ")"))) (sym none))
    (λ some.
    let q = quoted some.0 in
    let tail = behind_label side ++ codes ")" in
    let joined : label_front ++ (q ++ (codes ") " ++ tail)) ≡ (label_front ++ (q ++ codes ") ")) ++ tail = simp append_assoc in
    labelled_side side some.0 some.1 ∙ ap (λ x. codes "Annotation(" ++ x) joined ∙ ap (λ l. codes "Annotation(" ++ (parts.label_front l ++ tail)) (sym some.1))
    (label_cases side.label)
