-- The text of a proper expression, and that of a proper annotation, tells it.
use Rattle.std.proofs.Common.{◌≡◌, ℕ, true, false, ◌&&◌, ◌==◌, List, [], ◌∷◌, ◌++◌, codes, map, if◌then◌else◌, refl, sym, ap, subst, ◌∙◌, arith, append_assoc, nat_eq}
use Rattle.std.specs.Cmp.Lexicographic.{pointwise}
use Rattle.std.specs.Fmt.{decimal}
use Rattle.std.specs.List.{list_all}
use Rattle.std.specs.Prelude.{length, nat_le, not, ◌||◌}
use Rattle.std.proofs.lemmas.Bool.{and_from, and_parts, not-true, or_parts}
use Rattle.std.proofs.lemmas.Cmp.{nat_list_eq_equiv}
use Rattle.rel_io.specs.Texts.{is_clean_iri}
use Rattle.owl_axioms.specs.Proper.{is_class_iri, is_count, is_proper_expr, rises}
use Rattle.owl_axioms.specs.Text.{expr_text, iri_text, phrase}
use Rattle.owl_axioms.specs.Vocabulary.{owl_nothing, owl_thing}
use Rattle.owl_axioms.specs.declared.expr.ClassExpr.{ClassExpr}
use Rattle.owl_axioms.specs.declared.expr.ClassExpr.TheFolds.{ind-ClassExpr, map-ClassExpr}
use Rattle.owl_axioms.specs.declared.expr.ClassExpr.TheOpen.{ClassExpr-F}
use Rattle.owl_axioms.specs.declared.expr.ClassExpr.TheVariants as expr
use Rattle.owl_axioms.specs.declared.expr.ClassExpr.TheViews.{out-ClassExpr, roll-ClassExpr, roll-out-ClassExpr}
use Rattle.owl_axioms.proofs.Layers.{proper_of_all, proper_of_and, proper_of_class, proper_of_exact, proper_of_max, proper_of_min, proper_of_not, proper_of_or, proper_of_some, text_of_all, text_of_and, text_of_class, text_of_exact, text_of_max, text_of_min, text_of_not, text_of_nothing, text_of_or, text_of_some, text_of_thing}
use Rattle.owl_axioms.proofs.Making.{are_proper_operands-is}
use Rattle.owl_axioms.proofs.TextFronts.{Ends, append_parts, cons_parts, iri_front, number_front, phrase_front, tails}

-- ---- the word that a text begins with

-- the bytes before the first bracket; none where the text begins with an IRI
abbrev before_bracket : List ℕ → List ℕ
before_bracket [] = []
before_bracket (b ∷ bs) = if b == 40 then [] else b ∷ before_bracket bs

abbrev word_of : List ℕ → List ℕ
word_of [] = []
word_of (b ∷ bs) = if b == 60 then [] else b ∷ before_bracket bs

-- the word of a layer
abbrev layer_word : {A : Type 0} → ClassExpr-F A → List ℕ
layer_word ClassExpr-F.Thing = []
layer_word ClassExpr-F.Nothing = []
layer_word (ClassExpr-F.Class iri) = []
layer_word (ClassExpr-F.And parts) = codes "ObjectIntersectionOf"
layer_word (ClassExpr-F.Or parts) = codes "ObjectUnionOf"
layer_word (ClassExpr-F.Not part) = codes "ObjectComplementOf"
layer_word (ClassExpr-F.Some role part) = codes "ObjectSomeValuesFrom"
layer_word (ClassExpr-F.All role part) = codes "ObjectAllValuesFrom"
layer_word (ClassExpr-F.Min n role part) = codes "ObjectMinCardinality"
layer_word (ClassExpr-F.Max n role part) = codes "ObjectMaxCardinality"
layer_word (ClassExpr-F.Exact n role part) = codes "ObjectExactCardinality"

-- what stands behind the word and its bracket, of a layer that has a word
abbrev inside : List (List ℕ) → List ℕ → List ℕ
inside [] x = 41 ∷ x
inside (part ∷ parts) x = part ++ (tails parts ++ x)

abbrev layer_parts : ClassExpr-F ClassExpr → List (List ℕ)
layer_parts ClassExpr-F.Thing = []
layer_parts ClassExpr-F.Nothing = []
layer_parts (ClassExpr-F.Class iri) = []
layer_parts (ClassExpr-F.And parts) = map expr_text parts
layer_parts (ClassExpr-F.Or parts) = map expr_text parts
layer_parts (ClassExpr-F.Not part) = expr_text part ∷ []
layer_parts (ClassExpr-F.Some role part) = iri_text role ∷ expr_text part ∷ []
layer_parts (ClassExpr-F.All role part) = iri_text role ∷ expr_text part ∷ []
layer_parts (ClassExpr-F.Min n role part) = decimal n ∷ iri_text role ∷ expr_text part ∷ []
layer_parts (ClassExpr-F.Max n role part) = decimal n ∷ iri_text role ∷ expr_text part ∷ []
layer_parts (ClassExpr-F.Exact n role part) = decimal n ∷ iri_text role ∷ expr_text part ∷ []

-- the text of a layer and what stands behind it
phrase_inside : (word : List ℕ) (parts : List (List ℕ)) (x : List ℕ) → phrase word parts ++ x ≡ word ++ 40 ∷ inside parts x
unfolding phrase
phrase_inside word [] x = append_assoc ((word ++ codes "(") ++ []) (codes ")") x ∙ append_assoc (word ++ codes "(") [] (41 ∷ x) ∙ append_assoc word (codes "(") (41 ∷ x)
phrase_inside word (part ∷ parts) x = phrase_front word part parts x

abbrev layer_text : ClassExpr-F ClassExpr → List ℕ → List ℕ
layer_text ClassExpr-F.Thing x = iri_text owl_thing ++ x
layer_text ClassExpr-F.Nothing x = iri_text owl_nothing ++ x
layer_text (ClassExpr-F.Class iri) x = iri_text iri ++ x
layer_text layer x = layer_word layer ++ 40 ∷ inside (layer_parts layer) x

text_behind : (layer : ClassExpr-F ClassExpr) (x : List ℕ) → expr_text (roll-ClassExpr layer) ++ x ≡ layer_text layer x
unfolding roll-ClassExpr denote.Hole.Carrier.roll
text_behind ClassExpr-F.Thing x = ap (λ t. t ++ x) text_of_thing
text_behind ClassExpr-F.Nothing x = ap (λ t. t ++ x) text_of_nothing
text_behind (ClassExpr-F.Class iri) x = ap (λ t. t ++ x) (text_of_class iri)
text_behind (ClassExpr-F.And parts) x = ap (λ t. t ++ x) (text_of_and parts) ∙ phrase_inside (codes "ObjectIntersectionOf") (map expr_text parts) x
text_behind (ClassExpr-F.Or parts) x = ap (λ t. t ++ x) (text_of_or parts) ∙ phrase_inside (codes "ObjectUnionOf") (map expr_text parts) x
text_behind (ClassExpr-F.Not part) x = ap (λ t. t ++ x) (text_of_not part) ∙ phrase_inside (codes "ObjectComplementOf") (expr_text part ∷ []) x
text_behind (ClassExpr-F.Some role part) x = ap (λ t. t ++ x) (text_of_some role part) ∙ phrase_inside (codes "ObjectSomeValuesFrom") (iri_text role ∷ expr_text part ∷ []) x
text_behind (ClassExpr-F.All role part) x = ap (λ t. t ++ x) (text_of_all role part) ∙ phrase_inside (codes "ObjectAllValuesFrom") (iri_text role ∷ expr_text part ∷ []) x
text_behind (ClassExpr-F.Min n role part) x = ap (λ t. t ++ x) (text_of_min n role part) ∙ phrase_inside (codes "ObjectMinCardinality") (decimal n ∷ iri_text role ∷ expr_text part ∷ []) x
text_behind (ClassExpr-F.Max n role part) x = ap (λ t. t ++ x) (text_of_max n role part) ∙ phrase_inside (codes "ObjectMaxCardinality") (decimal n ∷ iri_text role ∷ expr_text part ∷ []) x
text_behind (ClassExpr-F.Exact n role part) x = ap (λ t. t ++ x) (text_of_exact n role part) ∙ phrase_inside (codes "ObjectExactCardinality") (decimal n ∷ iri_text role ∷ expr_text part ∷ []) x

text_word : (layer : ClassExpr-F ClassExpr) (x : List ℕ) → word_of (layer_text layer x) ≡ layer_word layer
unfolding iri_text
text_word ClassExpr-F.Thing x = refl
text_word ClassExpr-F.Nothing x = refl
text_word (ClassExpr-F.Class iri) x = refl
text_word (ClassExpr-F.And parts) x = refl
text_word (ClassExpr-F.Or parts) x = refl
text_word (ClassExpr-F.Not part) x = refl
text_word (ClassExpr-F.Some role part) x = refl
text_word (ClassExpr-F.All role part) x = refl
text_word (ClassExpr-F.Min n role part) x = refl
text_word (ClassExpr-F.Max n role part) x = refl
text_word (ClassExpr-F.Exact n role part) x = refl

-- texts that a test tells apart are not the same
apart : (one other : List ℕ) → one ≡ other → pointwise nat_eq one other ≡ false → ⊥
apart one other same differ = let h : pointwise nat_eq other other ≡ false = subst (λ t. pointwise nat_eq t other ≡ false) same differ in let k : true ≡ false = sym (itself other) ∙ h in absurd (cc)
  where
    itself : (t : List ℕ) → pointwise nat_eq t t ≡ true
    itself t = nat_list_eq_equiv.refl t

-- ---- the induction

abbrev IsTold : ClassExpr → Type 0
IsTold d = (e : ClassExpr) (x y : List ℕ) → is_proper_expr d ≡ true → is_proper_expr e ≡ true → expr_text d ++ x ≡ expr_text e ++ y → Ends d e x y

-- an expression with what the induction says of it
abbrev Part : Type 0
Part = (d : ClassExpr) × IsTold d

abbrev trees : List Part → List ClassExpr
trees parts = map (λ p. p.0) parts

tails_told : (parts : List Part) (es : List ClassExpr) (x y : List ℕ) → list_all is_proper_expr (trees parts) ≡ true → list_all is_proper_expr es ≡ true
    → tails (map expr_text (trees parts)) ++ x ≡ tails (map expr_text es) ++ y → Ends (trees parts) es x y
tails_told [] [] x y one other same = record { same = refl; rest_same = (cons_parts 41 41 x y same).1 }
tails_told [] (e ∷ es) x y one other same =
    let h : 41 ≡ 32 = (cons_parts 41 32 x ((expr_text e ++ tails (map expr_text es)) ++ y) same).0 in absurd (omega (arith, h))
tails_told (p ∷ parts) [] x y one other same =
    let h : 32 ≡ 41 = (cons_parts 32 41 ((expr_text p.0 ++ tails (map expr_text (trees parts))) ++ x) y same).0 in absurd (omega (arith, h))
tails_told (p ∷ parts) (e ∷ es) x y one other same =
    let mine = and_parts (is_proper_expr p.0) (list_all is_proper_expr (trees parts)) one in
    let yours = and_parts (is_proper_expr e) (list_all is_proper_expr es) other in
    let inner = (cons_parts 32 32 ((expr_text p.0 ++ tails (map expr_text (trees parts))) ++ x) ((expr_text e ++ tails (map expr_text es)) ++ y) same).1 in
    let first = p.1 e (tails (map expr_text (trees parts)) ++ x) (tails (map expr_text es) ++ y) mine.0 yours.0 (sym (append_assoc (expr_text p.0) (tails (map expr_text (trees parts))) x) ∙ inner ∙ append_assoc (expr_text e) (tails (map expr_text es)) y) in
    let rest = tails_told parts es x y mine.1 yours.1 first.rest_same in
    record { same = λ i. first.same i ∷ rest.same i; rest_same = rest.rest_same }

none_proper : (X : Type 0) → (nat_le 2 (length {A = ClassExpr} []) && rises [] && true) ≡ true → X
unfolding rises
none_proper X is = let h : false ≡ true = is in absurd (cc)

operands_told : (parts : List Part) (es : List ClassExpr) (x y : List ℕ)
    → (nat_le 2 (length (trees parts)) && rises (map expr_text (trees parts)) && list_all is_proper_expr (trees parts)) ≡ true
    → (nat_le 2 (length es) && rises (map expr_text es) && list_all is_proper_expr es) ≡ true
    → inside (map expr_text (trees parts)) x ≡ inside (map expr_text es) y → Ends (trees parts) es x y
operands_told [] es x y one other same = none_proper (Ends [] es x y) one
operands_told (p ∷ parts) [] x y one other same = none_proper (Ends (trees (p ∷ parts)) [] x y) other
operands_told (p ∷ parts) (e ∷ es) x y one other same =
    let mine = and_parts (is_proper_expr p.0) (list_all is_proper_expr (trees parts)) (and_parts _ (list_all is_proper_expr (trees (p ∷ parts))) one).1 in
    let yours = and_parts (is_proper_expr e) (list_all is_proper_expr es) (and_parts _ (list_all is_proper_expr (e ∷ es)) other).1 in
    let first = p.1 e (tails (map expr_text (trees parts)) ++ x) (tails (map expr_text es) ++ y) mine.0 yours.0 same in
    let rest = tails_told parts es x y mine.1 yours.1 first.rest_same in
    record { same = λ i. first.same i ∷ rest.same i; rest_same = rest.rest_same }

-- the last part, and the bracket behind it
last_told : (p : Part) (e : ClassExpr) (x y : List ℕ) → is_proper_expr p.0 ≡ true → is_proper_expr e ≡ true → expr_text p.0 ++ 41 ∷ x ≡ expr_text e ++ 41 ∷ y → Ends p.0 e x y
last_told p e x y one other same =
    let ends = p.1 e (41 ∷ x) (41 ∷ y) one other same in
    record { same = ends.same; rest_same = (cons_parts 41 41 x y ends.rest_same).1 }

-- a property and the last part
record Filled (role other_role : List ℕ) (d e : ClassExpr) (x y : List ℕ) : Type 0 where
  role_same : role ≡ other_role
  part_same : d ≡ e
  rest_same : x ≡ y

filler_told : (r s : List ℕ) (p : Part) (e : ClassExpr) (x y : List ℕ) → (is_clean_iri r && is_proper_expr p.0) ≡ true → (is_clean_iri s && is_proper_expr e) ≡ true
    → iri_text r ++ 32 ∷ ((expr_text p.0 ++ codes ")") ++ x) ≡ iri_text s ++ 32 ∷ ((expr_text e ++ codes ")") ++ y) → Filled r s p.0 e x y
filler_told r s p e x y one other same =
    let mine = and_parts (is_clean_iri r) (is_proper_expr p.0) one in
    let yours = and_parts (is_clean_iri s) (is_proper_expr e) other in
    let roles = iri_front r s (32 ∷ ((expr_text p.0 ++ codes ")") ++ x)) (32 ∷ ((expr_text e ++ codes ")") ++ y)) mine.0 yours.0 same in
    let inner = (cons_parts 32 32 ((expr_text p.0 ++ codes ")") ++ x) ((expr_text e ++ codes ")") ++ y) roles.rest_same).1 in
    let part = last_told p e x y mine.1 yours.1 (sym (append_assoc (expr_text p.0) (codes ")") x) ∙ inner ∙ append_assoc (expr_text e) (codes ")") y) in
    record { role_same = roles.same; part_same = part.same; rest_same = part.rest_same }

-- ---- layers

class_parts : (iri : List ℕ) → is_proper_expr (expr.Class iri) ≡ true → (is_clean_iri iri ≡ true) × (owl_thing ≡ iri → ⊥) × (owl_nothing ≡ iri → ⊥)
unfolding is_class_iri
class_parts iri proper =
    let parts = and_parts (is_clean_iri iri) (not (pointwise nat_eq iri owl_thing || pointwise nat_eq iri owl_nothing)) (sym (proper_of_class iri) ∙ proper) in
    let tests = or_parts (pointwise nat_eq iri owl_thing) (pointwise nat_eq iri owl_nothing) (not-true _ parts.1) in
    (parts.0, (λ is. apart iri owl_thing (sym is) tests.0), (λ is. apart iri owl_nothing (sym is) tests.1))

thing_clean : is_clean_iri owl_thing ≡ true
unfolding is_clean_iri owl_thing
thing_clean = refl

nothing_clean : is_clean_iri owl_nothing ≡ true
unfolding is_clean_iri owl_nothing
nothing_clean = refl

thing_is_something : owl_thing ≡ owl_nothing → ⊥
unfolding owl_thing owl_nothing
thing_is_something same = apart (codes "http://www.w3.org/2002/07/owl#Thing") (codes "http://www.w3.org/2002/07/owl#Nothing") same refl

abbrev of_parts : ClassExpr-F Part → ClassExpr-F ClassExpr
of_parts = map-ClassExpr Part ClassExpr (λ p. p.0)

counted_told : (m n : ℕ) (r s : List ℕ) (p : Part) (e : ClassExpr) (x y : List ℕ) → (is_count m && is_clean_iri r && is_proper_expr p.0) ≡ true → (is_count n && is_clean_iri s && is_proper_expr e) ≡ true
    → inside (decimal m ∷ iri_text r ∷ expr_text p.0 ∷ []) x ≡ inside (decimal n ∷ iri_text s ∷ expr_text e ∷ []) y → (m ≡ n) × Filled r s p.0 e x y
counted_told m n r s p e x y one other same =
    let mine = and_parts (is_count m && is_clean_iri r) (is_proper_expr p.0) one in
    let yours = and_parts (is_count n && is_clean_iri s) (is_proper_expr e) other in
    let my = and_parts (is_count m) (is_clean_iri r) mine.0 in
    let your = and_parts (is_count n) (is_clean_iri s) yours.0 in
    let counts = number_front m n ((iri_text r ++ 32 ∷ (expr_text p.0 ++ codes ")")) ++ x) ((iri_text s ++ 32 ∷ (expr_text e ++ codes ")")) ++ y) my.0 your.0 same in
    let inner = sym (append_assoc (iri_text r) (32 ∷ (expr_text p.0 ++ codes ")")) x) ∙ counts.rest_same ∙ append_assoc (iri_text s) (32 ∷ (expr_text e ++ codes ")")) y in
    (counts.same, filler_told r s p e x y (and_from (is_clean_iri r) (is_proper_expr p.0) my.1 mine.1) (and_from (is_clean_iri s) (is_proper_expr e) your.1 yours.1) inner)

told_layer : (layer : ClassExpr-F Part) (other : ClassExpr-F ClassExpr) (x y : List ℕ) → is_proper_expr (roll-ClassExpr (of_parts layer)) ≡ true → is_proper_expr (roll-ClassExpr other) ≡ true
    → layer_text (of_parts layer) x ≡ layer_text other y → layer_word (of_parts layer) ≡ layer_word other → Ends (roll-ClassExpr (of_parts layer)) (roll-ClassExpr other) x y
unfolding roll-ClassExpr denote.Hole.Carrier.roll
told_layer ClassExpr-F.Thing ClassExpr-F.Thing x y one also same words = record { same = refl; rest_same = append_parts (iri_text owl_thing) x y same }
told_layer ClassExpr-F.Thing ClassExpr-F.Nothing x y one also same words = absurd (thing_is_something (iri_front owl_thing owl_nothing x y thing_clean nothing_clean same).same)
told_layer ClassExpr-F.Thing (ClassExpr-F.Class i) x y one also same words = let class = class_parts i also in absurd (class.1 (iri_front owl_thing i x y thing_clean class.0 same).same)
told_layer ClassExpr-F.Nothing ClassExpr-F.Thing x y one also same words = absurd (thing_is_something (sym (iri_front owl_nothing owl_thing x y nothing_clean thing_clean same).same))
told_layer ClassExpr-F.Nothing ClassExpr-F.Nothing x y one also same words = record { same = refl; rest_same = append_parts (iri_text owl_nothing) x y same }
told_layer ClassExpr-F.Nothing (ClassExpr-F.Class i) x y one also same words = let class = class_parts i also in absurd (class.2 (iri_front owl_nothing i x y nothing_clean class.0 same).same)
told_layer (ClassExpr-F.Class i) ClassExpr-F.Thing x y one also same words = let class = class_parts i one in absurd (class.1 (sym (iri_front i owl_thing x y class.0 thing_clean same).same))
told_layer (ClassExpr-F.Class i) ClassExpr-F.Nothing x y one also same words = let class = class_parts i one in absurd (class.2 (sym (iri_front i owl_nothing x y class.0 nothing_clean same).same))
told_layer (ClassExpr-F.Class i) (ClassExpr-F.Class j) x y one also same words =
    let ends = iri_front i j x y (class_parts i one).0 (class_parts j also).0 same in record { same = ap expr.Class ends.same; rest_same = ends.rest_same }
told_layer (ClassExpr-F.And parts) (ClassExpr-F.And es) x y one also same words =
    let proper = λ (ds : List ClassExpr) (is : is_proper_expr (expr.And ds) ≡ true). sym (are_proper_operands-is ds) ∙ sym (proper_of_and ds) ∙ is in
    let ends = operands_told parts es x y (proper (trees parts) one) (proper es also) (append_parts (codes "ObjectIntersectionOf(") (inside (map expr_text (trees parts)) x) (inside (map expr_text es) y) same) in
    record { same = ap expr.And ends.same; rest_same = ends.rest_same }
told_layer (ClassExpr-F.Or parts) (ClassExpr-F.Or es) x y one also same words =
    let proper = λ (ds : List ClassExpr) (is : is_proper_expr (expr.Or ds) ≡ true). sym (are_proper_operands-is ds) ∙ sym (proper_of_or ds) ∙ is in
    let ends = operands_told parts es x y (proper (trees parts) one) (proper es also) (append_parts (codes "ObjectUnionOf(") (inside (map expr_text (trees parts)) x) (inside (map expr_text es) y) same) in
    record { same = ap expr.Or ends.same; rest_same = ends.rest_same }
told_layer (ClassExpr-F.Not p) (ClassExpr-F.Not e) x y one also same words =
    let ends = last_told p e x y (sym (proper_of_not p.0) ∙ one) (sym (proper_of_not e) ∙ also) (append_parts (codes "ObjectComplementOf(") (expr_text p.0 ++ 41 ∷ x) (expr_text e ++ 41 ∷ y) same) in
    record { same = ap expr.Not ends.same; rest_same = ends.rest_same }
told_layer (ClassExpr-F.Some r p) (ClassExpr-F.Some s e) x y one also same words =
    let ends = filler_told r s p e x y (sym (proper_of_some r p.0) ∙ one) (sym (proper_of_some s e) ∙ also) (append_parts (codes "ObjectSomeValuesFrom(") (iri_text r ++ 32 ∷ ((expr_text p.0 ++ codes ")") ++ x)) (iri_text s ++ 32 ∷ ((expr_text e ++ codes ")") ++ y)) same) in
    record { same = λ i. expr.Some (ends.role_same i) (ends.part_same i); rest_same = ends.rest_same }
told_layer (ClassExpr-F.All r p) (ClassExpr-F.All s e) x y one also same words =
    let ends = filler_told r s p e x y (sym (proper_of_all r p.0) ∙ one) (sym (proper_of_all s e) ∙ also) (append_parts (codes "ObjectAllValuesFrom(") (iri_text r ++ 32 ∷ ((expr_text p.0 ++ codes ")") ++ x)) (iri_text s ++ 32 ∷ ((expr_text e ++ codes ")") ++ y)) same) in
    record { same = λ i. expr.All (ends.role_same i) (ends.part_same i); rest_same = ends.rest_same }
told_layer (ClassExpr-F.Min m r p) (ClassExpr-F.Min n s e) x y one also same words =
    let ends = counted_told m n r s p e x y (sym (proper_of_min m r p.0) ∙ one) (sym (proper_of_min n s e) ∙ also) (append_parts (codes "ObjectMinCardinality(") (inside (decimal m ∷ iri_text r ∷ expr_text p.0 ∷ []) x) (inside (decimal n ∷ iri_text s ∷ expr_text e ∷ []) y) same) in
    record { same = λ i. expr.Min (ends.0 i) (ends.1.role_same i) (ends.1.part_same i); rest_same = ends.1.rest_same }
told_layer (ClassExpr-F.Max m r p) (ClassExpr-F.Max n s e) x y one also same words =
    let ends = counted_told m n r s p e x y (sym (proper_of_max m r p.0) ∙ one) (sym (proper_of_max n s e) ∙ also) (append_parts (codes "ObjectMaxCardinality(") (inside (decimal m ∷ iri_text r ∷ expr_text p.0 ∷ []) x) (inside (decimal n ∷ iri_text s ∷ expr_text e ∷ []) y) same) in
    record { same = λ i. expr.Max (ends.0 i) (ends.1.role_same i) (ends.1.part_same i); rest_same = ends.1.rest_same }
told_layer (ClassExpr-F.Exact m r p) (ClassExpr-F.Exact n s e) x y one also same words =
    let ends = counted_told m n r s p e x y (sym (proper_of_exact m r p.0) ∙ one) (sym (proper_of_exact n s e) ∙ also) (append_parts (codes "ObjectExactCardinality(") (inside (decimal m ∷ iri_text r ∷ expr_text p.0 ∷ []) x) (inside (decimal n ∷ iri_text s ∷ expr_text e ∷ []) y) same) in
    record { same = λ i. expr.Exact (ends.0 i) (ends.1.role_same i) (ends.1.part_same i); rest_same = ends.1.rest_same }
told_layer layer other x y one also same words = absurd (apart (layer_word (of_parts layer)) (layer_word other) words refl)

told_by_layer : (layer : ClassExpr-F Part) → IsTold (roll-ClassExpr (of_parts layer))
told_by_layer layer e x y one also same =
    let mine = of_parts layer in
    let yours = out-ClassExpr e in
    let back = roll-out-ClassExpr e in
    let texts : layer_text mine x ≡ layer_text yours y = sym (text_behind mine x) ∙ same ∙ ap (λ d. expr_text d ++ y) (sym back) ∙ text_behind yours y in
    let words = sym (text_word mine x) ∙ ap word_of texts ∙ text_word yours y in
    let ends = told_layer layer yours x y one (subst (λ d. is_proper_expr d ≡ true) (sym back) also) texts words in
    record { same = ends.same ∙ back; rest_same = ends.rest_same }

-- a longer text begins with the text of one proper expression only
pub expr_front : (d : ClassExpr) → IsTold d
expr_front = ind-ClassExpr IsTold (λ x layer is. subst (λ l. IsTold (roll-ClassExpr l)) is (told_by_layer layer))

pub expr_told : (d e : ClassExpr) → is_proper_expr d ≡ true → is_proper_expr e ≡ true → expr_text d ≡ expr_text e → d ≡ e
expr_told d e one also same = (expr_front d e [] [] one also (ap (λ t. t ++ []) same)).same
