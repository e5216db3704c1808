-- What an axiom says is told by its word and by what stands behind the annotations, but for the kind of the entity of a
-- note.
use Rattle.std.proofs.Common.{◌≡◌, ◌⊎◌, ℕ, Bool, true, false, ◌&&◌, List, ◌∷◌, ◌++◌, codes, inl, inr, refl, sym, ap, arith}
use Rattle.std.proofs.lemmas.Bool.{and_parts}
use Rattle.rel_io.specs.Texts.{is_clean_iri}
use Rattle.owl_axioms.specs.Names.{name_of}
use Rattle.owl_axioms.specs.Proper.{in_order, is_proper_body, is_proper_expr, is_proper_name, is_proper_pair, is_proper_role_pair, is_proper_value}
use Rattle.owl_axioms.specs.Text.{body_text, expr_text, iri_text, name_text, phrase, value_text}
use Rattle.owl_axioms.specs.declared.body.Body.{Body}
use Rattle.owl_axioms.specs.declared.body.Body.TheVariants as body
use Rattle.owl_axioms.specs.declared.expr.ClassExpr.{ClassExpr}
use Rattle.owl_axioms.specs.declared.name.Kind.{Kind}
use Rattle.owl_axioms.specs.declared.name.Kind.TheVariants as kind
use Rattle.owl_axioms.specs.declared.name.Name.{Name}
use Rattle.owl_axioms.specs.inner.Joined.{end_one, end_three, end_two, opening}
use Rattle.owl_axioms.proofs.JoinedTexts.{phrase_one, phrase_three, phrase_two}
use Rattle.owl_axioms.proofs.TextFronts.{head_of}
use Rattle.axiom_texts.specs.Alike.{AreNotesOfOneIri}
use Rattle.axiom_texts.proofs.Fronts.{exprs, iris, is_clean_link, last_expr, last_iri, last_of, last_value, link_text, links, three_told, two_told}
use Rattle.axiom_texts.proofs.Sides.{expr_is, is_annotated}
use Rattle.axiom_texts.proofs.Words.{apart, before_bracket, names}

-- the word of an axiom
pub word : Body → List ℕ
word (body.Sub c d) = codes "SubClassOf"
word (body.Equiv c d) = codes "EquivalentClasses"
word (body.Disjoint c d) = codes "DisjointClasses"
word (body.SubRole r s) = codes "SubObjectPropertyOf"
word (body.Chain r s t) = codes "SubObjectPropertyOf"
word (body.EquivRoles r s) = codes "EquivalentObjectProperties"
word (body.DisjointRoles r s) = codes "DisjointObjectProperties"
word (body.Inverse r s) = codes "InverseObjectProperties"
word (body.Transitive r) = codes "TransitiveObjectProperty"
word (body.Reflexive r) = codes "ReflexiveObjectProperty"
word (body.Symmetric r) = codes "SymmetricObjectProperty"
word (body.Asymmetric r) = codes "AsymmetricObjectProperty"
word (body.Functional r) = codes "FunctionalObjectProperty"
word (body.InverseFunctional r) = codes "InverseFunctionalObjectProperty"
word (body.Domain r c) = codes "ObjectPropertyDomain"
word (body.Range r c) = codes "ObjectPropertyRange"
word (body.ClassAssertion c i) = codes "ClassAssertion"
word (body.RoleAssertion r i j) = codes "ObjectPropertyAssertion"
word (body.Declaration name) = codes "Declaration"
word (body.Note subject property value) = codes "AnnotationAssertion"
word (body.OntologyNote property value) = codes "Annotation"

-- what stands behind the annotations
pub behind : Body → List ℕ
behind (body.Sub c d) = end_two (expr_text c) (expr_text d)
behind (body.Equiv c d) = end_two (expr_text c) (expr_text d)
behind (body.Disjoint c d) = end_two (expr_text c) (expr_text d)
behind (body.SubRole r s) = end_two (iri_text r) (iri_text s)
behind (body.Chain r s t) = end_two (link_text (r, s)) (iri_text t)
behind (body.EquivRoles r s) = end_two (iri_text r) (iri_text s)
behind (body.DisjointRoles r s) = end_two (iri_text r) (iri_text s)
behind (body.Inverse r s) = end_two (iri_text r) (iri_text s)
behind (body.Transitive r) = end_one (iri_text r)
behind (body.Reflexive r) = end_one (iri_text r)
behind (body.Symmetric r) = end_one (iri_text r)
behind (body.Asymmetric r) = end_one (iri_text r)
behind (body.Functional r) = end_one (iri_text r)
behind (body.InverseFunctional r) = end_one (iri_text r)
behind (body.Domain r c) = end_two (iri_text r) (expr_text c)
behind (body.Range r c) = end_two (iri_text r) (expr_text c)
behind (body.ClassAssertion c i) = end_two (expr_text c) (iri_text i)
behind (body.RoleAssertion r i j) = end_three (iri_text r) (iri_text i) (iri_text j)
behind (body.Declaration name) = end_one (name_text name)
behind (body.Note subject property value) = end_three (iri_text property) (iri_text subject.iri) (value_text value)
behind (body.OntologyNote property value) = end_two (iri_text property) (value_text value)

pub body_opened : (sides : List (List ℕ)) (b : Body) → body_text sides b ≡ opening (word b) sides ++ behind b
unfolding behind body_text word
body_opened sides (body.Sub c d) = phrase_two (codes "SubClassOf") sides (expr_text c) (expr_text d)
body_opened sides (body.Equiv c d) = phrase_two (codes "EquivalentClasses") sides (expr_text c) (expr_text d)
body_opened sides (body.Disjoint c d) = phrase_two (codes "DisjointClasses") sides (expr_text c) (expr_text d)
body_opened sides (body.SubRole r s) = phrase_two (codes "SubObjectPropertyOf") sides (iri_text r) (iri_text s)
body_opened sides (body.Chain r s t) = phrase_two (codes "SubObjectPropertyOf") sides (link_text (r, s)) (iri_text t)
body_opened sides (body.EquivRoles r s) = phrase_two (codes "EquivalentObjectProperties") sides (iri_text r) (iri_text s)
body_opened sides (body.DisjointRoles r s) = phrase_two (codes "DisjointObjectProperties") sides (iri_text r) (iri_text s)
body_opened sides (body.Inverse r s) = phrase_two (codes "InverseObjectProperties") sides (iri_text r) (iri_text s)
body_opened sides (body.Transitive r) = phrase_one (codes "TransitiveObjectProperty") sides (iri_text r)
body_opened sides (body.Reflexive r) = phrase_one (codes "ReflexiveObjectProperty") sides (iri_text r)
body_opened sides (body.Symmetric r) = phrase_one (codes "SymmetricObjectProperty") sides (iri_text r)
body_opened sides (body.Asymmetric r) = phrase_one (codes "AsymmetricObjectProperty") sides (iri_text r)
body_opened sides (body.Functional r) = phrase_one (codes "FunctionalObjectProperty") sides (iri_text r)
body_opened sides (body.InverseFunctional r) = phrase_one (codes "InverseFunctionalObjectProperty") sides (iri_text r)
body_opened sides (body.Domain r c) = phrase_two (codes "ObjectPropertyDomain") sides (iri_text r) (expr_text c)
body_opened sides (body.Range r c) = phrase_two (codes "ObjectPropertyRange") sides (iri_text r) (expr_text c)
body_opened sides (body.ClassAssertion c i) = phrase_two (codes "ClassAssertion") sides (expr_text c) (iri_text i)
body_opened sides (body.RoleAssertion r i j) = phrase_three (codes "ObjectPropertyAssertion") sides (iri_text r) (iri_text i) (iri_text j)
body_opened sides (body.Declaration name) = phrase_one (codes "Declaration") sides (name_text name)
body_opened sides (body.Note subject property value) = phrase_three (codes "AnnotationAssertion") sides (iri_text property) (iri_text subject.iri) (value_text value)
body_opened sides (body.OntologyNote property value) = phrase_two (codes "Annotation") sides (iri_text property) (value_text value)

pub word_front : (b : Body) (z : List ℕ) → before_bracket (word b ++ 40 ∷ z) ≡ word b
unfolding word
word_front (body.Sub c d) z = refl
word_front other z = refl

-- what stands behind the annotations begins with none
pub behind_is : (b : Body) → is_annotated (behind b) ≡ false
unfolding behind end_one end_two end_three iri_text name_text phrase
behind_is (body.Sub c d) = expr_is c (codes " " ++ end_one (expr_text d))
behind_is (body.Equiv c d) = expr_is c (codes " " ++ end_one (expr_text d))
behind_is (body.Disjoint c d) = expr_is c (codes " " ++ end_one (expr_text d))
behind_is (body.ClassAssertion c i) = expr_is c (codes " " ++ end_one (iri_text i))
behind_is (body.Declaration name) = declared name.kind
  where
    declared : (k : Kind) → is_annotated (end_one (name_text (name_of k name.iri))) ≡ false
    declared kind.Class = refl
    declared other = refl
behind_is other = refl

-- ---- the tests of the parts

no_chain : (r s t p q : List ℕ) → end_two (iri_text p) (iri_text q) ≡ end_two (link_text (r, s)) (iri_text t) → ⊥
unfolding end_two head_of iri_text phrase
no_chain r s t p q same = let h : 60 ≡ 79 = ap head_of same in absurd (omega (arith, h))

pair_parts : (c d : ClassExpr) → is_proper_pair c d ≡ true → (is_proper_expr c ≡ true) × (is_proper_expr d ≡ true)
unfolding is_proper_pair
pair_parts c d is = and_parts (is_proper_expr c) (is_proper_expr d) (and_parts (is_proper_expr c && is_proper_expr d) (in_order (expr_text c) (expr_text d)) is).0

role_parts : (r s : List ℕ) → is_proper_role_pair r s ≡ true → (is_clean_iri r ≡ true) × (is_clean_iri s ≡ true)
unfolding is_proper_role_pair
role_parts r s is = and_parts (is_clean_iri r) (is_clean_iri s) (and_parts (is_clean_iri r && is_clean_iri s) (in_order (iri_text r) (iri_text s)) is).0

three_parts : (x y z : Bool) → (x && y && z) ≡ true → (x ≡ true) × (y ≡ true) × (z ≡ true)
three_parts x y z is = let front = and_parts (x && y) z is in let both = and_parts x y front.0 in (both.0, both.1, front.1)

name_clean : (n : Name) → is_proper_name n ≡ true → is_clean_iri n.iri ≡ true
unfolding is_proper_name
name_clean n is = is

two_exprs : (c d e f : ClassExpr) → (is_proper_expr c ≡ true) × (is_proper_expr d ≡ true) → (is_proper_expr e ≡ true) × (is_proper_expr f ≡ true) → end_two (expr_text c) (expr_text d) ≡ end_two (expr_text e) (expr_text f) → (c ≡ e) × (d ≡ f)
two_exprs c d e f one other = two_told expr_text is_proper_expr expr_text is_proper_expr exprs last_expr c e d f one.0 other.0 one.1 other.1

two_iris : (p q r s : List ℕ) → (is_clean_iri p ≡ true) × (is_clean_iri q ≡ true) → (is_clean_iri r ≡ true) × (is_clean_iri s ≡ true) → end_two (iri_text p) (iri_text q) ≡ end_two (iri_text r) (iri_text s) → (p ≡ r) × (q ≡ s)
two_iris p q r s one other = two_told iri_text is_clean_iri iri_text is_clean_iri iris last_iri p r q s one.0 other.0 one.1 other.1

role_class : (p q : List ℕ) (c d : ClassExpr) → (is_clean_iri p && is_proper_expr c) ≡ true → (is_clean_iri q && is_proper_expr d) ≡ true → end_two (iri_text p) (expr_text c) ≡ end_two (iri_text q) (expr_text d) → (p ≡ q) × (c ≡ d)
role_class p q c d one other =
    let mine = and_parts (is_clean_iri p) (is_proper_expr c) one in
    let yours = and_parts (is_clean_iri q) (is_proper_expr d) other in
    two_told iri_text is_clean_iri expr_text is_proper_expr iris last_expr p q c d mine.0 yours.0 mine.1 yours.1

-- ---- bodies

abbrev pub SameBody : Body → Body → Type 0
SameBody one other = (one ≡ other) ⊎ AreNotesOfOneIri one other

pub body_told : (one other : Body) → is_proper_body one ≡ true → is_proper_body other ≡ true → word one ≡ word other → behind one ≡ behind other → SameBody one other
unfolding behind is_proper_body word
body_told (body.Sub c d) (body.Sub e f) is also words same = let t = two_exprs c d e f (and_parts (is_proper_expr c) (is_proper_expr d) is) (and_parts (is_proper_expr e) (is_proper_expr f) also) same in inl (λ i. body.Sub (t.0 i) (t.1 i))
body_told (body.Equiv c d) (body.Equiv e f) is also words same = let t = two_exprs c d e f (pair_parts c d is) (pair_parts e f also) same in inl (λ i. body.Equiv (t.0 i) (t.1 i))
body_told (body.Disjoint c d) (body.Disjoint e f) is also words same = let t = two_exprs c d e f (pair_parts c d is) (pair_parts e f also) same in inl (λ i. body.Disjoint (t.0 i) (t.1 i))
body_told (body.SubRole p q) (body.SubRole r s) is also words same = let t = two_iris p q r s (and_parts (is_clean_iri p) (is_clean_iri q) is) (and_parts (is_clean_iri r) (is_clean_iri s) also) same in inl (λ i. body.SubRole (t.0 i) (t.1 i))
body_told (body.SubRole p q) (body.Chain r s t) is also words same = absurd (no_chain r s t p q same)
body_told (body.Chain r s t) (body.SubRole p q) is also words same = absurd (no_chain r s t p q (sym same))
body_told (body.Chain r s t) (body.Chain u v w) is also words same =
    let mine = and_parts (is_clean_iri r && is_clean_iri s) (is_clean_iri t) is in
    let yours = and_parts (is_clean_iri u && is_clean_iri v) (is_clean_iri w) also in
    let told = two_told link_text is_clean_link iri_text is_clean_iri links last_iri (r, s) (u, v) t w mine.0 yours.0 mine.1 yours.1 same in
    inl (λ i. body.Chain (told.0 i).0 (told.0 i).1 (told.1 i))
body_told (body.EquivRoles p q) (body.EquivRoles r s) is also words same = let t = two_iris p q r s (role_parts p q is) (role_parts r s also) same in inl (λ i. body.EquivRoles (t.0 i) (t.1 i))
body_told (body.DisjointRoles p q) (body.DisjointRoles r s) is also words same = let t = two_iris p q r s (role_parts p q is) (role_parts r s also) same in inl (λ i. body.DisjointRoles (t.0 i) (t.1 i))
body_told (body.Inverse p q) (body.Inverse r s) is also words same = let t = two_iris p q r s (role_parts p q is) (role_parts r s also) same in inl (λ i. body.Inverse (t.0 i) (t.1 i))
body_told (body.Transitive r) (body.Transitive s) is also words same = inl (ap body.Transitive (last_iri r s is also same))
body_told (body.Reflexive r) (body.Reflexive s) is also words same = inl (ap body.Reflexive (last_iri r s is also same))
body_told (body.Symmetric r) (body.Symmetric s) is also words same = inl (ap body.Symmetric (last_iri r s is also same))
body_told (body.Asymmetric r) (body.Asymmetric s) is also words same = inl (ap body.Asymmetric (last_iri r s is also same))
body_told (body.Functional r) (body.Functional s) is also words same = inl (ap body.Functional (last_iri r s is also same))
body_told (body.InverseFunctional r) (body.InverseFunctional s) is also words same = inl (ap body.InverseFunctional (last_iri r s is also same))
body_told (body.Domain r c) (body.Domain s d) is also words same = let t = role_class r s c d is also same in inl (λ i. body.Domain (t.0 i) (t.1 i))
body_told (body.Range r c) (body.Range s d) is also words same = let t = role_class r s c d is also same in inl (λ i. body.Range (t.0 i) (t.1 i))
body_told (body.ClassAssertion c i) (body.ClassAssertion d j) is also words same =
    let mine = and_parts (is_proper_expr c) (is_clean_iri i) is in
    let yours = and_parts (is_proper_expr d) (is_clean_iri j) also in
    let t = two_told expr_text is_proper_expr iri_text is_clean_iri exprs last_iri c d i j mine.0 yours.0 mine.1 yours.1 same in
    inl (λ k. body.ClassAssertion (t.0 k) (t.1 k))
body_told (body.RoleAssertion r i j) (body.RoleAssertion s k l) is also words same =
    let mine = three_parts (is_clean_iri r) (is_clean_iri i) (is_clean_iri j) is in
    let yours = three_parts (is_clean_iri s) (is_clean_iri k) (is_clean_iri l) also in
    let t = three_told iri_text is_clean_iri iri_text is_clean_iri iri_text is_clean_iri iris iris last_iri r s i k j l mine.0 yours.0 mine.1 yours.1 mine.2 yours.2 same in
    inl (λ n. body.RoleAssertion (t.0 n) (t.1 n) (t.2 n))
body_told (body.Declaration m) (body.Declaration n) is also words same = inl (ap body.Declaration (last_of name_text is_proper_name names m n is also same))
body_told (body.Note m p v) (body.Note n q w) is also words same =
    let mine = three_parts (is_proper_name m) (is_clean_iri p) (is_proper_value v) is in
    let yours = three_parts (is_proper_name n) (is_clean_iri q) (is_proper_value w) also in
    let t = three_told iri_text is_clean_iri iri_text is_clean_iri value_text is_proper_value iris iris last_value p q m.iri n.iri v w mine.1 yours.1 (name_clean m mine.0) (name_clean n yours.0) mine.2 yours.2 same in
    inr (record {
      kind = m.kind;
      other_kind = n.kind;
      iri = n.iri;
      property = q;
      value = w;
      one_is = λ i. body.Note (name_of m.kind (t.1 i)) (t.0 i) (t.2 i);
      other_is = refl;
    })
body_told (body.OntologyNote p v) (body.OntologyNote q w) is also words same =
    let mine = and_parts (is_clean_iri p) (is_proper_value v) is in
    let yours = and_parts (is_clean_iri q) (is_proper_value w) also in
    let t = two_told iri_text is_clean_iri value_text is_proper_value iris last_value p q v w mine.0 yours.0 mine.1 yours.1 same in
    inl (λ i. body.OntologyNote (t.0 i) (t.1 i))
body_told one other is also words same = absurd (apart (word one) (word other) words refl)
