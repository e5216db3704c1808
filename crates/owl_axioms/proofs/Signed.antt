-- Each name in a proper axiom is one that a signature may have.
use Rattle.std.proofs.Common.{◌≡◌, ℕ, Bool, true, false, ◌&&◌, List, [], ◌∷◌, ◌++◌, flat_map, map, refl, sym, ap, subst, ◌∙◌}
use Rattle.std.specs.List.{list_all}
use Rattle.std.proofs.lemmas.List.Folds.{list_all-append}
use Rattle.owl_axioms.specs.Names.{body_names, covers, is_signed, name_of, names_in, names_step, subject_names}
use Rattle.owl_axioms.specs.Proper.{are_proper_operands, is_class_iri, is_proper, is_proper_body, is_proper_expr, is_proper_pair, proper_step}
use Rattle.owl_axioms.specs.SignatureLaws.{NamesAreSigned}
use Rattle.owl_axioms.specs.declared.body.Axiom.{Axiom}
use Rattle.owl_axioms.specs.declared.body.Body.{Body}
use Rattle.owl_axioms.specs.declared.body.Body.TheVariants as body
use Rattle.owl_axioms.specs.declared.expr.ClassExpr.{ClassExpr}
use Rattle.owl_axioms.specs.declared.expr.ClassExpr.TheFolds.{ind-ClassExpr, map-ClassExpr, para-roll-ClassExpr}
use Rattle.owl_axioms.specs.declared.expr.ClassExpr.TheOpen.{ClassExpr-F}
use Rattle.owl_axioms.specs.declared.expr.ClassExpr.TheViews.{roll-ClassExpr}
use Rattle.owl_axioms.specs.declared.name.Kind.TheVariants as kind
use Rattle.owl_axioms.specs.declared.name.Name.{Name}
use Rattle.owl_axioms.proofs.Listed.{names_layer}
use Rattle.owl_axioms.proofs.Tests.{both}

-- the names of these are all such
abbrev AreSigned : List Name → Type 0
AreSigned names = covers is_signed names ≡ true

both_signed : (xs ys : List Name) → AreSigned xs → AreSigned ys → AreSigned (xs ++ ys)
unfolding covers
both_signed xs ys h k = list_all-append (λ n. is_signed n.kind n.iri) xs ys ∙ (λ i. h i && k i)

role_signed : (r : List ℕ) (xs : List Name) → AreSigned xs → AreSigned (name_of kind.Role r ∷ xs)
unfolding covers is_signed
role_signed r xs h = h

individual_signed : (a : List ℕ) (xs : List Name) → AreSigned xs → AreSigned (name_of kind.Individual a ∷ xs)
unfolding covers is_signed
individual_signed a xs h = h

none_signed : AreSigned []
unfolding covers
none_signed = refl

class_signed : (a : List ℕ) → is_class_iri a ≡ true → AreSigned (name_of kind.Class a ∷ [])
unfolding covers is_signed is_class_iri
class_signed a h = let parts = both _ _ h in λ i. parts.1 i && true

subject_signed : (n : Name) → AreSigned (subject_names n)
unfolding covers
subject_signed n = by (is_signed n.kind n.iri) refl
  where
    by : (b : Bool) → is_signed n.kind n.iri ≡ b → covers is_signed (subject_names n) ≡ true
    by true h = rw h (λ i. h i && true)
    by false h = rw h refl

-- ---- expressions

abbrev Signed : ClassExpr → Type 0
Signed c = is_proper_expr c ≡ true → AreSigned (names_in c)

abbrev Part : Type 0
Part = (c : ClassExpr) × Signed c

abbrev first : Part → ClassExpr
first p = p.0

-- an expression beside its test
abbrev beside_test : ClassExpr → ClassExpr × Bool
beside_test c = (c, is_proper_expr c)

proper_layer : (x : ClassExpr-F ClassExpr) → is_proper_expr (roll-ClassExpr x) ≡ proper_step (map-ClassExpr _ _ beside_test x)
unfolding is_proper_expr
proper_layer x = para-roll-ClassExpr Bool proper_step x

parts_signed : (ps : List Part) → list_all (λ p. p.1) (map beside_test (map first ps)) ≡ true → AreSigned (flat_map (λ p. p) (map names_in (map first ps)))
parts_signed [] h = none_signed
parts_signed (p ∷ ps) h =
    let parts : (is_proper_expr p.0 ≡ true) × (list_all (λ p. p.1) (map beside_test (map first ps)) ≡ true) = both _ _ h in
    both_signed (names_in p.0) _ (p.1 parts.0) (parts_signed ps parts.1)

operands_signed : (ps : List Part) → are_proper_operands (map beside_test (map first ps)) ≡ true → AreSigned (flat_map (λ p. p) (map names_in (map first ps)))
unfolding are_proper_operands
operands_signed ps h = let parts = both _ _ h in parts_signed ps parts.1

layer_signed : (y : ClassExpr-F Part) → proper_step (map-ClassExpr _ _ beside_test (map-ClassExpr _ _ first y)) ≡ true → AreSigned (names_step (map-ClassExpr _ _ names_in (map-ClassExpr _ _ first y)))
unfolding proper_step names_step
layer_signed ClassExpr-F.Thing h = none_signed
layer_signed ClassExpr-F.Nothing h = none_signed
layer_signed (ClassExpr-F.Class a) h = class_signed a h
layer_signed (ClassExpr-F.And ps) h = operands_signed ps h
layer_signed (ClassExpr-F.Or ps) h = operands_signed ps h
layer_signed (ClassExpr-F.Not p) h = p.1 h
layer_signed (ClassExpr-F.Some r p) h = let parts = both _ _ h in role_signed r _ (p.1 parts.1)
layer_signed (ClassExpr-F.All r p) h = let parts = both _ _ h in role_signed r _ (p.1 parts.1)
layer_signed (ClassExpr-F.Min n r p) h = let parts = both _ _ h in role_signed r _ (p.1 parts.1)
layer_signed (ClassExpr-F.Max n r p) h = let parts = both _ _ h in role_signed r _ (p.1 parts.1)
layer_signed (ClassExpr-F.Exact n r p) h = let parts = both _ _ h in role_signed r _ (p.1 parts.1)

signed : (c : ClassExpr) → Signed c
signed = ind-ClassExpr Signed (λ x y is. subst (λ z. Signed (roll-ClassExpr z)) is (made y))
  where
    made : (y : ClassExpr-F Part) → Signed (roll-ClassExpr (map-ClassExpr _ _ first y))
    made y h = let x = map-ClassExpr _ _ first y in ap (covers is_signed) (names_layer x) ∙ layer_signed y (sym (proper_layer x) ∙ h)

-- ---- axioms

pair_signed : (c d : ClassExpr) → is_proper_pair c d ≡ true → AreSigned (names_in c ++ names_in d)
unfolding is_proper_pair
pair_signed c d h = let parts = both _ _ h in let two = both _ _ parts.0 in both_signed (names_in c) (names_in d) (signed c two.0) (signed d two.1)

body_signed : (b : Body) → is_proper_body b ≡ true → AreSigned (body_names b)
unfolding is_proper_body body_names
body_signed (body.Sub c d) h = let parts = both _ _ h in both_signed (names_in c) (names_in d) (signed c parts.0) (signed d parts.1)
body_signed (body.Equiv c d) h = pair_signed c d h
body_signed (body.Disjoint c d) h = pair_signed c d h
body_signed (body.SubRole r s) h = role_signed r _ (role_signed s _ none_signed)
body_signed (body.Chain r s t) h = role_signed r _ (role_signed s _ (role_signed t _ none_signed))
body_signed (body.EquivRoles r s) h = role_signed r _ (role_signed s _ none_signed)
body_signed (body.DisjointRoles r s) h = role_signed r _ (role_signed s _ none_signed)
body_signed (body.Inverse r s) h = role_signed r _ (role_signed s _ none_signed)
body_signed (body.Transitive r) h = role_signed r _ none_signed
body_signed (body.Reflexive r) h = role_signed r _ none_signed
body_signed (body.Symmetric r) h = role_signed r _ none_signed
body_signed (body.Asymmetric r) h = role_signed r _ none_signed
body_signed (body.Functional r) h = role_signed r _ none_signed
body_signed (body.InverseFunctional r) h = role_signed r _ none_signed
body_signed (body.Domain r c) h = let parts = both _ _ h in role_signed r _ (signed c parts.1)
body_signed (body.Range r c) h = let parts = both _ _ h in role_signed r _ (signed c parts.1)
body_signed (body.ClassAssertion c a) h = let parts = both _ _ h in individual_signed a _ (signed c parts.0)
body_signed (body.RoleAssertion r a b) h = role_signed r _ (individual_signed a _ (individual_signed b _ none_signed))
body_signed (body.Declaration name) h = subject_signed name
body_signed (body.Note subject property value) h = subject_signed subject
body_signed (body.OntologyNote property value) h = none_signed

pub names_are_signed : (a : Axiom) → NamesAreSigned a
unfolding is_proper
names_are_signed a h = let proper : is_proper a ≡ true = h in let parts : (is_proper_body a.body ≡ true) × _ = both _ _ proper in body_signed a.body parts.0
