-- Where `==` answers true of two axioms, they are the same axiom. (That it answers true of one and itself is among its laws.)
use Rattle.std.proofs.Common.{◌≡◌, ℕ, Bool, true, false, ◌&&◌, List, [], ◌∷◌, None, Some, inl, inr, nat_eq, map, refl, sym, ap, subst, ◌∙◌, true≢false}
use Rattle.std.specs.Cmp.Lexicographic.{pointwise, same_text}
use Rattle.std.specs.Option.{option_eq}
use borrow.Author.Tests.{eqb-true}
use denote.Enum.Compared.{Each, by}
use denote.Enum.Declared.{Choice}
use denote.Struct.Field.{Field}
use denote.Struct.Values.{Values}
use Rattle.owl_axioms.specs.Same.{same_axiom}
use Rattle.owl_axioms.specs.contracts.annotation.NoteValue as value
use Rattle.owl_axioms.specs.contracts.annotation.NoteValuePartialEq.TheImpl as value_eq
use Rattle.owl_axioms.specs.contracts.annotation.SidePartialEq.TheImpl as side_eq
use Rattle.owl_axioms.specs.contracts.body.Body as body
use Rattle.owl_axioms.specs.contracts.body.BodyPartialEq.TheImpl as body_eq
use Rattle.owl_axioms.specs.contracts.expr.ClassExpr as expr
use Rattle.owl_axioms.specs.contracts.expr.ClassExprPartialEq.TheImpl as expr_eq
use Rattle.owl_axioms.specs.contracts.expr.ClassExprPartialEq.TheImpl.Laws as expr_laws
use Rattle.owl_axioms.specs.contracts.name.KindPartialEq.TheImpl as kind_eq
use Rattle.owl_axioms.specs.contracts.name.NamePartialEq.TheImpl as name_eq
use Rattle.owl_axioms.specs.declared.annotation.NoteValue.{NoteValue}
use Rattle.owl_axioms.specs.declared.body.Axiom.{Axiom}
use Rattle.owl_axioms.specs.declared.expr.ClassExpr.{ClassExpr}
use Rattle.owl_axioms.specs.declared.expr.ClassExpr.TheBlock.{split-ClassExpr, the_family}
use Rattle.owl_axioms.specs.declared.expr.ClassExpr.TheFolds.{ind-ClassExpr, map-ClassExpr}
use Rattle.owl_axioms.specs.declared.expr.ClassExpr.TheOpen.{ClassExpr-F}
use Rattle.owl_axioms.specs.declared.expr.ClassExpr.TheViews.{out-roll-ClassExpr, roll-ClassExpr}
use Rattle.owl_axioms.specs.declared.name.Kind.TheVariants as kind
use Rattle.owl_axioms.specs.declared.name.Name.{Name}

-- a test that passes only of one value and itself
abbrev pub Tells : {A : Type 0} → (A → A → Bool) → Type 0
Tells {A} eq = (x y : A) → eq x y ≡ true → x ≡ y

-- both parts of a test
pub both : (s t : Bool) → (s && t) ≡ true → (s ≡ true) × (t ≡ true)
both true t h = (refl, h)
both false t h = absurd (true≢false (sym h))

-- ---- the fields of a variant

abbrev pub one : {A : Type 0} → (A → A → Bool) → A × Unit {0} → A × Unit {0} → Bool
one F x y = F x.0 y.0

abbrev pub two : {A B : Type 0} → (A → A → Bool) → (B → B → Bool) → A × (B × Unit {0}) → A × (B × Unit {0}) → Bool
two F G x y = F x.0 y.0 && G x.1.0 y.1.0

abbrev pub three : {A B C : Type 0} → (A → A → Bool) → (B → B → Bool) → (C → C → Bool) → A × (B × (C × Unit {0})) → A × (B × (C × Unit {0})) → Bool
three F G H x y = F x.0 y.0 && (G x.1.0 y.1.0 && H x.1.1.0 y.1.1.0)

pub same_one : {A : Type 0} (F : A → A → Bool) → Tells F → Tells (one F)
same_one F f x y h = λ i. (f x.0 y.0 h i, tt)

pub same_two : {A B : Type 0} (F : A → A → Bool) (G : B → B → Bool) → Tells F → Tells G → Tells (two F G)
same_two F G f g x y h =
    let parts : (F x.0 y.0 ≡ true) × (G x.1.0 y.1.0 ≡ true) = both _ _ h in
    λ i. (f x.0 y.0 parts.0 i, (g x.1.0 y.1.0 parts.1 i, tt))

pub same_three : {A B C : Type 0} (F : A → A → Bool) (G : B → B → Bool) (H : C → C → Bool) → Tells F → Tells G → Tells H → Tells (three F G H)
same_three F G H f g k x y h =
    let parts : (F x.0 y.0 ≡ true) × ((G x.1.0 y.1.0 && H x.1.1.0 y.1.1.0) ≡ true) = both _ _ h in
    let more : (G x.1.0 y.1.0 ≡ true) × (H x.1.1.0 y.1.1.0 ≡ true) = both _ _ parts.1 in
    λ i. (f x.0 y.0 parts.0 i, (g x.1.0 y.1.0 more.0 i, (k x.1.1.0 y.1.1.0 more.1 i, tt)))

-- ---- the variants of an enum

-- at this value the test of its variant tells, whatever it is compared with
abbrev pub TellsAt : (Fss : List (List Field)) → Each Bool Fss → Choice Fss → Type 0
TellsAt [] each c = Unit {0}
TellsAt (Fs ∷ Fss) each (inl x) = (y : Values Fs) → each.0 x y ≡ true → x ≡ y
TellsAt (Fs ∷ Fss) each (inr c) = TellsAt Fss each.1 c

pub same_choice : (Fss : List (List Field)) (each : Each Bool Fss) (c d : Choice Fss) → TellsAt Fss each c → by false false Fss each c d ≡ true → c ≡ d
same_choice [] each c d tells h = absurd c
same_choice (Fs ∷ Fss) each (inl x) (inl y) tells h = ap inl (tells y h)
same_choice (Fs ∷ Fss) each (inl x) (inr d) tells h = absurd (true≢false (sym h))
same_choice (Fs ∷ Fss) each (inr c) (inl y) tells h = absurd (true≢false (sym h))
same_choice (Fs ∷ Fss) each (inr c) (inr d) tells h = ap inr (same_choice Fss each.1 c d tells h)

-- the test of each variant tells
abbrev pub EachTells : (Fss : List (List Field)) → Each Bool Fss → Type 0
EachTells [] each = Unit {0}
EachTells (Fs ∷ Fss) each = ((x y : Values Fs) → each.0 x y ≡ true → x ≡ y) × EachTells Fss each.1

pub tells_at : (Fss : List (List Field)) (each : Each Bool Fss) → EachTells Fss each → (c : Choice Fss) → TellsAt Fss each c
tells_at [] each tells c = tt
tells_at (Fs ∷ Fss) each tells (inl x) = tells.0 x
tells_at (Fs ∷ Fss) each tells (inr c) = tells_at Fss each.1 tells.1 c

-- ---- lists, options and texts

pub same_list : {A : Type 0} (eq : A → A → Bool) → Tells eq → Tells (pointwise eq)
same_list eq tells [] [] h = refl
same_list eq tells [] (y ∷ ys) h = absurd (true≢false (sym h))
same_list eq tells (x ∷ xs) [] h = absurd (true≢false (sym h))
same_list eq tells (x ∷ xs) (y ∷ ys) h =
    let parts : (eq x y ≡ true) × (pointwise eq xs ys ≡ true) = both _ _ h in
    λ i. tells x y parts.0 i ∷ same_list eq tells xs ys parts.1 i

abbrev pub text : List ℕ → List ℕ → Bool
text = pointwise nat_eq

pub same_bytes : Tells text
same_bytes x y h = same_text x y (sym h)

pub same_number : Tells nat_eq
same_number m n h = eqb-true m n h

-- ---- expressions

abbrev pub same_expr : ClassExpr → ClassExpr → Bool
same_expr = expr_eq.ghosts.eq

abbrev expr_each : Each Bool expr.the_parts
expr_each = (
  (λ _ _. true),
  (
    (λ _ _. true),
    (
      one text,
      (
        one (pointwise same_expr),
        (
          one (pointwise same_expr),
          (
            one same_expr,
            (
              two text same_expr,
              (
                two text same_expr,
                (three nat_eq text same_expr, (three nat_eq text same_expr, (three nat_eq text same_expr, tt))),
              ),
            ),
          ),
        ),
      ),
    ),
  ),
)

abbrev IsToldApart : ClassExpr → Type 0
IsToldApart d = (e : ClassExpr) → same_expr d e ≡ true → d ≡ e

-- a part of an expression, with what the induction says of it
abbrev Part : Type 0
Part = (d : ClassExpr) × IsToldApart d

same_parts : (parts : List Part) (es : List ClassExpr) → pointwise same_expr (map (λ p. p.0) parts) es ≡ true → map (λ p. p.0) parts ≡ es
same_parts [] [] h = refl
same_parts [] (e ∷ es) h = absurd (true≢false (sym h))
same_parts (p ∷ parts) [] h = absurd (true≢false (sym h))
same_parts (p ∷ parts) (e ∷ es) h =
    let both_are : (same_expr p.0 e ≡ true) × (pointwise same_expr (map (λ p. p.0) parts) es ≡ true) = both _ _ h in
    λ i. p.1 e both_are.0 i ∷ same_parts parts es both_are.1 i

role_and_part : (role : List ℕ) (part : Part) (y : List ℕ × (ClassExpr × Unit {0})) → two text same_expr (role, (part.0, tt)) y ≡ true → (role, (part.0, tt)) ≡ y
role_and_part role part y h =
    let parts : (text role y.0 ≡ true) × (same_expr part.0 y.1.0 ≡ true) = both _ _ h in
    λ i. (same_bytes role y.0 parts.0 i, (part.1 y.1.0 parts.1 i, tt))

count_role_and_part : (n : ℕ) (role : List ℕ) (part : Part) (y : ℕ × (List ℕ × (ClassExpr × Unit {0}))) → three nat_eq text same_expr (n, (role, (part.0, tt))) y ≡ true → (n, (role, (part.0, tt))) ≡ y
count_role_and_part n role part y h =
    let parts : (nat_eq n y.0 ≡ true) × ((text role y.1.0 && same_expr part.0 y.1.1.0) ≡ true) = both _ _ h in
    let more : (text role y.1.0 ≡ true) × (same_expr part.0 y.1.1.0 ≡ true) = both _ _ parts.1 in
    λ i. (same_number n y.0 parts.0 i, (same_bytes role y.1.0 more.0 i, (part.1 y.1.1.0 more.1 i, tt)))

-- a layer whose parts are told apart
told_apart : (layer : ClassExpr-F Part) → TellsAt expr.the_parts expr_each (split-ClassExpr the_family (map-ClassExpr Part ClassExpr (λ p. p.0) layer))
told_apart ClassExpr-F.Thing = λ y h. refl
told_apart ClassExpr-F.Nothing = λ y h. refl
told_apart (ClassExpr-F.Class iri) = same_one text same_bytes (iri, tt)
told_apart (ClassExpr-F.And operands) = λ y h i. (same_parts operands y.0 h i, tt)
told_apart (ClassExpr-F.Or operands) = λ y h i. (same_parts operands y.0 h i, tt)
told_apart (ClassExpr-F.Not part) = λ y h i. (part.1 y.0 h i, tt)
told_apart (ClassExpr-F.Some role part) = role_and_part role part
told_apart (ClassExpr-F.All role part) = role_and_part role part
told_apart (ClassExpr-F.Min n role part) = count_role_and_part n role part
told_apart (ClassExpr-F.Max n role part) = count_role_and_part n role part
told_apart (ClassExpr-F.Exact n role part) = count_role_and_part n role part

told_by_layer : (layer : ClassExpr-F ClassExpr) → TellsAt expr.the_parts expr_each (split-ClassExpr the_family layer) → IsToldApart (roll-ClassExpr layer)
told_by_layer layer tells e h =
    let d : ClassExpr = roll-ClassExpr layer in
    let there : TellsAt expr.the_parts expr_each (expr.as_values d) = subst (λ l. TellsAt expr.the_parts expr_each (split-ClassExpr the_family l)) (sym (out-roll-ClassExpr layer)) tells in
    let passes : by false false expr.the_parts expr_each (expr.as_values d) (expr.as_values e) ≡ true = sym (expr_laws.is d e) ∙ h in
    sym (expr.the_eta d) ∙ ap expr.the_make (same_choice expr.the_parts expr_each (expr.as_values d) (expr.as_values e) there passes) ∙ expr.the_eta e

pub same_expr-true : Tells same_expr
same_expr-true = ind-ClassExpr IsToldApart (λ x layer is. subst (λ l. IsToldApart (roll-ClassExpr l)) is (told_by_layer (map-ClassExpr Part ClassExpr (λ p. p.0) layer) (told_apart layer)))

-- ---- names, values and annotations

same_kind : Tells kind_eq.ghosts.eq
same_kind kind.Class kind.Class h = refl
same_kind kind.Role kind.Role h = refl
same_kind kind.Individual kind.Individual h = refl
same_kind kind.AnnotationProperty kind.AnnotationProperty h = refl
same_kind k l h = absurd (true≢false (sym h))

same_name : Tells name_eq.ghosts.eq
same_name x y h =
    let parts : (kind_eq.ghosts.eq x.kind y.kind ≡ true) × (text x.iri y.iri ≡ true) = both _ _ h in
    λ i. record { kind = same_kind x.kind y.kind parts.0 i; iri = same_bytes x.iri y.iri parts.1 i }

abbrev value_each : Each Bool value.the_parts
value_each = (one text, (two text text, (one text, tt)))

value_tells : EachTells value.the_parts value_each
value_tells = (same_one text same_bytes, (same_two text text same_bytes same_bytes, (same_one text same_bytes, tt)))

same_value : Tells value_eq.ghosts.eq
same_value v w h =
    let tells : TellsAt value.the_parts value_each (value.as_values v) = tells_at value.the_parts value_each value_tells (value.as_values v) in
    sym (value.the_eta v) ∙ ap value.the_make (same_choice value.the_parts value_each (value.as_values v) (value.as_values w) tells h) ∙ value.the_eta w

same_label : Tells (option_eq text)
same_label None None h = refl
same_label None (Some y) h = absurd (true≢false (sym h))
same_label (Some x) None h = absurd (true≢false (sym h))
same_label (Some x) (Some y) h = ap Some (same_bytes x y h)

same_side : Tells side_eq.ghosts.eq
same_side x y h =
    let parts : (text x.property y.property ≡ true) × ((value_eq.ghosts.eq x.value y.value && option_eq text x.label y.label) ≡ true) = both _ _ h in
    let more : (value_eq.ghosts.eq x.value y.value ≡ true) × (option_eq text x.label y.label ≡ true) = both _ _ parts.1 in
    λ i. record { property = same_bytes x.property y.property parts.0 i; value = same_value x.value y.value more.0 i; label = same_label x.label y.label more.1 i }

-- ---- bodies and axioms

abbrev named : Name → Name → Bool
named = name_eq.ghosts.eq

abbrev valued : NoteValue → NoteValue → Bool
valued = value_eq.ghosts.eq

abbrev body_each : Each Bool body.the_parts
body_each = (
  two same_expr same_expr,
  (
    two same_expr same_expr,
    (
      two same_expr same_expr,
      (
        two text text,
        (
          three text text text,
          (
            two text text,
            (
              two text text,
              (
                two text text,
                (
                  one text,
                  (
                    one text,
                    (
                      one text,
                      (
                        one text,
                        (
                          one text,
                          (
                            one text,
                            (
                              two text same_expr,
                              (
                                two text same_expr,
                                (
                                  two same_expr text,
                                  (
                                    three text text text,
                                    (one named, (three named text valued, (two text valued, tt))),
                                  ),
                                ),
                              ),
                            ),
                          ),
                        ),
                      ),
                    ),
                  ),
                ),
              ),
            ),
          ),
        ),
      ),
    ),
  ),
)

body_tells : EachTells body.the_parts body_each
body_tells =
    let e = same_expr-true in let t = same_bytes in
    let ee = same_two same_expr same_expr e e in let et = same_two same_expr text e t in let te = same_two text same_expr t e in
    let one_text = same_one text t in let tt_two = same_two text text t t in let three_texts = same_three text text text t t t in (
      ee,
      (
        ee,
        (
          ee,
          (
            tt_two,
            (
              three_texts,
              (
                tt_two,
                (
                  tt_two,
                  (
                    tt_two,
                    (
                      one_text,
                      (
                        one_text,
                        (
                          one_text,
                          (
                            one_text,
                            (
                              one_text,
                              (
                                one_text,
                                (
                                  te,
                                  (
                                    te,
                                    (
                                      et,
                                      (
                                        three_texts,
                                        (same_one named same_name, (same_three named text valued same_name t same_value, (same_two text valued t same_value, tt))),
                                      ),
                                    ),
                                  ),
                                ),
                              ),
                            ),
                          ),
                        ),
                      ),
                    ),
                  ),
                ),
              ),
            ),
          ),
        ),
      ),
    )

same_body : Tells body_eq.ghosts.eq
same_body v w h =
    let tells : TellsAt body.the_parts body_each (body.as_values v) = tells_at body.the_parts body_each body_tells (body.as_values v) in
    sym (body.the_eta v) ∙ ap body.the_make (same_choice body.the_parts body_each (body.as_values v) (body.as_values w) tells h) ∙ body.the_eta w

pub same_axiom-true : (a b : Axiom) → same_axiom a b ≡ true → a ≡ b
same_axiom-true a b h =
    let parts : (body_eq.ghosts.eq a.body b.body ≡ true) × (pointwise side_eq.ghosts.eq a.sides b.sides ≡ true) = both _ _ h in
    λ i. record { body = same_body a.body b.body parts.0 i; sides = same_list side_eq.ghosts.eq same_side a.sides b.sides parts.1 i }
