-- A group that comes to one expression is one in which no clause stands for another.
use Rattle.std.proofs.Common.{◌≡◌, inl, inr, ℕ, Bool, true, false, not, ◌&&◌, List, [], ◌∷◌, Option, None, Some, ap, cond, refl, sym, ◌∙◌, codes, map, ◌++◌, ◌||◌}
use Rattle.std.specs.Prelude.{filter}
use Rattle.std.specs.Cmp.Lexicographic.{slice_cmp}
use Rattle.std.specs.List.{list_any}
use Rattle.std.specs.Ordering.{is_eq, nat_cmp}
use Rattle.std.specs.Str.{bytes_eq}
use Rattle.std.proofs.lemmas.Bool.{and_parts, false_from_ne_true, false≢true}
use Rattle.std.proofs.lemmas.Map.Text.{is_eq-slice_cmp}
use Rattle.std.proofs.lemmas.Slice.Eq.{bytes_eq-Decides}
use Rattle.obo_frames.specs.Documents.{least_line}
use Rattle.obo_frames.specs.Framed.{unlined}
use Rattle.obo_frames.specs.Naming.{space_of}
use Rattle.obo_frames.specs.Groups.{differs, operands_in, same_expression, short_in, short_lines}
use Rattle.obo_frames.specs.inner.Summary.{is_one, joined, summary_of}
use Rattle.obo_frames.specs.declared.groups.Expression.{Expression}
use Rattle.obo_frames.specs.declared.groups.Expression.TheVariants.{Class, Restriction}
use Rattle.obo_frames.specs.declared.groups.Operand.{Operand}
use Rattle.obo_frames.specs.declared.groups.Summary.{Summary}
use Rattle.obo_frames.specs.declared.groups.Summary.TheVariants.{Many, One}
use Rattle.obo_frames.specs.declared.placed.Placed.{Placed}
use Rattle.obo_frames.proofs.LeastLemmas.{least_line-append}
use Rattle.obo_frames.proofs.ListLemmas.{Among}

-- ---- one clause more

pub joined_at : (b : Bool) (at held : Option Summary) (one : Expression) → (b ≡ true → at ≡ held) → cond b (Some (joined at one)) held ≡ cond b (Some (joined held one)) held
joined_at true at held one same = ap (λ group. Some (joined group one)) (same refl)
joined_at false at held one same = refl

pub same_group : (one other : List ℕ) → is_eq (slice_cmp nat_cmp one other) ≡ true → one ≡ other
same_group one other same = (bytes_eq-Decides one other).0 (sym (is_eq-slice_cmp one other) ∙ same)

-- ---- expressions

pub same_itself : (one : Expression) → same_expression one one ≡ true
same_itself (Class class) = (bytes_eq-Decides class class).1 refl
same_itself (Restriction role filler) =
    (λ i. (bytes_eq-Decides role role).1 refl i && (bytes_eq-Decides filler filler).1 refl i)

pub same_is : (one other : Expression) → same_expression one other ≡ true → one ≡ other
same_is (Class one) (Class other) same = ap Class ((bytes_eq-Decides one other).0 same)
same_is (Class one) (Restriction role filler) same = absurd (false≢true same)
same_is (Restriction role filler) (Class other) same = absurd (false≢true same)
same_is (Restriction role filler) (Restriction other another) same =
    let parts = and_parts _ _ same in
    (λ i. Restriction ((bytes_eq-Decides role other).0 parts.0 i) ((bytes_eq-Decides filler another).0 parts.1 i))

differs_back : (one other : Expression) → same_expression one other ≡ false → same_expression other one ≡ false
differs_back one other differ =
    false_from_ne_true _ (λ same. false≢true (sym differ ∙ ap (λ it. same_expression one it) (same_is other one same) ∙ same_itself one))

-- ---- groups

-- the clause is one of the group of this IRI
abbrev is_of : List ℕ → Operand → Bool
is_of group operand = is_eq (slice_cmp nat_cmp operand.group group)

-- each clause of the group stands for this expression
abbrev agree : List ℕ → Expression → List Operand → Bool
agree group one [] = true
agree group one (operand ∷ operands) =
    cond (is_of group operand) (same_expression one operand.expression) true && agree group one operands

stays_many : (group : List ℕ) (operands : List Operand) → is_one (summary_of group (Some Many) operands) ≡ false
stays_many group [] = refl
stays_many group (operand ∷ operands) =
    elim (is_of group operand) as (λ b. is_one (summary_of group (cond b (Some Many) (Some Many)) operands) ≡ false) [
      | true ↦ stays_many group operands
      | false ↦ stays_many group operands
    ]

stays_one : (group : List ℕ) (one : Expression) (operands : List Operand) → is_one (summary_of group (Some (One one)) operands) ≡ agree group one operands
stays_one group one [] = refl
stays_one group one (operand ∷ operands) =
    elim (is_of group operand) as (λ b. is_one (summary_of group (cond b (Some (cond (same_expression one operand.expression) (One one) Many)) (Some (One one))) operands) ≡ (cond b (same_expression one operand.expression) true && agree group one operands)) [
      | true ↦ elim (same_expression one operand.expression) as (λ s. is_one (summary_of group (Some (cond s (One one) Many)) operands) ≡ (s && agree group one operands)) [
        | true ↦ stays_one group one operands
        | false ↦ stays_many group operands
      ]
      | false ↦ stays_one group one operands
    ]

and_false : (b : Bool) → (b && false) ≡ false
and_false true = refl
and_false false = refl

-- one of the group stands for another expression
disagree : (group : List ℕ) (one : Expression) (other : Operand) (operands : List Operand) → Among other operands → is_of group other ≡ true → same_expression one other.expression ≡ false → agree group one operands ≡ false
disagree group one other [] among of_group differ = absurd among
disagree group one other (operand ∷ operands) (inl here) of_group differ =
    ap (λ it. cond (is_of group it) (same_expression one it.expression) true && agree group one operands) here
    ∙ (λ i. cond (of_group i) (same_expression one other.expression) true && agree group one operands)
    ∙ ap (λ b. b && agree group one operands) differ
disagree group one other (operand ∷ operands) (inr later) of_group differ =
    ap (λ b. cond (is_of group operand) (same_expression one operand.expression) true && b) (disagree group one other operands later of_group differ)
    ∙ and_false (cond (is_of group operand) (same_expression one operand.expression) true)

-- a group has one expression exactly where all its clauses agree with any one of them
agrees_first : (group : List ℕ) (first : Expression) (one : Operand) (operands : List Operand) → Among one operands → is_of group one ≡ true → (same : Bool) → same_expression one.expression first ≡ same → agree group first operands ≡ (same && agree group one.expression operands)
agrees_first group first one operands among of_group true is =
    ap (λ it. agree group it operands) (sym (same_is one.expression first is))
agrees_first group first one operands among of_group false is =
    disagree group first one operands among of_group (differs_back one.expression first is)

comes_to_one : (group : List ℕ) (one : Operand) (operands : List Operand) → Among one operands → is_of group one ≡ true → is_one (summary_of group None operands) ≡ agree group one.expression operands
comes_to_one group one [] among of_group = absurd among
comes_to_one group one (operand ∷ operands) (inl here) of_group =
    let first : is_of group operand ≡ true = ap (is_of group) here ∙ of_group in
    (λ i. is_one (summary_of group (cond (first i) (Some (One operand.expression)) None) operands))
    ∙ stays_one group operand.expression operands
    ∙ ap (λ it. agree group it.expression operands) here
    ∙ sym ((λ i. cond (first i) (same_expression one.expression operand.expression) true && agree group one.expression operands)
    ∙ ap (λ it. same_expression one.expression it.expression && agree group one.expression operands) here
    ∙ ap (λ b. b && agree group one.expression operands) (same_itself one.expression))
comes_to_one group one (operand ∷ operands) (inr later) of_group =
    elim (is_of group operand) as (λ b. is_one (summary_of group (cond b (Some (One operand.expression)) None) operands) ≡ (cond b (same_expression one.expression operand.expression) true && agree group one.expression operands)) [
      | true ↦ stays_one group operand.expression operands ∙ agrees_first group operand.expression one operands later of_group (same_expression one.expression operand.expression) refl
      | false ↦ comes_to_one group one operands later of_group
    ]

not_differs : (b s : Bool) (rest : Bool) → not ((b && not s) || rest) ≡ (cond b s true && not rest)
not_differs true true rest = refl
not_differs true false rest = refl
not_differs false s rest = refl

-- all clauses agree exactly where none differs
none_differs : (one : Operand) (operands : List Operand) → not (list_any (differs one) operands) ≡ agree one.group one.expression operands
none_differs one [] = refl
none_differs one (operand ∷ operands) =
    not_differs (bytes_eq operand.group one.group) (same_expression one.expression operand.expression) (list_any (differs one) operands)
    ∙ (λ i. cond (sym (is_eq-slice_cmp operand.group one.group) i) (same_expression one.expression operand.expression) true && none_differs one operands i)

itself : (one : Operand) → is_of one.group one ≡ true
itself one = is_eq-slice_cmp one.group one.group ∙ (bytes_eq-Decides one.group one.group).1 refl

filter_same : (test other : Operand → Bool) (operands : List Operand) → ((one : Operand) → Among one operands → test one ≡ other one) → filter test operands ≡ filter other operands
filter_same test other [] same = refl
filter_same test other (operand ∷ operands) same =
    (λ i. cond (same operand (inl refl) i) (operand ∷ filter_same test other operands (λ one among. same one (inr among)) i) (filter_same test other operands (λ one among. same one (inr among)) i))

-- the clauses of groups that come to one expression are those of short groups
pub one_is_short : (sums : List ℕ → Option Summary) (operands : List Operand) → ((group : List ℕ) → sums group ≡ summary_of group None operands) → filter (λ one. is_one (sums one.group)) operands ≡ short_in operands
one_is_short sums operands summed =
    filter_same _ _ operands (λ one among. ap is_one (summed one.group) ∙ comes_to_one one.group one operands among (itself one) ∙ sym (none_differs one operands))

-- ---- both kinds of groups

-- the lines of the clauses of short groups of a tag, in an ontology of this name
abbrev lines_at : List ℕ → List ℕ → List Placed → List ℕ
lines_at tag name placed = map (λ one. one.line) (short_in (operands_in tag name placed))

pub both_tags : (name : List ℕ) (placed : List Placed) (first last : Option ℕ) → name ≡ space_of (map unlined placed) → first ≡ least_line None (lines_at (codes "intersection_of") name placed) → last ≡ least_line first (lines_at (codes "union_of") name placed) → last ≡ least_line None (short_lines placed)
both_tags name placed first last named first_is last_is =
    last_is
    ∙ (λ i. least_line (first_is i) (lines_at (codes "union_of") name placed))
    ∙ sym (least_line-append None (lines_at (codes "intersection_of") name placed) (lines_at (codes "union_of") name placed))
    ∙ (λ i. least_line None (lines_at (codes "intersection_of") (named i) placed ++ lines_at (codes "union_of") (named i) placed))
