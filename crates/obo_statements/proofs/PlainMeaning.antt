-- Clauses without qualifiers that have a meaning of their own: what they say, and how they are spelled, by all their
-- qualifiers.
use Rattle.std.proofs.Common.{◌≡◌, ◌||◌, ℕ, Bool, true, false, not, List, [], ◌∷◌, ◌++◌, Option, None, Some, map, refl, sym, ap, subst, ◌∙◌, inl, inr, if◌then◌else◌}
use Rattle.std.specs.List.{flat_map, list_any}
use Rattle.std.specs.Option.{option_and_then, option_map}
use Rattle.std.proofs.lemmas.Bool.{or_parts}
use Rattle.std.proofs.lemmas.Option.{none-some}
use Rattle.clause_printer.specs.Printing.{qualifier_text}
use Rattle.obo_tags.specs.declared.kind.FrameKind.{FrameKind}
use Rattle.obo_clause.specs.declared.clause.Clause.{Clause}
use Rattle.obo_clause.specs.declared.clause.Qualifier.{Qualifier}
use Rattle.owl_axioms.specs.Text.{expr_text}
use Rattle.owl_axioms.specs.declared.annotation.Side.{Side}
use Rattle.owl_axioms.specs.declared.body.Axiom.{Axiom}
use Rattle.owl_axioms.specs.declared.expr.ClassExpr.{ClassExpr}
use Rattle.text_sets.specs.Parts.{each_some, first_some}
use Rattle.text_sets.specs.Sets.{In}
use Rattle.text_sets.specs.Sorted.{sorted_by}
use Rattle.text_sets.proofs.PartLemmas.{each_some-parts, option_and_then_some, option_map_some}
use Rattle.text_sets.proofs.SortedLemmas.{sorted_by-only}
use Rattle.obo_notes.specs.Context.{Reading, Writing}
use Rattle.obo_notes.specs.Keys.{is_reserved_key, key_of, plain_text, qualifier_of, side_of_qualifier}
use Rattle.obo_notes.specs.Notes.{qualifiers_of, sorted_sides}
use Rattle.obo_notes.proofs.KeyLemmas.{key_of-back}
use Rattle.owl_axioms.specs.Classes.{class_named}
use Rattle.obo_statements.specs.Extras.{Worded, annotations_of, extras_of, worded_plainly}
use Rattle.obo_statements.specs.Values.{stated, stated_plainly, value_plainly, value_stating}
use Rattle.obo_statements.specs.Statements.{StatementRow, statement_by, statement_in, statement_meaning, statement_spelling, statements_of}
use Rattle.obo_statements.specs.Groups.{Group, expr_pair, group_expr, group_meaning, operand_of, operand_plainly, operand_read}

-- ---- qualifiers of spelled clauses have no key with a meaning of its own

key_not_reserved : (side : Side) (q : Qualifier) → qualifier_of side ≡ Some q → is_reserved_key q.key ≡ false
unfolding qualifier_of
key_not_reserved side q is =
    let key = option_and_then_some (λ key. option_map (λ text. let one : Qualifier = record { key = key; value = text } in one) (plain_text side)) (key_of side.property) q is in
    let text = option_map_some (λ text. let one : Qualifier = record { key = key.0; value = text } in one) (plain_text side) q key.2 in
    subst (λ (one : Qualifier). is_reserved_key one.key ≡ false) text.2 (key_of-back side.property key.0 key.1).1

pub any_false : {X : Type 0} (p : X → Bool) (xs : List X) → ((x : X) → In x xs → p x ≡ false) → list_any p xs ≡ false
any_false p [] each = refl
any_false p (x ∷ xs) each = (λ i. each x (inl refl) i || list_any p xs) ∙ any_false p xs (λ y here. each y (inr here))

pub no_reserved : (sides : List Side) (qualifiers : List Qualifier) → qualifiers_of sides ≡ Some qualifiers → list_any (λ (q : Qualifier). is_reserved_key q.key) qualifiers ≡ false
no_reserved sides qualifiers is =
    let found = option_map_some (sorted_by qualifier_text) (each_some qualifier_of sides) qualifiers is in
    any_false (λ (q : Qualifier). is_reserved_key q.key) qualifiers (λ q here.
    let among = sorted_by-only qualifier_text found.0 q (subst (In q) (sym found.2) here) in
    let side = each_some-parts qualifier_of sides found.0 found.1 q among in
    key_not_reserved side.0 q side.2)

-- ---- all qualifiers are annotations

if_false : {X : Type 0} (b : Bool) (x y : X) → b ≡ false → (if b then x else y) ≡ y
if_false b x y is = λ i. if is i then x else y

pub no_extras : (qualifiers : List Qualifier) → list_any (λ (q : Qualifier). is_reserved_key q.key) qualifiers ≡ false → extras_of qualifiers ≡ []
no_extras [] free = refl
no_extras (q ∷ qualifiers) free =
    let parts = or_parts (is_reserved_key q.key) (list_any (λ (one : Qualifier). is_reserved_key one.key) qualifiers) free in
    if_false (is_reserved_key q.key) (q ∷ extras_of qualifiers) (extras_of qualifiers) parts.0 ∙ no_extras qualifiers parts.1

one_more : (b : Bool) (q : Qualifier) (extras others qualifiers : List Qualifier) → (if b then q ∷ extras else extras) ≡ [] → (extras ≡ [] → map side_of_qualifier others ≡ map side_of_qualifier qualifiers)
    → map side_of_qualifier (if not b then q ∷ others else others) ≡ side_of_qualifier q ∷ map side_of_qualifier qualifiers
one_more true q extras others qualifiers is rest = let h : q ∷ extras ≡ [] = is in absurd (cc)
one_more false q extras others qualifiers is rest = ap (λ more. side_of_qualifier q ∷ more) (rest is)

pub all_annotations : (qualifiers : List Qualifier) → extras_of qualifiers ≡ [] → annotations_of qualifiers ≡ map side_of_qualifier qualifiers
all_annotations [] none = refl
all_annotations (q ∷ qualifiers) none =
    one_more (is_reserved_key q.key) q (extras_of qualifiers) (Rattle.std.specs.Prelude.filter (λ (one : Qualifier). not (is_reserved_key one.key)) qualifiers) qualifiers none (all_annotations qualifiers)

-- ---- statements

abbrev pub plain_meaning : Reading → FrameKind → List ℕ → Clause → Option Axiom
plain_meaning reading kind x clause =
    option_map (λ said. record { body = said; sides = sorted_sides (map side_of_qualifier clause.qualifiers) })
    (option_and_then (λ statement. stated_plainly reading x statement clause.value) (first_some (statement_in clause.tag) (statements_of kind)))

abbrev pub plain_by : Writing → List ℕ → Axiom → StatementRow → Option Clause
plain_by writing x one row =
    option_and_then (λ v. option_map (λ qualifiers. record { tag = row.tag; value = v; qualifiers = qualifiers }) (qualifiers_of one.sides))
    (value_plainly writing x row.statement one.body)

abbrev pub plain_spelling : Writing → FrameKind → List ℕ → Axiom → Option Clause
plain_spelling writing kind x one = first_some (plain_by writing x one) (statements_of kind)

never : {X Y Z : Type 0} (f : Y → Z) (o : Option X) (z : Z) → option_map f (option_and_then (λ (x : X). let none : Option Y = None in none) o) ≡ Some z → ⊥
never f None z is = none-some z is
never f (Some x) z is = none-some z is

pub meaning_is_plain : (reading : Reading) (kind : FrameKind) (x : List ℕ) (clause : Clause) → extras_of clause.qualifiers ≡ [] → statement_meaning reading kind x clause ≡ plain_meaning reading kind x clause
unfolding statement_meaning stated
meaning_is_plain reading kind x clause none =
    let sides = all_annotations clause.qualifiers none in
    λ i. option_map (λ said. record { body = said; sides = sorted_sides (sides i) })
    (option_and_then (λ statement. stated reading x statement (none i) clause.value) (first_some (statement_in clause.tag) (statements_of kind)))

pub meant_plainly : (reading : Reading) (kind : FrameKind) (x : List ℕ) (clause : Clause) (a : Axiom) → statement_meaning reading kind x clause ≡ Some a → plain_meaning reading kind x clause ≡ Some a
unfolding statement_meaning stated
meant_plainly reading kind x clause a is = by_extras (extras_of clause.qualifiers) refl is
  where
    by_extras : (extras : List Qualifier) → extras_of clause.qualifiers ≡ extras
        → option_map (λ said. let one : Axiom = record { body = said; sides = sorted_sides (annotations_of clause.qualifiers) } in one) (option_and_then (λ statement. stated reading x statement extras clause.value) (first_some (statement_in clause.tag) (statements_of kind))) ≡ Some a
        → plain_meaning reading kind x clause ≡ Some a
    by_extras [] none says = sym (meaning_is_plain reading kind x clause none) ∙ is
    by_extras (extra ∷ extras) some says =
        absurd (never (λ said. let one : Axiom = record { body = said; sides = sorted_sides (annotations_of clause.qualifiers) } in one) (first_some (statement_in clause.tag) (statements_of kind)) a says)

then_map : {X Y Z : Type 0} (f : Y → Option Z) (g : X → Y) (o : Option X) → option_and_then f (option_map g o) ≡ option_and_then (λ x. f (g x)) o
then_map f g None = refl
then_map f g (Some x) = refl

row_is_plain : (writing : Writing) (x : List ℕ) (one : Axiom) (row : StatementRow) → statement_by writing x one row ≡ plain_by writing x one row
unfolding value_stating
row_is_plain writing x one row =
    then_map (λ (worded : Worded). option_map (λ qualifiers. let c : Clause = record { tag = row.tag; value = worded.value; qualifiers = qualifiers } in c) (Rattle.obo_statements.specs.Extras.qualifiers_with worded.extras one.sides))
    worded_plainly (value_plainly writing x row.statement one.body)

pub spelling_is_plain : (writing : Writing) (kind : FrameKind) (x : List ℕ) (one : Axiom) → statement_spelling writing kind x one ≡ plain_spelling writing kind x one
unfolding statement_spelling
spelling_is_plain writing kind x one = λ i. first_some (λ row. row_is_plain writing x one row i) (statements_of kind)

-- ---- groups

abbrev pub plain_operand : Reading → Group → Clause → Option ClassExpr
plain_operand reading group clause = operand_plainly reading group clause.value

abbrev pub plain_group : Reading → List ℕ → Group → List Clause → Option Axiom
plain_group reading x group clauses =
    option_map (λ operands. record {
      body = expr_pair (class_named x) (group_expr group (sorted_by expr_text operands));
      sides = sorted_sides (flat_map (λ (clause : Clause). map side_of_qualifier clause.qualifiers) clauses);
    }) (each_some (plain_operand reading group) clauses)

abbrev all_of : Clause → List Side
all_of clause = map side_of_qualifier clause.qualifiers

abbrev noted_of : Clause → List Side
noted_of clause = annotations_of clause.qualifiers

abbrev HasNoExtras : Clause → Type 0
HasNoExtras clause = extras_of clause.qualifiers ≡ []

operand_is_plain : (reading : Reading) (group : Group) (clause : Clause) → HasNoExtras clause → operand_of reading group clause ≡ plain_operand reading group clause
unfolding operand_read
operand_is_plain reading group clause none = λ i. operand_read reading group (none i) clause.value

operand_plain : (reading : Reading) (group : Group) (clause : Clause) (e : ClassExpr) → operand_of reading group clause ≡ Some e → HasNoExtras clause
unfolding operand_read
operand_plain reading group clause e is = by_extras (extras_of clause.qualifiers) is
  where
    by_extras : (extras : List Qualifier) → operand_read reading group extras clause.value ≡ Some e → extras ≡ []
    by_extras [] says = refl
    by_extras (extra ∷ extras) says = absurd (none-some e says)

each_plain : (reading : Reading) (group : Group) (clauses : List Clause) (operands : List ClassExpr) → each_some (operand_of reading group) clauses ≡ Some operands → (clause : Clause) → In clause clauses → HasNoExtras clause
each_plain reading group clauses operands is clause here =
    let e = Rattle.text_sets.proofs.PartLemmas.each_some-items (operand_of reading group) clauses operands is clause here in
    operand_plain reading group clause e.0 e.2

operands_plain : (reading : Reading) (group : Group) (clauses : List Clause) → ((clause : Clause) → In clause clauses → HasNoExtras clause) → each_some (operand_of reading group) clauses ≡ each_some (plain_operand reading group) clauses
operands_plain reading group [] none = refl
operands_plain reading group (clause ∷ clauses) none =
    let one = operand_is_plain reading group clause (none clause (inl refl)) in
    let rest = operands_plain reading group clauses (λ c here. none c (inr here)) in
    λ i. option_and_then (λ y. option_map (λ ys. y ∷ ys) (rest i)) (one i)

sides_plain : (clauses : List Clause) → ((clause : Clause) → In clause clauses → HasNoExtras clause) → flat_map noted_of clauses ≡ flat_map all_of clauses
sides_plain [] none = refl
sides_plain (clause ∷ clauses) none =
    let one = all_annotations clause.qualifiers (none clause (inl refl)) in
    let rest = sides_plain clauses (λ c here. none c (inr here)) in
    λ i. one i ++ rest i

pub group_is_plain : (reading : Reading) (x : List ℕ) (group : Group) (clauses : List Clause) → ((clause : Clause) → In clause clauses → HasNoExtras clause) → group_meaning reading x group clauses ≡ plain_group reading x group clauses
unfolding group_meaning
group_is_plain reading x group clauses none =
    let operands = operands_plain reading group clauses none in
    let sides = sides_plain clauses none in
    λ i. option_map (λ operands. record {
      body = expr_pair (class_named x) (group_expr group (sorted_by expr_text operands));
      sides = sorted_sides (sides i);
    }) (operands i)

pub grouped_plainly : (reading : Reading) (x : List ℕ) (group : Group) (clauses : List Clause) (a : Axiom) → group_meaning reading x group clauses ≡ Some a → plain_group reading x group clauses ≡ Some a
unfolding group_meaning
grouped_plainly reading x group clauses a is =
    let made = option_map_some _ (each_some (operand_of reading group) clauses) a is in
    sym (group_is_plain reading x group clauses (each_plain reading group clauses made.0 made.1)) ∙ is
