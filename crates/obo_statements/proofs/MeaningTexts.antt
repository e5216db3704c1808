-- What clauses say is proper, so that the texts of annotations and operands tell them; and what a qualifier with a meaning
-- of its own leaves.
use Rattle.std.proofs.Common.{◌≡◌, ◌||◌, ℕ, Bool, true, false, not, List, [], ◌∷◌, None, Some, if◌then◌else◌, refl, sym, ap, subst, ◌∙◌}
use Rattle.std.specs.List.{flat_map, list_any}
use Rattle.std.specs.Prelude.{filter}
use Rattle.std.proofs.lemmas.Bool.{and_from}
use Rattle.std.proofs.lemmas.Option.{none-some, same_Some}
use Rattle.rel_io.specs.Texts.{is_clean_iri}
use Rattle.obo_clause.specs.declared.clause.Clause.{Clause}
use Rattle.obo_clause.specs.declared.clause.Qualifier.{Qualifier}
use Rattle.obo_clause.specs.declared.clause.Value.{Value}
use Rattle.obo_clause.specs.declared.clause.Value.TheVariants as value
use Rattle.owl_axioms.specs.Proper.{is_proper_expr, proper_step}
use Rattle.owl_axioms.specs.Text.{expr_text, side_text}
use Rattle.owl_axioms.specs.declared.annotation.Side.{Side}
use Rattle.owl_axioms.specs.declared.expr.ClassExpr.{ClassExpr}
use Rattle.owl_axioms.specs.declared.expr.ClassExpr.TheOpen.{ClassExpr-F}
use Rattle.owl_axioms.specs.declared.expr.ClassExpr.TheFolds.{para-roll-ClassExpr}
use Rattle.owl_axioms.specs.declared.expr.ClassExpr.TheViews.{roll-ClassExpr}
use Rattle.owl_axioms.specs.declared.expr.ClassExpr.TheVariants as expr
use Rattle.owl_axioms.proofs.NamedClasses.{is_proper-named}
use Rattle.owl_axioms.proofs.TellingTexts.{expr_told}
use Rattle.text_sets.specs.Parts.{each_some}
use Rattle.text_sets.specs.Sets.{AreTold, In}
use Rattle.text_sets.proofs.PartLemmas.{each_some-parts}
use Rattle.text_sets.proofs.SetLemmas.{In-from_flat_map, In-from_map}
use Rattle.obo_notes.specs.Context.{Reading, reading_in}
use Rattle.obo_notes.specs.Keys.{is_reserved_key, side_of_qualifier}
use Rattle.obo_notes.proofs.ContextLemmas.{Agree-in}
use Rattle.obo_notes.proofs.ProperSides.{clean_url, qualifier_proper}
use Rattle.obo_notes.proofs.SideTexts.{text_tells_side}
use Rattle.obo_statements.specs.Classes.{class_read}
use Rattle.obo_statements.specs.Extras.{annotations_of, extras_of}
use Rattle.obo_statements.specs.Groups.{Group, intersection, operand_of, operand_plainly, operand_read}
use Rattle.obo_statements.specs.Restrictions.{restriction}
use Rattle.obo_statements.specs.Values.{Statement, stated, stated_plainly}
use Rattle.obo_statements.proofs.PlainMeaning.{no_extras}

-- ---- qualifiers that have a meaning of their own

pub record HasExtra (extras : List Qualifier) : Type 0 where
  pub extra : Qualifier
  pub more : List Qualifier
  pub is : extras ≡ extra ∷ more

has_extra : (qualifiers : List Qualifier) → list_any (λ (q : Qualifier). is_reserved_key q.key) qualifiers ≡ true → HasExtra (extras_of qualifiers)
has_extra [] is = let h : false ≡ true = is in absurd (cc)
has_extra (q ∷ qualifiers) is =
    elim (is_reserved_key q.key) as (λ b. b || list_any (λ (one : Qualifier). is_reserved_key one.key) qualifiers ≡ true → HasExtra (if b then q ∷ extras_of qualifiers else extras_of qualifiers)) [
      | true ↦ λ _. record { extra = q; more = extras_of qualifiers; is = refl }
      | false ↦ λ later. has_extra qualifiers later
    ] is

-- with one a value says nothing, and without one what it says plainly
pub nothing_stated : (reading : Reading) (x : List ℕ) (s : Statement) (qualifiers : List Qualifier) (v : Value) → list_any (λ (q : Qualifier). is_reserved_key q.key) qualifiers ≡ true → None ≡ stated reading x s (extras_of qualifiers) v
unfolding stated
nothing_stated reading x s qualifiers v is = let has = has_extra qualifiers is in sym (ap (λ extras. stated reading x s extras v) has.is)

pub plainly_stated : (reading : Reading) (x : List ℕ) (s : Statement) (qualifiers : List Qualifier) (v : Value) → list_any (λ (q : Qualifier). is_reserved_key q.key) qualifiers ≡ false → stated_plainly reading x s v ≡ stated reading x s (extras_of qualifiers) v
unfolding stated
plainly_stated reading x s qualifiers v isnt = sym (ap (λ extras. stated reading x s extras v) (no_extras qualifiers isnt))

pub nothing_meant : (reading : Reading) (group : Group) (clause : Clause) → list_any (λ (q : Qualifier). is_reserved_key q.key) clause.qualifiers ≡ true → None ≡ operand_of reading group clause
unfolding operand_read
nothing_meant reading group clause is = let has = has_extra clause.qualifiers is in sym (ap (λ extras. operand_read reading group extras clause.value) has.is)

pub plainly_meant : (reading : Reading) (group : Group) (clause : Clause) → list_any (λ (q : Qualifier). is_reserved_key q.key) clause.qualifiers ≡ false → operand_plainly reading group clause.value ≡ operand_of reading group clause
unfolding operand_read
plainly_meant reading group clause isnt = sym (ap (λ extras. operand_read reading group extras clause.value) (no_extras clause.qualifiers isnt))

-- ---- annotations are told by their texts

annotation_proper : (qualifiers : List Qualifier) (side : Side) → In side (annotations_of qualifiers) → Rattle.obo_notes.proofs.ProperSides.IsProperSide side
annotation_proper qualifiers side here =
    let found = In-from_map side_of_qualifier side (filter (λ (one : Qualifier). not (is_reserved_key one.key)) qualifiers) here in
    subst Rattle.obo_notes.proofs.ProperSides.IsProperSide found.2 (qualifier_proper found.0)

pub annotations_told : (qualifiers : List Qualifier) → AreTold side_text (annotations_of qualifiers)
annotations_told qualifiers x y here there same = text_tells_side x y (annotation_proper qualifiers x here) (annotation_proper qualifiers y there) same

pub all_annotations_told : (clauses : List Clause) → AreTold side_text (flat_map (λ (clause : Clause). annotations_of clause.qualifiers) clauses)
all_annotations_told clauses x y here there same = text_tells_side x y (proper x here) (proper y there) same
  where
    proper : (side : Side) → In side (flat_map (λ (clause : Clause). annotations_of clause.qualifiers) clauses) → Rattle.obo_notes.proofs.ProperSides.IsProperSide side
    proper side among = let found = In-from_flat_map (λ (clause : Clause). annotations_of clause.qualifiers) side clauses among in annotation_proper found.0.qualifiers side found.2

-- ---- operands are proper

some_proper : (r : List ℕ) (c : ClassExpr) → is_clean_iri r ≡ true → is_proper_expr c ≡ true → is_proper_expr (expr.Some r c) ≡ true
unfolding is_proper_expr proper_step roll-ClassExpr denote.Hole.Carrier.roll
some_proper r c clean proper = para-roll-ClassExpr Bool proper_step (ClassExpr-F.Some r c) ∙ and_from (is_clean_iri r) (is_proper_expr c) clean proper

clean_in : (space id : List ℕ) → is_clean_iri ((reading_in space).iri id) ≡ true
clean_in space id = subst (λ i. is_clean_iri i ≡ true) ((Agree-in space).clean id).1 (clean_url ((reading_in space).iri id))

class_proper : (space id : List ℕ) → is_proper_expr (class_read (reading_in space) id) ≡ true
class_proper space id = is_proper-named ((reading_in space).iri id) (clean_in space id)

restriction_proper : (space role id : List ℕ) → is_proper_expr (restriction (reading_in space) role id) ≡ true
unfolding restriction
restriction_proper space role id = some_proper ((reading_in space).role_iri role) (class_read (reading_in space) id) (clean_in space role) (class_proper space id)

plain_proper : (space : List ℕ) (group : Group) (v : Value) (e : ClassExpr) → operand_plainly (reading_in space) group v ≡ Some e → is_proper_expr e ≡ true
plain_proper space group (value.Id id) e is = subst (λ x. is_proper_expr x ≡ true) (same_Some _ e is) (class_proper space id)
plain_proper space intersection (value.Pair role id) e is = subst (λ x. is_proper_expr x ≡ true) (same_Some _ e is) (restriction_proper space role id)
plain_proper space _ _ e is = absurd (none-some e is)

read_proper : (space : List ℕ) (group : Group) (extras : List Qualifier) (v : Value) (e : ClassExpr) → operand_read (reading_in space) group extras v ≡ Some e → is_proper_expr e ≡ true
unfolding operand_read
read_proper space group [] v e is = plain_proper space group v e is
read_proper space group (extra ∷ extras) v e is = absurd (none-some e is)

pub operands_told : (space : List ℕ) (group : Group) (clauses : List Clause) (es : List ClassExpr) → each_some (operand_of (reading_in space) group) clauses ≡ Some es → AreTold expr_text es
operands_told space group clauses es is x y here there same = expr_told x y (proper x here) (proper y there) same
  where
    proper : (e : ClassExpr) → In e es → is_proper_expr e ≡ true
    proper e among = let found = each_some-parts (operand_of (reading_in space) group) clauses es is e among in read_proper space group (extras_of found.0.qualifiers) found.0.value e found.2
