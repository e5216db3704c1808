-- A clause that a line spells is foreign exactly where its tag has no shape of its own.
use Rattle.std.proofs.Common.{◌≡◌, ◌↔◌, ℕ, Bool, IsTrue, true, false, List, refl, sym, ap, ◌∙◌}
use Rattle.obo_tags.specs.declared.kind.FrameKind.{FrameKind}
use Rattle.obo_tags.specs.declared.kind.ValueShape.{ValueShape}
use Rattle.obo_tags.specs.declared.kind.ValueShape.TheVariants.{Raw}
use Rattle.obo_clause.specs.declared.clause.Clause.{Clause}
use Rattle.obo_clause.specs.declared.clause.Qualifier.{Qualifier}
use Rattle.obo_clause.specs.declared.clause.Value.{Value}
use Rattle.obo_clause.specs.declared.mark.MarkedByte.{MarkedByte}
use Rattle.obo_clause.specs.Foreign.{is_foreign, is_raw}
use Rattle.obo_clause.specs.Spelled.{IsSpelledAs}
use Rattle.obo_clause.specs.Spelling.{IsQualifiedValue, IsValue, shape_at}
use Rattle.obo_clause.specs.Spelling as spelling

abbrev is_raw_shape : ValueShape → Bool
is_raw_shape Raw = true
is_raw_shape _ = false

shaped_value : (behind : List MarkedByte) (shape : ValueShape) (marks : List MarkedByte) (one : Value) → IsValue behind shape marks one → is_raw one ≡ is_raw_shape shape
shaped_value behind _ _ _ (spelling.IsValue.text _ _ _) = refl
shaped_value behind _ _ _ (spelling.IsValue.id _ _ _) = refl
shaped_value behind _ _ _ (spelling.IsValue.pair _ _ _ _ _ _ _ _ _) = refl
shaped_value behind _ _ _ (spelling.IsValue.class _ _ _) = refl
shaped_value behind _ _ _ (spelling.IsValue.restriction _ _ _ _ _ _ _ _ _) = refl
shaped_value behind _ _ _ (spelling.IsValue.truth _ _ _) = refl
shaped_value behind _ _ _ (spelling.IsValue.definition _ _ _ _ _ _) = refl
shaped_value behind _ _ _ (spelling.IsValue.synonym _ _ _ _ _ _ _ _ _ _) = refl
shaped_value behind _ _ _ (spelling.IsValue.xref _ _ _ _ _ _ _ _ _) = refl
shaped_value behind _ _ _ (spelling.IsValue.literal _ _ _ _ _ _ _ _ _ _ _) = refl
shaped_value behind _ _ _ (spelling.IsValue.link _ _ _ _ _ _ _ _ _) = refl
shaped_value behind _ _ _ (spelling.IsValue.subset _ _ _ _ _ _ _ _) = refl
shaped_value behind _ _ _ (spelling.IsValue.synonym_type _ _ _ _ _ _ _ _ _ _ _) = refl

raw_value : (shape : ValueShape) (bytes : List ℕ) (one : Value) (qualifiers : List Qualifier) → IsQualifiedValue shape bytes one qualifiers → is_raw one ≡ is_raw_shape shape
raw_value _ _ _ _ (spelling.IsQualifiedValue.raw _ _ _ _ _ _) = refl
raw_value _ _ _ _ (spelling.IsQualifiedValue.shaped shape _ _ marks between ending one _ _ _ is _ _) = shaped_value _ shape marks one is

raw_from : (shape : ValueShape) → is_raw_shape shape ≡ true → shape ≡ Raw
raw_from Raw is = refl
raw_from _ is = cc

pub foreign_if_raw : (kind : FrameKind) (first : Bool) (clause : Clause) → IsSpelledAs kind first clause → (IsTrue (is_foreign clause) ↔ (shape_at kind first clause.tag ≡ Raw))
foreign_if_raw kind first clause spelled =
    let shape = shape_at kind first clause.tag in
    let same = raw_value shape spelled.spells.rest clause.value clause.qualifiers spelled.spells.valued in
    (λ foreign. raw_from shape (sym same ∙ foreign), λ raw. same ∙ ap is_raw_shape raw)
