-- Of a clause that some line spells, what is printed of dbxrefs and of settled qualifiers tells them.
use Rattle.std.proofs.Common.{ℕ, List, Option, map, All, subst}
use Rattle.std.specs.Coded.{Coded-set}
use Rattle.std.proofs.Math.Logic.{∥∥₁_elim, ∥∥₁_map}
use Rattle.clause_printer.specs.Printing.{qualifier_text, xref_text}
use Rattle.clause_printer.proofs.SpelledFits.{spelled_fits}
use Rattle.obo_tags.specs.declared.kind.ValueShape.{ValueShape}
use Rattle.obo_tags.specs.declared.kind.ValueShape.TheVariants as shapes
use Rattle.obo_clause.specs.Fits.{FitsQualifier, FitsShape, FitsXref}
use Rattle.obo_clause.specs.Spelled.{CanBeSpelled}
use Rattle.obo_clause.specs.Spelling.{shape_at}
use Rattle.obo_clause.specs.declared.clause.Clause.{Clause}
use Rattle.obo_clause.specs.declared.clause.Qualifier.{Qualifier}
use Rattle.obo_clause.specs.declared.clause.Scope.{Scope}
use Rattle.obo_clause.specs.declared.clause.Value.{Value}
use Rattle.obo_clause.specs.declared.clause.Value.TheVariants as value
use Rattle.obo_clause.specs.declared.clause.Xref.{Xref}
use Rattle.obo_clause.specs.contracts.clause.Qualifier as qualifiers
use Rattle.obo_clause.specs.contracts.clause.Xref as xrefs
use Rattle.text_sets.specs.Sets.{AreTold, In}
use Rattle.text_sets.proofs.SetLemmas.{In-from_map}
use Rattle.obo_notes.proofs.NoteLaws.{same_qualifier}
use Rattle.obo_notes.proofs.PartCovers.{All-In}
use Rattle.obo_notes.proofs.XrefLists.{same_xref}
use Rattle.obo_mapping.specs.Documents.{settled_qualifier}
use Rattle.obo_normal_form.proofs.SettleLaws.{fits_quals, settled_fits}
use Rattle.obo_canonical.specs.inner.Settled.{XrefsAreTold}

xrefs_told : (xs : List Xref) → All FitsXref xs → AreTold xref_text xs
xrefs_told xs fits x y here there same = same_xref x y (All-In FitsXref xs x fits here) (All-In FitsXref xs y fits there) same

settled_told : (qs : List Qualifier) → ((q : Qualifier) → In q qs → FitsQualifier q) → AreTold qualifier_text (map settled_qualifier qs)
settled_told qs fits a b here there same =
    let x = In-from_map settled_qualifier a qs here in
    let y = In-from_map settled_qualifier b qs there in
    same_qualifier a b (subst FitsQualifier x.2 (settled_fits x.0 (fits x.0 x.1))) (subst FitsQualifier y.2 (settled_fits y.0 (fits y.0 y.1))) same

def_told : (shape : ValueShape) (text : List ℕ) (xs : List Xref) → FitsShape shape (value.Def text xs) → AreTold xref_text xs
def_told shapes.Def text xs fits = xrefs_told xs fits.1
def_told _ text xs fits = absurd fits

synonym_told : (shape : ValueShape) (text : List ℕ) (scope : Scope) (type : Option (List ℕ)) (xs : List Xref) → FitsShape shape (value.Synonym text scope type xs) → AreTold xref_text xs
synonym_told shapes.Synonym text scope type xs fits = xrefs_told xs fits.2
synonym_told _ text scope type xs fits = absurd fits

-- the value fits some shape
record HasShape (v : Value) : Type 0 where
  shape : ValueShape
  fits : FitsShape shape v

value_told : (v : Value) → ∥ HasShape v ∥₁ → XrefsAreTold v
value_told (value.Def text xs) has = λ x y here there same.
    ∥∥₁_elim has (Coded-set xrefs.the_row.coded x y) (λ is. def_told is.shape text xs is.fits x y here there same)
value_told (value.Synonym text scope type xs) has = λ x y here there same.
    ∥∥₁_elim has (Coded-set xrefs.the_row.coded x y) (λ is. synonym_told is.shape text scope type xs is.fits x y here there same)
value_told _ has = tt

pub xrefs_are_told : (clause : Clause) → CanBeSpelled clause → XrefsAreTold clause.value
xrefs_are_told clause can =
    value_told clause.value (∥∥₁_map can (λ is.
    let spelled = is.spelled in
    let fits = spelled_fits is.kind spelled.first clause spelled.spelled in
    record { shape = shape_at is.kind spelled.first clause.tag; fits = fits.value }))

pub qualifiers_are_told : (clause : Clause) → CanBeSpelled clause → AreTold qualifier_text (map settled_qualifier clause.qualifiers)
qualifiers_are_told clause can a b here there same =
    ∥∥₁_elim can (Coded-set qualifiers.the_row.coded a b) (λ is.
    let spelled = is.spelled in
    let fits = spelled_fits is.kind spelled.first clause spelled.spelled in
    settled_told clause.qualifiers (fits_quals (shape_at is.kind spelled.first clause.tag) clause.qualifiers fits.qualifiers) a b here there same)
