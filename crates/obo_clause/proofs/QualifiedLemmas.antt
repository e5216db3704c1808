-- What stands behind the colon of a clause line, by the shape of its value: read as what it says, or refused for what is wrong.
use Rattle.std.proofs.Common.{◌≡◌, ℕ, List, [], ◌++◌, Ok, Err, refl, sym, ap, subst, ◌∙◌}
use Rattle.std.specs.List.{AllPass}
use Rattle.std.proofs.lemmas.List.{append_assoc}
use Rattle.obo_lexer.specs.Tokens.{is_blank}
use Rattle.obo_tags.specs.declared.kind.ValueShape.{ValueShape}
use Rattle.obo_tags.specs.declared.kind.ValueShape.TheVariants as shapes
use Rattle.obo_clause.specs.declared.clause.Qualifier.{Qualifier}
use Rattle.obo_clause.specs.declared.clause.Value.{Value}
use Rattle.obo_clause.specs.declared.clause.Value.TheVariants as value
use Rattle.obo_clause.specs.declared.line.SyntaxKind.{SyntaxKind}
use Rattle.obo_clause.specs.declared.clause.QualifiedValue.{QualifiedValue}
use Rattle.obo_clause.specs.Faults.{ValueFails}
use Rattle.obo_clause.specs.Grammar.{IsTrimmed}
use Rattle.obo_clause.specs.Marks.{MarkedByte, marks_of}
use Rattle.obo_clause.specs.Reading.{behind, front, trim}
use Rattle.obo_clause.specs.ReadingLines.{qualified_value, read_raw, read_shape}
use Rattle.obo_clause.specs.Spelling.{IsQualifiedValue, IsValue}
use Rattle.obo_clause.proofs.FaultLemmas.{bool-refuses, bool-wrong, definition-refuses, definition-wrong, id-refuses, id-wrong, id_or_pair-refuses, id_or_pair-wrong, pair-refuses, pair-wrong, property-refuses, property-wrong, subset-refuses, subset-wrong, synonym-refuses, synonym-wrong, synonym_type-refuses, synonym_type-wrong}
use Rattle.obo_clause.proofs.RunLemmas.{run-passes, run-stops, run-whole, trim-run, trimmed-run, trims}
use Rattle.obo_clause.proofs.ValuesFound.{Reads, bool-reads, definition-reads, id-reads, id_or_pair-reads, pair-reads, property-reads, subset-reads, synonym-reads, synonym_type-reads, text-reads, xref-reads}
use Rattle.obo_clause.proofs.ValuesRead.{read_marks, value-is}
use Rattle.obo_clause.proofs.WordLemmas.{same-ok}
use Rattle.obo_clause.proofs.XrefFaults.{text-never, xref-refuses, xref-wrong}

-- bytes with their trimmed middle
pub record Around (bytes : List ℕ) : Type 0 where
  pub before : List ℕ
  pub after : List ℕ
  pub whole : bytes ≡ before ++ (trim is_blank bytes ++ after)
  pub blank_before : AllPass is_blank before
  pub blank_after : AllPass is_blank after
  pub trimmed : IsTrimmed ℕ is_blank (trim is_blank bytes)

pub around : (bytes : List ℕ) → Around bytes
around bytes =
    let rest = behind is_blank bytes in
    let t = trims is_blank rest in
    record {
      before = front is_blank bytes;
      after = t.blanks;
      whole = sym (run-whole is_blank bytes) ∙ ap (λ l. front is_blank bytes ++ l) t.whole;
      blank_before = run-passes is_blank bytes;
      blank_after = t.blank;
      trimmed = trimmed-run is_blank rest (run-stops is_blank bytes);
    }

raw-found : (bytes : List ℕ) (one : QualifiedValue) → read_raw bytes ≡ Ok one → IsQualifiedValue shapes.Raw bytes one.value one.qualifiers
raw-found bytes one h =
    let a = around bytes in
    let whole : bytes ≡ a.before ++ trim is_blank bytes ++ a.after = a.whole ∙ sym (append_assoc a.before (trim is_blank bytes) a.after) in
    subst (λ (c : QualifiedValue). IsQualifiedValue shapes.Raw bytes c.value c.qualifiers) (same-ok (qualified_value (value.Raw (trim is_blank bytes)) []) one h)
    (subst (λ (l : List ℕ). IsQualifiedValue shapes.Raw l (value.Raw (trim is_blank bytes)) []) (sym whole) (IsQualifiedValue.raw a.before (trim is_blank bytes) a.after a.blank_before a.trimmed a.blank_after))

shaped-found : (shape : ValueShape) (bytes : List ℕ) (one : QualifiedValue) → Reads shape (marks_of bytes) one → IsQualifiedValue shape bytes one.value one.qualifiers
shaped-found shape bytes one r =
    IsQualifiedValue.shaped shape bytes r.before r.marks_read r.between r.ending one.value one.qualifiers (r.whole ∙ simp append_assoc) r.blank_before r.is r.blank_between r.ended

pub qualified_value-found : (shape : ValueShape) (bytes : List ℕ) (one : QualifiedValue) → read_shape shape bytes ≡ Ok one → IsQualifiedValue shape bytes one.value one.qualifiers
qualified_value-found shapes.Text bytes one h = shaped-found shapes.Text bytes one (text-reads (marks_of bytes) one h)
qualified_value-found shapes.Id bytes one h = shaped-found shapes.Id bytes one (id-reads (marks_of bytes) one h)
qualified_value-found shapes.Pair bytes one h = shaped-found shapes.Pair bytes one (pair-reads (marks_of bytes) one h)
qualified_value-found shapes.IdOrPair bytes one h = shaped-found shapes.IdOrPair bytes one (id_or_pair-reads (marks_of bytes) one h)
qualified_value-found shapes.Bool bytes one h = shaped-found shapes.Bool bytes one (bool-reads (marks_of bytes) one h)
qualified_value-found shapes.Def bytes one h = shaped-found shapes.Def bytes one (definition-reads (marks_of bytes) one h)
qualified_value-found shapes.Synonym bytes one h = shaped-found shapes.Synonym bytes one (synonym-reads (marks_of bytes) one h)
qualified_value-found shapes.XrefShape bytes one h = shaped-found shapes.XrefShape bytes one (xref-reads (marks_of bytes) one h)
qualified_value-found shapes.Property bytes one h = shaped-found shapes.Property bytes one (property-reads (marks_of bytes) one h)
qualified_value-found shapes.SubsetDef bytes one h = shaped-found shapes.SubsetDef bytes one (subset-reads (marks_of bytes) one h)
qualified_value-found shapes.SynonymDef bytes one h = shaped-found shapes.SynonymDef bytes one (synonym_type-reads (marks_of bytes) one h)
qualified_value-found shapes.Raw bytes one h = raw-found bytes one h

-- a value has a shape that is read by its marks
by-marks : (behind : List MarkedByte) (shape : ValueShape) (marks : List MarkedByte) (one : Value) (bytes : List ℕ) → IsValue behind shape marks one → read_shape shape bytes ≡ read_marks shape (marks_of bytes)
by-marks behind _ _ _ bytes (IsValue.text marks text is) = refl
by-marks behind _ _ _ bytes (IsValue.id marks word is) = refl
by-marks behind _ _ _ bytes (IsValue.pair marks blanks others first second one some spaces two) = refl
by-marks behind _ _ _ bytes (IsValue.class marks word is) = refl
by-marks behind _ _ _ bytes (IsValue.restriction marks blanks others first second one some spaces two) = refl
by-marks behind _ _ _ bytes (IsValue.truth marks truth is) = refl
by-marks behind _ _ _ bytes (IsValue.definition marks more text xrefs q are) = refl
by-marks behind _ _ _ bytes (IsValue.synonym marks scopes more text one type xrefs q said are) = refl
by-marks behind _ _ _ bytes (IsValue.xref marks blanks more one some each is spaces label) = refl
by-marks behind _ _ _ bytes (IsValue.literal marks blanks texts more relation text datatype is spaces q m) = refl
by-marks behind _ _ _ bytes (IsValue.link marks blanks others relation target one some spaces two) = refl
by-marks behind _ _ _ bytes (IsValue.subset marks blanks texts id text is spaces q) = refl
by-marks behind _ _ _ bytes (IsValue.synonym_type marks blanks texts more id text one is spaces q s) = refl

pub qualified_value-is : (shape : ValueShape) (bytes : List ℕ) (one : Value) (qualifiers : List Qualifier) → IsQualifiedValue shape bytes one qualifiers → read_shape shape bytes ≡ Ok (qualified_value one qualifiers)
qualified_value-is _ _ _ _ (IsQualifiedValue.raw before text after blank trimmed last) =
    ap (λ l. Ok (qualified_value (value.Raw l) [])) (ap (trim is_blank) (append_assoc before text after) ∙ trim-run is_blank before text after blank trimmed last)
qualified_value-is _ _ _ _ (IsQualifiedValue.shaped shape bytes before marks between ending one qualifiers whole blank is spaces ended) =
    by-marks (between ++ ending) shape marks one bytes is
    ∙ (ap (read_marks shape) (whole ∙ simp append_assoc) ∙ value-is between ending qualifiers spaces ended before blank shape marks one is)

pub qualified_value-wrong : (shape : ValueShape) (bytes : List ℕ) (one : SyntaxKind) → read_shape shape bytes ≡ Err one → ValueFails shape (marks_of bytes) one
qualified_value-wrong shapes.Text bytes one h = text-never (marks_of bytes) one h
qualified_value-wrong shapes.Id bytes one h = id-wrong (marks_of bytes) one h
qualified_value-wrong shapes.Pair bytes one h = pair-wrong (marks_of bytes) one h
qualified_value-wrong shapes.IdOrPair bytes one h = id_or_pair-wrong (marks_of bytes) one h
qualified_value-wrong shapes.Bool bytes one h = bool-wrong (marks_of bytes) one h
qualified_value-wrong shapes.Def bytes one h = definition-wrong (marks_of bytes) one h
qualified_value-wrong shapes.Synonym bytes one h = synonym-wrong (marks_of bytes) one h
qualified_value-wrong shapes.XrefShape bytes one h = xref-wrong (marks_of bytes) one h
qualified_value-wrong shapes.Property bytes one h = property-wrong (marks_of bytes) one h
qualified_value-wrong shapes.SubsetDef bytes one h = subset-wrong (marks_of bytes) one h
qualified_value-wrong shapes.SynonymDef bytes one h = synonym_type-wrong (marks_of bytes) one h
qualified_value-wrong shapes.Raw bytes one h = cc

pub qualified_value-refuses : (shape : ValueShape) (bytes : List ℕ) (one : SyntaxKind) → ValueFails shape (marks_of bytes) one → read_shape shape bytes ≡ Err one
qualified_value-refuses shapes.Text bytes one h = absurd h
qualified_value-refuses shapes.Id bytes one h = id-refuses (marks_of bytes) one h
qualified_value-refuses shapes.Pair bytes one h = pair-refuses (marks_of bytes) one h
qualified_value-refuses shapes.IdOrPair bytes one h = id_or_pair-refuses (marks_of bytes) one h
qualified_value-refuses shapes.Bool bytes one h = bool-refuses (marks_of bytes) one h
qualified_value-refuses shapes.Def bytes one h = definition-refuses (marks_of bytes) one h
qualified_value-refuses shapes.Synonym bytes one h = synonym-refuses (marks_of bytes) one h
qualified_value-refuses shapes.XrefShape bytes one h = xref-refuses (marks_of bytes) one h
qualified_value-refuses shapes.Property bytes one h = property-refuses (marks_of bytes) one h
qualified_value-refuses shapes.SubsetDef bytes one h = subset-refuses (marks_of bytes) one h
qualified_value-refuses shapes.SynonymDef bytes one h = synonym_type-refuses (marks_of bytes) one h
qualified_value-refuses shapes.Raw bytes one h = absurd h
