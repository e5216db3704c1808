-- What a clause has to be so that some line spells it, part by part. (Own.)
use Rattle.std.specs.Prelude.{◌≡◌, ◌<◌, ℕ, Bool, List, [], Option, None, Some, length}
use Rattle.std.specs.List.{All, AllPass}
use Rattle.std.specs.Str.{IsUtf8}
use Rattle.rel_io.specs.Texts.{IsText, IsWordText}
use Rattle.obo_lexer.specs.Tokens.{is_blank}
use Rattle.obo_tags.specs.declared.kind.FrameKind.{FrameKind}
use Rattle.obo_tags.specs.declared.kind.ValueShape.{ValueShape}
use Rattle.obo_tags.specs.declared.kind.ValueShape.TheVariants as shapes
use Rattle.obo_clause.specs.declared.clause.Clause.{Clause}
use Rattle.obo_clause.specs.declared.clause.Qualifier.{Qualifier}
use Rattle.obo_clause.specs.declared.clause.Value.{Value}
use Rattle.obo_clause.specs.declared.clause.Value.TheVariants as value
use Rattle.obo_clause.specs.declared.clause.Xref.{Xref}
use Rattle.obo_clause.specs.Grammar.{IsTrimmed}
use Rattle.obo_clause.specs.Marks.{bare}
use Rattle.obo_clause.specs.Spelled.{IsLine}
use Rattle.obo_clause.specs.Spelling.{shape_at}
use Rattle.obo_clause.specs.Vocabulary.{is_key_mark, is_tag_byte}

-- there is no word, or it is one
abbrev pub IsWordOrNone : Option (List ℕ) → Type 0
IsWordOrNone None = Unit {0}
IsWordOrNone (Some word) = IsWordText word

-- there is no label, or it is a text
abbrev pub IsTextOrNone : Option (List ℕ) → Type 0
IsTextOrNone None = Unit {0}
IsTextOrNone (Some text) = IsText text

-- an xref with an id
pub record FitsXref (xref : Xref) : Type 0 where
  pub id : IsWordText xref.id
  pub label : IsTextOrNone xref.label

-- a key as lines have them, with any text
pub record FitsQualifier (qualifier : Qualifier) : Type 0 where
  pub some : 0 < length qualifier.key
  pub each : AllPass (λ byte. is_key_mark (bare byte)) qualifier.key
  pub utf8 : IsUtf8 qualifier.key
  pub value : IsText qualifier.value

-- a text that may stand behind a foreign tag: what a line may hold, without outer blanks
pub record IsRawText (text : List ℕ) : Type 0 where
  pub trimmed : IsTrimmed ℕ is_blank text
  pub line : IsLine text

-- the value is of the variant that the shape has, and its parts are as they have to be
abbrev pub FitsShape : ValueShape → Value → Type 0
FitsShape shapes.Text (value.Text text) = IsText text
FitsShape shapes.Id (value.Id word) = IsWordText word
FitsShape shapes.Pair (value.Pair first second) = IsWordText first × IsWordText second
FitsShape shapes.IdOrPair (value.Id word) = IsWordText word
FitsShape shapes.IdOrPair (value.Pair first second) = IsWordText first × IsWordText second
FitsShape shapes.Bool (value.Bool truth) = Unit {0}
FitsShape shapes.Def (value.Def text xrefs) = IsText text × All FitsXref xrefs
FitsShape shapes.Synonym (value.Synonym text scope type xrefs) = IsText text × IsWordOrNone type × All FitsXref xrefs
FitsShape shapes.XrefShape (value.XrefValue xref) = FitsXref xref
FitsShape shapes.Property (value.Literal relation text datatype) = IsWordText relation × IsText text × IsWordText datatype
FitsShape shapes.Property (value.Link relation target) = IsWordText relation × IsWordText target
FitsShape shapes.SubsetDef (value.SubsetDef id text) = IsWordText id × IsText text
FitsShape shapes.SynonymDef (value.SynonymDef id text scope) = IsWordText id × IsText text
FitsShape shapes.Raw (value.Raw text) = IsRawText text
FitsShape _ _ = ⊥

-- the qualifiers that may stand behind a value of the shape: none behind a foreign tag
abbrev pub FitBehind : ValueShape → List Qualifier → Type 0
FitBehind shapes.Raw qualifiers = qualifiers ≡ []
FitBehind _ qualifiers = All FitsQualifier qualifiers

-- the parts of the clause are such that a line can spell it, in a frame of the kind; `first` says that the frame has no
-- clause before it
pub record Fits (kind : FrameKind) (first : Bool) (clause : Clause) : Type 0 where
  pub some : 0 < length clause.tag
  pub each : AllPass is_tag_byte clause.tag
  pub value : FitsShape (shape_at kind first clause.tag) clause.value
  pub qualifiers : FitBehind (shape_at kind first clause.tag) clause.qualifiers
