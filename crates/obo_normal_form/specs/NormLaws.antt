-- What the normal form of a document amounts to. (Own.)
use Rattle.std.specs.Prelude.{◌≡◌, false, List, []}
use Rattle.text_sets.specs.Sets.{In, SameMembers}
use Rattle.obo_notes.specs.Laws.{IsInPrintedOrder}
use Rattle.obo_frames.specs.Framed.{Framed}
use Rattle.obo_mapping.specs.Documents.{is_import, is_untranslatable, name_of, norm, owl, spaced}
use Rattle.obo_mapping.specs.Sound.{IsFramed, IsSound}

-- the document has the name and the axioms of the other
pub record SaysAs (one other : List Framed) : Type 0 where
  pub name : name_of one ≡ name_of other
  pub axioms : SameMembers (owl one) (owl other)

-- the normal form says what the document says
abbrev pub NormSays : Type 0
NormSays = (d : List Framed) → IsSound d → SaysAs (norm d) d

-- what is normal stays as it is
abbrev pub NormOnce : Type 0
NormOnce = (d : List Framed) → IsSound d → SameMembers (norm (norm d)) (norm d)

-- each clause of the document is translated, and none is an import
pub record IsWhole (d : List Framed) : Type 0 where
  pub translated : (f : Framed) → In f d → is_untranslatable d f ≡ false
  pub alone : (f : Framed) → In f d → is_import f ≡ false

-- the normal form is given by the name and the axioms
abbrev pub NormOfAxioms : Type 0
NormOfAxioms = (d e : List Framed) → IsWhole d → IsWhole e → SaysAs d e → SameMembers (norm d) (norm e)

-- the axioms of such a document have their namespaces
abbrev pub OwlSpaced : Type 0
OwlSpaced = (d : List Framed) → IsWhole d → SameMembers (spaced [] [] (owl d)) (owl d)

-- the normal form is a document whose lines can be written
abbrev pub NormIsFramed : Type 0
NormIsFramed = (d : List Framed) → IsSound d → IsFramed (norm d)

-- the normal form of a sound document is sound
abbrev pub NormIsSound : Type 0
NormIsSound = (d : List Framed) → IsSound d → IsSound (norm d)

-- in each clause of the normal form the xref list and the qualifiers rise by what is printed of them
abbrev pub NormIsInOrder : Type 0
NormIsInOrder = (d : List Framed) → IsSound d → (f : Framed) → In f (norm d) → IsInPrintedOrder f.clause
