-- A file is one document or has one first fault.
use Rattle.std.proofs.Common.{◌≡◌, ◌⊎◌, inl, inr, ℕ, List, [], ◌∷◌, Option, None, Some, ap, refl, subst, sym, ⊎_elim, ◌∙◌}
use Rattle.obo_lexer.specs.Items.{lines_of}
use Rattle.obo_lexer.specs.declared.line.LineBody.{LineBody}
use Rattle.obo_lexer.specs.declared.line.LineBody.TheVariants as body
use Rattle.obo_lexer.specs.declared.line.LineItem.{LineItem}
use Rattle.obo_clause.specs.Faults.{Fails}
use Rattle.obo_clause.specs.declared.line.Line.{Line}
use Rattle.obo_clause.specs.declared.line.SyntaxKind.{SyntaxKind}
use Rattle.obo_clause.proofs.AnswerLemmas.{fails-one-way, has-answer, never-both, says-one-thing}
use Rattle.obo_frames.specs.Documents.{first_fault, of_frame, of_line}
use Rattle.obo_frames.specs.Frames.{placed_of}
use Rattle.obo_frames.specs.Laws.{HasOneFault, IsDocumentOrFault, IsNeverBoth, IsOneDocument}
use Rattle.obo_frames.specs.Telling.{BodyFails, BodySays, FailsFirst, IsTold, Tells, not_utf8, place_after, start, syntax, too_long}
use Rattle.obo_frames.specs.declared.fault.DocFault.{DocFault}
use Rattle.obo_frames.specs.declared.fault.DocFault.TheVariants as fault
use Rattle.obo_frames.specs.declared.told.Place.{Place}
use Rattle.obo_frames.specs.declared.told.Told.{Told}

-- ---- one line

body_says_one : (at : Place) (text : LineBody) (one other : Line) → BodySays at text one → BodySays at text other → one ≡ other
body_says_one at (body.Text text) one other first second = says-one-thing at.kind at.is_first text one other first second
body_says_one at body.NotUtf8 one other first second = absurd first
body_says_one at body.TooLong one other first second = absurd first

-- what a fault of a body is, case by case
abbrev pub IsBodyFault : Place → ℕ → LineBody → DocFault → Type 0
IsBodyFault at number (body.Text text) one = (kind : SyntaxKind) × (one ≡ fault.Syntax number kind) × Fails at.kind at.is_first text kind
IsBodyFault at number body.NotUtf8 one = one ≡ fault.NotUtf8 number
IsBodyFault at number body.TooLong one = one ≡ fault.LineTooLong number

pub body_fault : (at : Place) (number : ℕ) (text : LineBody) (one : DocFault) → BodyFails at number text one → IsBodyFault at number text one
body_fault at number text one not_utf8 = refl
body_fault at number text one too_long = refl
body_fault at number text one (syntax line kind fails) = (kind, refl, fails)

pub same_fault : (at : Place) (number : ℕ) (text : LineBody) (one other : DocFault) → IsBodyFault at number text one → IsBodyFault at number text other → one ≡ other
same_fault at number (body.Text text) one other first second =
    first.1 ∙ ap (λ kind. fault.Syntax number kind) (fails-one-way at.kind at.is_first text first.0 second.0 first.2 second.2) ∙ sym second.1
same_fault at number body.NotUtf8 one other first second = first ∙ sym second
same_fault at number body.TooLong one other first second = first ∙ sym second

pub never_says : (at : Place) (number : ℕ) (text : LineBody) (said : Line) (one : DocFault) → BodySays at text said → IsBodyFault at number text one → ⊥
never_says at number (body.Text text) said one says fails = never-both at.kind at.is_first text said fails.0 says fails.2
never_says at number body.NotUtf8 said one says fails = says
never_says at number body.TooLong said one says fails = says

body_answers : (at : Place) (number : ℕ) (text : LineBody) → ((said : Line) × BodySays at text said) ⊎ ((one : DocFault) × BodyFails at number text one)
body_answers at number (body.Text text) =
    ⊎_elim (λ says. inl (says.0, says.1)) (λ fails. inr (fault.Syntax number fails.0, syntax text fails.0 fails.1)) (has-answer at.kind at.is_first text)
body_answers at number body.NotUtf8 = inr (fault.NotUtf8 number, not_utf8)
body_answers at number body.TooLong = inr (fault.LineTooLong number, too_long)

-- ---- all lines

pub told_one : (at : Place) (item : LineItem) (one other : Told) → IsTold at item one → IsTold at item other → one ≡ other
told_one at item one other first second =
    let line = first.line ∙ sym second.line in
    let said = body_says_one at item.body one.said other.said first.says second.says in
    (λ i. record { line = line i; said = said i })

tells_one : (at : Place) (items : List LineItem) (one other : List Told) → Tells at items one → Tells at items other → one ≡ other
tells_one at [] [] [] first second = refl
tells_one at [] [] (told ∷ tolds) first second = absurd second
tells_one at [] (told ∷ tolds) other first second = absurd first
tells_one at (item ∷ items) [] other first second = absurd first
tells_one at (item ∷ items) (told ∷ tolds) [] first second = absurd second
tells_one at (item ∷ items) (told ∷ tolds) (other ∷ others) first second =
    let same = told_one at item told other first.0 second.0 in
    (λ i. same i ∷ tells_one (place_after at told.said) items tolds others first.1 (subst (λ (it : Told). Tells (place_after at it.said) items others) (sym same) second.1) i)

fails_one : (at : Place) (items : List LineItem) (one other : DocFault) → FailsFirst at items one → FailsFirst at items other → one ≡ other
fails_one at [] one other first second = absurd first
fails_one at (item ∷ items) one other (inl first) (inl second) =
    same_fault at item.number item.body one other (body_fault at item.number item.body one first) (body_fault at item.number item.body other second)
fails_one at (item ∷ items) one other (inl first) (inr second) =
    absurd (never_says at item.number item.body second.0 one second.1 (body_fault at item.number item.body one first))
fails_one at (item ∷ items) one other (inr first) (inl second) =
    absurd (never_says at item.number item.body first.0 other first.1 (body_fault at item.number item.body other second))
fails_one at (item ∷ items) one other (inr first) (inr second) =
    let same = body_says_one at item.body second.0 first.0 second.1 first.1 in
    fails_one (place_after at first.0) items one other first.2 (subst (λ said. FailsFirst (place_after at said) items other) same second.2)

tells_never_fails : (at : Place) (items : List LineItem) (tolds : List Told) (one : DocFault) → Tells at items tolds → FailsFirst at items one → ⊥
tells_never_fails at [] tolds one tells fails = fails
tells_never_fails at (item ∷ items) [] one tells fails = tells
tells_never_fails at (item ∷ items) (told ∷ tolds) one tells (inl fails) =
    never_says at item.number item.body told.said one tells.0.says (body_fault at item.number item.body one fails)
tells_never_fails at (item ∷ items) (told ∷ tolds) one tells (inr later) =
    let same = body_says_one at item.body later.0 told.said later.1 tells.0.says in
    tells_never_fails (place_after at told.said) items tolds one tells.1 (subst (λ said. FailsFirst (place_after at said) items one) same later.2)

abbrev IsTellable : Place → List LineItem → Type 0
IsTellable at items = ((tolds : List Told) × Tells at items tolds) ⊎ ((one : DocFault) × FailsFirst at items one)

tellable_behind : (at : Place) (item : LineItem) (items : List LineItem) (said : Line) → BodySays at item.body said → IsTellable (place_after at said) items → IsTellable at (item ∷ items)
tellable_behind at item items said says (inl rest) =
    inl (record { line = item.number; said = said } ∷ rest.0, (record { line = refl; says = says }, rest.1))
tellable_behind at item items said says (inr rest) = inr (rest.0, inr (said, says, rest.1))

tellable : (at : Place) (items : List LineItem) → IsTellable at items
tellable at [] = inl ([], tt)
tellable at (item ∷ items) =
    ⊎_elim (λ says. tellable_behind at item items says.0 says.1 (tellable (place_after at says.0) items)) (λ fails. inr (fails.0, inl fails.1)) (body_answers at item.number item.body)

-- ---- files

pub is_one_document : (limit : ℕ) (bytes : List ℕ) → IsOneDocument limit bytes
is_one_document limit bytes one other first second =
    first.in_places ∙ ap placed_of (tells_one start (lines_of limit bytes) first.tolds second.tolds first.tells second.tells) ∙ sym second.in_places

same_some : (one other : DocFault) → Some one ≡ Some other → one ≡ other
same_some one other same = cc

pub has_one_fault : (limit : ℕ) (bytes : List ℕ) → HasOneFault limit bytes
has_one_fault limit bytes one other (of_line first) (of_line second) = fails_one start (lines_of limit bytes) one other first second
has_one_fault limit bytes one other (of_line first) (of_frame tolds tells is) =
    absurd (tells_never_fails start (lines_of limit bytes) tolds one tells first)
has_one_fault limit bytes one other (of_frame tolds tells is) (of_line second) =
    absurd (tells_never_fails start (lines_of limit bytes) tolds other tells second)
has_one_fault limit bytes one other (of_frame tolds tells is) (of_frame others other_tells other_is) =
    same_some one other (sym is ∙ ap first_fault (tells_one start (lines_of limit bytes) tolds others tells other_tells) ∙ other_is)

none_some : (one : DocFault) (found : Option DocFault) → found ≡ None → found ≡ Some one → ⊥
none_some one found none some = cc

pub is_never_both : (limit : ℕ) (bytes : List ℕ) → IsNeverBoth limit bytes
is_never_both limit bytes placed one is (of_line fails) = tells_never_fails start (lines_of limit bytes) is.tolds one is.tells fails
is_never_both limit bytes placed one is (of_frame tolds tells some) =
    none_some one (first_fault is.tolds) is.faultless (ap first_fault (tells_one start (lines_of limit bytes) is.tolds tolds is.tells tells) ∙ some)

told_is : (limit : ℕ) (bytes : List ℕ) (tolds : List Told) → Tells start (lines_of limit bytes) tolds → (found : Option DocFault) → first_fault tolds ≡ found → IsDocumentOrFault limit bytes
told_is limit bytes tolds tells None is =
    inl (placed_of tolds, record { tolds = tolds; tells = tells; faultless = is; in_places = refl })
told_is limit bytes tolds tells (Some one) is = inr (one, of_frame tolds tells is)

pub is_document_or_fault : (limit : ℕ) (bytes : List ℕ) → IsDocumentOrFault limit bytes
is_document_or_fault limit bytes =
    ⊎_elim (λ told. told_is limit bytes told.0 told.1 (first_fault told.0) refl) (λ fails. inr (fails.0, of_line fails.1)) (tellable start (lines_of limit bytes))
