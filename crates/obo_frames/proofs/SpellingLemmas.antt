-- What lines spell: an `id` clause with a word, and the same without its qualifiers.
use Rattle.std.proofs.Common.{◌≡◌, ◌⊎◌, inl, inr, ⊎_elim, ◌≤◌, ℕ, Bool, true, false, List, [], ◌∷◌, ◌++◌, ap, append-nil, append_assoc, arith, codes, cond, eqb, length, length-append, refl, subst, sym, ◌∙◌}
use Rattle.std.specs.Str.{IsUtf8}
use Rattle.std.proofs.Math.Seq.{get_or-append_seam, take-append_seam}
use Rattle.std.proofs.lemmas.Bool.{false≢true, or_parts}
use Rattle.std.proofs.lemmas.List.{length-map}
use Rattle.std.proofs.lemmas.List.Folds.{list_any-append}
use Rattle.std.proofs.lemmas.Str.{IsUtf8-take}
use Rattle.rel_io.specs.Texts.{is_line_feed, is_return}
use Rattle.obo_tags.specs.Table.{shape_of, tags_of}
use Rattle.obo_tags.specs.declared.kind.FrameKind.{FrameKind}
use Rattle.obo_tags.specs.declared.kind.FrameKind.TheVariants as kinds
use Rattle.obo_tags.specs.declared.kind.ValueShape.{ValueShape}
use Rattle.obo_tags.specs.declared.kind.ValueShape.TheVariants as shapes
use Rattle.obo_clause.specs.Grammar.{IsEnding, IsWord, bare as bare_ending, nothing as no_comment, qualified}
use Rattle.obo_clause.specs.declared.mark.MarkedByte.{MarkedByte}
use Rattle.obo_clause.specs.Marks.{bare, escaped, marks_of}
use Rattle.obo_clause.specs.Spelled.{IsLine, IsSpelledAs}
use Rattle.obo_clause.specs.Spelling.{IsQualifiedValue, IsKindName, IsValue, Says, Spells, blank, class, content, definition, frame, id, instance, link, literal, pair, raw, restriction, shape_at, shaped, subset, synonym, synonym_type, term, text, truth, typedef, xref}
use Rattle.obo_clause.specs.Vocabulary.{block_open}
use Rattle.obo_clause.specs.declared.clause.Clause.{Clause}
use Rattle.obo_clause.specs.declared.clause.Qualifier.{Qualifier}
use Rattle.obo_clause.specs.declared.clause.Value.{Value}
use Rattle.obo_clause.specs.declared.clause.Value.TheVariants as value
use Rattle.obo_clause.specs.declared.line.Line.{Line}
use Rattle.obo_clause.specs.declared.line.Line.TheVariants as says

-- ---- what a line says

pub spells_said : (kind : FrameKind) (first : Bool) (line : List ℕ) (said : Line) → Says kind first line said → (clause : Clause) → said ≡ says.Content clause → Spells kind first line clause
spells_said kind first line said (blank is_blank) clause is = absurd (cc)
spells_said kind first line said (frame begun is_frame) clause is = absurd (cc)
spells_said kind first line said (content other spells) clause is =
    let same : other ≡ clause = cc in subst (Spells kind first line) same spells

named_kind : (kind : FrameKind) (name : List ℕ) → IsKindName kind name → kind ≡ kinds.Header → ⊥
named_kind kind name term is = cc
named_kind kind name typedef is = cc
named_kind kind name instance is = cc

pub begun_kind : (kind : FrameKind) (first : Bool) (line : List ℕ) (said : Line) → Says kind first line said → (begun : FrameKind) → said ≡ says.Frame begun → begun ≡ kinds.Header → ⊥
begun_kind kind first line said (blank is_blank) begun is header = absurd (cc)
begun_kind kind first line said (frame other is_frame) begun is header =
    let same : other ≡ begun = cc in named_kind other is_frame.name is_frame.named (same ∙ header)
begun_kind kind first line said (content clause spells) begun is header = absurd (cc)

-- ---- values that are one word

-- a value that is one word is a word, in whatever shape and before whatever else
record IsOneWord (marks : List MarkedByte) (shape : ValueShape) (one : Value) (word : List ℕ) : Type 0 where
  is_word : IsWord marks word
  anywhere : (behind : List MarkedByte) → IsValue behind shape marks one

one_word : (behind : List MarkedByte) (shape : ValueShape) (marks : List MarkedByte) (one : Value) → IsValue behind shape marks one → (word : List ℕ) → one ≡ value.Id word → IsOneWord marks shape one word
one_word behind shape marks one (text a b c) word is = absurd (cc)
one_word behind shape marks one (id a other c) word is =
    let same : other ≡ word = cc in record { is_word = subst (IsWord a) same c; anywhere = λ more. id a other c }
one_word behind shape marks one (pair a b c d e f g h i) word is = absurd (cc)
one_word behind shape marks one (class a other c) word is =
    let same : other ≡ word = cc in record { is_word = subst (IsWord a) same c; anywhere = λ more. class a other c }
one_word behind shape marks one (restriction a b c d e f g h i) word is = absurd (cc)
one_word behind shape marks one (truth a b c) word is = absurd (cc)
one_word behind shape marks one (definition a b c d e f) word is = absurd (cc)
one_word behind shape marks one (synonym a b c d e f g h i j) word is = absurd (cc)
one_word behind shape marks one (xref a b c d e f g h i) word is = absurd (cc)
one_word behind shape marks one (literal a b c d e f g h i j k) word is = absurd (cc)
one_word behind shape marks one (link a b c d e f g h i) word is = absurd (cc)
one_word behind shape marks one (subset a b c d e f g h) word is = absurd (cc)
one_word behind shape marks one (synonym_type a b c d e f g h i j k) word is = absurd (cc)

not_raw : (behind : List MarkedByte) (shape : ValueShape) (marks : List MarkedByte) (one : Value) → IsValue behind shape marks one → shape ≡ shapes.Raw → ⊥
not_raw behind shape marks one (text a b c) is = cc
not_raw behind shape marks one (id a b c) is = cc
not_raw behind shape marks one (pair a b c d e f g h i) is = cc
not_raw behind shape marks one (class a b c) is = cc
not_raw behind shape marks one (restriction a b c d e f g h i) is = cc
not_raw behind shape marks one (truth a b c) is = cc
not_raw behind shape marks one (definition a b c d e f) is = cc
not_raw behind shape marks one (synonym a b c d e f g h i j) is = cc
not_raw behind shape marks one (xref a b c d e f g h i) is = cc
not_raw behind shape marks one (literal a b c d e f g h i j k) is = cc
not_raw behind shape marks one (link a b c d e f g h i) is = cc
not_raw behind shape marks one (subset a b c d e f g h) is = cc
not_raw behind shape marks one (synonym_type a b c d e f g h i j k) is = cc

-- what a foreign tag has is no word
raw_no_word : (shape : ValueShape) (rest : List ℕ) (one : Value) (qualifiers : List Qualifier) → IsQualifiedValue shape rest one qualifiers → shape ≡ shapes.Raw → (word : List ℕ) → one ≡ value.Id word → ⊥
raw_no_word shape rest one qualifiers (raw before words behind a b c) foreign word is = absurd (cc)
raw_no_word shape rest one qualifiers (shaped other bytes before marks between ending it more a b is_value c d) foreign word is =
    not_raw (between ++ ending) other marks it is_value foreign

-- a word has a byte
word_some : (marks : List MarkedByte) (word : List ℕ) → IsWord marks word → word ≡ [] → ⊥
word_some marks word is_word none =
    absurd (omega (arith, is_word.some, length-map marks (λ mark. mark.byte), ap length (is_word.read ∙ none)))

content_some : (shape : ValueShape) (rest : List ℕ) (one : Value) (qualifiers : List Qualifier) → IsQualifiedValue shape rest one qualifiers → (word : List ℕ) → one ≡ value.Id word → word ≡ [] → ⊥
content_some shape rest one qualifiers (raw before words behind a b c) word is none = absurd (cc)
content_some shape rest one qualifiers (shaped other bytes before marks between ending it more a b is_value c d) word is none =
    word_some marks word (one_word (between ++ ending) other marks it is_value word is).is_word none

-- a clause that is one word has a byte there
pub spells_some : (kind : FrameKind) (first : Bool) (line : List ℕ) (clause : Clause) → Spells kind first line clause → (word : List ℕ) → clause.value ≡ value.Id word → word ≡ [] → ⊥
spells_some kind first line clause spells word is =
    content_some (shape_at kind first clause.tag) spells.rest clause.value clause.qualifiers spells.valued word is

-- ---- foreign `id` clauses

-- of the header, and of a frame behind its first clause
pub header_id : (first : Bool) → shape_at kinds.Header first (codes "id") ≡ shapes.Raw
unfolding tags_of shape_of
header_id true = refl
header_id false = refl

pub later_id : (kind : FrameKind) → shape_at kind false (codes "id") ≡ shapes.Raw
later_id kind = refl

pub foreign_id : (kind : FrameKind) (first : Bool) (line : List ℕ) (clause : Clause) → Spells kind first line clause → shape_at kind first (codes "id") ≡ shapes.Raw → clause.tag ≡ codes "id" → (word : List ℕ) → clause.value ≡ value.Id word → ⊥
foreign_id kind first line clause spells foreign tag word is =
    raw_no_word (shape_at kind first clause.tag) spells.rest clause.value clause.qualifiers spells.valued (ap (shape_at kind first) tag ∙ foreign) word is

-- ---- a clause without its qualifiers

-- bytes cut where a bare `{` stands among their marks
record Cut (bytes : List ℕ) (front : List MarkedByte) : Type 0 where
  before : List ℕ
  behind : List ℕ
  whole : bytes ≡ before ++ 123 ∷ behind
  marks : marks_of before ≡ front

no_marks : (front tail : List MarkedByte) → [] ≡ front ++ block_open ∷ tail → ⊥
no_marks [] tail is = absurd (cc)
no_marks (mark ∷ front) tail is = absurd (cc)

-- one byte more before the cut, that is no backslash
bare_more : (byte : ℕ) (before : List ℕ) → eqb byte 92 ≡ false → marks_of (byte ∷ before) ≡ bare byte ∷ marks_of before
bare_more byte [] is = refl
bare_more byte (next ∷ before) is = ap (λ b. cond b (escaped next ∷ marks_of before) (bare byte ∷ marks_of (next ∷ before))) is

heads : (one other : MarkedByte) (ones others : List MarkedByte) → one ∷ ones ≡ other ∷ others → one ≡ other
heads one other ones others same = cc

tails : (one other : MarkedByte) (ones others : List MarkedByte) → one ∷ ones ≡ other ∷ others → ones ≡ others
tails one other ones others same = cc

-- the marks of some bytes can be cut there
abbrev CanCut : List ℕ → Type 0
CanCut bytes = (front tail : List MarkedByte) → marks_of bytes ≡ front ++ block_open ∷ tail → Cut bytes front

cut_one : (byte : ℕ) → CanCut (byte ∷ [])
cut_one byte [] tail is =
    let same : bare byte ≡ block_open = heads (bare byte) block_open [] tail is in
    record { before = []; behind = []; whole = ap (λ (mark : MarkedByte). mark.byte ∷ []) same; marks = refl }
cut_one byte (mark ∷ front) tail is =
    absurd (no_marks front tail (tails (bare byte) mark [] (front ++ block_open ∷ tail) is))

cut_more : (escapes : Bool) (byte next : ℕ) (bytes : List ℕ) → eqb byte 92 ≡ escapes → CanCut bytes → CanCut (next ∷ bytes) → (front tail : List MarkedByte) → cond escapes (escaped next ∷ marks_of bytes) (bare byte ∷ marks_of (next ∷ bytes)) ≡ front ++ block_open ∷ tail → Cut (byte ∷ next ∷ bytes) front
cut_more true byte next bytes is two one [] tail whole =
    let same : escaped next ≡ block_open = heads (escaped next) block_open (marks_of bytes) tail whole in
    absurd (false≢true (sym (ap (λ (mark : MarkedByte). mark.is_escaped) same)))
cut_more true byte next bytes is two one (mark ∷ front) tail whole =
    let cut = two front tail (tails (escaped next) mark (marks_of bytes) (front ++ block_open ∷ tail) whole) in
    let head = heads (escaped next) mark (marks_of bytes) (front ++ block_open ∷ tail) whole in
    record {
      before = byte ∷ next ∷ cut.before;
      behind = cut.behind;
      whole = ap (λ rest. byte ∷ next ∷ rest) cut.whole;
      marks = (λ i. cond (is i) (escaped next ∷ marks_of cut.before) (bare byte ∷ marks_of (next ∷ cut.before))) ∙ (λ i. head i ∷ cut.marks i);
    }
cut_more false byte next bytes is two one [] tail whole =
    let same : bare byte ≡ block_open = heads (bare byte) block_open (marks_of (next ∷ bytes)) tail whole in
    record { before = []; behind = next ∷ bytes; whole = ap (λ (mark : MarkedByte). mark.byte ∷ next ∷ bytes) same; marks = refl }
cut_more false byte next bytes is two one (mark ∷ front) tail whole =
    let cut = one front tail (tails (bare byte) mark (marks_of (next ∷ bytes)) (front ++ block_open ∷ tail) whole) in
    let head = heads (bare byte) mark (marks_of (next ∷ bytes)) (front ++ block_open ∷ tail) whole in
    record {
      before = byte ∷ cut.before;
      behind = cut.behind;
      whole = ap (λ rest. byte ∷ rest) cut.whole;
      marks = bare_more byte cut.before is ∙ (λ i. head i ∷ cut.marks i);
    }

cut_marks : (bytes : List ℕ) → CanCut bytes
cut_marks [] front tail is = absurd (no_marks front tail is)
cut_marks (byte ∷ []) front tail is = cut_one byte front tail is
cut_marks (byte ∷ next ∷ bytes) front tail is =
    cut_more (eqb byte 92) byte next bytes refl (cut_marks bytes) (cut_marks (next ∷ bytes)) front tail is

-- what is cut off a line: nothing, or something that begins with a `{`
abbrev IsCutOff : List ℕ → Type 0
IsCutOff behind = (behind ≡ []) ⊎ ((more : List ℕ) × (behind ≡ 123 ∷ more))

-- the front of some bytes is the same value without qualifiers
record HasBareFront (shape : ValueShape) (rest : List ℕ) (one : Value) : Type 0 where
  front : List ℕ
  behind : List ℕ
  whole : rest ≡ front ++ behind
  valued : IsQualifiedValue shape front one []
  cut_off : IsCutOff behind

-- an ending with qualifiers begins with a `{`
record BeginsBlock (ending : List MarkedByte) : Type 0 where
  tail : List MarkedByte
  whole : ending ≡ block_open ∷ tail

how_it_ends : (ending : List MarkedByte) (qualifiers : List Qualifier) → IsEnding ending qualifiers → (qualifiers ≡ []) ⊎ BeginsBlock ending
how_it_ends ending qualifiers (bare_ending comment is) = inl refl
how_it_ends ending qualifiers (qualified block blanks comment others is_block a b) =
    inr (record { tail = _; whole = ap (λ marks. (marks ++ blanks) ++ comment) is_block.whole })

bare_front : (shape : ValueShape) (rest : List ℕ) (one : Value) (qualifiers : List Qualifier) → IsQualifiedValue shape rest one qualifiers → (word : List ℕ) → one ≡ value.Id word → HasBareFront shape rest one
bare_front shape rest one qualifiers (raw before words behind a b c) word is = absurd (cc)
bare_front shape rest one qualifiers (shaped other bytes before marks between ending it more whole a is_value b is_ending) word is =
    ⊎_elim
    (λ none. record {
      front = bytes;
      behind = [];
      whole = sym (append-nil bytes);
      valued = subst (IsQualifiedValue other bytes it) none (shaped other bytes before marks between ending it more whole a is_value b is_ending);
      cut_off = inl refl;
    })
    (λ block.
    let cut = cut_marks bytes ((before ++ marks) ++ between) block.tail (whole ∙ ap (λ rest. ((before ++ marks) ++ between) ++ rest) block.whole) in
    record {
      front = cut.before;
      behind = 123 ∷ cut.behind;
      whole = cut.whole;
      valued = shaped other cut.before before marks between [] it [] (cut.marks ∙ sym (append-nil ((before ++ marks) ++ between))) a ((one_word (between ++ ending) other marks it is_value word is).anywhere (between ++ [])) b (bare_ending [] no_comment);
      cut_off = inr (cut.behind, refl);
    })
    (how_it_ends ending more is_ending)

-- the front of a line is a line, where what is cut off begins with a `{`
front_utf8 : (front more : List ℕ) → IsUtf8 (front ++ 123 ∷ more) → IsUtf8 front
front_utf8 front more utf8 =
    let at = get_or-append_seam front 123 more 0 in
    let within : length front ≤ length (front ++ 123 ∷ more) = omega (arith, length-append front (123 ∷ more)) in
    subst IsUtf8 (take-append_seam front (123 ∷ more)) (IsUtf8-take (front ++ 123 ∷ more) (length front) utf8 (within, λ inside high. absurd (omega (arith, at, high))))

front_line : (front behind : List ℕ) → IsCutOff behind → IsLine (front ++ behind) → IsLine front
front_line front behind (inl none) is = subst IsLine (ap (λ rest. front ++ rest) none ∙ append-nil front) is
front_line front behind (inr cut) is =
    let whole = ap (λ rest. front ++ rest) cut.1 in
    record {
      utf8 = front_utf8 front cut.0 (subst IsUtf8 whole is.utf8);
      no_line_feed = (or_parts _ _ (sym (list_any-append is_line_feed front behind) ∙ is.no_line_feed)).0;
      no_return = (or_parts _ _ (sym (list_any-append is_return front behind) ∙ is.no_return)).0;
    }

-- some line spells a clause that is one word without its qualifiers too
pub spells_bare : (kind : FrameKind) (first : Bool) (line : List ℕ) (clause : Clause) → IsLine line → Spells kind first line clause → (word : List ℕ) → clause.value ≡ value.Id word → IsSpelledAs kind first (record clause { qualifiers = [] })
spells_bare kind first line clause is_line spells word is =
    let tagged = spells.tagged in
    let bare_one = bare_front (shape_at kind first clause.tag) spells.rest clause.value clause.qualifiers spells.valued word is in
    let start : List ℕ = (tagged.before ++ clause.tag) ++ tagged.between in
    let whole : line ≡ (start ++ 58 ∷ bare_one.front) ++ bare_one.behind =
    tagged.whole ∙ ap (λ rest. start ++ 58 ∷ rest) bare_one.whole ∙ sym (append_assoc start (58 ∷ bare_one.front) bare_one.behind) in
    record {
      line = start ++ 58 ∷ bare_one.front;
      is_line = front_line (start ++ 58 ∷ bare_one.front) bare_one.behind bare_one.cut_off (subst IsLine whole is_line);
      spells = record {
        rest = bare_one.front;
        tagged = record {
          before = tagged.before;
          between = tagged.between;
          whole = refl;
          blank_before = tagged.blank_before;
          some = tagged.some;
          each = tagged.each;
          blank_between = tagged.blank_between;
        };
        valued = bare_one.valued;
      };
    }
