-- What the lines of a file place is a document: all that every document keeps.
use Rattle.std.proofs.Common.{◌≡◌, inl, inr, ℕ, Bool, true, false, List, [], ◌∷◌, ◌++◌, Option, None, Some, ap, codes, cond, refl, subst, sym, ◌∙◌}
use Rattle.std.specs.Prelude.{All, Contains, ◌↔◌}
use Rattle.std.specs.Str.{bytes_eq}
use Rattle.std.proofs.lemmas.Bool.{and_parts}
use Rattle.std.proofs.lemmas.List.Elements.{All-cons, All-contains, All-contains_itself, All-head, All-nil, All-tail}
use Rattle.std.proofs.lemmas.Slice.Eq.{bytes_eq-Decides}
use Rattle.obo_lexer.specs.Feeding.{begun, fed_with}
use Rattle.obo_lexer.specs.LineTexts.{HaveLineTexts, has_line_text}
use Rattle.obo_lexer.specs.Items.{lines_of}
use Rattle.obo_lexer.specs.declared.line.LineBody.{LineBody}
use Rattle.obo_lexer.specs.declared.line.LineBody.TheVariants as body
use Rattle.obo_lexer.specs.declared.line.LineItem.{LineItem}
use Rattle.obo_lexer.proofs.LawLemmas.{lines_are_written, waiting-whole}
use Rattle.obo_lexer.proofs.TextLemmas.{HasLineText-from_test, HaveLineTexts-fed, HaveLineTexts-finished}
use Rattle.obo_tags.specs.declared.kind.FrameKind.{FrameKind}
use Rattle.obo_tags.specs.declared.kind.FrameKind.TheVariants as kinds
use Rattle.obo_clause.specs.Spelled.{IsLine, IsSpelledIn}
use Rattle.obo_clause.specs.Spelling.{Spells}
use Rattle.obo_clause.specs.declared.clause.Clause.{Clause}
use Rattle.obo_clause.specs.declared.clause.Value.{Value}
use Rattle.obo_clause.specs.declared.clause.Value.TheVariants as value
use Rattle.obo_clause.specs.declared.line.Line.{Line}
use Rattle.obo_clause.specs.declared.line.Line.TheVariants as says
use Rattle.obo_frames.specs.Documents.{first_fault, least_line}
use Rattle.obo_frames.specs.Frames.{Entry, id_in, lines_without_id, place_id, placed_of, word_in}
use Rattle.obo_frames.specs.Groups.{short_lines}
use Rattle.obo_frames.specs.Soundness.{GivesId, HasIdClause, IsBare, IsKept}
use Rattle.obo_frames.specs.inner.Standing.{behind_clause, behind_line, named, place_first, placed_by_clause, placed_by_line, placed_from}
use Rattle.obo_frames.specs.Telling.{BodySays, Tells, place_after, start}
use Rattle.obo_frames.specs.declared.placed.Placed.{Placed}
use Rattle.obo_frames.specs.declared.standing.Standing.{Standing}
use Rattle.obo_frames.specs.declared.standing.Standing.TheVariants.{Begun, Header, Nameless, Within}
use Rattle.obo_frames.specs.declared.told.Place.{Place}
use Rattle.obo_frames.specs.declared.told.Told.{Told}
use Rattle.obo_frames.proofs.FaultLemmas.{no_group}
use Rattle.obo_frames.proofs.LeastLemmas.{no_lines}
use Rattle.obo_frames.proofs.ListLemmas.{Among}
use Rattle.obo_frames.proofs.PlacingLemmas.{placed_from-is}
use Rattle.obo_frames.proofs.SpellingLemmas.{begun_kind, foreign_id, header_id, later_id, spells_bare, spells_said, spells_some}

-- ---- the texts of lines

-- every text of these lines is one of a line
abbrev HaveTexts : List LineItem → Type 0
HaveTexts [] = Unit {0}
HaveTexts (item ∷ items) = ((text : List ℕ) → item.body ≡ body.Text text → IsLine text) × HaveTexts items

line_text : (limit : ℕ) (one : LineBody) → has_line_text limit one ≡ true → (text : List ℕ) → one ≡ body.Text text → IsLine text
line_text limit one tested text is =
    let said = HasLineText-from_test limit (body.Text text) (subst (λ it. has_line_text limit it ≡ true) is tested) in
    record { utf8 = said.utf8; no_line_feed = said.no_line_feed; no_return = said.no_return }

have_texts : (limit : ℕ) (items : List LineItem) → HaveLineTexts limit items → HaveTexts items
have_texts limit [] tested = tt
have_texts limit (item ∷ items) tested =
    let parts = and_parts _ _ tested in (line_text limit item.body parts.0, have_texts limit items parts.1)

tested_texts : (limit : ℕ) (bytes : List ℕ) → HaveTexts (lines_of limit bytes)
tested_texts limit bytes =
    let fed = fed_with (begun limit) bytes in
    have_texts limit (lines_of limit bytes) (subst (HaveLineTexts limit) (waiting-whole limit bytes) (HaveLineTexts-finished fed _ refl (lines_are_written bytes).rest (HaveLineTexts-fed (begun limit) fed bytes refl refl)))

text_at : (items : List LineItem) → HaveTexts items → (item : LineItem) → Among item items → (text : List ℕ) → item.body ≡ body.Text text → IsLine text
text_at [] texts item among text is = absurd among
text_at (first ∷ items) texts item (inl here) text is = texts.0 text (ap (λ (one : LineItem). one.body) here ∙ is)
text_at (first ∷ items) texts item (inr later) text is = text_at items texts.1 item later text is

pub file_texts : (limit : ℕ) (bytes : List ℕ) → (item : LineItem) → Among item (lines_of limit bytes) → (text : List ℕ) → item.body ≡ body.Text text → IsLine text
file_texts limit bytes = text_at (lines_of limit bytes) (tested_texts limit bytes)

-- ---- one line

-- a line that says a clause, where it stands
pub record IsClauseAt (at : Place) (item : LineItem) (clause : Clause) : Type 0 where
  pub line : List ℕ
  pub body : item.body ≡ body.Text line
  pub spells : Spells at.kind at.is_first line clause

body_clause : (at : Place) (item : LineItem) (one : LineBody) (said : Line) (clause : Clause) → item.body ≡ one → BodySays at one said → said ≡ says.Content clause → IsClauseAt at item clause
body_clause at item (body.Text text) said clause is body_says content =
    record { line = text; body = is; spells = spells_said at.kind at.is_first text said body_says clause content }
body_clause at item body.NotUtf8 said clause is body_says content = absurd body_says
body_clause at item body.TooLong said clause is body_says content = absurd body_says

body_frame : (at : Place) (one : LineBody) (said : Line) (kind : FrameKind) → BodySays at one said → said ≡ says.Frame kind → kind ≡ kinds.Header → ⊥
body_frame at (body.Text text) said kind body_says is header = begun_kind at.kind at.is_first text said body_says kind is header
body_frame at body.NotUtf8 said kind body_says is header = absurd body_says
body_frame at body.TooLong said kind body_says is header = absurd body_says

-- ---- clauses that give an id

-- a clause that gives its frame an id
pub record NamesFrame (clause : Clause) (id : List ℕ) : Type 0 where
  pub tag : clause.tag ≡ codes "id"
  pub value : clause.value ≡ value.Id id

word_of : (one : Value) (id : List ℕ) → word_in one ≡ Some id → one ≡ value.Id id
word_of (value.Text a) id is = absurd (cc)
word_of (value.Id word) id is = let same : word ≡ id = cc in ap value.Id same
word_of (value.Pair a b) id is = absurd (cc)
word_of (value.Bool a) id is = absurd (cc)
word_of (value.Def a b) id is = absurd (cc)
word_of (value.Synonym a b c d) id is = absurd (cc)
word_of (value.XrefValue a) id is = absurd (cc)
word_of (value.Literal a b c) id is = absurd (cc)
word_of (value.Link a b) id is = absurd (cc)
word_of (value.SubsetDef a b) id is = absurd (cc)
word_of (value.SynonymDef a b c) id is = absurd (cc)
word_of (value.Raw a) id is = absurd (cc)

names_at : (is_id : Bool) (clause : Clause) (id : List ℕ) → bytes_eq clause.tag (codes "id") ≡ is_id → cond is_id (word_in clause.value) None ≡ Some id → NamesFrame clause id
names_at true clause id is found =
    record { tag = (bytes_eq-Decides clause.tag (codes "id")).0 is; value = word_of clause.value id found }
names_at false clause id is found = absurd (cc)

pub names_frame : (clause : Clause) (id : List ℕ) → id_in clause ≡ Some id → NamesFrame clause id
names_frame clause id found = names_at (bytes_eq clause.tag (codes "id")) clause id refl found

same_word : (one other : List ℕ) → value.Id one ≡ value.Id other → one ≡ other
same_word one other same = cc

-- ---- one placed clause

-- what is kept of a placed clause by itself
pub record IsKeptAlone (one : Placed) : Type 0 where
  pub spelled : IsSpelledIn one.frame one.clause
  pub header : (one.frame ≡ kinds.Header) ↔ (one.id ≡ [])
  pub ids : (id : List ℕ) → GivesId id one → IsBare id one

kept_header : (at : Place) (item : LineItem) (line : ℕ) (clause : Clause) → ((text : List ℕ) → item.body ≡ body.Text text → IsLine text) → at.kind ≡ kinds.Header → IsClauseAt at item clause → IsKeptAlone (record { frame = kinds.Header; id = []; line = line; clause = clause })
kept_header at item line clause texts header is =
    let spells = subst (λ kind. Spells kind at.is_first is.line clause) header is.spells in
    record {
      spelled = record { first = at.is_first; spelled = record { line = is.line; is_line = texts is.line is.body; spells = spells } };
      header = (λ same. refl, λ none. refl);
      ids = λ id gives. absurd (foreign_id kinds.Header at.is_first is.line clause spells (header_id at.is_first) gives.tag id gives.value);
    }

kept_later : (at : Place) (item : LineItem) (line : ℕ) (clause : Clause) (kind : FrameKind) (id : List ℕ) → ((text : List ℕ) → item.body ≡ body.Text text → IsLine text) → at.kind ≡ kind → at.is_first ≡ false → (kind ≡ kinds.Header → ⊥) → (id ≡ [] → ⊥) → IsClauseAt at item clause → IsKeptAlone (record { frame = kind; id = id; line = line; clause = clause })
kept_later at item line clause kind id texts same later no_header some is =
    let spells : Spells kind false is.line clause = subst (λ first. Spells kind first is.line clause) later (subst (λ one. Spells one at.is_first is.line clause) same is.spells) in
    record {
      spelled = record { first = false; spelled = record { line = is.line; is_line = texts is.line is.body; spells = spells } };
      header = (λ header. absurd (no_header header), λ none. absurd (some none));
      ids = λ word gives. absurd (foreign_id kind false is.line clause spells (later_id kind) gives.tag word gives.value);
    }

kept_first : (at : Place) (item : LineItem) (line : ℕ) (clause : Clause) (kind : FrameKind) (id : List ℕ) → ((text : List ℕ) → item.body ≡ body.Text text → IsLine text) → at.kind ≡ kind → (kind ≡ kinds.Header → ⊥) → NamesFrame clause id → IsClauseAt at item clause → IsKeptAlone (record { frame = kind; id = id; line = line; clause = record clause { qualifiers = [] } })
kept_first at item line clause kind id texts same no_header names is =
    let spells : Spells kind at.is_first is.line clause = subst (λ one. Spells one at.is_first is.line clause) same is.spells in
    record {
      spelled = record { first = at.is_first; spelled = spells_bare kind at.is_first is.line clause (texts is.line is.body) spells id names.value };
      header = (λ header. absurd (no_header header), λ none. absurd (spells_some kind at.is_first is.line clause spells id names.value none));
      ids = λ word gives. record { same = same_word word id (sym gives.value ∙ names.value); bare = refl };
    }

-- ---- all placed clauses

-- what holds of a clause of one of these lines in its place, whichever of the three ways it is placed
pub record HoldsPlaced (P : Placed → Type 0) (items : List LineItem) : Type 0 where
  pub header : (at : Place) (item : LineItem) (line : ℕ) (clause : Clause) → Among item items → line ≡ item.number → at.kind ≡ kinds.Header → IsClauseAt at item clause → P (record { frame = kinds.Header; id = []; line = line; clause = clause })
  pub first : (at : Place) (item : LineItem) (line : ℕ) (clause : Clause) (kind : FrameKind) (id : List ℕ) → Among item items → line ≡ item.number → at.kind ≡ kind → (kind ≡ kinds.Header → ⊥) → NamesFrame clause id → IsClauseAt at item clause → P (record { frame = kind; id = id; line = line; clause = record clause { qualifiers = [] } })
  pub later : (at : Place) (item : LineItem) (line : ℕ) (clause : Clause) (kind : FrameKind) (id : List ℕ) → Among item items → line ≡ item.number → at.kind ≡ kind → at.is_first ≡ false → (kind ≡ kinds.Header → ⊥) → (id ≡ [] → ⊥) → IsClauseAt at item clause → P (record { frame = kind; id = id; line = line; clause = clause })

-- a line stands where the clauses belong to this
abbrev Fits : Standing → Place → Type 0
Fits Header at = at.kind ≡ kinds.Header
Fits (Begun kind line) at = (at.kind ≡ kind) × (kind ≡ kinds.Header → ⊥)
Fits (Within kind id) at = (at.kind ≡ kind) × (at.is_first ≡ false) × (kind ≡ kinds.Header → ⊥) × (id ≡ [] → ⊥)
Fits Nameless at = Unit {0}

-- it holds of what one line places, and the next line stands where it should
record HoldsOn (P : Placed → Type 0) (at : Place) (next : Standing) (placed : List Placed) (said : Line) : Type 0 where
  fits : Fits next (place_after at said)
  holds : All P placed

one_holds : (P : Placed → Type 0) (one : Placed) → P one → All P (one ∷ [])
one_holds P one holds = All-cons P one [] holds (All-nil P)

holds_first : (P : Placed → Type 0) (items : List LineItem) → HoldsPlaced P items → (at : Place) (item : LineItem) (line : ℕ) (clause : Clause) (kind : FrameKind) → Among item items → line ≡ item.number → at.kind ≡ kind → (kind ≡ kinds.Header → ⊥) → IsClauseAt at item clause → (found : Option (List ℕ)) → id_in clause ≡ found → HoldsOn P at (named kind found) (place_first kind found (record { line = line; clause = clause })) (says.Content clause)
holds_first P items each at item line clause kind among number same no_header is None found =
    record { fits = tt; holds = All-nil P }
holds_first P items each at item line clause kind among number same no_header is (Some id) found =
    let names = names_frame clause id found in
    let spells : Spells kind at.is_first is.line clause = subst (λ one. Spells one at.is_first is.line clause) same is.spells in
    record {
      fits = (same, refl, no_header, spells_some kind at.is_first is.line clause spells id names.value);
      holds = one_holds P _ (each.first at item line clause kind id among number same no_header names is);
    }

holds_clause : (P : Placed → Type 0) (items : List LineItem) → HoldsPlaced P items → (standing : Standing) (at : Place) (item : LineItem) (line : ℕ) (clause : Clause) → Among item items → line ≡ item.number → Fits standing at → IsClauseAt at item clause → HoldsOn P at (behind_clause standing clause) (placed_by_clause standing (record { line = line; clause = clause })) (says.Content clause)
holds_clause P items each Header at item line clause among number fits is =
    record { fits = fits; holds = one_holds P _ (each.header at item line clause among number fits is) }
holds_clause P items each (Begun kind begun) at item line clause among number fits is =
    holds_first P items each at item line clause kind among number fits.0 fits.1 is (id_in clause) refl
holds_clause P items each (Within kind id) at item line clause among number fits is =
    record {
      fits = (fits.0, refl, fits.2, fits.3);
      holds = one_holds P _ (each.later at item line clause kind id among number fits.0 fits.1 fits.2 fits.3 is);
    }
holds_clause P items each Nameless at item line clause among number fits is = record { fits = tt; holds = All-nil P }

holds_line : (P : Placed → Type 0) (items : List LineItem) → HoldsPlaced P items → (standing : Standing) (at : Place) (item : LineItem) (line : ℕ) (said : Line) → Among item items → line ≡ item.number → Fits standing at → BodySays at item.body said → HoldsOn P at (behind_line standing line said) (placed_by_line standing line said) said
holds_line P items each standing at item line says.Blank among number fits body_says = record { fits = fits; holds = All-nil P }
holds_line P items each standing at item line (says.Frame kind) among number fits body_says =
    record { fits = (refl, body_frame at item.body (says.Frame kind) kind body_says refl); holds = All-nil P }
holds_line P items each standing at item line (says.Content clause) among number fits body_says =
    holds_clause P items each standing at item line clause among number fits (body_clause at item item.body (says.Content clause) clause refl body_says refl)

all_joined : {X : Type 0} (P : X → Type 0) (xs ys : List X) → All P xs → All P ys → All P (xs ++ ys)
all_joined P [] ys first second = second
all_joined P (x ∷ xs) ys first second =
    All-cons P x (xs ++ ys) (All-head P x xs first) (all_joined P xs ys (All-tail P x xs first) second)

holds_from : (P : Placed → Type 0) (all : List LineItem) → HoldsPlaced P all → (standing : Standing) (at : Place) (items : List LineItem) (tolds : List Told) → ((item : LineItem) → Among item items → Among item all) → Fits standing at → Tells at items tolds → All P (placed_from standing tolds)
holds_from P all each standing at [] [] among fits tells = All-nil P
holds_from P all each standing at [] (told ∷ tolds) among fits tells = absurd tells
holds_from P all each standing at (item ∷ items) [] among fits tells = absurd tells
holds_from P all each standing at (item ∷ items) (told ∷ tolds) among fits tells =
    let on = holds_line P all each standing at item told.line told.said (among item (inl refl)) tells.0.line fits tells.0.says in
    all_joined P (placed_by_line standing told.line told.said) _ on.holds (holds_from P all each (behind_line standing told.line told.said) (place_after at told.said) items tolds (λ one later. among one (inr later)) on.fits tells.1)

-- what holds of a clause in its place, however it is placed, holds of all that lines place
pub holds_of_all : (P : Placed → Type 0) (items : List LineItem) (tolds : List Told) → HoldsPlaced P items → Tells start items tolds → All P (placed_of tolds)
holds_of_all P items tolds each tells =
    subst (All P) (placed_from-is tolds) (holds_from P items each Header start items tolds (λ item among. among) refl tells)

kept_placed : (limit : ℕ) (bytes : List ℕ) → HoldsPlaced IsKeptAlone (lines_of limit bytes)
kept_placed limit bytes =
    let texts = file_texts limit bytes in
    record {
      header = λ at item line clause among number header is. kept_header at item line clause (texts item among) header is;
      first = λ at item line clause kind id among number same no_header names is. kept_first at item line clause kind id (texts item among) same no_header names is;
      later = λ at item line clause kind id among number same later no_header some is. kept_later at item line clause kind id (texts item among) same later no_header some is;
    }

-- ---- the ids of frames

-- the frame that the clauses belong to has its `id` clause among these
abbrev HasHead : List Placed → Standing → Type 0
HasHead all Header = Unit {0}
HasHead all (Begun kind line) = Unit {0}
HasHead all (Within kind id) = (head : Placed) × Contains all head × (head.frame ≡ kind) × (head.id ≡ id) × GivesId id head
HasHead all Nameless = Unit {0}

-- a clause outside the header has the `id` clause of its frame among these
abbrev HasItsHead : List Placed → Placed → Type 0
HasItsHead all one = ¬ (one.frame ≡ kinds.Header) → HasIdClause all one

-- the first is among them, and so are the others
abbrev AreAmong : List Placed → List Placed → Type 0
AreAmong all some = All (Contains all) some

among_parts : (all some others : List Placed) → AreAmong all (some ++ others) → AreAmong all some × AreAmong all others
among_parts all [] others among = (All-nil (Contains all), among)
among_parts all (one ∷ some) others among =
    let rest = among_parts all some others (All-tail (Contains all) one (some ++ others) among) in
    (All-cons (Contains all) one some (All-head (Contains all) one (some ++ others) among) rest.0, rest.1)

record HeadsOn (all : List Placed) (next : Standing) (placed : List Placed) : Type 0 where
  head : HasHead all next
  heads : All (HasItsHead all) placed

one_alone : (all : List Placed) (one : Placed) → HasItsHead all one → All (HasItsHead all) (one ∷ [])
one_alone all one has = All-cons (HasItsHead all) one [] has (All-nil (HasItsHead all))

heads_first : (all : List Placed) (kind : FrameKind) (entry : Entry) (found : Option (List ℕ)) → id_in entry.clause ≡ found → AreAmong all (place_first kind found entry) → HeadsOn all (named kind found) (place_first kind found entry)
heads_first all kind entry None found among = record { head = tt; heads = All-nil (HasItsHead all) }
heads_first all kind entry (Some id) found among =
    let names = names_frame entry.clause id found in
    let head = place_id kind id entry in
    let is_among = All-head (Contains all) head [] among in
    let gives : GivesId id head = record { tag = names.tag; value = names.value } in
    record {
      head = (head, is_among, refl, refl, gives);
      heads = one_alone all head (λ no_header. record { head = head; among = is_among; kind = refl; id = refl; gives = gives });
    }

heads_clause : (all : List Placed) (standing : Standing) (entry : Entry) → HasHead all standing → AreAmong all (placed_by_clause standing entry) → HeadsOn all (behind_clause standing entry.clause) (placed_by_clause standing entry)
heads_clause all Header entry head among =
    record { head = tt; heads = one_alone all _ (λ no_header. absurd (no_header refl)) }
heads_clause all (Begun kind line) entry head among = heads_first all kind entry (id_in entry.clause) refl among
heads_clause all (Within kind id) entry head among =
    record { head = head; heads = one_alone all _ (λ no_header. record { head = head.0; among = head.1; kind = head.2; id = head.3; gives = head.4 }) }
heads_clause all Nameless entry head among = record { head = tt; heads = All-nil (HasItsHead all) }

heads_line : (all : List Placed) (standing : Standing) (line : ℕ) (said : Line) → HasHead all standing → AreAmong all (placed_by_line standing line said) → HeadsOn all (behind_line standing line said) (placed_by_line standing line said)
heads_line all standing line says.Blank head among = record { head = head; heads = All-nil (HasItsHead all) }
heads_line all standing line (says.Frame kind) head among = record { head = tt; heads = All-nil (HasItsHead all) }
heads_line all standing line (says.Content clause) head among = heads_clause all standing (record { line = line; clause = clause }) head among

each_head : (all : List Placed) (standing : Standing) (tolds : List Told) → HasHead all standing → AreAmong all (placed_from standing tolds) → All (HasItsHead all) (placed_from standing tolds)
each_head all standing [] head among = All-nil (HasItsHead all)
each_head all standing (told ∷ tolds) head among =
    let parts = among_parts all (placed_by_line standing told.line told.said) (placed_from (behind_line standing told.line told.said) tolds) among in
    let on = heads_line all standing told.line told.said head parts.0 in
    all_joined (HasItsHead all) (placed_by_line standing told.line told.said) _ on.heads (each_head all (behind_line standing told.line told.said) tolds on.head parts.1)

-- ---- the whole

pub kept_all : (limit : ℕ) (bytes : List ℕ) (tolds : List Told) → Tells start (lines_of limit bytes) tolds → first_fault tolds ≡ None → IsKept (placed_of tolds)
kept_all limit bytes tolds tells faultless =
    let placed = placed_of tolds in
    let alone = holds_of_all IsKeptAlone (lines_of limit bytes) tolds (kept_placed limit bytes) tells in
    let heads : All (HasItsHead placed) placed = subst (All (HasItsHead placed)) (placed_from-is tolds) (each_head placed Header tolds tt (subst (AreAmong placed) (sym (placed_from-is tolds)) (All-contains_itself placed))) in
    record {
      spelled = λ one among. (All-contains IsKeptAlone placed one alone among).spelled;
      header = λ one among. (All-contains IsKeptAlone placed one alone among).header;
      ids = λ one id among gives. (All-contains IsKeptAlone placed one alone among).ids id gives;
      frames = λ one among no_header. All-contains (HasItsHead placed) placed one heads among no_header;
      groups = no_lines (short_lines placed) (no_group (least_line None (lines_without_id tolds)) (least_line None (short_lines placed)) faultless);
    }
