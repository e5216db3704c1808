-- Blocks and endings: what is read as an ending is one, and each ending is read as what it says.
use Rattle.std.proofs.Common.{◌≡◌, ℕ, zero, suc, ◌≤◌, Bool, true, false, cond, List, [], ◌∷◌, ◌++◌, Option, Some, None, length, refl, sym, ap, subst, ◌∙◌, arith, length-append}
use Rattle.std.specs.Option.{option_and_then, option_map}
use Rattle.std.proofs.lemmas.List.{append_assoc}
use Rattle.obo_clause.specs.declared.clause.Qualifier.{Qualifier}
use Rattle.obo_clause.specs.Faults.{Stops}
use Rattle.obo_clause.specs.Grammar.{AreBlanks, AreQualifiers, IsBlock, IsComment, IsEnding, IsQualifier}
use Rattle.obo_clause.specs.Marks.{MarkedByte}
use Rattle.obo_clause.specs.Reading.{Field, behind_blanks, behind_sign, block_at, block_end, block_ending, ending_at, ends_with, field_at, found, is_comment, qualifier_of, qualifiers_from}
use Rattle.obo_clause.specs.Vocabulary.{block_close, block_open, comma, equals, exclamation, is_key_mark, is_space}
use Rattle.obo_clause.proofs.FieldLemmas.{FieldFound, HasField, field-finds, field-found}
use Rattle.obo_clause.proofs.RunLemmas.{stops-run}
use Rattle.obo_clause.proofs.SignLemmas.{behind_sign-found, is_sign-bare, key-not_space}
use Rattle.obo_clause.proofs.WordLemmas.{blanks-at, blanks-behind, same-some}

-- ---- what is found is there

-- qualifiers, blanks, the block's end and the rest
pub record HasQualifiers (marks : List MarkedByte) (qualifiers : List Qualifier) (rest : List MarkedByte) : Type 0 where
  pub inside : List MarkedByte
  pub blanks : List MarkedByte
  pub whole : marks ≡ inside ++ (blanks ++ block_close ∷ rest)
  pub are : AreQualifiers inside qualifiers
  pub blank : AreBlanks blanks

-- what a block says, and the rest
abbrev pub Block : Type 0
Block = List Qualifier × List MarkedByte

end-step : (marks : List MarkedByte) (field : Field) (block : Block) (o : Option (List MarkedByte)) → behind_sign 125 field.2 ≡ o → HasField marks field → option_map {U = Block} (λ (rest : List MarkedByte). (qualifier_of field ∷ [], rest)) o ≡ Some block → HasQualifiers marks block.0 block.1
end-step marks field block None e has h = cc
end-step marks field block (Some rest) e has h =
    let same = same-some (qualifier_of field ∷ [], rest) block h in
    subst (λ (b : Block). HasQualifiers marks b.0 b.1) same (record {
      inside = has.part;
      blanks = has.blanks;
      whole = has.whole ∙ ap (λ l. has.part ++ (has.blanks ++ l)) (behind_sign-found 125 field.2 rest e);
      are = AreQualifiers.last has.part (qualifier_of field) has.is;
      blank = has.blank;
    })

more-step : (marks more : List MarkedByte) (field : Field) (block : Block) (o : Option Block) → field.2 ≡ comma ∷ more → HasField marks field → ((read : Block) → o ≡ Some read → HasQualifiers (behind_blanks more) read.0 read.1) → option_map {U = Block} (λ (read : Block). (qualifier_of field ∷ read.0, read.1)) o ≡ Some block → HasQualifiers marks block.0 block.1
more-step marks more field block None e has later h = cc
more-step marks more field block (Some read) e has later h =
    let same = same-some (qualifier_of field ∷ read.0, read.1) block h in
    let others = later read refl in
    let at = blanks-at more in
    subst (λ (b : Block). HasQualifiers marks b.0 b.1) same (record {
      inside = has.part ++ has.blanks ++ comma ∷ (at.blanks ++ others.inside);
      blanks = others.blanks;
      whole = has.whole ∙ (ap (λ l. has.part ++ (has.blanks ++ l)) (e ∙ ap (λ l. comma ∷ l) (at.whole ∙ ap (λ l. at.blanks ++ l) others.whole)) ∙ simp append_assoc);
      are = AreQualifiers.more has.part has.blanks at.blanks others.inside (qualifier_of field) read.0 has.is has.blank at.blank others.are;
      blank = others.blank;
    })

comma-step : (count : ℕ) (marks : List MarkedByte) (field : Field) (block : Block) (o : Option (List MarkedByte)) → behind_sign 44 field.2 ≡ o → HasField marks field → ((marks : List MarkedByte) (read : Block) → qualifiers_from count marks ≡ Some read → HasQualifiers marks read.0 read.1)
    → found o (block_end (qualifier_of field ∷ []) field.2) (λ (more : List MarkedByte). option_map {U = Block} (λ (read : Block). (qualifier_of field ∷ read.0, read.1)) (qualifiers_from count (behind_blanks more))) ≡ Some block → HasQualifiers marks block.0 block.1
comma-step count marks field block None e has later h = end-step marks field block (behind_sign 125 field.2) refl has h
comma-step count marks field block (Some more) e has later h =
    more-step marks more field block (qualifiers_from count (behind_blanks more)) (behind_sign-found 44 field.2 more e) has (λ read is. later (behind_blanks more) read is) h

first-step : (count : ℕ) (marks : List MarkedByte) (block : Block) (o : Option Field) → field_at marks ≡ o → ((marks : List MarkedByte) (read : Block) → qualifiers_from count marks ≡ Some read → HasQualifiers marks read.0 read.1)
    → option_and_then (λ (field : Field). found (behind_sign 44 field.2) (block_end (qualifier_of field ∷ []) field.2) (λ (more : List MarkedByte). option_map {U = Block} (λ (read : Block). (qualifier_of field ∷ read.0, read.1)) (qualifiers_from count (behind_blanks more)))) o ≡ Some block → HasQualifiers marks block.0 block.1
first-step count marks block None e later h = cc
first-step count marks block (Some field) e later h =
    comma-step count marks field block (behind_sign 44 field.2) refl (field-found marks field e) later h

pub qualifiers-found : (count : ℕ) (marks : List MarkedByte) (block : Block) → qualifiers_from count marks ≡ Some block → HasQualifiers marks block.0 block.1
unfolding qualifiers_from
qualifiers-found zero marks block h = cc
qualifiers-found (suc count) marks block h =
    first-step count marks block (field_at marks) refl (λ marks read is. qualifiers-found count marks read is) h

-- ---- what is there is found

qualifier-begins : (part rest : List MarkedByte) (q : Qualifier) → IsQualifier part q → Stops is_space (part ++ rest)
qualifier-begins part rest q is =
    let whole : part ++ rest ≡ is.key ++ (is.before ++ equals ∷ (is.behind ++ (is.value ++ rest))) = ap (λ l. l ++ rest) is.whole ∙ simp append_assoc in
    subst (Stops is_space) (sym whole) (stops-run is_key_mark is_space key-not_space is.key (is.before ++ equals ∷ (is.behind ++ (is.value ++ rest))) is.keyed.some is.keyed.each)

pub qualifiers-begin : (inside rest : List MarkedByte) (qualifiers : List Qualifier) → AreQualifiers inside qualifiers → Stops is_space (inside ++ rest)
qualifiers-begin _ rest _ (AreQualifiers.last marks q is) = qualifier-begins marks rest q is
qualifiers-begin _ rest _ (AreQualifiers.more marks before after more q others is one two are) =
    let whole : (marks ++ before ++ comma ∷ (after ++ more)) ++ rest ≡ marks ++ (before ++ comma ∷ (after ++ (more ++ rest))) = simp append_assoc in
    subst (Stops is_space) (sym whole) (qualifier-begins marks (before ++ comma ∷ (after ++ (more ++ rest))) q is)

qualifier-counts : (part : List MarkedByte) (q : Qualifier) → IsQualifier part q → 1 ≤ length part
qualifier-counts part q is =
    let some = is.keyed.some in
    omega (arith, ap length is.whole, length-append (is.key ++ is.before) (equals ∷ (is.behind ++ is.value)), length-append is.key is.before)

pub qualifiers-count : (inside : List MarkedByte) (qualifiers : List Qualifier) → AreQualifiers inside qualifiers → length qualifiers ≤ length inside
qualifiers-count _ _ (AreQualifiers.last marks q is) = qualifier-counts marks q is
qualifiers-count _ _ (AreQualifiers.more marks before after more q others is one two are) =
    let later = qualifiers-count more others are in
    omega (arith, length-append (marks ++ before) (comma ∷ (after ++ more)), length-append after more)

-- one qualifier read, by what stands behind it
read-last : (count : ℕ) (marks rest : List MarkedByte) (q : Qualifier) → FieldFound marks q (block_close ∷ rest) → qualifiers_from (suc count) marks ≡ Some (q ∷ [], rest)
unfolding qualifiers_from
read-last count marks rest q f =
    ap (option_and_then (λ (field : Field). found (behind_sign 44 field.2) (block_end (qualifier_of field ∷ []) field.2) (λ (more : List MarkedByte). option_map {U = Block} (λ (read : Block). (qualifier_of field ∷ read.0, read.1)) (qualifiers_from count (behind_blanks more))))) f.found
    ∙ ((λ i. found (behind_sign 44 (f.left i)) (block_end (qualifier_of f.field ∷ []) (f.left i)) (λ (more : List MarkedByte). option_map {U = Block} (λ (read : Block). (qualifier_of f.field ∷ read.0, read.1)) (qualifiers_from count (behind_blanks more))))
    ∙ λ i. Some (f.is i ∷ [], rest))

read-more : (count : ℕ) (marks more : List MarkedByte) (q : Qualifier) (others : Block) → FieldFound marks q (comma ∷ more) → qualifiers_from count (behind_blanks more) ≡ Some others → qualifiers_from (suc count) marks ≡ Some (q ∷ others.0, others.1)
unfolding qualifiers_from
read-more count marks more q others f later =
    ap (option_and_then (λ (field : Field). found (behind_sign 44 field.2) (block_end (qualifier_of field ∷ []) field.2) (λ (more : List MarkedByte). option_map {U = Block} (λ (read : Block). (qualifier_of field ∷ read.0, read.1)) (qualifiers_from count (behind_blanks more))))) f.found
    ∙ ((λ i. found (behind_sign 44 (f.left i)) (block_end (qualifier_of f.field ∷ []) (f.left i)) (λ (more : List MarkedByte). option_map {U = Block} (λ (read : Block). (qualifier_of f.field ∷ read.0, read.1)) (qualifiers_from count (behind_blanks more))))
    ∙ λ i. option_map {U = Block} (λ (read : Block). (f.is i ∷ read.0, read.1)) (later i))

pub qualifiers-finds : (inside : List MarkedByte) (qualifiers : List Qualifier) → AreQualifiers inside qualifiers → (count : ℕ) (blanks rest : List MarkedByte) → length qualifiers ≤ count → AreBlanks blanks → qualifiers_from count (inside ++ (blanks ++ block_close ∷ rest)) ≡ Some (qualifiers, rest)
qualifiers-finds _ _ (AreQualifiers.last marks q is) zero blanks rest fits blank = absurd (omega arith)
qualifiers-finds _ _ (AreQualifiers.last marks q is) (suc count) blanks rest fits blank =
    read-last count (marks ++ (blanks ++ block_close ∷ rest)) rest q (field-finds block_close rest refl refl refl marks blanks q is blank)
qualifiers-finds _ _ (AreQualifiers.more marks before after more q others is one two are) zero blanks rest fits blank = absurd (omega arith)
qualifiers-finds _ _ (AreQualifiers.more marks before after more q others is one two are) (suc count) blanks rest fits blank =
    let tail = more ++ (blanks ++ block_close ∷ rest) in
    let whole : (marks ++ before ++ comma ∷ (after ++ more)) ++ (blanks ++ block_close ∷ rest) ≡ marks ++ (before ++ comma ∷ (after ++ tail)) = simp append_assoc in
    let at : behind_blanks (after ++ tail) ≡ tail = blanks-behind after tail two (qualifiers-begin more (blanks ++ block_close ∷ rest) others are) in
    let fewer : length others ≤ count = omega arith in
    ap (qualifiers_from (suc count)) whole
    ∙ read-more count (marks ++ (before ++ comma ∷ (after ++ tail))) (after ++ tail) q (others, rest) (field-finds comma (after ++ tail) refl refl refl marks before q is one)
    (ap (qualifiers_from count) at ∙ qualifiers-finds more others are count blanks rest fewer blank)

-- ---- comments and endings

pub comment-is : (marks : List MarkedByte) → is_comment marks ≡ true → IsComment marks
comment-is [] h = IsComment.nothing
comment-is (mark ∷ marks) h = subst IsComment (λ i. sym (is_sign-bare 33 mark h) i ∷ marks) (IsComment.comment marks)

pub comment-has : (marks : List MarkedByte) → IsComment marks → is_comment marks ≡ true
comment-has _ IsComment.nothing = refl
comment-has _ (IsComment.comment rest) = refl

pub comment-begins : (marks : List MarkedByte) → IsComment marks → Stops is_space marks
comment-begins _ IsComment.nothing = tt
comment-begins _ (IsComment.comment rest) = refl

ends-step : (marks inside : List MarkedByte) (block : Block) (qualifiers : List Qualifier) (b : Bool) → is_comment (behind_blanks block.1) ≡ b → marks ≡ block_open ∷ inside → HasQualifiers (behind_blanks inside) block.0 block.1 → cond {A = Option (List Qualifier)} b (Some block.0) None ≡ Some qualifiers → IsEnding marks qualifiers
ends-step marks inside block qualifiers false e whole has h = cc
ends-step marks inside block qualifiers true e whole has h =
    let same = same-some block.0 qualifiers h in
    let before = blanks-at inside in
    let after = blanks-at block.1 in
    let within = before.blanks ++ has.inside ++ has.blanks ++ block_close ∷ [] in
    let all : marks ≡ (block_open ∷ within) ++ after.blanks ++ behind_blanks block.1 = whole ∙ (ap (λ l. block_open ∷ l) (before.whole ∙ ap (λ l. before.blanks ++ l) (has.whole ∙ ap (λ l. has.inside ++ (has.blanks ++ block_close ∷ l)) after.whole)) ∙ simp append_assoc) in
    let is : IsBlock (block_open ∷ within) block.0 = record { before = before.blanks; inside = has.inside; behind = has.blanks; whole = refl; blank_before = before.blank; blank_behind = has.blank; within = has.are } in
    subst (IsEnding marks) same (subst (λ l. IsEnding l block.0) (sym all) (IsEnding.qualified (block_open ∷ within) after.blanks (behind_blanks block.1) block.0 is after.blank (comment-is (behind_blanks block.1) e)))

block-step : (marks inside : List MarkedByte) (qualifiers : List Qualifier) (o : Option Block) → block_at inside ≡ o → marks ≡ block_open ∷ inside → option_and_then ends_with o ≡ Some qualifiers → IsEnding marks qualifiers
unfolding block_at
block-step marks inside qualifiers None e whole h = cc
block-step marks inside qualifiers (Some block) e whole h =
    ends-step marks inside block qualifiers (is_comment (behind_blanks block.1)) refl whole (qualifiers-found (suc (length (behind_blanks inside))) (behind_blanks inside) block e) h

open-step : (marks : List MarkedByte) (qualifiers : List Qualifier) (o : Option (List MarkedByte)) → behind_sign 123 marks ≡ o → option_and_then block_ending o ≡ Some qualifiers → IsEnding marks qualifiers
open-step marks qualifiers None e h = cc
open-step marks qualifiers (Some inside) e h =
    block-step marks inside qualifiers (block_at inside) refl (behind_sign-found 123 marks inside e) h

ending-step : (marks : List MarkedByte) (qualifiers : List Qualifier) (b : Bool) → is_comment marks ≡ b → cond {A = Option (List Qualifier)} b (Some []) (option_and_then block_ending (behind_sign 123 marks)) ≡ Some qualifiers → IsEnding marks qualifiers
ending-step marks qualifiers true e h =
    subst (IsEnding marks) (same-some [] qualifiers h) (IsEnding.bare marks (comment-is marks e))
ending-step marks qualifiers false e h = open-step marks qualifiers (behind_sign 123 marks) refl h

pub ending-found : (marks : List MarkedByte) (qualifiers : List Qualifier) → ending_at marks ≡ Some qualifiers → IsEnding marks qualifiers
unfolding ending_at
ending-found marks qualifiers h = ending-step marks qualifiers (is_comment marks) refl h

block-finds : (block tail : List MarkedByte) (qualifiers : List Qualifier) → IsBlock block qualifiers → (inside : List MarkedByte) × (block ++ tail ≡ block_open ∷ inside) × (block_at inside ≡ Some (qualifiers, tail))
unfolding block_at
block-finds block tail qualifiers is =
    let core = is.inside ++ (is.behind ++ block_close ∷ tail) in
    let whole : block ++ tail ≡ block_open ∷ (is.before ++ core) = ap (λ l. l ++ tail) is.whole ∙ simp append_assoc in
    let at : behind_blanks (is.before ++ core) ≡ core = blanks-behind is.before core is.blank_before (qualifiers-begin is.inside (is.behind ++ block_close ∷ tail) qualifiers is.within) in
    let counted = qualifiers-count is.inside qualifiers is.within in
    let fits : length qualifiers ≤ suc (length core) = omega (arith, length-append is.inside (is.behind ++ block_close ∷ tail)) in
    (is.before ++ core, whole, ap (λ l. qualifiers_from (suc (length l)) l) at ∙ qualifiers-finds is.inside qualifiers is.within (suc (length core)) is.behind tail fits is.blank_behind)

pub ending-finds : (marks : List MarkedByte) (qualifiers : List Qualifier) → IsEnding marks qualifiers → ending_at marks ≡ Some qualifiers
unfolding ending_at
ending-finds _ _ (IsEnding.bare comment is) =
    ap (λ b. cond {A = Option (List Qualifier)} b (Some []) (option_and_then block_ending (behind_sign 123 comment))) (comment-has comment is)
ending-finds _ _ (IsEnding.qualified block blanks comment qualifiers is blank last) =
    let f = block-finds block (blanks ++ comment) qualifiers is in
    let whole : block ++ blanks ++ comment ≡ block_open ∷ f.0 = append_assoc block blanks comment ∙ f.1 in
    let at : behind_blanks (blanks ++ comment) ≡ comment = blanks-behind blanks comment blank (comment-begins comment last) in
    ap ending_at whole
    ∙ (ap (option_and_then ends_with) f.2
    ∙ (ap (λ l. cond {A = Option (List Qualifier)} (is_comment l) (Some qualifiers) None) at
    ∙ ap (λ b. cond {A = Option (List Qualifier)} b (Some qualifiers) None) (comment-has comment last)))

-- an ending begins with no blank, and with nothing that goes on in a value
pub ending-begins : (test : MarkedByte → Bool) (marks : List MarkedByte) (qualifiers : List Qualifier) → IsEnding marks qualifiers → test exclamation ≡ false → test block_open ≡ false → Stops test marks
ending-begins test _ _ (IsEnding.bare _ IsComment.nothing) one two = tt
ending-begins test _ _ (IsEnding.bare _ (IsComment.comment rest)) one two = one
ending-begins test _ _ (IsEnding.qualified block blanks comment qualifiers is blank last) one two =
    subst (Stops test) (sym (append_assoc block blanks comment ∙ ap (λ l. l ++ (blanks ++ comment)) is.whole)) two
