-- The joined values of a group tell each of them.
use Rattle.std.proofs.Common.{◌≡◌, ◌==◌, ℕ, Bool, true, false, List, [], ◌∷◌, ◌++◌, ◌<◌, All, arith, codes, length, map, inl, inr, ⊎_elim, refl, sym, ap, subst, ◌∙◌, append-nil, append_assoc, eqb-true, suc, if◌then◌else◌}
use Rattle.std.specs.List.{flat_map, join_by}
use Rattle.std.proofs.lemmas.Bool.{both_ways, cases_Bool, false_from_ne_true}
use Rattle.text_sets.specs.Sets.{In}
use Rattle.obo_notes.proofs.PartCovers.{All-In}
use Rattle.obo_tags.specs.declared.kind.FrameKind.TheVariants.{Term}
use Rattle.obo_tags.specs.declared.kind.ValueShape.TheVariants as shapes
use Rattle.obo_clause.specs.Fits.{Fits, FitsQualifier, FitsShape}
use Rattle.obo_clause.specs.Marks.{bare}
use Rattle.obo_clause.specs.Vocabulary.{is_key_mark}
use Rattle.obo_clause.specs.declared.clause.Clause.{Clause}
use Rattle.obo_clause.specs.declared.clause.Qualifier.{Qualifier}
use Rattle.obo_clause.specs.declared.clause.Value.{Value}
use Rattle.obo_clause.specs.declared.clause.Value.TheVariants as value
use Rattle.obo_clause.specs.Spelling.{Spells}
use Rattle.obo_clause.proofs.AnswerLemmas.{spells-one-clause}
use Rattle.clause_printer.proofs.PrintedLines.{printed_line}
use Rattle.clause_printer.specs.Printing.{behind_space, block_text, clause_text, is_escaped_in_quotes, is_escaped_in_word, letter_of, qualifier_text, quoted_text, spelled_byte, value_text, word_text}
use Rattle.obo_mapping.specs.TwoValues.{printed}

-- where a byte stands: outside of blocks, in a block, in quotes there, and behind a backslash outside or in quotes
data State : Type 0 where
  out out_escaped in_block quoted quoted_escaped : State

step : State → ℕ → State
step out byte = if byte == 92 then out_escaped else (if byte == 123 then in_block else out)
step out_escaped byte = out
step in_block byte = if byte == 34 then quoted else (if byte == 125 then out else in_block)
step quoted byte = if byte == 92 then quoted_escaped else (if byte == 34 then in_block else quoted)
step quoted_escaped byte = quoted

ends : State → ℕ → Bool
ends out byte = byte == 44
ends _ byte = false

-- what stands before the first comma outside
front : State → List ℕ → List ℕ
front s [] = []
front s (b ∷ bs) = if ends s b then [] else b ∷ front (step s b) bs

behind : State → List ℕ → List ℕ
behind s [] = []
behind s (b ∷ bs) = if ends s b then b ∷ bs else behind (step s b) bs

-- the bytes are passed, from the one state to the other
record Passes (s : State) (xs : List ℕ) (t : State) : Type 0 where
  fronts : (rest : List ℕ) → front s (xs ++ rest) ≡ xs ++ front t rest
  behinds : (rest : List ℕ) → behind s (xs ++ rest) ≡ behind t rest

nothing : (s : State) → Passes s [] s
nothing s = record { fronts = λ rest. refl; behinds = λ rest. refl }

one_byte : (s t : State) (b : ℕ) → ends s b ≡ false → step s b ≡ t → Passes s (b ∷ []) t
unfolding front behind
one_byte s t b goes next = record {
  fronts = λ rest. (λ i. if goes i then [] else b ∷ front (next i) rest);
  behinds = λ rest. (λ i. if goes i then b ∷ rest else behind (next i) rest);
}

then_more : (s t u : State) (xs ys : List ℕ) → Passes s xs t → Passes t ys u → Passes s (xs ++ ys) u
then_more s t u xs ys first second = record {
  fronts = λ rest. ap (front s) (append_assoc xs ys rest) ∙ first.fronts (ys ++ rest) ∙ ap (λ zs. xs ++ zs) (second.fronts rest) ∙ sym (append_assoc xs ys (front u rest));
  behinds = λ rest. ap (behind s) (append_assoc xs ys rest) ∙ first.behinds (ys ++ rest) ∙ second.behinds rest;
}

each_passes : {X : Type 0} (s : State) (f : X → List ℕ) (xs : List X) → ((x : X) → In x xs → Passes s (f x) s) → Passes s (flat_map f xs) s
each_passes s f [] each = nothing s
each_passes s f (x ∷ xs) each = then_more s s s (f x) (flat_map f xs) (each x (inl refl)) (each_passes s f xs (λ y here. each y (inr here)))

not_that : (p : ℕ → Bool) (b n : ℕ) → p n ≡ true → p b ≡ false → (b == n) ≡ false
not_that p b n is isnt = false_from_ne_true (b == n) (λ same. both_ways (p b) isnt (ap p (eqb-true b n same) ∙ is))

-- ---- words

word_byte : (b : ℕ) → Passes out (spelled_byte (is_escaped_in_word b) b) out
unfolding step ends is_escaped_in_word
word_byte b =
    ⊎_elim
    (λ escaped. subst (λ t. Passes out (spelled_byte t b) out) (sym escaped) (then_more out out_escaped out (92 ∷ []) (letter_of b ∷ []) (one_byte out out_escaped 92 refl refl) (one_byte out_escaped out (letter_of b) refl refl)))
    (λ plain. subst (λ t. Passes out (spelled_byte t b) out) (sym plain) (one_byte out out b (not_that is_escaped_in_word b 44 refl plain)
    (λ i. if not_that is_escaped_in_word b 92 refl plain i then out_escaped else (if not_that is_escaped_in_word b 123 refl plain i then in_block else out))))
    (cases_Bool (is_escaped_in_word b))

word_passes : (word : List ℕ) → Passes out (word_text word) out
word_passes word = each_passes out (λ byte. spelled_byte (is_escaped_in_word byte) byte) word (λ b here. word_byte b)

space_passes : Passes out (32 ∷ []) out
unfolding step ends
space_passes = one_byte out out 32 refl refl

-- ---- blocks

quoted_byte : (b : ℕ) → Passes quoted (spelled_byte (is_escaped_in_quotes b) b) quoted
unfolding step ends is_escaped_in_quotes
quoted_byte b =
    ⊎_elim
    (λ escaped. subst (λ t. Passes quoted (spelled_byte t b) quoted) (sym escaped) (then_more quoted quoted_escaped quoted (92 ∷ []) (letter_of b ∷ []) (one_byte quoted quoted_escaped 92 refl refl) (one_byte quoted_escaped quoted (letter_of b) refl refl)))
    (λ plain. subst (λ t. Passes quoted (spelled_byte t b) quoted) (sym plain) (one_byte quoted quoted b refl
    (λ i. if not_that is_escaped_in_quotes b 92 refl plain i then quoted_escaped else (if not_that is_escaped_in_quotes b 34 refl plain i then in_block else quoted))))
    (cases_Bool (is_escaped_in_quotes b))

quotes_pass : (text : List ℕ) → Passes in_block (quoted_text text) in_block
unfolding step ends
quotes_pass text =
    then_more in_block quoted in_block (34 ∷ []) (flat_map (λ byte. spelled_byte (is_escaped_in_quotes byte) byte) text ++ 34 ∷ []) (one_byte in_block quoted 34 refl refl)
    (then_more quoted quoted in_block (flat_map (λ byte. spelled_byte (is_escaped_in_quotes byte) byte) text) (34 ∷ []) (each_passes quoted (λ byte. spelled_byte (is_escaped_in_quotes byte) byte) text (λ b here. quoted_byte b)) (one_byte quoted in_block 34 refl refl))

key_byte : (b : ℕ) → is_key_mark (bare b) ≡ true → Passes in_block (b ∷ []) in_block
unfolding step ends
key_byte b is =
    let isnot = λ (n : ℕ) (bad : is_key_mark (bare n) ≡ false). false_from_ne_true (b == n) (λ same. both_ways (is_key_mark (bare n)) bad (ap (λ m. is_key_mark (bare m)) (sym (eqb-true b n same)) ∙ is)) in
    one_byte in_block in_block b refl (λ i. if isnot 34 refl i then quoted else (if isnot 125 refl i then out else in_block))

key_passes : (key : List ℕ) → ((b : ℕ) → In b key → is_key_mark (bare b) ≡ true) → Passes in_block key in_block
key_passes [] each = nothing in_block
key_passes (b ∷ bs) each = then_more in_block in_block in_block (b ∷ []) bs (key_byte b (each b (inl refl))) (key_passes bs (λ c here. each c (inr here)))

qualifier_passes : (q : Qualifier) → FitsQualifier q → Passes in_block (qualifier_text q) in_block
unfolding step ends
qualifier_passes q fits = then_more in_block in_block in_block q.key (61 ∷ quoted_text q.value) (key_passes q.key (λ b here. All-In (λ byte. is_key_mark (bare byte) ≡ true) q.key b fits.each here)) (then_more in_block in_block in_block (61 ∷ []) (quoted_text q.value) (one_byte in_block in_block 61 refl refl) (quotes_pass q.value))

comma_passes : Passes in_block (codes ", ") in_block
unfolding step ends
comma_passes = then_more in_block in_block in_block (44 ∷ []) (32 ∷ []) (one_byte in_block in_block 44 refl refl) (one_byte in_block in_block 32 refl refl)

block_passes : (qs : List Qualifier) → All FitsQualifier qs → Passes out (behind_space (block_text qs)) out
unfolding step ends
block_passes [] all = nothing out
block_passes (q ∷ qs) all =
    let fits = λ (x : Qualifier) (here : In x (q ∷ qs)). All-In FitsQualifier (q ∷ qs) x all here in
    let others = flat_map (λ (y : Qualifier). codes ", " ++ qualifier_text y) qs in
    let inside = then_more in_block in_block in_block (qualifier_text q) others (qualifier_passes q (fits q (inl refl)))
    (each_passes in_block (λ (y : Qualifier). codes ", " ++ qualifier_text y) qs (λ y here. then_more in_block in_block in_block (codes ", ") (qualifier_text y) comma_passes (qualifier_passes y (fits y (inr here))))) in
    then_more out out out (32 ∷ []) (123 ∷ ((qualifier_text q ++ others) ++ 125 ∷ [])) space_passes
    (then_more out in_block out (123 ∷ []) ((qualifier_text q ++ others) ++ 125 ∷ []) (one_byte out in_block 123 refl refl) (then_more in_block in_block out (qualifier_text q ++ others) (125 ∷ []) inside (one_byte in_block out 125 refl refl)))

-- ---- values of groups

value_passes : (v : Value) → FitsShape shapes.IdOrPair v → Passes out (value_text v) out
value_passes (value.Id word) fits = word_passes word
value_passes (value.Pair first second) fits = then_more out out out (word_text first ++ codes " ") (word_text second) (then_more out out out (word_text first) (codes " ") (word_passes first) space_passes) (word_passes second)
value_passes _ fits = absurd fits

-- a clause of a group
pub record IsOperandClause (c : Clause) : Type 0 where
  pub value : FitsShape shapes.IdOrPair c.value
  pub qualifiers : All FitsQualifier c.qualifiers

printed_passes : (c : Clause) → IsOperandClause c → Passes out (printed c) out
printed_passes c is = then_more out out out (value_text c.value) (behind_space (block_text c.qualifiers)) (value_passes c.value is.value) (block_passes c.qualifiers is.qualifiers)

abbrev others_text : List Clause → List ℕ
others_text cs = flat_map (λ (c : Clause). codes ", " ++ printed c) cs

cut_others : (cs : List Clause) → (front out (others_text cs) ≡ []) × (behind out (others_text cs) ≡ others_text cs)
unfolding front behind ends
cut_others [] = (refl, refl)
cut_others (c ∷ cs) = (refl, refl)

first_same : (c d : Clause) (cs ds : List Clause) → IsOperandClause c → IsOperandClause d → printed c ++ others_text cs ≡ printed d ++ others_text ds → (printed c ≡ printed d) × (others_text cs ≡ others_text ds)
first_same c d cs ds is also same =
    let one = printed_passes c is in
    let other = printed_passes d also in
    let left = λ (e : Clause) (es : List Clause) (p : Passes out (printed e) out). p.fronts (others_text es) ∙ ap (λ xs. printed e ++ xs) (cut_others es).0 ∙ append-nil (printed e) in
    let right = λ (e : Clause) (es : List Clause) (p : Passes out (printed e) out). p.behinds (others_text es) ∙ (cut_others es).1 in
    (sym (left c cs one) ∙ ap (front out) same ∙ left d ds other, sym (right c cs one) ∙ ap (behind out) same ∙ right d ds other)

without_comma : List ℕ → List ℕ
without_comma [] = []
without_comma (a ∷ []) = []
without_comma (a ∷ b ∷ bs) = bs

first_byte : List ℕ → ℕ
first_byte [] = 0
first_byte (b ∷ bs) = b

others_same : (cs ds : List Clause) → ((c : Clause) → In c cs → IsOperandClause c) → ((d : Clause) → In d ds → IsOperandClause d) → others_text cs ≡ others_text ds → map printed cs ≡ map printed ds
unfolding without_comma first_byte
others_same [] [] all too same = refl
others_same [] (d ∷ ds) all too same = let h : 0 ≡ 44 = ap first_byte same in absurd (omega (arith, h))
others_same (c ∷ cs) [] all too same = let h : 44 ≡ 0 = ap first_byte same in absurd (omega (arith, h))
others_same (c ∷ cs) (d ∷ ds) all too same =
    let first = first_same c d cs ds (all c (inl refl)) (too d (inl refl)) (ap without_comma same) in
    λ i. first.0 i ∷ others_same cs ds (λ e here. all e (inr here)) (λ e here. too e (inr here)) first.1 i

-- the same joined values are the same values
pub joined_same : (cs ds : List Clause) → ((c : Clause) → In c cs → IsOperandClause c) → ((d : Clause) → In d ds → IsOperandClause d) → join_by printed (codes ", ") cs ≡ join_by printed (codes ", ") ds → 0 < length cs → 0 < length ds → map printed cs ≡ map printed ds
joined_same [] ds all too same some more = absurd (omega (arith, some))
joined_same (c ∷ cs) [] all too same some more = absurd (omega (arith, more))
joined_same (c ∷ cs) (d ∷ ds) all too same some more =
    let first = first_same c d cs ds (all c (inl refl)) (too d (inl refl)) same in
    λ i. first.0 i ∷ others_same cs ds (λ e here. all e (inr here)) (λ e here. too e (inr here)) first.1 i

-- ---- a clause of a group is told by its printed value

word_some : (word : List ℕ) → 0 < length word → 0 < length (word_text word)
word_some [] some = absurd (omega (arith, some))
word_some (b ∷ bs) some = by_escape (is_escaped_in_word b)
  where
    by_escape : (t : Bool) → 0 < length (spelled_byte t b ++ word_text bs)
    by_escape true = omega arith
    by_escape false = omega arith

more_behind : (xs ys : List ℕ) → 0 < length xs → 0 < length (xs ++ ys)
more_behind [] ys some = absurd (omega (arith, some))
more_behind (x ∷ xs) ys some = omega arith

value_some : (v : Value) → FitsShape shapes.IdOrPair v → 0 < length (value_text v)
value_some (value.Id word) fits = word_some word fits.some
value_some (value.Pair first second) fits = more_behind (word_text first ++ codes " ") (word_text second) (more_behind (word_text first) (codes " ") (word_some first fits.0.some))
value_some _ fits = absurd fits

spaced : (xs : List ℕ) → 0 < length xs → behind_space xs ≡ codes " " ++ xs
spaced [] some = absurd (omega (arith, some))
spaced (x ∷ xs) some = refl

clause_line : (c : Clause) → IsOperandClause c → clause_text c ≡ c.tag ++ 58 ∷ (codes " " ++ printed c)
unfolding clause_text
clause_line c is = ap (λ xs. c.tag ++ 58 ∷ xs) (ap (λ xs. xs ++ behind_space (block_text c.qualifiers)) (spaced (value_text c.value) (value_some c.value is.value)) ∙ append_assoc (codes " ") (value_text c.value) (behind_space (block_text c.qualifiers)))

-- it is a clause of a Term with this tag, and of a group
pub record IsOfGroup (tag : List ℕ) (c : Clause) : Type 0 where
  pub operand : IsOperandClause c
  pub fits : Fits Term false c
  pub tagged : c.tag ≡ tag

same_clause : (tag : List ℕ) (c d : Clause) → IsOfGroup tag c → IsOfGroup tag d → printed c ≡ printed d → c ≡ d
same_clause tag c d is also same =
    let one = printed_line Term false c is.fits in
    let other = printed_line Term false d also.fits in
    let lines : clause_text d ≡ clause_text c = clause_line d also.operand ∙ (let texts = sym same in let tags = also.tagged ∙ sym is.tagged in λ i. tags i ++ 58 ∷ (codes " " ++ texts i)) ∙ sym (clause_line c is.operand) in
    spells-one-clause Term false (clause_text c) c d one.spells (subst (λ line. Spells Term false line d) lines other.spells)

all_same : (tag : List ℕ) (cs ds : List Clause) → ((c : Clause) → In c cs → IsOfGroup tag c) → ((d : Clause) → In d ds → IsOfGroup tag d) → map printed cs ≡ map printed ds → cs ≡ ds
all_same tag [] [] all too same = refl
all_same tag [] (d ∷ ds) all too same = let h : 0 ≡ suc (length (map printed ds)) = ap length same in absurd (omega (arith, h))
all_same tag (c ∷ cs) [] all too same = let h : suc (length (map printed cs)) ≡ 0 = ap length same in absurd (omega (arith, h))
all_same tag (c ∷ cs) (d ∷ ds) all too same =
    let first = same_clause tag c d (all c (inl refl)) (too d (inl refl)) (ap (first_text (printed c)) same) in
    let rest = all_same tag cs ds (λ e here. all e (inr here)) (λ e here. too e (inr here)) (ap other_texts same) in
    λ i. first i ∷ rest i
  where
    first_text : List ℕ → List (List ℕ) → List ℕ
    first_text none [] = none
    first_text none (x ∷ xs) = x

    other_texts : List (List ℕ) → List (List ℕ)
    other_texts [] = []
    other_texts (x ∷ xs) = xs

-- the joined values of two groups tell them
pub joined_tell : (tag : List ℕ) (cs ds : List Clause) → ((c : Clause) → In c cs → IsOfGroup tag c) → ((d : Clause) → In d ds → IsOfGroup tag d) → 0 < length cs → 0 < length ds → join_by printed (codes ", ") cs ≡ join_by printed (codes ", ") ds → cs ≡ ds
joined_tell tag cs ds all too some more same =
    all_same tag cs ds all too (joined_same cs ds (λ c here. (all c here).operand) (λ d here. (too d here).operand) same some more)
