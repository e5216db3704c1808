-- A line has one cover: what a token is and where it ends follow from the place at which it begins.
use Rattle.std.proofs.Common.{◌≡◌, ℕ, ◌+◌, ◌<◌, ◌==◌, Bool, true, false, not, ◌||◌, ◌&&◌, List, [], ◌∷◌, length, nat_lt, slice_index, refl, sym, ap, ◌∙◌, subst, ◌⊎◌, inl, inr, ⊎_elim, arith}
use Rattle.std.proofs.lemmas.Bool.{cases_lt, eqb-true, false≢true, or_cases}
use Rattle.obo_lexer.specs.declared.token.Token.{Token}
use Rattle.obo_lexer.specs.declared.token.TokenKind.{TokenKind}
use Rattle.obo_lexer.specs.declared.token.TokenKind.TheVariants.{Blank, Escaped, Mark, Plain}
use Rattle.obo_lexer.specs.Tokens.{CoverIsUnique, Covers, HasExtent, IsLongestRun, blank_at, continuation_at, escapes_at, is_blank, is_mark, mark_at, plain_at}

run-not_longer : (test : ℕ → Bool) (line : List ℕ) (from to other : ℕ) → IsLongestRun test line from to → IsLongestRun test line from other → to < other → ⊥
run-not_longer test line from to other a b less =
    false≢true (sym (a.stops (let w = b.within in omega arith)) ∙ b.each to a.ordered less)

run-unique : (test : ℕ → Bool) (line : List ℕ) (from to other : ℕ) → IsLongestRun test line from to → IsLongestRun test line from other → to ≡ other
run-unique test line from to other a b =
    ⊎_elim (λ less. absurd (run-not_longer test line from to other a b less)) (λ le. ⊎_elim (λ more. absurd (run-not_longer test line from other to b a more)) (λ ge. omega arith) (cases_lt other to)) (cases_lt to other)

-- the kinds of a byte exclude each other
blank_is : (byte : ℕ) → is_blank byte ≡ true → (byte ≡ 32) ⊎ (byte ≡ 9)
blank_is byte h = ⊎_elim (λ e. inl (eqb-true byte 32 e)) (λ e. inr (eqb-true byte 9 e)) (or_cases (byte == 32) (byte == 9) h)

blank-mark : (byte : ℕ) → is_blank byte ≡ true → is_mark byte ≡ true → ⊥
blank-mark byte h m =
    ⊎_elim (λ e. false≢true (sym (ap is_mark e) ∙ m)) (λ e. false≢true (sym (ap is_mark e) ∙ m)) (blank_is byte h)

blank-backslash : (byte : ℕ) → is_blank byte ≡ true → (byte == 92) ≡ true → ⊥
blank-backslash byte h e = false≢true (sym (ap is_blank (eqb-true byte 92 e)) ∙ h)

mark-backslash : (byte : ℕ) → is_mark byte ≡ true → (byte == 92) ≡ true → ⊥
mark-backslash byte h e = false≢true (sym (ap is_mark (eqb-true byte 92 e)) ∙ h)

not_or : (a b c : Bool) → not (a || b || c) ≡ true → (a ≡ false) × (b ≡ false) × (c ≡ false)
not_or true b c h = cc
not_or false true c h = cc
not_or false false true h = cc
not_or false false false h = (refl, refl, refl)

and_first : (a b : Bool) → (a && b) ≡ true → a ≡ true
and_first true b h = refl
and_first false b h = cc

module _ (line : List ℕ) (place : ℕ) where
  plain-is : plain_at line place ≡ true → (blank_at line place ≡ false) × (mark_at line place ≡ false) × (escapes_at line place ≡ false)
  plain-is h = not_or (blank_at line place) (mark_at line place) (escapes_at line place) h

  abbrev byte : ℕ
  byte = slice_index line place

  backslash : escapes_at line place ≡ true → (byte == 92) ≡ true
  backslash h = and_first (byte == 92) (nat_lt (place + 1) (length line)) h

  extent-unique : (kind other : TokenKind) (to end : ℕ) → HasExtent kind line place to → HasExtent other line place end → (kind ≡ other) × (to ≡ end)
  extent-unique Blank Blank to end a b = (refl, run-unique (blank_at line) line place to end a.1 b.1)
  extent-unique Plain Plain to end a b = (refl, run-unique (plain_at line) line place to end a.1 b.1)
  extent-unique Mark Mark to end a b = (refl, a.1 ∙ sym b.1)
  extent-unique Escaped Escaped to end a b = (refl, run-unique (continuation_at line) line (place + 2) to end a.1 b.1)
  extent-unique Blank Plain to end a b = absurd (false≢true (sym (plain-is b.0).0 ∙ a.0))
  extent-unique Blank Mark to end a b = absurd (blank-mark byte a.0 b.0)
  extent-unique Blank Escaped to end a b = absurd (blank-backslash byte a.0 (backslash b.0))
  extent-unique Plain Blank to end a b = absurd (false≢true (sym (plain-is a.0).0 ∙ b.0))
  extent-unique Plain Mark to end a b = absurd (false≢true (sym (plain-is a.0).1 ∙ b.0))
  extent-unique Plain Escaped to end a b = absurd (false≢true (sym (plain-is a.0).2 ∙ b.0))
  extent-unique Mark Blank to end a b = absurd (blank-mark byte b.0 a.0)
  extent-unique Mark Plain to end a b = absurd (false≢true (sym (plain-is b.0).1 ∙ a.0))
  extent-unique Mark Escaped to end a b = absurd (mark-backslash byte a.0 (backslash b.0))
  extent-unique Escaped Blank to end a b = absurd (blank-backslash byte b.0 (backslash a.0))
  extent-unique Escaped Plain to end a b = absurd (false≢true (sym (plain-is b.0).2 ∙ a.0))
  extent-unique Escaped Mark to end a b = absurd (mark-backslash byte b.0 (backslash a.0))

token-same : (token other : Token) → token.from ≡ other.from → token.to ≡ other.to → token.kind ≡ other.kind → token ≡ other
token-same token other a b c =
    let made : ℕ → ℕ → TokenKind → Token = λ from to kind. record { from = from; to = to; kind = kind } in
    ap (λ x. made x token.to token.kind) a ∙ (ap (λ x. made other.from x token.kind) b ∙ ap (λ x. made other.from other.to x) c)

covers-unique : (line : List ℕ) (place : ℕ) (tokens others : List Token) → Covers line place tokens → Covers line place others → tokens ≡ others
covers-unique line place [] [] a b = refl
covers-unique line place [] (other ∷ others) a b = absurd (omega (arith, a, b.1))
covers-unique line place (token ∷ tokens) [] a b = absurd (omega (arith, a.1, b))
covers-unique line place (token ∷ tokens) (other ∷ others) a b =
    let same = extent-unique line place token.kind other.kind token.to other.to a.2 b.2 in
    let head = token-same token other (a.0 ∙ sym b.0) same.1 same.0 in
    let P : ℕ → Type 0 = λ n. Covers line n others in
    let later = covers-unique line token.to tokens others a.3 (subst P (sym same.1) b.3) in
    ap (λ x. x ∷ tokens) head ∙ ap (λ xs. other ∷ xs) later

pub cover_is_unique : (line : List ℕ) → CoverIsUnique line
cover_is_unique line tokens others a b = covers-unique line 0 tokens others a b
