-- The three bodies of a line, each with when it comes.
use Rattle.std.proofs.Common.{◌≡◌, ℕ, ◌<◌, ◌≤◌, Bool, true, false, cond, List, length, ltb, arith, refl}
use Rattle.std.specs.Str.{IsUtf8, is_utf8}
use Rattle.std.proofs.lemmas.Bool.{false_from_ne_true}
use Rattle.std.proofs.lemmas.Bool.Decides.{nat_tests}
use Rattle.std.proofs.lemmas.Str.{IsUtf8-from_is_utf8, is_utf8-from_IsUtf8}
use Rattle.obo_lexer.specs.declared.line.LineBody.TheVariants.{NotUtf8, Text, TooLong}
use Rattle.obo_lexer.specs.Items.{body_of}
use Rattle.obo_lexer.specs.Lines.{text_of}

body_of-at : (limit : ℕ) (line text : List ℕ) (utf8 long : Bool) → text ≡ text_of line → is_utf8 text ≡ utf8 → ltb limit (length text) ≡ long → cond utf8 (cond long TooLong (Text text)) NotUtf8 ≡ body_of limit line
body_of-at limit line text utf8 long e u l = cc

pub body_of-not_utf8 : (limit : ℕ) (line text : List ℕ) → text ≡ text_of line → (IsUtf8 text → ⊥) → NotUtf8 ≡ body_of limit line
body_of-not_utf8 limit line text e not_is =
    body_of-at limit line text false _ e (false_from_ne_true _ (λ is. not_is (IsUtf8-from_is_utf8 text is))) refl

pub body_of-too_long : (limit : ℕ) (line text : List ℕ) → text ≡ text_of line → IsUtf8 text → limit < length text → TooLong ≡ body_of limit line
body_of-too_long limit line text e is more =
    body_of-at limit line text true true e (is_utf8-from_IsUtf8 text is) (grind (arith, nat_tests))

pub body_of-text : (limit : ℕ) (line text : List ℕ) → text ≡ text_of line → IsUtf8 text → length text ≤ limit → Text text ≡ body_of limit line
body_of-text limit line text e is within =
    body_of-at limit line text true false e (is_utf8-from_IsUtf8 text is) (grind (arith, nat_tests))
