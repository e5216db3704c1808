-- The line of an axiom: the least of the lines of clauses.
use Rattle.std.proofs.Common.{◌≡◌, ◌⊎◌, ◌≤◌, ◌∙◌, ℕ, true, false, cond, List, [], ◌∷◌, None, Some, map, nat_lt, inl, inr, ⊎_elim, refl, sym, ap, subst, arith}
use Rattle.std.specs.Cmp.{nat_cmp_is, tied_itself}
use Rattle.std.specs.Cmp.Lexicographic.{nat_list_cmp_total}
use Rattle.std.specs.Ordering.{ordering_then}
use Rattle.std.specs.declared.cmp.Ordering.TheVariants.{Equal, Less}
use Rattle.std.proofs.lemmas.Bool.Decides.{leb_tells, nat_tests}
use Rattle.std.proofs.lemmas.Option.{none-some, same_Some}
use Rattle.text_sets.specs.Sets.{In}
use Rattle.text_sets.specs.Sorted.{IsBelow, Rises, sorted_by, text_cmp}
use Rattle.text_sets.proofs.SortedLemmas.{Rises-sorted_by, sorted_by-each, sorted_by-only}
use Rattle.obo_frames.specs.declared.placed.Placed.{Placed}
use Rattle.obo_mapping.specs.Lines.{least_line}
use Rattle.obo_notes.specs.Forms.{first_part}
use Rattle.obo_to_owl.specs.inner.Grouping.{Seen, gather, gather_all, gather_onto, lesser_line}
use Rattle.obo_to_owl.specs.inner.Spacing.{least_onto}
use Rattle.obo_to_owl.specs.declared.rows.Row.{Row}

-- the line is among them, and none is less
pub record IsLeastLine (lines : List ℕ) (line : ℕ) : Type 0 where
  pub among : In line lines
  pub least : (other : ℕ) → In other lines → line ≤ other

-- ---- the first in their order

abbrev key : ℕ → List ℕ
key line = line ∷ []

head_line : List ℕ → ℕ
head_line [] = 0
head_line (line ∷ rest) = line

not_itself : (a : ℕ) → text_cmp (key a) (key a) ≡ Less → ⊥
not_itself a less = let no : Equal ≡ Less = sym (tied_itself nat_list_cmp_total (key a)) ∙ less in absurd (cc)

not_less : (a b : ℕ) → b ≤ a → text_cmp (key a) (key b) ≡ Less → ⊥
not_less a b high is =
    ⊎_elim
    (λ low. let same : b ≡ a = omega (arith, low.1, high) in not_itself a (subst (λ n. text_cmp (key a) (key n) ≡ Less) same is))
    (λ more.
    let less : text_cmp (key b) (key a) ≡ Less = ap (λ o. ordering_then o Equal) (sym (nat_cmp_is b a Less more.1)) in
    not_itself a (nat_list_cmp_total.trans (key a) (key b) (key a) is less))
    (leb_tells a b)

below_at : (x m : ℕ) (rest : List ℕ) → IsBelow key x rest → In m rest → text_cmp (key x) (key m) ≡ Less
below_at x m [] below here = absurd here
below_at x m (y ∷ rest) below (inl same) = subst (λ z. text_cmp (key x) (key z) ≡ Less) same below.0
below_at x m (y ∷ rest) below (inr later) = below_at x m rest below.1 later

first_is : (lines : List ℕ) (m : ℕ) (sorted : List ℕ) → ((x : ℕ) → In x sorted → In x lines) → Rises key sorted → In m sorted → ((x : ℕ) → In x lines → m ≤ x) → first_part sorted ≡ Some m
first_is lines m [] own rises here least = absurd here
first_is lines m (x ∷ rest) own rises (inl same) least = ap Some same
first_is lines m (x ∷ rest) own rises (inr later) least = absurd (not_less x m (least x (own x (inl refl))) (below_at x m rest rises.0 later))

pub first_line : (lines : List ℕ) (line : ℕ) → IsLeastLine lines line → first_part (sorted_by key lines) ≡ Some line
unfolding head_line
first_line lines line is =
    first_is lines line (sorted_by key lines) (λ x here. sorted_by-only key lines x here) (Rises-sorted_by key lines) (sorted_by-each key lines (λ x y here there same. ap head_line same) line is.among) is.least

pub least_line_is : (clauses : List Placed) (line : ℕ) → IsLeastLine (map (λ (one : Placed). one.line) clauses) line → least_line clauses ≡ Some line
least_line_is clauses line is = first_line (map (λ (one : Placed). one.line) clauses) line is

-- ---- the lesser of two, and the least of all

record IsLesser (one other least : ℕ) : Type 0 where
  one_of : (one ≡ least) ⊎ (other ≡ least)
  first : least ≤ one
  second : least ≤ other

lesser_is : (one other : ℕ) → IsLesser one other (lesser_line one other)
lesser_is one other =
    elim (nat_lt one other) as (λ b. nat_lt one other ≡ b → IsLesser one other (cond b one other)) [
      | true ↦ λ is. record { one_of = inl refl; first = omega arith; second = grind (arith, nat_tests, is) }
      | false ↦ λ is. record { one_of = inr refl; first = grind (arith, nat_tests, is); second = omega arith }
    ] refl

-- one line more in front of the others
least_step : (held line : ℕ) (lines : List ℕ) (least : ℕ) → IsLeastLine (lesser_line line held ∷ lines) least → IsLeastLine (held ∷ line ∷ lines) least
least_step held line lines least is =
    let lesser = lesser_is line held in
    let low = is.least (lesser_line line held) (inl refl) in
    record {
      among = ⊎_elim (λ same. ⊎_elim (λ a. inr (inl (a ∙ same))) (λ b. inl (b ∙ same)) lesser.one_of) (λ later. inr (inr later)) is.among;
      least = λ other here. ⊎_elim
          (λ same. subst (λ n. least ≤ n) same (omega (arith, low, lesser.second)))
          (λ later. ⊎_elim (λ same. subst (λ n. least ≤ n) same (omega (arith, low, lesser.first))) (λ more. is.least other (inr more)) later) here;
    }

one_line : (line : ℕ) → IsLeastLine (line ∷ []) line
one_line line = record { among = inl refl; least = λ other here. ⊎_elim (λ same. subst (λ n. line ≤ n) same (omega arith)) (λ none. absurd none) here }

least_from : (held : ℕ) (lines : List ℕ) → (least : ℕ) × (least_onto (Some held) lines ≡ Some least) × IsLeastLine (held ∷ lines) least
least_from held [] = (held, refl, one_line held)
least_from held (line ∷ lines) = let more = least_from (lesser_line line held) lines in (more.0, more.1, least_step held line lines more.0 more.2)

pub least_is : (lines : List ℕ) (line : ℕ) → In line lines → (least : ℕ) × (least_onto None lines ≡ Some least) × IsLeastLine lines least
least_is [] line here = absurd here
least_is (one ∷ lines) line here = least_from one lines

-- ---- the line that was gathered

abbrev pub row_line : Row → ℕ
row_line row = row.placed.now.line

gathered_from : (held : Seen) (rows : List Row) → (out : Seen) × (gather_onto (Some held) rows ≡ Some out) × IsLeastLine (held.0 ∷ map row_line rows) out.0
gathered_from held [] = (held, refl, one_line held.0)
gathered_from held (row ∷ rows) =
    let more = gathered_from (gather row (Some held)) rows in (more.0, more.1, least_step held.0 row.placed.now.line (map row_line rows) more.0.0 more.2)

pub gathered_line : (rows : List Row) (held : Seen) → gather_all rows ≡ Some held → IsLeastLine (map row_line rows) held.0
gathered_line [] held is = absurd (none-some held is)
gathered_line (row ∷ rows) held is =
    let all = gathered_from (gather row None) rows in
    subst (λ (h : Seen). IsLeastLine (map row_line (row ∷ rows)) h.0) (same_Some all.0 held (sym all.1 ∙ is)) all.2

pub through : (a b c : ℕ) → a ≤ b → b ≤ c → a ≤ c
through a b c one two = omega (arith, one, two)
