-- What the groups come to, clause by clause. Only private functions speak of it. (Own.)
use Rattle.std.specs.Prelude.{◌≡◌, ℕ, Bool, true, false, List, [], ◌∷◌, Option, None, Some, if◌then◌else◌}
use Rattle.std.specs.BTreeMap.{BTreeMap, get}
use Rattle.std.specs.Cmp.Lexicographic.{slice_cmp}
use Rattle.std.specs.Ordering.{is_eq, nat_cmp}
use Rattle.obo_frames.specs.Groups.{same_expression}
use Rattle.obo_frames.specs.declared.groups.Expression.{Expression}
use Rattle.obo_frames.specs.declared.groups.Operand.{Operand}
use Rattle.obo_frames.specs.declared.groups.Summary.{Summary}
use Rattle.obo_frames.specs.declared.groups.Summary.TheVariants.{Many, One}

-- a group with one expression more
abbrev pub joined : Option Summary → Expression → Summary
joined None one = One one
joined (Some (One held)) one = if same_expression held one then One held else Many
joined (Some Many) one = Many

-- the group of this IRI with one clause more, which may be another group's
abbrev pub summed_with : Operand → List ℕ → Option Summary → Option Summary
summed_with operand group held =
    if is_eq (slice_cmp nat_cmp operand.group group) then Some (joined held operand.expression) else held

-- the group of this IRI with these clauses more
abbrev pub summary_of : List ℕ → Option Summary → List Operand → Option Summary
summary_of group held [] = held
summary_of group held (operand ∷ operands) = summary_of group (summed_with operand group held) operands

-- the map has the groups of these clauses
abbrev pub IsSummaryOf : List Operand → BTreeMap (List ℕ) Summary → Type 0
IsSummaryOf operands map =
    (group : List ℕ) → get (slice_cmp nat_cmp) map group ≡ summary_of group None operands

-- the map has each group with the clause added
abbrev pub AddsOperand : BTreeMap (List ℕ) Summary → BTreeMap (List ℕ) Summary → Operand → Type 0
AddsOperand old new operand =
    (group : List ℕ) → get (slice_cmp nat_cmp) new group ≡ summed_with operand group (get (slice_cmp nat_cmp) old group)

-- the group has one expression alone
abbrev pub is_one : Option Summary → Bool
is_one None = false
is_one (Some (One one)) = true
is_one (Some Many) = false
