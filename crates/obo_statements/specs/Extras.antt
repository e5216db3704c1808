-- Qualifiers that have a meaning of their own, beside those that are annotations of an axiom. (OBO Flat File Format 1.4,
-- trailing modifiers; which keys have a meaning is our own.)
use Rattle.std.specs.Prelude.{not, List, [], ◌++◌, Option, map, filter}
use Rattle.std.specs.Option.{option_map}
use Rattle.clause_printer.specs.Printing.{qualifier_text}
use Rattle.obo_clause.specs.declared.clause.Qualifier.{Qualifier}
use Rattle.obo_clause.specs.declared.clause.Value.{Value}
use Rattle.owl_axioms.specs.declared.annotation.Side.{Side}
use Rattle.text_sets.specs.Parts.{each_some}
use Rattle.text_sets.specs.Sorted.{sorted_by}
use Rattle.obo_notes.specs.Keys.{is_reserved_key, qualifier_of, side_of_qualifier}

-- a value, and the qualifiers beside it that have a meaning of their own
pub record Worded : Type 0 where
  pub value : Value
  pub extras : List Qualifier

abbrev pub worded_plainly : Value → Worded
worded_plainly one = record { value = one; extras = [] }

-- the qualifiers that have a meaning of their own, and the annotations that the others are
abbrev pub extras_of : List Qualifier → List Qualifier
extras_of qualifiers = filter (λ (q : Qualifier). is_reserved_key q.key) qualifiers

abbrev pub annotations_of : List Qualifier → List Side
annotations_of qualifiers = map side_of_qualifier (filter (λ (q : Qualifier). not (is_reserved_key q.key)) qualifiers)

-- qualifiers that have a meaning of their own and annotations, in the order in which they are printed
abbrev pub qualifiers_with : List Qualifier → List Side → Option (List Qualifier)
qualifiers_with extras sides = option_map (λ qualifiers. sorted_by qualifier_text (extras ++ qualifiers)) (each_some qualifier_of sides)
