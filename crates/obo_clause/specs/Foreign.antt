-- Clauses that are kept as they stand: their tag is none that their frame has, or an `id` that is not the first clause. (Own.)
use Rattle.std.specs.Prelude.{Bool, false, true}
use Rattle.obo_clause.specs.declared.clause.Clause.{Clause}
use Rattle.obo_clause.specs.declared.clause.Value.{Value}
use Rattle.obo_clause.specs.declared.clause.Value.TheVariants as value

-- the value is a text as it stands in its line
abbrev pub is_raw : Value → Bool
is_raw (value.Raw text) = true
is_raw _ = false

-- the clause is foreign in its frame
abbrev pub is_foreign : Clause → Bool
is_foreign clause = is_raw clause.value
