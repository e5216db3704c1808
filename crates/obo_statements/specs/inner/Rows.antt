-- What the rows of the program's table say. (Own.)
use Rattle.std.specs.Prelude.{ℕ, List}
use Rattle.std.specs.Borrow.{Bor}
use Rattle.obo_statements.specs.Statements.{StatementRow, says}
use Rattle.obo_statements.specs.Values as spec
use Rattle.obo_statements.specs.declared.statements.Character.{Character}
use Rattle.obo_statements.specs.declared.statements.Character.TheVariants as characters
use Rattle.obo_statements.specs.declared.statements.Statement.{Statement}
use Rattle.obo_statements.specs.declared.statements.Statement.TheVariants as statements

-- the character that the program's stands for
abbrev pub character_meant : Character → spec.Character
character_meant characters.Transitive = spec.transitive
character_meant characters.Reflexive = spec.reflexive
character_meant characters.Symmetric = spec.symmetric
character_meant characters.Asymmetric = spec.asymmetric
character_meant characters.Functional = spec.functional
character_meant characters.InverseFunctional = spec.inverse_functional

-- the statement that the program's stands for
abbrev pub meant : Statement → spec.Statement
meant statements.BelowClass = spec.below_class
meant statements.Restricted = spec.restricted
meant statements.SameClass = spec.same_class
meant statements.DisjointClass = spec.disjoint_class
meant statements.BelowRole = spec.below_role
meant statements.SameRole = spec.same_role
meant statements.DisjointRole = spec.disjoint_role
meant statements.InverseRole = spec.inverse_role
meant (statements.HasCharacter character) = spec.has_character (character_meant character)
meant statements.HasDomain = spec.has_domain
meant statements.HasRange = spec.has_range
meant statements.Over = spec.over
meant statements.Chain = spec.chain
meant statements.Member = spec.member
meant statements.Related = spec.related

-- the row that the program's stands for
abbrev pub row_meant : Bor (List ℕ) × Statement → StatementRow
row_meant row = says row.0.now (meant row.1)
