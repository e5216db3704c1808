-- What the words ask for: the whole definition. (Own.)
use Rattle.std.specs.Prelude.{ℕ, ◌+◌, List, [], ◌∷◌, length, nat_lt, Option, Some, None, Ok, if◌then◌else◌}
use Rattle.chain_words.specs.Word.{Word}
use Rattle.chain_words.specs.Table.{command_of}
use Rattle.chain_words.specs.Number.{size_of}
use Rattle.chain_words.specs.Fault.{Reading, bad, then_read}
use Rattle.chain_words.specs.Given.{nothing}
use Rattle.chain_words.specs.Draft.{at_end, turn}
use Rattle.chain_words.specs.declared.fault.WordKind.TheVariants.{TooMany, NoCommand, MissingOption, BadValue, UnknownWord}
use Rattle.chain_words.specs.declared.table.CommandWord.{CommandWord}
use Rattle.chain_words.specs.declared.table.CommandWord.TheVariants as command
use Rattle.chain_words.specs.declared.draft.Draft.{Draft}
use Rattle.chain_words.specs.declared.draft.Part.TheVariants.{Merge}
use Rattle.chain_words.specs.declared.command.Command.{Command}
use Rattle.chain_words.specs.declared.command.Command.TheVariants.{Generate}

-- before the second word of a chain: nothing is known but its `merge`
abbrev pub at_merge : Draft
at_merge = record { part = Merge; at = 0; given = nothing; outputs = []; asked = None }

-- the words that are left, from this index on
abbrev pub scan : Draft → ℕ → List Word → Reading Command
scan draft at [] = at_end draft.asked draft
scan draft at (word ∷ rest) = then_read (turn draft at word) (λ next. scan next (at + 1) rest)

-- behind `generate` and its number no word follows
abbrev pub only_size : Option ℕ → List Word → Reading Command
only_size None rest = bad 1 BadValue
only_size (Some size) [] = Ok (Generate size)
only_size (Some size) (word ∷ rest) = bad 2 UnknownWord

-- the words behind `generate`
abbrev pub generated : List Word → Reading Command
generated [] = bad 0 MissingOption
generated (word ∷ rest) = only_size (size_of word) rest

-- the words behind the first command
abbrev pub begun_by : Option CommandWord → List Word → Reading Command
begun_by (Some command.Merge) rest = scan at_merge 1 rest
begun_by (Some command.Generate) rest = generated rest
begun_by other rest = bad 0 NoCommand

-- all words, where they are not too many
abbrev pub all_words : List Word → Reading Command
all_words [] = bad 0 NoCommand
all_words (first ∷ rest) = begun_by (command_of first) rest

-- the most words that are read
abbrev pub most_words : ℕ
most_words = 1024

-- the command that the words ask for, or the bad word that comes first
abbrev pub chain : List Word → Reading Command
chain words = if nat_lt most_words (length words) then bad most_words TooMany else all_words words
