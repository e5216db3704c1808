-- The names of the files that acts write, and of those that steps read and write. No public contract speaks of them.
use Rattle.std.specs.Prelude.{◌≡◌, true, false, List, [], ◌∷◌, Option}
use Rattle.std.specs.List.{flat_map}
use Rattle.chain_words.specs.Command.{is_one_of, reads_of, writes_of}
use Rattle.chain_words.specs.Word.{Name}
use Rattle.chain_words.specs.declared.command.Output.{Output as Wanted}
use Rattle.chain_words.specs.declared.command.Step.{Step}
use Rattle.release_chain.specs.Part.{Act, Opens, Puts}

-- the names of the files that acts write
abbrev pub put_names : List Act → List Name
put_names [] = []
put_names (Opens name ∷ acts) = put_names acts
put_names (Puts output ∷ acts) = output.name ∷ put_names acts

-- the names of the files that steps read, and of those that they write
abbrev pub all_read : List (Step × Option Wanted) → List Name
all_read turns = flat_map (λ turn. reads_of turn.0) turns

abbrev pub all_written : List (Step × Option Wanted) → List Name
all_written turns = flat_map writes_of turns

-- no step reads what one writes
abbrev pub AreApart : List (Step × Option Wanted) → Type 0
AreApart turns = (name : Name) → is_one_of name (all_written turns) ≡ true → is_one_of name (all_read turns) ≡ false
