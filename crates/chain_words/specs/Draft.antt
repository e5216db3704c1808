-- The words from left to right: each one is an option of the step's command, the value of the option before it, or the
-- next command. (Own.)
use Rattle.std.specs.Prelude.{ℕ, ◌+◌, List, ◌++◌, length, nat_le, Option, Some, None, Result, Ok, Err, if◌then◌else◌}
use Rattle.chain_words.specs.Word.{Word, named}
use Rattle.chain_words.specs.Table.{command_of, merge_options, option_word, step_options}
use Rattle.chain_words.specs.Setting.{setting_of}
use Rattle.chain_words.specs.Given.{nothing, option_list, stands_again, with_setting}
use Rattle.chain_words.specs.Fault.{Reading, Bad, bad, then_read}
use Rattle.chain_words.specs.Step.{followed, merged}
use Rattle.chain_words.specs.Clash.{first_clash}
use Rattle.chain_words.specs.declared.fault.WordKind.{WordKind}
use Rattle.chain_words.specs.declared.fault.WordKind.TheVariants.{TooMany, NotHere, Repeated, NoValue, BadValue, UnknownWord}
use Rattle.chain_words.specs.declared.table.CommandWord.{CommandWord}
use Rattle.chain_words.specs.declared.table.CommandWord.TheVariants as command
use Rattle.chain_words.specs.declared.table.StepWord.{StepWord}
use Rattle.chain_words.specs.declared.table.OptionWord.{OptionWord}
use Rattle.chain_words.specs.declared.setting.Setting.{Setting}
use Rattle.chain_words.specs.declared.given.Given.{Given}
use Rattle.chain_words.specs.declared.given.OutputFile.{OutputFile}
use Rattle.chain_words.specs.declared.draft.Part.{Part}
use Rattle.chain_words.specs.declared.draft.Part.TheVariants.{Merge, Step}
use Rattle.chain_words.specs.declared.draft.Draft.{Draft}
use Rattle.chain_words.specs.declared.draft.Asked.{Asked}
use Rattle.chain_words.specs.declared.command.Chain.{Chain}
use Rattle.chain_words.specs.declared.command.Command.{Command}
use Rattle.chain_words.specs.declared.command.Command.TheVariants.{Run}

-- the options of a step
abbrev pub options : Part → List OptionWord
options Merge = merge_options
options (Step chain command) = step_options command

-- the option of the step that a word stands for
abbrev pub option_of : Part → Word → Option OptionWord
option_of part word = named option_word (options part) word

-- where a step ends, it means the chain with it
abbrev pub ended : Part → ℕ → Given → Reading Chain
ended Merge at given = merged at given
ended (Step chain command) at given = followed chain command at given

-- an option word: its value comes next
abbrev pub at_option : Draft → OptionWord → ℕ → Reading Draft
at_option draft option at =
    if stands_again option draft.given then bad at Repeated
    else Ok (record draft { asked = Some (record { option = option; at = at }) })

-- the step is given one more value
abbrev pub with_given : Draft → Setting → ℕ → Draft
with_given draft setting at = record draft { given = with_setting draft.given setting at; asked = None }

-- a value, where it is one of its option's values
abbrev pub at_setting : Draft → Option Setting → ℕ → Reading Draft
at_setting draft (Some setting) at = Ok (with_given draft setting at)
at_setting draft None at = bad at BadValue

-- the value of an option
abbrev pub at_value : Draft → OptionWord → ℕ → Word → Reading Draft
at_value draft option at word = at_setting draft (setting_of option word) at

-- the most commands that a chain has, `merge` among them
abbrev pub most_commands : ℕ
most_commands = 64

-- what a command word begins behind so many later steps: `merge` and `generate` stand only at the front
abbrev pub next_command : CommandWord → ℕ → Result StepWord WordKind
next_command command.Merge steps = Err NotHere
next_command command.Generate steps = Err NotHere
next_command (command.Step step) steps = if nat_le most_commands (steps + 1) then Err TooMany else Ok step

-- a step begins behind a chain
abbrev pub step_begun : List OutputFile → Result StepWord WordKind → ℕ → Chain → Reading Draft
step_begun outputs (Ok command) at chain = Ok (record { part = Step chain command; at = at; given = nothing; outputs = outputs; asked = None })
step_begun outputs (Err kind) at chain = bad at kind

-- a step of this command begins, behind the steps of a chain
abbrev pub begun : List OutputFile → CommandWord → ℕ → Chain → Reading Draft
begun outputs command at chain = step_begun outputs (next_command command (length chain.steps)) at chain

-- the outputs of all steps so far
abbrev pub all_outputs : Draft → List OutputFile
all_outputs draft = draft.outputs ++ option_list draft.given.output

-- a command word: the step before it ends
abbrev pub at_command : Draft → CommandWord → ℕ → Reading Draft
at_command draft command at = then_read (ended draft.part draft.at draft.given) (begun (all_outputs draft) command at)

-- a word that stands for an option, else for a command
abbrev pub at_word : Option OptionWord → Option CommandWord → Draft → ℕ → Reading Draft
at_word (Some option) command draft at = at_option draft option at
at_word None (Some command) draft at = at_command draft command at
at_word None None draft at = bad at UnknownWord

-- the next word, where an option asks for its value or none does
abbrev pub at_place : Option Asked → Draft → ℕ → Word → Reading Draft
at_place (Some asked) draft at word = at_value draft asked.option at word
at_place None draft at word = at_word (option_of draft.part word) (command_of word) draft at

-- one more word
abbrev pub turn : Draft → ℕ → Word → Reading Draft
turn draft at word = at_place draft.asked draft at word

-- a chain whose outputs have names of their own
abbrev pub tested : Chain → Option Bad → Reading Command
tested chain None = Ok (Run chain)
tested chain (Some fault) = Err fault

-- behind the last word: an option has no value, or the last step ends
abbrev pub at_end : Option Asked → Draft → Reading Command
at_end (Some asked) draft = bad asked.at NoValue
at_end None draft = then_read (ended draft.part draft.at draft.given) (λ chain. tested chain (first_clash chain (all_outputs draft)))
