-- What holds of every list of words that is accepted. (Own.)
use Rattle.std.specs.Prelude.{◌≡◌, ◌≢◌, ◌≤◌, List, [], ◌∷◌, ◌++◌, Bool, true, false, Option, Some, None, if◌then◌else◌, length, map, codes, Ok}
use Rattle.std.specs.List.{All, flat_map, list_all}
use Rattle.chain_words.specs.Word.{Word, Name, is_name, same}
use Rattle.chain_words.specs.Table.{command_word, option_word, step_word}
use Rattle.chain_words.specs.Setting.{bool_word, format_word, method_word}
use Rattle.chain_words.specs.Given.{option_list}
use Rattle.chain_words.specs.Step.{format_of_name}
use Rattle.chain_words.specs.Command.{is_one_of, read_names, times, written_names}
use Rattle.chain_words.specs.Read.{chain, most_words}
use Rattle.chain_words.specs.declared.table.CommandWord.{CommandWord}
use Rattle.chain_words.specs.declared.table.StepWord.{StepWord}
use Rattle.chain_words.specs.declared.table.StepWord.TheVariants as command
use Rattle.chain_words.specs.declared.table.OptionWord.{OptionWord}
use Rattle.chain_words.specs.declared.table.OptionWord.TheVariants as option
use Rattle.chain_words.specs.declared.command.Format.{Format}
use Rattle.chain_words.specs.declared.command.Command.{Command}
use Rattle.chain_words.specs.declared.command.Output.{Output}
use Rattle.chain_words.specs.declared.command.Step.{Step}
use Rattle.chain_words.specs.declared.command.Step.TheVariants.{Extract, Reason, Relax, Reduce, Convert}
use Rattle.chain_words.specs.declared.command.Chain.{Chain}

-- no output has the name of an input, a catalog or a term file
abbrev pub NoOutputIsInput : Chain → Type 0
NoOutputIsInput chain = (name : Name) → is_one_of name (written_names chain) ≡ true → is_one_of name (read_names chain) ≡ false

-- no two outputs have one name
abbrev pub NoOutputTwice : Chain → Type 0
NoOutputTwice chain = (name : Name) → times name (written_names chain) ≤ 1

-- the first of these words is `merge`
abbrev pub BeginsWithMerge : List Word → Type 0
BeginsWithMerge words = (rest : List Word) × (words ≡ codes "merge" ∷ rest)

-- the words of these settings
abbrev pub spelled : List (OptionWord × Word) → List Word
spelled [] = []
spelled (setting ∷ settings) = option_word setting.0 ∷ setting.1 ∷ spelled settings

-- words that end inside a step: what stands before it, its command, and some of its settings
abbrev pub inside : List Word → CommandWord → List (OptionWord × Word) → List Word
inside start command front = start ++ command_word command ∷ spelled front

-- where two neighbouring options of a step are not the same, they may change places: the words are accepted as
-- before, and mean the same
abbrev pub OptionsChangePlaces : Type 0
OptionsChangePlaces = (start : List Word) (command : CommandWord) (front : List (OptionWord × Word)) (a b : OptionWord × Word) (rest : List Word) (told : Command) → a.0 ≢ b.0 → chain (inside start command front ++ (spelled (a ∷ b ∷ []) ++ rest)) ≡ Ok told → chain (inside start command front ++ (spelled (b ∷ a ∷ []) ++ rest)) ≡ Ok told

-- an output has the format that its name tells, and is checked
abbrev pub IsPlain : Option Output → Type 0
IsPlain None = Unit {0}
IsPlain (Some file) = (format_of_name file.name ≡ Some file.format) × (file.check ≡ true)

-- so has the output of a step, but for that of `convert`, which may say otherwise
abbrev pub IsPlainUnlessConvert : Step → Option Output → Type 0
IsPlainUnlessConvert Convert output = Unit {0}
IsPlainUnlessConvert other output = IsPlain output

-- each output has the format that its name tells, and is checked, unless `convert` says otherwise
abbrev pub FormatsFollowNames : Chain → Type 0
FormatsFollowNames chain = IsPlain chain.first × All (λ step. IsPlainUnlessConvert step.0 step.1) chain.steps

-- a `convert` has its output
abbrev pub HasItsOutput : Step → Option Output → Type 0
HasItsOutput Convert None = ⊥
HasItsOutput step output = Unit {0}

-- a chain has an input and at most 63 later steps, each `convert` has its output, and no name is empty
pub record IsWhole (chain : Chain) : Type 0 where
  pub inputs : 1 ≤ length chain.inputs
  pub steps : length chain.steps ≤ 63
  pub outputs : All (λ step. HasItsOutput step.0 step.1) chain.steps
  pub read : list_all is_name (read_names chain) ≡ true
  pub written : list_all is_name (written_names chain) ≡ true

-- the command of a later step
abbrev pub step_command : Step → StepWord
step_command (Extract method terms) = command.Extract
step_command Reason = command.Reason
step_command Relax = command.Relax
step_command (Reduce keep) = command.Reduce
step_command Convert = command.Convert

-- the options that spell an output: its name
abbrev pub output_options : Option Output → List (OptionWord × Word)
output_options None = []
output_options (Some file) = (option.Output, file.name) ∷ []

-- whether a name tells this format
abbrev pub tells : Option Format → Format → Bool
tells None format = false
tells (Some told) format = same (format_word told) (format_word format)

-- the options that spell a format, where the name does not tell it
abbrev pub format_options : Output → List (OptionWord × Word)
format_options file = if tells (format_of_name file.name) file.format then [] else (option.Format, format_word file.format) ∷ []

-- the options that spell whether an output is checked, where it is not
abbrev pub check_options : Bool → List (OptionWord × Word)
check_options true = []
check_options false = (option.Check, bool_word false) ∷ []

-- the options that spell whether axioms with annotations stay, where they do
abbrev pub keep_options : Bool → List (OptionWord × Word)
keep_options false = []
keep_options true = (option.Preserve, bool_word true) ∷ []

-- the options that spell the output of a `convert`
abbrev pub converted_options : Option Output → List (OptionWord × Word)
converted_options None = []
converted_options (Some file) = (option.Output, file.name) ∷ (format_options file ++ check_options file.check)

-- the options that spell a later step with its output
abbrev pub step_settings : Step → Option Output → List (OptionWord × Word)
step_settings (Extract method terms) output = (option.Method, method_word method) ∷ (option.TermFile, terms) ∷ output_options output
step_settings Reason output = output_options output
step_settings Relax output = output_options output
step_settings (Reduce keep) output = keep_options keep ++ output_options output
step_settings Convert output = converted_options output

-- the words that spell a later step with its output
abbrev pub step_words : Step × Option Output → List Word
step_words step = step_word (step_command step.0) ∷ spelled (step_settings step.0 step.1)

-- the options that spell these names
abbrev pub name_options : OptionWord → List Name → List (OptionWord × Word)
name_options option names = map (λ name. (option, name)) names

-- the options that spell the `merge` of a chain
abbrev pub merge_settings : Chain → List (OptionWord × Word)
merge_settings chain = name_options option.Input chain.inputs ++ (name_options option.Catalog (option_list chain.catalog) ++ output_options chain.first)

-- words that spell a chain: no option is spelled that need not be
abbrev pub words_of : Chain → List Word
words_of chain = codes "merge" ∷ (spelled (merge_settings chain) ++ flat_map step_words chain.steps)

-- a chain that words can ask for
pub record IsWellFormed (chain : Chain) : Type 0 where
  pub whole : IsWhole chain
  pub formats : FormatsFollowNames chain
  pub apart : NoOutputIsInput chain
  pub once : NoOutputTwice chain
  pub few : length (words_of chain) ≤ most_words
