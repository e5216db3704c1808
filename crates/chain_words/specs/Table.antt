-- The table of the command line: the commands and their options. (Own, after the commands and options of ROBOT.)
use Rattle.std.specs.Prelude.{List, [], ◌∷◌, Option, codes}
use Rattle.chain_words.specs.Word.{Word, named}
use Rattle.chain_words.specs.declared.table.CommandWord.{CommandWord}
use Rattle.chain_words.specs.declared.table.CommandWord.TheVariants.{Merge, Generate, Step}
use Rattle.chain_words.specs.declared.table.StepWord.{StepWord}
use Rattle.chain_words.specs.declared.table.StepWord.TheVariants.{Extract, Reason, Relax, Reduce, Convert}
use Rattle.chain_words.specs.declared.table.OptionWord.{OptionWord}
use Rattle.chain_words.specs.declared.table.OptionWord.TheVariants.{Input, Catalog, TermFile, Output, Method, Preserve, Format, Check}

-- the word of a command behind `merge`
abbrev pub step_word : StepWord → Word
step_word Extract = codes "extract"
step_word Reason = codes "reason"
step_word Relax = codes "relax"
step_word Reduce = codes "reduce"
step_word Convert = codes "convert"

-- the word of a command
abbrev pub command_word : CommandWord → Word
command_word Merge = codes "merge"
command_word Generate = codes "generate"
command_word (Step command) = step_word command

-- the commands
abbrev pub command_words : List CommandWord
command_words = Merge ∷ Generate ∷ Step Extract ∷ Step Reason ∷ Step Relax ∷ Step Reduce ∷ Step Convert ∷ []

-- the command that a word stands for
abbrev pub command_of : Word → Option CommandWord
command_of word = named command_word command_words word

-- the word of an option
abbrev pub option_word : OptionWord → Word
option_word Input = codes "--input"
option_word Catalog = codes "--catalog"
option_word TermFile = codes "--term-file"
option_word Output = codes "--output"
option_word Method = codes "--method"
option_word Preserve = codes "--preserve-annotated-axioms"
option_word Format = codes "--format"
option_word Check = codes "--check"

-- the options of `merge`
abbrev pub merge_options : List OptionWord
merge_options = Input ∷ Catalog ∷ Output ∷ []

-- the options of a later step; `generate` has none
abbrev pub step_options : StepWord → List OptionWord
step_options Extract = Method ∷ TermFile ∷ Output ∷ []
step_options Reason = Output ∷ []
step_options Relax = Output ∷ []
step_options Reduce = Preserve ∷ Output ∷ []
step_options Convert = Output ∷ Format ∷ Check ∷ []
