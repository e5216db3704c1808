-- Options with their values. (Own, after the options of ROBOT.)
use Rattle.std.specs.Prelude.{List, [], ◌∷◌, Bool, true, false, Option, codes}
use Rattle.std.specs.Option.{option_map}
use Rattle.chain_words.specs.Word.{Word, name_of, named}
use Rattle.chain_words.specs.declared.command.Method.{Method}
use Rattle.chain_words.specs.declared.command.Method.TheVariants.{Bot, Top, Star}
use Rattle.chain_words.specs.declared.command.Format.{Format}
use Rattle.chain_words.specs.declared.command.Format.TheVariants.{Obo, Ofn}
use Rattle.chain_words.specs.declared.setting.Setting.{Setting}
use Rattle.chain_words.specs.declared.setting.Setting.TheVariants as setting
use Rattle.chain_words.specs.declared.table.OptionWord.{OptionWord}
use Rattle.chain_words.specs.declared.table.OptionWord.TheVariants as option

-- the methods
abbrev pub methods : List Method
methods = Bot ∷ Top ∷ Star ∷ []

-- the word of a method
abbrev pub method_word : Method → Word
method_word Bot = codes "BOT"
method_word Top = codes "TOP"
method_word Star = codes "STAR"

-- the formats
abbrev pub formats : List Format
formats = Obo ∷ Ofn ∷ []

-- the word of a format
abbrev pub format_word : Format → Word
format_word Obo = codes "obo"
format_word Ofn = codes "ofn"

-- the truth values
abbrev pub bools : List Bool
bools = true ∷ false ∷ []

-- the word of a truth value
abbrev pub bool_word : Bool → Word
bool_word true = codes "true"
bool_word false = codes "false"

-- an option with the value that a word is, if it is one of the option's values
abbrev pub setting_of : OptionWord → Word → Option Setting
setting_of option.Input word = option_map setting.Input (name_of word)
setting_of option.Catalog word = option_map setting.Catalog (name_of word)
setting_of option.TermFile word = option_map setting.TermFile (name_of word)
setting_of option.Output word = option_map setting.Output (name_of word)
setting_of option.Method word = option_map setting.Method (named method_word methods word)
setting_of option.Preserve word = option_map setting.Preserve (named bool_word bools word)
setting_of option.Format word = option_map setting.Format (named format_word formats word)
setting_of option.Check word = option_map setting.Check (named bool_word bools word)
