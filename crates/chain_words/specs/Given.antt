-- What a step is given: the values of its options. (Own.)
use Rattle.std.specs.Prelude.{ℕ, List, [], ◌∷◌, ◌++◌, Bool, false, Option, Some, None, is_some}
use Rattle.chain_words.specs.declared.given.Given.{Given}
use Rattle.chain_words.specs.declared.setting.Setting.{Setting}
use Rattle.chain_words.specs.declared.setting.Setting.TheVariants as setting
use Rattle.chain_words.specs.declared.table.OptionWord.{OptionWord}
use Rattle.chain_words.specs.declared.table.OptionWord.TheVariants as option

-- the list of what may be there
abbrev pub option_list : {A : Type 0} → Option A → List A
option_list None = []
option_list (Some value) = value ∷ []

-- nothing is given yet
abbrev pub nothing : Given
nothing = record {
  inputs = [];
  catalog = None;
  terms = None;
  output = None;
  method = None;
  preserve = None;
  format = None;
  check = None;
}

-- whether an option may not stand once more: only `--input` may be repeated
abbrev pub stands_again : OptionWord → Given → Bool
stands_again option.Input given = false
stands_again option.Catalog given = is_some given.catalog
stands_again option.TermFile given = is_some given.terms
stands_again option.Output given = is_some given.output
stands_again option.Method given = is_some given.method
stands_again option.Preserve given = is_some given.preserve
stands_again option.Format given = is_some given.format
stands_again option.Check given = is_some given.check

-- what is given with one more option, whose value stands at this index
abbrev pub with_setting : Given → Setting → ℕ → Given
with_setting given (setting.Input name) at = record given { inputs = given.inputs ++ name ∷ [] }
with_setting given (setting.Catalog name) at = record given { catalog = Some name }
with_setting given (setting.TermFile name) at = record given { terms = Some name }
with_setting given (setting.Output name) at = record given { output = Some (record { at = at; name = name }) }
with_setting given (setting.Method method) at = record given { method = Some method }
with_setting given (setting.Preserve keep) at = record given { preserve = Some keep }
with_setting given (setting.Format format) at = record given { format = Some format }
with_setting given (setting.Check check) at = record given { check = Some check }
