-- An option with its value, read at an option's place.
use Rattle.std.proofs.Common.{◌≡◌, ◌≢◌, ℕ, ◌+◌, ◌==◌, List, [], ◌∷◌, Bool, true, false, Option, Some, None, Ok, ap, sym, subst, ◌∙◌, refl}
use Rattle.std.specs.Option.{option_map}
use Rattle.std.specs.Cmp.Lexicographic.{bytes_decides}
use Rattle.chain_words.specs.Word.{Word, named, same}
use Rattle.chain_words.specs.Table.{command_of, command_word, option_word}
use Rattle.chain_words.specs.Setting.{setting_of}
use Rattle.chain_words.specs.Given.{stands_again, with_setting}
use Rattle.chain_words.specs.Fault.{then_read}
use Rattle.chain_words.specs.Draft.{all_outputs, at_command, at_option, at_place, at_setting, at_word, begun, ended, option_of, options, turn, with_given}
use Rattle.chain_words.specs.Read.{scan}
use Rattle.chain_words.specs.declared.table.CommandWord.{CommandWord}
use Rattle.chain_words.specs.declared.table.CommandWord.TheVariants as command
use Rattle.chain_words.specs.declared.table.StepWord.TheVariants as step
use Rattle.chain_words.specs.declared.table.OptionWord.{OptionWord}
use Rattle.chain_words.specs.declared.table.OptionWord.TheVariants as option
use Rattle.chain_words.specs.declared.setting.Setting.{Setting}
use Rattle.chain_words.specs.declared.setting.Setting.TheVariants as setting
use Rattle.chain_words.specs.declared.given.Given.{Given}
use Rattle.chain_words.specs.declared.draft.Draft.{Draft}
use Rattle.chain_words.specs.declared.draft.Part.{Part}
use Rattle.chain_words.specs.declared.draft.Asked.{Asked}
use Rattle.chain_words.proofs.Accepted.{begun_is, ok_is, ok_not, ok_then, ok_unless}
use Rattle.chain_words.proofs.Front.{find_passes}

-- all options
abbrev all_options : List OptionWord
all_options = option.Input ∷ option.Catalog ∷ option.TermFile ∷ option.Output ∷ option.Method ∷ option.Preserve ∷ option.Format ∷ option.Check ∷ []

-- an option's word is its own
named-option_word : (o : OptionWord) → named option_word all_options (option_word o) ≡ Some o
named-option_word option.Input = refl
named-option_word option.Catalog = refl
named-option_word option.TermFile = refl
named-option_word option.Output = refl
named-option_word option.Method = refl
named-option_word option.Preserve = refl
named-option_word option.Format = refl
named-option_word option.Check = refl

-- options with one word are one
option_is : (a b : OptionWord) → same (option_word a) (option_word b) ≡ true → a ≡ b
option_is a b is =
    let words : option_word a ≡ option_word b = (bytes_decides (option_word a) (option_word b)).0 is in
    let both : Some a ≡ Some b = sym (named-option_word a) ∙ ap (named option_word all_options) words ∙ named-option_word b in
    cc

-- no option is a command
no_command : (o : OptionWord) → command_of (option_word o) ≡ None
no_command option.Input = refl
no_command option.Catalog = refl
no_command option.TermFile = refl
no_command option.Output = refl
no_command option.Method = refl
no_command option.Preserve = refl
no_command option.Format = refl
no_command option.Check = refl

-- whether a word begins with a dash
abbrev dashed : Word → Bool
dashed [] = false
dashed (byte ∷ bytes) = byte == 45

-- options do
dashed_option : (o : OptionWord) → dashed (option_word o) ≡ true
dashed_option option.Input = refl
dashed_option option.Catalog = refl
dashed_option option.TermFile = refl
dashed_option option.Output = refl
dashed_option option.Method = refl
dashed_option option.Preserve = refl
dashed_option option.Format = refl
dashed_option option.Check = refl

-- commands do not
undashed_command : (c : CommandWord) → dashed (command_word c) ≡ false
undashed_command command.Merge = refl
undashed_command command.Generate = refl
undashed_command (command.Step step.Extract) = refl
undashed_command (command.Step step.Reason) = refl
undashed_command (command.Step step.Relax) = refl
undashed_command (command.Step step.Reduce) = refl
undashed_command (command.Step step.Convert) = refl

-- so no command word is an option
pub no_option : (here : Part) (c : CommandWord) → option_of here (command_word c) ≡ None
no_option here c = by_option (option_of here (command_word c)) refl
  where
    by_option : (found : Option OptionWord) → option_of here (command_word c) ≡ found → found ≡ None
    by_option None found = refl
    by_option (Some o) found =
        let words : option_word o ≡ command_word c = (bytes_decides (option_word o) (command_word c)).0 (find_passes (λ p. same (option_word p) (command_word c)) (options here) o found) in
        let e : ◌≡◌ {A = Bool} true false = sym (dashed_option o) ∙ ap dashed words ∙ undashed_command c in
        absurd cc

-- the option of a setting
abbrev pub option_in : Setting → OptionWord
option_in (setting.Input name) = option.Input
option_in (setting.Catalog name) = option.Catalog
option_in (setting.TermFile name) = option.TermFile
option_in (setting.Output name) = option.Output
option_in (setting.Method method) = option.Method
option_in (setting.Preserve keep) = option.Preserve
option_in (setting.Format format) = option.Format
option_in (setting.Check check) = option.Check

-- a setting that is read is one of its option
pub setting_is : (o : OptionWord) (word : Word) (told : Setting) → setting_of o word ≡ Some told → option_in told ≡ o
setting_is o word told is = by_option o is
  where
    by_value : {A : Type 0} (made : A → Setting) (o : OptionWord) → ((value : A) → option_in (made value) ≡ o) → (value : Option A) → option_map made value ≡ Some told → option_in told ≡ o
    by_value made o each (Some value) is = let e : made value ≡ told = cc in subst (λ s. option_in s ≡ o) e (each value)
    by_value made o each None is = absurd cc

    by_option : (o : OptionWord) → setting_of o word ≡ Some told → option_in told ≡ o
    by_option option.Input is = by_value setting.Input option.Input (λ value. refl) _ is
    by_option option.Catalog is = by_value setting.Catalog option.Catalog (λ value. refl) _ is
    by_option option.TermFile is = by_value setting.TermFile option.TermFile (λ value. refl) _ is
    by_option option.Output is = by_value setting.Output option.Output (λ value. refl) _ is
    by_option option.Method is = by_value setting.Method option.Method (λ value. refl) _ is
    by_option option.Preserve is = by_value setting.Preserve option.Preserve (λ value. refl) _ is
    by_option option.Format is = by_value setting.Format option.Format (λ value. refl) _ is
    by_option option.Check is = by_value setting.Check option.Check (λ value. refl) _ is

-- one word that is read
pub scan_step : (draft next : Draft) (at : ℕ) (word : Word) (rest : List Word) → turn draft at word ≡ Ok next → scan draft at (word ∷ rest) ≡ scan next (at + 1) rest
scan_step draft next at word rest is = ap (λ r. then_read r (λ n. scan n (at + 1) rest)) is

-- an option with a value may stand in the step that is being read
pub record Allowed (draft : Draft) (o : OptionWord) (value : Word) (told : Setting) : Type 0 where
  pub found : option_of draft.part (option_word o) ≡ Some o
  pub fresh : stands_again o draft.given ≡ false
  pub means : setting_of o value ≡ Some told

-- where an option's place has an option and its value, they are allowed, and the step is given it
pub record IsRead (draft : Draft) (at : ℕ) (o : OptionWord) (value : Word) (after : Draft) : Type 0 where
  pub told : Setting
  pub allowed : Allowed draft o value told
  pub is : with_given draft told (at + 1) ≡ after

pub setting_read : (draft : Draft) (at : ℕ) (o : OptionWord) (value : Word) (middle after : Draft) → draft.asked ≡ None → turn draft at (option_word o) ≡ Ok middle → turn middle (at + 1) value ≡ Ok after → IsRead draft at o value after
setting_read draft at o value middle after free first second = by_option (option_of draft.part (option_word o)) refl (sym (ap (λ a. at_place a draft at (option_word o)) free) ∙ first)
  where
    by_setting : stands_again o draft.given ≡ false → option_of draft.part (option_word o) ≡ Some o → (told : Option Setting) → setting_of o value ≡ told → at_setting (record draft { asked = Some (record { option = o; at = at }) }) told (at + 1) ≡ Ok after → IsRead draft at o value after
    by_setting fresh found (Some told) means is = record {
      told = told;
      allowed = record { found = found; fresh = fresh; means = means };
      is = ok_is (with_given draft told (at + 1)) after is;
    }
    by_setting fresh found None means is = ok_not _ after is

    by_option : (found : Option OptionWord) → option_of draft.part (option_word o) ≡ found → at_word found (command_of (option_word o)) draft at ≡ Ok middle → IsRead draft at o value after
    by_option (Some other) found is =
        let one : other ≡ o = option_is other o (find_passes (λ p. same (option_word p) (option_word o)) (options draft.part) other found) in
        let test = ok_unless (stands_again other draft.given) (Ok (record draft { asked = Some (record { option = other; at = at }) })) middle _ is in
        let fresh : stands_again o draft.given ≡ false = subst (λ p. stands_again p draft.given ≡ false) one test.0 in
        let asks : record draft { asked = Some (record { option = o; at = at }) } ≡ middle = subst (λ p. record draft { asked = Some (record { option = p; at = at }) } ≡ middle) one (ok_is _ middle test.1) in
        by_setting fresh (found ∙ ap (λ p. Some p) one) (setting_of o value) refl (ap (λ d. turn d (at + 1) value) asks ∙ second)
    by_option None found is = ok_not _ middle (sym (ap (λ c. at_word None c draft at) (no_command o)) ∙ is)

-- and an option and its value that are allowed are read so
pub setting_given : (draft : Draft) (at : ℕ) (o : OptionWord) (value : Word) (told : Setting) (rest : List Word) → draft.asked ≡ None → Allowed draft o value told → scan draft at (option_word o ∷ value ∷ rest) ≡ scan (with_given draft told (at + 1)) (at + 1 + 1) rest
setting_given draft at o value told rest free allowed =
    let middle : Draft = record draft { asked = Some (record { option = o; at = at }) } in
    let asks : at_option draft o at ≡ Ok middle = rw allowed.fresh refl in
    let first : turn draft at (option_word o) ≡ Ok middle = ap (λ a. at_place a draft at (option_word o)) free ∙ ap (λ p. at_word p (command_of (option_word o)) draft at) allowed.found ∙ asks in
    let second : turn middle (at + 1) value ≡ Ok (with_given draft told (at + 1)) = ap (λ s. at_setting middle s (at + 1)) allowed.means in
    scan_step draft middle at (option_word o) (value ∷ rest) first
    ∙ scan_step middle (with_given draft told (at + 1)) (at + 1) value rest second

-- a setting of another option changes nothing for an option
pub other_again : (given : Given) (told : Setting) (o : OptionWord) (at : ℕ) → option_in told ≢ o → stands_again o (with_setting given told at) ≡ stands_again o given
other_again given (setting.Input name) option.Input at differ = refl
other_again given (setting.Input name) other at differ = refl
other_again given (setting.Catalog name) option.Catalog at differ = absurd (differ refl)
other_again given (setting.Catalog name) other at differ = refl
other_again given (setting.TermFile name) option.TermFile at differ = absurd (differ refl)
other_again given (setting.TermFile name) other at differ = refl
other_again given (setting.Output name) option.Output at differ = absurd (differ refl)
other_again given (setting.Output name) other at differ = refl
other_again given (setting.Method method) option.Method at differ = absurd (differ refl)
other_again given (setting.Method method) other at differ = refl
other_again given (setting.Preserve keep) option.Preserve at differ = absurd (differ refl)
other_again given (setting.Preserve keep) other at differ = refl
other_again given (setting.Format format) option.Format at differ = absurd (differ refl)
other_again given (setting.Format format) other at differ = refl
other_again given (setting.Check check) option.Check at differ = absurd (differ refl)
other_again given (setting.Check check) other at differ = refl

-- behind a command word an option may stand, wherever it stands
pub free_command : (draft : Draft) (at : ℕ) (c : CommandWord) (after : Draft) → turn draft at (command_word c) ≡ Ok after → after.asked ≡ None
free_command draft at c after is = by_place draft.asked is
  where
    by_chain : (d : CommandWord) → at_command draft d at ≡ Ok after → after.asked ≡ None
    by_chain d is =
        let told = ok_then (ended draft.part draft.at draft.given) (begun (all_outputs draft) d at) after is in
        sym (ap (λ e. e.asked) (begun_is draft d at told.0 after told.2).2)

    by_word : (d : Option CommandWord) → at_word None d draft at ≡ Ok after → after.asked ≡ None
    by_word (Some d) is = by_chain d is
    by_word None is = ok_not _ after is

    by_setting : (asked : Asked) (told : Option Setting) → at_setting draft told at ≡ Ok after → after.asked ≡ None
    by_setting asked (Some told) is = sym (ap (λ d. d.asked) (ok_is (with_given draft told at) after is))
    by_setting asked None is = ok_not _ after is

    by_place : (asked : Option Asked) → at_place asked draft at (command_word c) ≡ Ok after → after.asked ≡ None
    by_place (Some asked) is = by_setting asked (setting_of asked.option (command_word c)) is
    by_place None is = by_word (command_of (command_word c)) (sym (ap (λ o. at_word o (command_of (command_word c)) draft at) (no_option draft.part c)) ∙ is)
