-- The words that spell an accepted chain are no more than those that asked for it.
use Rattle.std.proofs.Common.{◌≡◌, ℕ, ◌+◌, ◌*◌, ◌≤◌, ◌==◌, List, [], ◌∷◌, ◌++◌, length, Bool, true, false, cond, ltb, suc, Option, Some, None, unwrap_or, Ok, ap, subst, ◌∙◌, refl, arith}
use Rattle.std.specs.List.{flat_map}
use Rattle.std.specs.Cmp.Lexicographic.{bytes_decides}
use Rattle.std.proofs.lemmas.Bool.{ltb-false}
use Rattle.std.proofs.lemmas.List.{length-append}
use Rattle.std.proofs.lemmas.List.Concat.{flat_map-append}
use Rattle.chain_words.specs.Word.{Name, Word, same}
use Rattle.chain_words.specs.Table.{command_of}
use Rattle.chain_words.specs.Setting.{format_word}
use Rattle.chain_words.specs.Given.{option_list, with_setting}
use Rattle.chain_words.specs.Fault.{Bad, then_read}
use Rattle.chain_words.specs.Step.{converted, extracted, format_of_name, or_else, output_to, plain_output, step_of, with_plain_output}
use Rattle.chain_words.specs.Clash.{first_clash}
use Rattle.chain_words.specs.Draft.{all_outputs, at_end, ended, tested, turn}
use Rattle.chain_words.specs.Read.{all_words, at_merge, begun_by, chain, scan}
use Rattle.chain_words.specs.Laws.{check_options, format_options, keep_options, merge_settings, name_options, output_options, spelled, step_settings, step_words, tells, words_of}
use Rattle.chain_words.specs.declared.table.CommandWord.{CommandWord}
use Rattle.chain_words.specs.declared.table.CommandWord.TheVariants as word
use Rattle.chain_words.specs.declared.table.StepWord.{StepWord}
use Rattle.chain_words.specs.declared.table.StepWord.TheVariants as command
use Rattle.chain_words.specs.declared.table.OptionWord.{OptionWord}
use Rattle.chain_words.specs.declared.table.OptionWord.TheVariants as option
use Rattle.chain_words.specs.declared.setting.Setting.{Setting}
use Rattle.chain_words.specs.declared.setting.Setting.TheVariants as setting
use Rattle.chain_words.specs.declared.given.Given.{Given}
use Rattle.chain_words.specs.declared.given.OutputFile.{OutputFile}
use Rattle.chain_words.specs.declared.draft.Part.{Part}
use Rattle.chain_words.specs.declared.draft.Part.TheVariants as part
use Rattle.chain_words.specs.declared.draft.Draft.{Draft}
use Rattle.chain_words.specs.declared.draft.Asked.{Asked}
use Rattle.chain_words.specs.declared.command.Format.{Format}
use Rattle.chain_words.specs.declared.command.Method.{Method}
use Rattle.chain_words.specs.declared.command.Output.{Output}
use Rattle.chain_words.specs.declared.command.Step.{Step}
use Rattle.chain_words.specs.declared.command.Step.TheVariants.{Extract, Reason, Relax, Reduce, Convert}
use Rattle.chain_words.specs.declared.command.Chain.{Chain}
use Rattle.chain_words.specs.declared.command.Command.{Command}
use Rattle.chain_words.specs.declared.command.Command.TheVariants.{Run, Generate}
use Rattle.chain_words.proofs.Accepted.{ended_keeps, generated_keeps, ok_is, ok_not, ok_then, ok_unless, turn_keeps}

-- how many values are there
abbrev there : {A : Type 0} → Option A → ℕ
there None = 0
there (Some value) = 1

-- how many words spell what is given, at most
abbrev count : Given → ℕ
count given = 2 * (length given.inputs + there given.catalog + there given.terms + there given.output + there given.method + there given.preserve + there given.format + there given.check)

-- one more setting is two words more, at most
count_with : (given : Given) (told : Setting) (at : ℕ) → count (with_setting given told at) ≤ count given + 2
count_with given (setting.Input name) at = omega (arith, length-append given.inputs (name ∷ []))
count_with given (setting.Catalog name) at = omega arith
count_with given (setting.TermFile name) at = omega arith
count_with given (setting.Output name) at = omega arith
count_with given (setting.Method method) at = omega arith
count_with given (setting.Preserve keep) at = omega arith
count_with given (setting.Format format) at = omega arith
count_with given (setting.Check check) at = omega arith

-- the words that spell what stands before the options of a step
abbrev size : Part → ℕ
size part.Merge = 1
size (part.Step before c) = length (words_of before) + 1

-- how many words a draft stands for, at most
abbrev IsLong : Draft → ℕ → Type 0
IsLong draft at = size draft.part + count draft.given + there draft.asked ≤ at

-- each option has two words
length-spelled : (xs : List (OptionWord × Word)) → length (spelled xs) ≡ 2 * length xs
length-spelled [] = refl
length-spelled (x ∷ xs) = omega (arith, length-spelled xs)

-- as many values as there are
length-option_list : {A : Type 0} (value : Option A) → length (option_list value) ≡ there value
length-option_list None = refl
length-option_list (Some value) = refl

-- each name has an option
length-name_options : (o : OptionWord) (names : List Name) → length (name_options o names) ≡ length names
length-name_options o [] = refl
length-name_options o (name ∷ names) = ap suc (length-name_options o names)

-- a plain output is spelled where it is given
plain_short : (file : Option OutputFile) (output : Option Output) → plain_output file ≡ Ok output → length (output_options output) ≤ there file
plain_short None output is = subst (λ o. length (output_options o) ≤ 0) (ok_is None output is) (omega arith)
plain_short (Some file) None is = omega arith
plain_short (Some file) (Some output) is = omega arith

-- what spells a step is given to it
abbrev IsShort : Given → Step × Option Output → Type 0
IsShort given step = 2 * length (step_settings step.0 step.1) ≤ count given

-- so it is of a step with a plain output
plain_step : (given : Given) (step : Step) (told : Step × Option Output) → ((output : Option Output) → length (output_options output) ≤ there given.output → IsShort given (step, output)) → with_plain_output step given.output ≡ Ok told → IsShort given told
plain_step given step told short is =
    let both = ok_then (plain_output given.output) (λ output. Ok (step, output)) told is in
    subst (IsShort given) (ok_is (step, both.0) told both.2) (short both.0 (plain_short given.output both.0 both.1))

-- so it is of each step
step_short : (c : StepWord) (at : ℕ) (given : Given) (told : Step × Option Output) → step_of c at given ≡ Ok told → IsShort given told
step_short command.Extract at given told is = by_parts given.method given.terms refl refl is
  where
    by_parts : (method : Option Method) (terms : Option Name) → given.method ≡ method → given.terms ≡ terms → extracted at method terms given.output ≡ Ok told → IsShort given told
    by_parts (Some method) (Some terms) one two is =
        let m : there given.method ≡ 1 = ap there one in
        let t : there given.terms ≡ 1 = ap there two in
        plain_step given (Extract method terms) told (λ output short. omega (arith, m, t, short)) is
    by_parts (Some method) None one two is = ok_not _ told is
    by_parts None terms one two is = ok_not _ told is
step_short command.Reason at given told is = plain_step given Reason told (λ output short. omega (arith, short)) is
step_short command.Relax at given told is = plain_step given Relax told (λ output short. omega (arith, short)) is
step_short command.Reduce at given told is =
    plain_step given (Reduce (unwrap_or given.preserve false)) told
    (λ output short. omega (arith, short, kept given.preserve, length-append (keep_options (unwrap_or given.preserve false)) (output_options output))) is
  where
    kept : (preserve : Option Bool) → length (keep_options (unwrap_or preserve false)) ≤ there preserve
    kept None = omega arith
    kept (Some true) = omega arith
    kept (Some false) = omega arith
step_short command.Convert at given told is = by_file given.output refl is
  where
    checked : (check : Option Bool) → length (check_options (unwrap_or check true)) ≤ there check
    checked None = omega arith
    checked (Some true) = omega arith
    checked (Some false) = omega arith

    spelled_format : (b : Bool) (x : OptionWord × Word) → length (cond b [] (x ∷ [])) ≤ 1
    spelled_format true x = omega arith
    spelled_format false x = omega arith

    not_spelled : (b : Bool) (x : OptionWord × Word) → b ≡ true → length (cond b [] (x ∷ [])) ≤ 0
    not_spelled true x is = omega arith
    not_spelled false x is = absurd cc

    formatted : (name : Name) (asked : Option Format) (format : Format) (check : Bool) → or_else asked (format_of_name name) ≡ Some format → length (format_options (record { name = name; format = format; check = check })) ≤ there asked
    formatted name (Some other) format check is = spelled_format (tells (format_of_name name) format) (option.Format, format_word format)
    formatted name None format check is =
        let itself : same (format_word format) (format_word format) ≡ true = (bytes_decides (format_word format) (format_word format)).1 refl in
        let known : tells (format_of_name name) format ≡ true = ap (λ f. tells f format) is ∙ itself in
        not_spelled (tells (format_of_name name) format) (option.Format, format_word format) known

    by_format : (file : OutputFile) → given.output ≡ Some file → (format : Option Format) → or_else given.format (format_of_name file.name) ≡ format → then_read (output_to file format (unwrap_or given.check true)) (λ output. Ok (Convert, Some output)) ≡ Ok told → IsShort given told
    by_format file placed (Some format) known is =
        let o : there given.output ≡ 1 = ap there placed in
        let made : Output = record { name = file.name; format = format; check = unwrap_or given.check true } in
        subst (IsShort given) (ok_is (Convert, Some made) told is)
        (omega (arith, o, formatted file.name given.format format (unwrap_or given.check true) known, checked given.check, length-append (format_options made) (check_options made.check)))
    by_format file placed None known is = ok_not _ told is

    by_file : (file : Option OutputFile) → given.output ≡ file → converted at file given.format given.check ≡ Ok told → IsShort given told
    by_file None placed is = ok_not _ told is
    by_file (Some file) placed is = by_format file placed (or_else given.format (format_of_name file.name)) refl is

-- so it is where a step ends
ended_short : (here : Part) (at : ℕ) (given : Given) (after : Chain) → ended here at given ≡ Ok after → length (words_of after) ≤ size here + count given
ended_short here at given after is = ended_keeps (λ chain. length (words_of chain) ≤ size here + count given) here at given after front behind is
  where
    front : (output : Option Output) → here ≡ part.Merge → (length given.inputs == 0) ≡ false → plain_output given.output ≡ Ok output → length (words_of (record { inputs = given.inputs; catalog = given.catalog; first = output; steps = [] })) ≤ size here + count given
    front output merges some plain =
        let settings = merge_settings (record { inputs = given.inputs; catalog = given.catalog; first = output; steps = [] }) in
        let one : size here ≡ 1 = ap size merges in
        let inputs = name_options option.Input given.inputs in
        let catalog = name_options option.Catalog (option_list given.catalog) in
        omega (
          arith,
          one,
          plain_short given.output output plain,
          length-append (spelled settings) [],
          length-spelled settings,
          length-append inputs (catalog ++ output_options output),
          length-append catalog (output_options output),
          length-name_options option.Input given.inputs,
          length-name_options option.Catalog (option_list given.catalog),
          length-option_list given.catalog,
        )

    behind : (before : Chain) (c : StepWord) (step : Step × Option Output) → here ≡ part.Step before c → step_of c at given ≡ Ok step → length (words_of (record before { steps = before.steps ++ step ∷ [] })) ≤ size here + count given
    behind before c step stands means =
        let one : size here ≡ length (words_of before) + 1 = ap size stands in
        let settings = spelled (merge_settings before) in
        let more : length (flat_map step_words (before.steps ++ step ∷ [])) ≡ length (flat_map step_words before.steps) + length (flat_map step_words (step ∷ [])) =
        ap length (flat_map-append step_words before.steps (step ∷ [])) ∙ length-append (flat_map step_words before.steps) (flat_map step_words (step ∷ [])) in
        omega (
          arith,
          one,
          step_short c at given step means,
          more,
          length-append settings (flat_map step_words (before.steps ++ step ∷ [])),
          length-append settings (flat_map step_words before.steps),
          length-append (step_words step) [],
          length-spelled (step_settings step.0 step.1),
        )

-- so it is at each word
long_turn : (draft : Draft) (at : ℕ) (word : Word) (after : Draft) → IsLong draft at → turn draft at word ≡ Ok after → IsLong after (at + 1)
long_turn draft at word after long is =
    turn_keeps (λ d. IsLong d (at + 1)) draft at word after
    (λ option found. omega (arith, long))
    (λ asked told asks means.
    let one : there draft.asked ≡ 1 = ap there asks in
    omega (arith, long, one, count_with draft.given told at))
    (λ step before ends room. omega (arith, long, ended_short draft.part draft.at draft.given before ends))
    is

-- a chain is spelled in so many words, at most
abbrev IsSpelledIn : Command → ℕ → Type 0
IsSpelledIn (Run told) n = length (words_of told) ≤ n
IsSpelledIn (Generate size) n = Unit {0}

-- so it is behind the last word
long_end : (draft : Draft) (at : ℕ) (asked : Option Asked) (told : Command) → IsLong draft at → at_end asked draft ≡ Ok told → IsSpelledIn told at
long_end draft at (Some asked) told long is = ok_not _ told is
long_end draft at None told long is =
    let both = ok_then (ended draft.part draft.at draft.given) (λ chain. tested chain (first_clash chain (all_outputs draft))) told is in
    by_clash both.0 (ended_short draft.part draft.at draft.given both.0 both.1) (first_clash both.0 (all_outputs draft)) both.2
  where
    by_clash : (after : Chain) → length (words_of after) ≤ size draft.part + count draft.given → (found : Option Bad) → tested after found ≡ Ok told → IsSpelledIn told at
    by_clash after short None is = subst (λ c. IsSpelledIn c at) (ok_is (Run after) told is) (omega (arith, short, long))
    by_clash after short (Some fault) is = ok_not _ told is

-- so it is of all words that are left
long_scan : (draft : Draft) (at : ℕ) (words : List Word) (told : Command) → IsLong draft at → scan draft at words ≡ Ok told → IsSpelledIn told (at + length words)
long_scan draft at [] told long is = subst (IsSpelledIn told) (omega arith) (long_end draft at draft.asked told long is)
long_scan draft at (word ∷ words) told long is =
    let both = ok_then (turn draft at word) (λ next. scan next (at + 1) words) told is in
    subst (IsSpelledIn told) (omega arith) (long_scan both.0 (at + 1) words told (long_turn draft at word both.0 long both.1) both.2)

-- no more words spell an accepted chain than a chain may have
pub spelled_short : (words : List Word) (told : Chain) → chain words ≡ Ok (Run told) → length (words_of told) ≤ 1024
spelled_short [] told is = ok_not _ (Run told) is
spelled_short (first ∷ rest) told is =
    let few = ok_unless (ltb 1024 (length (first ∷ rest))) (all_words (first ∷ rest)) (Run told) _ is in
    by_first (ltb-false 1024 (length (first ∷ rest)) few.0) (command_of first) few.1
  where
    by_first : length (first ∷ rest) ≤ 1024 → (found : Option CommandWord) → begun_by found rest ≡ Ok (Run told) → length (words_of told) ≤ 1024
    by_first few (Some word.Merge) is = let short = long_scan at_merge 1 rest (Run told) (omega arith) is in omega (arith, few, short)
    by_first few (Some word.Generate) is = generated_keeps (λ c. IsSpelledIn c 1024) rest (Run told) (λ w size named. tt) is
    by_first few other is = ok_not _ (Run told) is
