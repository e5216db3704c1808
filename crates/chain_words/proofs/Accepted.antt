-- What is known where words are read without a bad one.
use Rattle.std.proofs.Common.{◌≡◌, ℕ, ◌+◌, ◌==◌, List, [], ◌∷◌, ◌++◌, length, Bool, true, false, cond, leb, ltb, Option, Some, None, Ok, Err, subst, refl}
use Rattle.chain_words.specs.Word.{Word}
use Rattle.chain_words.specs.Table.{command_of}
use Rattle.chain_words.specs.Setting.{setting_of}
use Rattle.chain_words.specs.Given.{nothing, stands_again}
use Rattle.chain_words.specs.Number.{size_of}
use Rattle.chain_words.specs.Fault.{Reading, Bad, then_read}
use Rattle.chain_words.specs.Step.{plain_output, step_of}
use Rattle.chain_words.specs.Draft.{all_outputs, at_command, at_end, at_place, at_setting, at_word, begun, step_begun, ended, option_of, turn, with_given}
use Rattle.chain_words.specs.Read.{all_words, at_merge, begun_by, chain, generated, only_size, scan}
use Rattle.chain_words.specs.declared.fault.WordKind.TheVariants.{TooMany}
use Rattle.chain_words.specs.declared.table.CommandWord.{CommandWord}
use Rattle.chain_words.specs.declared.table.CommandWord.TheVariants as command
use Rattle.chain_words.specs.declared.table.StepWord.{StepWord}
use Rattle.chain_words.specs.declared.table.OptionWord.{OptionWord}
use Rattle.chain_words.specs.declared.setting.Setting.{Setting}
use Rattle.chain_words.specs.declared.given.Given.{Given}
use Rattle.chain_words.specs.declared.draft.Part.{Part}
use Rattle.chain_words.specs.declared.draft.Part.TheVariants as part
use Rattle.chain_words.specs.declared.draft.Draft.{Draft}
use Rattle.chain_words.specs.declared.draft.Asked.{Asked}
use Rattle.chain_words.specs.declared.command.Output.{Output}
use Rattle.chain_words.specs.declared.command.Step.{Step}
use Rattle.chain_words.specs.declared.command.Chain.{Chain}
use Rattle.chain_words.specs.declared.command.Command.{Command}
use Rattle.chain_words.specs.declared.command.Command.TheVariants.{Generate}

-- a value that is read is the one value
pub ok_is : {A : Type 0} (x y : A) → ◌≡◌ {A = Reading A} (Ok x) (Ok y) → x ≡ y
ok_is x y is = cc

-- a value is no bad word
pub ok_not : {A B : Type 0} (fault : Bad) (y : A) → ◌≡◌ {A = Reading A} (Err fault) (Ok y) → B
ok_not fault y is = absurd cc

-- where a test finds a bad word first and a value is read, it did not find one
pub ok_unless : {A : Type 0} (b : Bool) (reading : Reading A) (y : A) (fault : Bad) → cond b (Err fault) reading ≡ Ok y → (b ≡ false) × (reading ≡ Ok y)
ok_unless true reading y fault is = ok_not fault y is
ok_unless false reading y fault is = (refl, is)

-- where two readings one after the other read a value, so does the first, and then the second
pub ok_then : {A B : Type 0} (reading : Reading A) (next : A → Reading B) (y : B) → then_read reading next ≡ Ok y → (x : A) × (reading ≡ Ok x) × (next x ≡ Ok y)
ok_then (Ok x) next y is = (x, refl, is)
ok_then (Err fault) next y is = ok_not fault y is

-- what holds of the chain behind each step that may end holds of the chain behind this one
pub ended_keeps : (P : Chain → Type 0) (here : Part) (at : ℕ) (given : Given) (after : Chain) → ((output : Option Output) → here ≡ part.Merge → (length given.inputs == 0) ≡ false → plain_output given.output ≡ Ok output → P (record { inputs = given.inputs; catalog = given.catalog; first = output; steps = [] })) → ((before : Chain) (command : StepWord) (step : Step × Option Output) → here ≡ part.Step before command → step_of command at given ≡ Ok step → P (record before { steps = before.steps ++ step ∷ [] })) → ended here at given ≡ Ok after → P after
ended_keeps P part.Merge at given after merges later is =
    let some = ok_unless (length given.inputs == 0) (then_read (plain_output given.output) (λ output. Ok (record { inputs = given.inputs; catalog = given.catalog; first = output; steps = [] }))) after _ is in
    let told = ok_then (plain_output given.output) (λ output. Ok (record { inputs = given.inputs; catalog = given.catalog; first = output; steps = [] })) after some.1 in
    subst P (ok_is _ after told.2) (merges told.0 refl some.0 told.1)
ended_keeps P (part.Step before command) at given after merges later is =
    let told = ok_then (step_of command at given) (λ step. Ok (record before { steps = before.steps ++ step ∷ [] })) after is in
    subst P (ok_is _ after told.2) (later before command told.0 refl told.1)

-- a step that begins behind a chain
abbrev pub begins : Draft → StepWord → ℕ → Chain → Draft
begins draft command at before = record { part = part.Step before command; at = at; given = nothing; outputs = all_outputs draft; asked = None }

-- where a step begins behind a chain, there is room for it, and it is this step
pub begun_is : (draft : Draft) (command : CommandWord) (at : ℕ) (before : Chain) (after : Draft) → begun (all_outputs draft) command at before ≡ Ok after → (step : StepWord) × (leb 64 (length before.steps + 1) ≡ false) × (begins draft step at before ≡ after)
begun_is draft command.Merge at before after is = ok_not _ after is
begun_is draft command.Generate at before after is = ok_not _ after is
begun_is draft (command.Step step) at before after is = by_room (leb 64 (length before.steps + 1)) refl is
  where
    by_room : (b : Bool) → leb 64 (length before.steps + 1) ≡ b → step_begun (all_outputs draft) (cond b (Err TooMany) (Ok step)) at before ≡ Ok after → (step : StepWord) × (leb 64 (length before.steps + 1) ≡ false) × (begins draft step at before ≡ after)
    by_room true room is = ok_not _ after is
    by_room false room is = (step, room, ok_is (begins draft step at before) after is)

-- what holds of the draft behind each word that may be read holds of the draft behind this one
pub turn_keeps : (P : Draft → Type 0) (draft : Draft) (at : ℕ) (word : Word) (after : Draft) → ((option : OptionWord) → option_of draft.part word ≡ Some option → P (record draft { asked = Some (record { option = option; at = at }) })) → ((asked : Asked) (setting : Setting) → draft.asked ≡ Some asked → setting_of asked.option word ≡ Some setting → P (with_given draft setting at)) → ((step : StepWord) (before : Chain) → ended draft.part draft.at draft.given ≡ Ok before → leb 64 (length before.steps + 1) ≡ false → P (begins draft step at before)) → turn draft at word ≡ Ok after → P after
turn_keeps P draft at word after asks gives starts is = by_place draft.asked refl is
  where
    by_chain : (command : CommandWord) → at_command draft command at ≡ Ok after → P after
    by_chain command is =
        let told = ok_then (ended draft.part draft.at draft.given) (begun (all_outputs draft) command at) after is in
        let begun = begun_is draft command at told.0 after told.2 in
        subst P begun.2 (starts begun.0 told.0 told.1 begun.1)

    by_word : (option : Option OptionWord) (command : Option CommandWord) → option_of draft.part word ≡ option → at_word option command draft at ≡ Ok after → P after
    by_word (Some option) command found is = subst P (ok_is _ after (ok_unless (stands_again option draft.given) _ after _ is).1) (asks option found)
    by_word None (Some command) found is = by_chain command is
    by_word None None found is = ok_not _ after is

    by_setting : (asked : Asked) → draft.asked ≡ Some asked → (setting : Option Setting) → setting_of asked.option word ≡ setting → at_setting draft setting at ≡ Ok after → P after
    by_setting asked asks_now (Some setting) told is = subst P (ok_is (with_given draft setting at) after is) (gives asked setting asks_now told)
    by_setting asked asks_now None told is = ok_not _ after is

    by_place : (asked : Option Asked) → draft.asked ≡ asked → at_place asked draft at word ≡ Ok after → P after
    by_place (Some asked) asks_now is = by_setting asked asks_now (setting_of asked.option word) refl is
    by_place None asks_now is = by_word (option_of draft.part word) (command_of word) refl is

-- what holds of a draft at each word, and so of what stands behind the last one, holds of all words that are left
scan_keeps : (P : Draft → Type 0) (Q : Command → Type 0) → ((draft : Draft) (at : ℕ) (word : Word) (after : Draft) → P draft → turn draft at word ≡ Ok after → P after) → ((draft : Draft) (told : Command) → P draft → at_end draft.asked draft ≡ Ok told → Q told) → (draft : Draft) (at : ℕ) (words : List Word) (told : Command) → P draft → scan draft at words ≡ Ok told → Q told
scan_keeps P Q turns ends draft at [] told holds is = ends draft told holds is
scan_keeps P Q turns ends draft at (word ∷ words) told holds is =
    let both = ok_then (turn draft at word) (λ next. scan next (at + 1) words) told is in
    scan_keeps P Q turns ends both.0 (at + 1) words told (turns draft at word both.0 holds both.1) both.2

-- behind `generate` a size is read
pub generated_keeps : (Q : Command → Type 0) (words : List Word) (told : Command) → ((word : Word) (size : ℕ) → size_of word ≡ Some size → Q (Generate size)) → generated words ≡ Ok told → Q told
generated_keeps Q [] told sizes is = ok_not _ told is
generated_keeps Q (word ∷ rest) told sizes is = by_size (size_of word) refl rest is
  where
    by_size : (size : Option ℕ) → size_of word ≡ size → (rest : List Word) → only_size size rest ≡ Ok told → Q told
    by_size None named rest is = ok_not _ told is
    by_size (Some size) named [] is = subst Q (ok_is (Generate size) told is) (sizes word size named)
    by_size (Some size) named (word ∷ rest) is = ok_not _ told is

-- what holds behind `merge` and at each word, and so of what stands behind the last one, holds of all words
pub chain_keeps : (P : Draft → Type 0) (Q : Command → Type 0) → P at_merge → ((draft : Draft) (at : ℕ) (word : Word) (after : Draft) → P draft → turn draft at word ≡ Ok after → P after) → ((draft : Draft) (told : Command) → P draft → at_end draft.asked draft ≡ Ok told → Q told) → ((word : Word) (size : ℕ) → size_of word ≡ Some size → Q (Generate size)) → (words : List Word) (told : Command) → chain words ≡ Ok told → Q told
chain_keeps P Q begins turns ends sizes [] told is = ok_not _ told is
chain_keeps P Q begins turns ends sizes (first ∷ rest) told is = by_first (command_of first) (ok_unless (ltb 1024 (length (first ∷ rest))) (all_words (first ∷ rest)) told _ is).1
  where
    by_first : (found : Option CommandWord) → begun_by found rest ≡ Ok told → Q told
    by_first (Some command.Merge) is = scan_keeps P Q turns ends at_merge 1 rest told begins is
    by_first (Some command.Generate) is = generated_keeps Q rest told sizes is
    by_first other is = ok_not _ told is
