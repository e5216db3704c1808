-- What holds of every command that is accepted.
use Rattle.std.proofs.Common.{◌≡◌, ℕ, ◌+◌, ◌≤◌, ◌==◌, List, [], ◌∷◌, ◌++◌, length, Bool, true, false, ◌&&◌, cond, leb, ltb, zero, suc, Option, Some, None, option_and_then, unwrap_or, Ok, ap, sym, subst, ◌∙◌, refl, arith, inl, inr, ◌⊎◌, append-nil}
use Rattle.std.specs.Char.{is_ascii_digit}
use Rattle.std.specs.List.{All, list_all}
use Rattle.std.specs.Option.{option_map}
use Rattle.std.proofs.lemmas.Bool.{leb-false, leb-true, ltb-false}
use Rattle.std.proofs.lemmas.List.{length-append, map-append}
use Rattle.std.proofs.lemmas.List.Elements.{All-append}
use Rattle.std.proofs.lemmas.List.Folds.{list_all-append}
use Rattle.chain_words.specs.Word.{Name, Word, is_name}
use Rattle.chain_words.specs.Setting.{setting_of}
use Rattle.chain_words.specs.Given.{option_list, with_setting}
use Rattle.chain_words.specs.Number.{from_ten, leads_with_zero, number_from, number_of, size_of}
use Rattle.chain_words.specs.Fault.{Bad, then_read}
use Rattle.chain_words.specs.Step.{converted, extracted, format_of_name, or_else, output_to, plain_output, step_of, with_plain_output}
use Rattle.chain_words.specs.Command.{output_names, read_names, reads_of, writes_of, written_names}
use Rattle.chain_words.specs.Clash.{first_clash}
use Rattle.chain_words.specs.Draft.{all_outputs, at_end, ended, tested, turn}
use Rattle.chain_words.specs.Read.{chain}
use Rattle.chain_words.specs.Laws.{FormatsFollowNames, HasItsOutput, IsPlain, IsPlainUnlessConvert, IsWhole}
use Rattle.chain_words.specs.declared.table.StepWord.{StepWord}
use Rattle.chain_words.specs.declared.table.StepWord.TheVariants as command
use Rattle.chain_words.specs.declared.table.OptionWord.{OptionWord}
use Rattle.chain_words.specs.declared.table.OptionWord.TheVariants as option
use Rattle.chain_words.specs.declared.setting.Setting.{Setting}
use Rattle.chain_words.specs.declared.setting.Setting.TheVariants as setting
use Rattle.chain_words.specs.declared.given.Given.{Given}
use Rattle.chain_words.specs.declared.given.OutputFile.{OutputFile}
use Rattle.chain_words.specs.declared.draft.Part.{Part}
use Rattle.chain_words.specs.declared.draft.Part.TheVariants as part
use Rattle.chain_words.specs.declared.draft.Draft.{Draft}
use Rattle.chain_words.specs.declared.draft.Asked.{Asked}
use Rattle.chain_words.specs.declared.command.Format.{Format}
use Rattle.chain_words.specs.declared.command.Method.{Method}
use Rattle.chain_words.specs.declared.command.Output.{Output}
use Rattle.chain_words.specs.declared.command.Step.{Step}
use Rattle.chain_words.specs.declared.command.Step.TheVariants.{Extract, Reason, Relax, Reduce, Convert}
use Rattle.chain_words.specs.declared.command.Chain.{Chain}
use Rattle.chain_words.specs.declared.command.Command.{Command}
use Rattle.chain_words.specs.declared.command.Command.TheVariants.{Run, Generate}
use Rattle.chain_words.proofs.Accepted.{chain_keeps, ended_keeps, ok_is, ok_not, ok_then, turn_keeps}
use Rattle.chain_words.proofs.Clashes.{names_of}
use Rattle.chain_words.proofs.Names.{read-followed, written-followed}

-- a later step with its output, of what it is given
record Sound (given : Given) (step : Step × Option Output) : Type 0 where
  names : writes_of step ≡ names_of (option_list given.output)
  reads : (reads_of step.0 ≡ []) ⊎ (reads_of step.0 ≡ option_list given.terms)
  format : IsPlainUnlessConvert step.0 step.1
  output : HasItsOutput step.0 step.1

-- a plain output has the name that is given, and is plain
plain_sound : (file : Option OutputFile) (output : Option Output) → plain_output file ≡ Ok output → (output_names output ≡ names_of (option_list file)) × IsPlain output
plain_sound None output is = subst (λ o. (output_names o ≡ []) × IsPlain o) (ok_is None output is) (refl, tt)
plain_sound (Some file) output is = by_format (format_of_name file.name) refl is
  where
    by_format : (format : Option Format) → format_of_name file.name ≡ format → then_read (output_to file format true) (λ made. Ok (Some made)) ≡ Ok output → (output_names output ≡ file.name ∷ []) × IsPlain output
    by_format (Some format) told is = subst (λ o. (output_names o ≡ file.name ∷ []) × IsPlain o) (ok_is (Some (record { name = file.name; format = format; check = true })) output is) (refl, (told, refl))
    by_format None told is = ok_not _ output is

-- a step that is no `convert`
plain_step : (given : Given) (step : Step) (told : Step × Option Output) → ((output : Option Output) → IsPlain output → IsPlainUnlessConvert step output) → ((output : Option Output) → HasItsOutput step output) → (reads_of step ≡ []) ⊎ (reads_of step ≡ option_list given.terms) → with_plain_output step given.output ≡ Ok told → Sound given told
plain_step given step told formats outputs reads is =
    let both = ok_then (plain_output given.output) (λ output. Ok (step, output)) told is in
    let plain = plain_sound given.output both.0 both.1 in
    subst (Sound given) (ok_is (step, both.0) told both.2) (record {
      names = plain.0;
      reads = reads;
      format = formats both.0 plain.1;
      output = outputs both.0;
    })

-- so it is of each step
step_sound : (c : StepWord) (at : ℕ) (given : Given) (told : Step × Option Output) → step_of c at given ≡ Ok told → Sound given told
step_sound command.Extract at given told is = by_parts given.method given.terms refl is
  where
    by_parts : (method : Option Method) (terms : Option Name) → given.terms ≡ terms → extracted at method terms given.output ≡ Ok told → Sound given told
    by_parts (Some method) (Some terms) named is = plain_step given (Extract method terms) told (λ output plain. plain) (λ output. tt) (inr (sym (ap option_list named))) is
    by_parts (Some method) None named is = ok_not _ told is
    by_parts None terms named is = ok_not _ told is
step_sound command.Reason at given told is = plain_step given Reason told (λ output plain. plain) (λ output. tt) (inl refl) is
step_sound command.Relax at given told is = plain_step given Relax told (λ output plain. plain) (λ output. tt) (inl refl) is
step_sound command.Reduce at given told is = plain_step given (Reduce (unwrap_or given.preserve false)) told (λ output plain. plain) (λ output. tt) (inl refl) is
step_sound command.Convert at given told is = by_file given.output refl is
  where
    by_format : (file : OutputFile) → given.output ≡ Some file → (format : Option Format) → then_read (output_to file format (unwrap_or given.check true)) (λ output. Ok (Convert, Some output)) ≡ Ok told → Sound given told
    by_format file named (Some format) is =
        subst (Sound given) (ok_is (Convert, Some (record { name = file.name; format = format; check = unwrap_or given.check true })) told is) (record {
          names = sym (ap (λ o. names_of (option_list o)) named);
          reads = inl refl;
          format = tt;
          output = tt;
        })
    by_format file named None is = ok_not _ told is

    by_file : (file : Option OutputFile) → given.output ≡ file → converted at file given.format given.check ≡ Ok told → Sound given told
    by_file None named is = ok_not _ told is
    by_file (Some file) named is = by_format file named (or_else given.format (format_of_name file.name)) is

-- whether all of these are names
abbrev names : List Name → Type 0
names xs = list_all is_name xs ≡ true

-- all names that a step is given are names
record Named (given : Given) : Type 0 where
  inputs : names given.inputs
  catalog : names (option_list given.catalog)
  terms : names (option_list given.terms)
  output : names (names_of (option_list given.output))

-- both tests pass
and_true : (a b : Bool) → a ≡ true → b ≡ true → (a && b) ≡ true
and_true a b p q = rw (p, q) refl

-- names of two lists
names-append : (xs ys : List Name) → names xs → names ys → names (xs ++ ys)
names-append xs ys front back = rw list_all-append (and_true (list_all is_name xs) (list_all is_name ys) front back)

-- a name alone
name_alone : (name : Name) → is_name name ≡ true → names (name ∷ [])
name_alone name is = and_true (is_name name) true is refl

-- the name of a setting, if it has one, is a name
abbrev is_named : Setting → Type 0
is_named (setting.Input name) = is_name name ≡ true
is_named (setting.Catalog name) = is_name name ≡ true
is_named (setting.TermFile name) = is_name name ≡ true
is_named (setting.Output name) = is_name name ≡ true
is_named other = Unit {0}

-- a setting that is read is named
setting_named : (o : OptionWord) (word : Word) (told : Setting) → setting_of o word ≡ Some told → is_named told
setting_named o word told is = by_option o is
  where
    by_name : (made : Name → Setting) → ((name : Name) → is_name name ≡ true → is_named (made name)) → (b : Bool) → is_name word ≡ b → option_map made (cond b (Some word) None) ≡ Some told → is_named told
    by_name made each true here is = let e : made word ≡ told = cc in subst is_named e (each word here)
    by_name made each false here is = absurd cc

    by_value : {A : Type 0} (made : A → Setting) → ((value : A) → is_named (made value)) → (value : Option A) → option_map made value ≡ Some told → is_named told
    by_value made each (Some value) is = let e : made value ≡ told = cc in subst is_named e (each value)
    by_value made each None is = absurd cc

    by_option : (o : OptionWord) → setting_of o word ≡ Some told → is_named told
    by_option option.Input is = by_name setting.Input (λ name here. here) (is_name word) refl is
    by_option option.Catalog is = by_name setting.Catalog (λ name here. here) (is_name word) refl is
    by_option option.TermFile is = by_name setting.TermFile (λ name here. here) (is_name word) refl is
    by_option option.Output is = by_name setting.Output (λ name here. here) (is_name word) refl is
    by_option option.Method is = by_value setting.Method (λ value. tt) _ is
    by_option option.Preserve is = by_value setting.Preserve (λ value. tt) _ is
    by_option option.Format is = by_value setting.Format (λ value. tt) _ is
    by_option option.Check is = by_value setting.Check (λ value. tt) _ is

-- so what is given stays named
named_with : (given : Given) (told : Setting) (at : ℕ) → Named given → is_named told → Named (with_setting given told at)
named_with given (setting.Input name) at named is = record { inputs = names-append given.inputs (name ∷ []) named.inputs (name_alone name is); catalog = named.catalog; terms = named.terms; output = named.output }
named_with given (setting.Catalog name) at named is = record { inputs = named.inputs; catalog = name_alone name is; terms = named.terms; output = named.output }
named_with given (setting.TermFile name) at named is = record { inputs = named.inputs; catalog = named.catalog; terms = name_alone name is; output = named.output }
named_with given (setting.Output name) at named is = record { inputs = named.inputs; catalog = named.catalog; terms = named.terms; output = name_alone name is }
named_with given (setting.Method method) at named is = record { inputs = named.inputs; catalog = named.catalog; terms = named.terms; output = named.output }
named_with given (setting.Preserve keep) at named is = record { inputs = named.inputs; catalog = named.catalog; terms = named.terms; output = named.output }
named_with given (setting.Format format) at named is = record { inputs = named.inputs; catalog = named.catalog; terms = named.terms; output = named.output }
named_with given (setting.Check check) at named is = record { inputs = named.inputs; catalog = named.catalog; terms = named.terms; output = named.output }

-- the names that are written before a step
abbrev written_before : Part → List Name
written_before part.Merge = []
written_before (part.Step before command) = written_names before

-- what is known of the chain before a step: there is room for the step
abbrev IsFine : Part → Type 0
IsFine part.Merge = Unit {0}
IsFine (part.Step before command) = IsWhole before × FormatsFollowNames before × (length before.steps + 1 ≤ 63)

-- what is known of the words so far
record Fine (draft : Draft) : Type 0 where
  named : Named draft.given
  outputs : names_of draft.outputs ≡ written_before draft.part
  before : IsFine draft.part

-- what is known of a chain, behind a step that ends
record Ended (outputs : List OutputFile) (after : Chain) : Type 0 where
  whole : IsWhole after
  formats : FormatsFollowNames after
  written : names_of outputs ≡ written_names after

-- nothing holds of no item
none_all : {A : Type 0} (P : A → Type 0) → All P []
none_all P k d within = absurd (omega arith)

-- what holds of an item holds of the list of it alone
all_one : {A : Type 0} (P : A → Type 0) (x : A) → P x → All P (x ∷ [])
all_one P x holds zero d within = holds
all_one P x holds (suc k) d within = absurd (omega arith)

-- a list that is not empty has an item
some_items : {A : Type 0} (xs : List A) → (length xs == 0) ≡ false → 1 ≤ length xs
some_items [] is = absurd cc
some_items (x ∷ xs) is = omega arith

-- so it is where a step ends
ended_fine : (draft : Draft) (after : Chain) → Fine draft → ended draft.part draft.at draft.given ≡ Ok after → Ended (all_outputs draft) after
ended_fine draft after fine is = ended_keeps (Ended (all_outputs draft)) draft.part draft.at draft.given after at_front behind is
  where
    here : names_of (all_outputs draft) ≡ written_before draft.part ++ names_of (option_list draft.given.output)
    here = map-append (λ file. file.name) draft.outputs (option_list draft.given.output) ∙ ap (λ xs. xs ++ names_of (option_list draft.given.output)) fine.outputs

    at_front : (output : Option Output) → draft.part ≡ part.Merge → (length draft.given.inputs == 0) ≡ false → plain_output draft.given.output ≡ Ok output → Ended (all_outputs draft) (record { inputs = draft.given.inputs; catalog = draft.given.catalog; first = output; steps = [] })
    at_front output merges some written =
        let plain = plain_sound draft.given.output output written in
        record {
          whole = record {
            inputs = some_items draft.given.inputs some;
            steps = omega arith;
            outputs = none_all (λ step. HasItsOutput step.0 step.1);
            read = names-append draft.given.inputs (option_list draft.given.catalog ++ []) fine.named.inputs (subst names (sym (append-nil (option_list draft.given.catalog))) fine.named.catalog);
            written = subst names (sym (append-nil (output_names output) ∙ plain.0)) fine.named.output;
          };
          formats = (plain.1, none_all (λ step. IsPlainUnlessConvert step.0 step.1));
          written = here ∙ ap (λ p. written_before p ++ names_of (option_list draft.given.output)) merges ∙ sym plain.0 ∙ sym (append-nil (output_names output));
        }

    read_too : (step : Step × Option Output) → (reads_of step.0 ≡ []) ⊎ (reads_of step.0 ≡ option_list draft.given.terms) → names (reads_of step.0)
    read_too step (inl none) = subst names (sym none) refl
    read_too step (inr terms) = subst names (sym terms) fine.named.terms

    behind : (before : Chain) (command : StepWord) (step : Step × Option Output) → draft.part ≡ part.Step before command → step_of command draft.at draft.given ≡ Ok step → Ended (all_outputs draft) (record before { steps = before.steps ++ step ∷ [] })
    behind before command step stands means =
        let sound = step_sound command draft.at draft.given step means in
        let known : IsWhole before × FormatsFollowNames before × (length before.steps + 1 ≤ 63) = subst IsFine stands fine.before in
        let written : written_names (record before { steps = before.steps ++ step ∷ [] }) ≡ written_names before ++ names_of (option_list draft.given.output) = written-followed before step ∙ ap (λ xs. written_names before ++ xs) sound.names in
        record {
          whole = record {
            inputs = known.0.inputs;
            steps = omega (arith, known.2, length-append before.steps (step ∷ []));
            outputs = All-append (λ s. HasItsOutput s.0 s.1) before.steps (step ∷ []) known.0.outputs (all_one (λ s. HasItsOutput s.0 s.1) step sound.output);
            read = subst names (sym (read-followed before step)) (names-append (read_names before) (reads_of step.0) known.0.read (read_too step sound.reads));
            written = subst names (sym written) (names-append (written_names before) (names_of (option_list draft.given.output)) known.0.written fine.named.output);
          };
          formats = (known.1.0, All-append (λ s. IsPlainUnlessConvert s.0 s.1) before.steps (step ∷ []) known.1.1 (all_one (λ s. IsPlainUnlessConvert s.0 s.1) step sound.format));
          written = here ∙ ap (λ p. written_before p ++ names_of (option_list draft.given.output)) stands ∙ sym written;
        }

-- so it is at each word
fine_turn : (draft : Draft) (at : ℕ) (word : Word) (after : Draft) → Fine draft → turn draft at word ≡ Ok after → Fine after
fine_turn draft at word after fine is =
    turn_keeps Fine draft at word after
    (λ option found. record { named = fine.named; outputs = fine.outputs; before = fine.before })
    (λ asked told asks is. record { named = named_with draft.given told at fine.named (setting_named asked.option word told is); outputs = fine.outputs; before = fine.before })
    (λ step before ends room.
    let ended = ended_fine draft before fine ends in
    record {
      named = record { inputs = refl; catalog = refl; terms = refl; output = refl };
      outputs = ended.written;
      before = (ended.whole, ended.formats, room_for (length before.steps + 1) room);
    })
    is
  where
    room_for : (n : ℕ) → leb 64 n ≡ false → n ≤ 63
    room_for n room = omega (arith, leb-false 64 n room)

-- what is known of a command that is accepted
pub record AcceptedChain (told : Chain) : Type 0 where
  pub whole : IsWhole told
  pub formats : FormatsFollowNames told
  pub outputs : List OutputFile
  pub names : names_of outputs ≡ written_names told
  pub quiet : first_clash told outputs ≡ None

abbrev pub Accepted : Command → Type 0
Accepted (Run told) = AcceptedChain told
Accepted (Generate size) = (10 ≤ size) × (size ≤ 1000000)

-- so it is behind the last word
fine_end : (draft : Draft) (asked : Option Asked) (told : Command) → Fine draft → at_end asked draft ≡ Ok told → Accepted told
fine_end draft (Some asked) told fine is = ok_not _ told is
fine_end draft None told fine is =
    let both = ok_then (ended draft.part draft.at draft.given) (λ chain. tested chain (first_clash chain (all_outputs draft))) told is in
    by_clash both.0 (ended_fine draft both.0 fine both.1) (first_clash both.0 (all_outputs draft)) refl both.2
  where
    by_clash : (after : Chain) → Ended (all_outputs draft) after → (found : Option Bad) → first_clash after (all_outputs draft) ≡ found → tested after found ≡ Ok told → Accepted told
    by_clash after ended None quiet is = subst Accepted (ok_is (Run after) told is) (record { whole = ended.whole; formats = ended.formats; outputs = all_outputs draft; names = ended.written; quiet = quiet })
    by_clash after ended (Some fault) quiet is = ok_not _ told is

-- a size is from 10 to 1000000
size_bounds : (word : Word) (size : ℕ) → size_of word ≡ Some size → (10 ≤ size) × (size ≤ 1000000)
size_bounds word size is = by_zero (leads_with_zero word) is
  where
    by_ten : (n : ℕ) → n ≤ 1000000 → (b : Bool) → ltb n 10 ≡ b → cond b None (Some n) ≡ Some size → (10 ≤ size) × (size ≤ 1000000)
    by_ten n few true small is = absurd cc
    by_ten n few false small is = let e : n ≡ size = cc in subst (λ m. (10 ≤ m) × (m ≤ 1000000)) e (ltb-false n 10 small, few)

    by_number : (b : Bool) → leb (number_from 0 word) 1000000 ≡ b → (digits : Bool) → option_and_then from_ten (cond (digits && b) (Some (number_from 0 word)) None) ≡ Some size → (10 ≤ size) × (size ≤ 1000000)
    by_number true few true is = by_ten (number_from 0 word) (leb-true (number_from 0 word) 1000000 few) (ltb (number_from 0 word) 10) refl is
    by_number false few true is = absurd cc
    by_number b few false is = absurd cc

    by_zero : (b : Bool) → cond b None (option_and_then from_ten (number_of word)) ≡ Some size → (10 ≤ size) × (size ≤ 1000000)
    by_zero true is = absurd cc
    by_zero false is = by_number (leb (number_from 0 word) 1000000) refl (list_all is_ascii_digit word) is

-- what is known of all words that are accepted
pub accepted : (words : List Word) (told : Command) → chain words ≡ Ok told → Accepted told
accepted words told is =
    chain_keeps Fine Accepted
    (record { named = record { inputs = refl; catalog = refl; terms = refl; output = refl }; outputs = refl; before = tt })
    fine_turn
    (λ draft told fine ends. fine_end draft draft.asked told fine ends)
    size_bounds words told is
