-- Drafts that differ in nothing but where the names of outputs stand: whatever is accepted after the one is accepted after
-- the other, and means the same.
use Rattle.std.proofs.Common.{◌≡◌, ◌≢◌, ℕ, ◌+◌, ◌≤◌, ◌==◌, List, [], ◌∷◌, ◌++◌, length, true, false, Option, Some, None, is_some, unwrap_or, Ok, ap, sym, subst, ◌∙◌, refl}
use Rattle.std.specs.Option.{option_map}
use Rattle.std.proofs.lemmas.List.{map-append}
use Rattle.chain_words.specs.Word.{Name, Word}
use Rattle.chain_words.specs.Table.{command_of}
use Rattle.chain_words.specs.Setting.{setting_of}
use Rattle.chain_words.specs.Given.{option_list, stands_again, with_setting}
use Rattle.chain_words.specs.Fault.{Bad, Reading, then_read}
use Rattle.chain_words.specs.Step.{converted, extracted, format_of_name, or_else, output_to, plain_output, step_of, with_plain_output}
use Rattle.chain_words.specs.Command.{times}
use Rattle.chain_words.specs.Clash.{first_clash}
use Rattle.chain_words.specs.Draft.{all_outputs, at_end, at_option, at_place, at_setting, at_word, begun, ended, option_of, tested, turn, with_given}
use Rattle.chain_words.specs.Read.{scan}
use Rattle.chain_words.specs.declared.table.CommandWord.{CommandWord}
use Rattle.chain_words.specs.declared.table.CommandWord.TheVariants as word
use Rattle.chain_words.specs.declared.table.StepWord.{StepWord}
use Rattle.chain_words.specs.declared.table.StepWord.TheVariants as command
use Rattle.chain_words.specs.declared.table.OptionWord.{OptionWord}
use Rattle.chain_words.specs.declared.table.OptionWord.TheVariants as option
use Rattle.chain_words.specs.declared.setting.Setting.{Setting}
use Rattle.chain_words.specs.declared.setting.Setting.TheVariants as setting
use Rattle.chain_words.specs.declared.given.Given.{Given}
use Rattle.chain_words.specs.declared.given.OutputFile.{OutputFile}
use Rattle.chain_words.specs.declared.draft.Part.{Part}
use Rattle.chain_words.specs.declared.draft.Part.TheVariants as part
use Rattle.chain_words.specs.declared.draft.Draft.{Draft}
use Rattle.chain_words.specs.declared.draft.Asked.{Asked}
use Rattle.chain_words.specs.declared.command.Format.{Format}
use Rattle.chain_words.specs.declared.command.Method.{Method}
use Rattle.chain_words.specs.declared.command.Output.{Output}
use Rattle.chain_words.specs.declared.command.Step.{Step}
use Rattle.chain_words.specs.declared.command.Step.TheVariants.{Extract, Reason, Relax, Reduce, Convert}
use Rattle.chain_words.specs.declared.command.Chain.{Chain}
use Rattle.chain_words.specs.declared.command.Command.{Command}
use Rattle.chain_words.proofs.Accepted.{begins, begun_is, ok_is, ok_not, ok_then, ok_unless}
use Rattle.chain_words.proofs.Clashes.{names_of, no_clash, quiet}
use Rattle.chain_words.proofs.Turns.{option_in}

-- the name of an output, if there is one
abbrev pub name_in : Option OutputFile → Option Name
name_in file = option_map (λ f. f.name) file

-- what is given, with the output at another place
abbrev pub moved : Given → Option OutputFile → Given
moved given file = record given { output = file }

-- a draft with its outputs at other places
abbrev pub rearranged : Draft → Option OutputFile → List OutputFile → Draft
rearranged draft file outputs = record draft { given = moved draft.given file; outputs = outputs }

-- a plain output goes by its name
plain_same : (file other : Option OutputFile) (told : Option Output) → name_in file ≡ name_in other → plain_output file ≡ Ok told → plain_output other ≡ Ok told
plain_same None None told names is = is
plain_same None (Some other) told names is = absurd cc
plain_same (Some file) None told names is = absurd cc
plain_same (Some file) (Some other) told names is = let e : file.name ≡ other.name = cc in by_format e (format_of_name file.name) refl is
  where
    by_format : file.name ≡ other.name → (format : Option Format) → format_of_name file.name ≡ format → then_read (output_to file format true) (λ output. Ok (Some output)) ≡ Ok told → then_read (output_to other (format_of_name other.name) true) (λ output. Ok (Some output)) ≡ Ok told
    by_format name (Some format) ends is =
        let e : format_of_name other.name ≡ Some format = ap format_of_name (sym name) ∙ ends in
        rw e (sym (λ i. Ok (Some (record { name = name i; format = format; check = true }))) ∙ is)
    by_format name None ends is = ok_not _ told is

-- so does a step with a plain output
with_plain_same : (step : Step) (file other : Option OutputFile) (told : Step × Option Output) → name_in file ≡ name_in other → with_plain_output step file ≡ Ok told → with_plain_output step other ≡ Ok told
with_plain_same step file other told names is =
    let both = ok_then (plain_output file) (λ output. Ok (step, output)) told is in
    ap (λ r. then_read r (λ output. Ok (step, output))) (plain_same file other both.0 names both.1) ∙ both.2

-- so does a step
step_same : (c : StepWord) (at : ℕ) (given : Given) (file : Option OutputFile) (told : Step × Option Output) → name_in given.output ≡ name_in file → step_of c at given ≡ Ok told → step_of c at (moved given file) ≡ Ok told
step_same command.Extract at given file told names is = by_parts given.method given.terms is
  where
    by_parts : (method : Option Method) (terms : Option Name) → extracted at method terms given.output ≡ Ok told → extracted at method terms file ≡ Ok told
    by_parts (Some method) (Some terms) is = with_plain_same (Extract method terms) given.output file told names is
    by_parts (Some method) None is = is
    by_parts None terms is = is
step_same command.Reason at given file told names is = with_plain_same Reason given.output file told names is
step_same command.Relax at given file told names is = with_plain_same Relax given.output file told names is
step_same command.Reduce at given file told names is = with_plain_same (Reduce (unwrap_or given.preserve false)) given.output file told names is
step_same command.Convert at given file told names is = by_file given.output file names is
  where
    by_format : (one other : OutputFile) → one.name ≡ other.name → (format : Option Format) → or_else given.format (format_of_name one.name) ≡ format → then_read (output_to one format (unwrap_or given.check true)) (λ output. Ok (Convert, Some output)) ≡ Ok told → then_read (output_to other (or_else given.format (format_of_name other.name)) (unwrap_or given.check true)) (λ output. Ok (Convert, Some output)) ≡ Ok told
    by_format one other name (Some format) ends is =
        let e : or_else given.format (format_of_name other.name) ≡ Some format = ap (λ n. or_else given.format (format_of_name n)) (sym name) ∙ ends in
        rw e (sym (λ i. Ok (Convert, Some (record { name = name i; format = format; check = unwrap_or given.check true }))) ∙ is)
    by_format one other name None ends is = ok_not _ told is

    by_file : (one other : Option OutputFile) → name_in one ≡ name_in other → converted at one given.format given.check ≡ Ok told → converted at other given.format given.check ≡ Ok told
    by_file None other names is = ok_not _ told is
    by_file (Some one) None names is = absurd cc
    by_file (Some one) (Some other) names is = let e : one.name ≡ other.name = cc in by_format one other e (or_else given.format (format_of_name one.name)) refl is

-- so does the end of a step
ended_same : (here : Part) (at : ℕ) (given : Given) (file : Option OutputFile) (after : Chain) → name_in given.output ≡ name_in file → ended here at given ≡ Ok after → ended here at (moved given file) ≡ Ok after
ended_same part.Merge at given file after names is =
    let next : Option Output → Reading Chain = λ output. Ok (record { inputs = given.inputs; catalog = given.catalog; first = output; steps = [] }) in
    let some = ok_unless (length given.inputs == 0) (then_read (plain_output given.output) next) after _ is in
    let told = ok_then (plain_output given.output) next after some.1 in
    rw some.0 (ap (λ r. then_read r next) (plain_same given.output file told.0 names told.1) ∙ told.2)
ended_same (part.Step before c) at given file after names is =
    let next : Step × Option Output → Reading Chain = λ step. Ok (record before { steps = before.steps ++ step ∷ [] }) in
    let told = ok_then (step_of c at given) next after is in
    ap (λ r. then_read r next) (step_same c at given file told.0 names told.1) ∙ told.2

-- the names of all outputs
outputs_same : (draft : Draft) (file : Option OutputFile) (outputs : List OutputFile) → name_in draft.given.output ≡ name_in file → names_of draft.outputs ≡ names_of outputs → names_of (all_outputs draft) ≡ names_of (outputs ++ option_list file)
outputs_same draft file outputs name names =
    map-append (λ f. f.name) draft.outputs (option_list draft.given.output)
    ∙ ap (λ ns. ns ++ names_of (option_list draft.given.output)) names
    ∙ ap (λ ns. names_of outputs ++ ns) (one draft.given.output file name)
    ∙ sym (map-append (λ f. f.name) outputs (option_list file))
  where
    one : (a b : Option OutputFile) → name_in a ≡ name_in b → names_of (option_list a) ≡ names_of (option_list b)
    one None None is = refl
    one None (Some b) is = absurd cc
    one (Some a) None is = absurd cc
    one (Some a) (Some b) is = let e : a.name ≡ b.name = cc in ap (λ n. n ∷ []) e

-- clashes go by the names
clash_same : (chain : Chain) (outputs others : List OutputFile) → names_of outputs ≡ names_of others → first_clash chain outputs ≡ None → first_clash chain others ≡ None
clash_same chain outputs others names is =
    quiet chain others
    (λ name. subst (λ ns. times name ns ≤ 1) names (no_clash name chain [] outputs is).once)
    (λ name some. ((no_clash name chain [] outputs is).fresh (subst (λ ns. 1 ≤ times name ns) (sym names) some)).1)

-- what is read from the same names is the same but for where they stand
record Alike (reading : Reading Draft) (after : Draft) : Type 0 where
  file : Option OutputFile
  outputs : List OutputFile
  name : name_in after.given.output ≡ name_in file
  names : names_of after.outputs ≡ names_of outputs
  is : reading ≡ Ok (rearranged after file outputs)

-- where a name is given, it is given in both
some_same : (a b : Option OutputFile) → name_in a ≡ name_in b → is_some a ≡ is_some b
some_same None None is = refl
some_same None (Some b) is = absurd cc
some_same (Some a) None is = absurd cc
some_same (Some a) (Some b) is = refl

again_same : (o : OptionWord) (given : Given) (file : Option OutputFile) → name_in given.output ≡ name_in file → stands_again o given ≡ stands_again o (moved given file)
again_same option.Output given file name = some_same given.output file name
again_same option.Input given file name = refl
again_same option.Catalog given file name = refl
again_same option.TermFile given file name = refl
again_same option.Method given file name = refl
again_same option.Preserve given file name = refl
again_same option.Format given file name = refl
again_same option.Check given file name = refl

-- one more value for both
alike_given : (draft : Draft) (file : Option OutputFile) (outputs : List OutputFile) (told : Setting) (at : ℕ) → name_in draft.given.output ≡ name_in file → names_of draft.outputs ≡ names_of outputs → Alike (Ok (with_given (rearranged draft file outputs) told at)) (with_given draft told at)
alike_given draft file outputs (setting.Output given_name) at name names = record { file = Some (record { at = at; name = given_name }); outputs = outputs; name = refl; names = names; is = refl }
alike_given draft file outputs (setting.Input input) at name names = record { file = file; outputs = outputs; name = name; names = names; is = refl }
alike_given draft file outputs (setting.Catalog catalog) at name names = record { file = file; outputs = outputs; name = name; names = names; is = refl }
alike_given draft file outputs (setting.TermFile terms) at name names = record { file = file; outputs = outputs; name = name; names = names; is = refl }
alike_given draft file outputs (setting.Method method) at name names = record { file = file; outputs = outputs; name = name; names = names; is = refl }
alike_given draft file outputs (setting.Preserve keep) at name names = record { file = file; outputs = outputs; name = name; names = names; is = refl }
alike_given draft file outputs (setting.Format format) at name names = record { file = file; outputs = outputs; name = name; names = names; is = refl }
alike_given draft file outputs (setting.Check check) at name names = record { file = file; outputs = outputs; name = name; names = names; is = refl }

-- a step begins in both
alike_begun : (draft : Draft) (file : Option OutputFile) (outputs : List OutputFile) (c : CommandWord) (at : ℕ) (before : Chain) (after : Draft) → name_in draft.given.output ≡ name_in file → names_of draft.outputs ≡ names_of outputs → begun (all_outputs draft) c at before ≡ Ok after → Alike (begun (outputs ++ option_list file) c at before) after
alike_begun draft file outputs word.Merge at before after name names is = ok_not _ after is
alike_begun draft file outputs word.Generate at before after name names is = ok_not _ after is
alike_begun draft file outputs (word.Step step) at before after name names is =
    let told = begun_is draft (word.Step step) at before after is in
    let starts : Draft = begins (rearranged draft file outputs) step at before in
    let begun_now : begun (all_outputs draft) (word.Step step) at before ≡ Ok (begins draft step at before) = rw told.1 refl in
    subst (Alike (begun (outputs ++ option_list file) (word.Step step) at before)) (ok_is (begins draft step at before) after (sym begun_now ∙ is)) (record {
      file = None;
      outputs = outputs ++ option_list file;
      name = refl;
      names = outputs_same draft file outputs name names;
      is = rw told.1 refl;
    })

-- so it is at one word
alike_turn : (draft : Draft) (file : Option OutputFile) (outputs : List OutputFile) (at : ℕ) (word : Word) (after : Draft) → name_in draft.given.output ≡ name_in file → names_of draft.outputs ≡ names_of outputs → turn draft at word ≡ Ok after → Alike (turn (rearranged draft file outputs) at word) after
alike_turn draft file outputs at word after name names is = by_place draft.asked is
  where
    other : Draft
    other = rearranged draft file outputs

    by_word : (o : Option OptionWord) (c : Option CommandWord) → at_word o c draft at ≡ Ok after → Alike (at_word o c other at) after
    by_word (Some o) c is =
        let asks : Draft = record draft { asked = Some (record { option = o; at = at }) } in
        let test = ok_unless (stands_again o draft.given) (Ok asks) after _ is in
        let fresh : stands_again o (moved draft.given file) ≡ false = sym (again_same o draft.given file name) ∙ test.0 in
        subst (Alike (at_option other o at)) (ok_is asks after test.1) (record { file = file; outputs = outputs; name = name; names = names; is = rw fresh refl })
    by_word None (Some c) is =
        let told = ok_then (ended draft.part draft.at draft.given) (begun (all_outputs draft) c at) after is in
        let alike = alike_begun draft file outputs c at told.0 after name names told.2 in
        record {
          file = alike.file;
          outputs = alike.outputs;
          name = alike.name;
          names = alike.names;
          is = ap (λ r. then_read r (begun (outputs ++ option_list file) c at)) (ended_same draft.part draft.at draft.given file told.0 name told.1) ∙ alike.is;
        }
    by_word None None is = ok_not _ after is

    by_setting : (told : Option Setting) → at_setting draft told at ≡ Ok after → Alike (at_setting other told at) after
    by_setting (Some told) is = subst (Alike (at_setting other (Some told) at)) (ok_is (with_given draft told at) after is) (alike_given draft file outputs told at name names)
    by_setting None is = ok_not _ after is

    by_place : (asked : Option Asked) → at_place asked draft at word ≡ Ok after → Alike (at_place asked other at word) after
    by_place (Some asked) is = by_setting (setting_of asked.option word) is
    by_place None is = by_word (option_of draft.part word) (command_of word) is

-- so it is behind the last word
alike_end : (draft : Draft) (file : Option OutputFile) (outputs : List OutputFile) (told : Command) → name_in draft.given.output ≡ name_in file → names_of draft.outputs ≡ names_of outputs → (asked : Option Asked) → at_end asked draft ≡ Ok told → at_end asked (rearranged draft file outputs) ≡ Ok told
alike_end draft file outputs told name names (Some asked) is = ok_not _ told is
alike_end draft file outputs told name names None is =
    let both = ok_then (ended draft.part draft.at draft.given) (λ chain. tested chain (first_clash chain (all_outputs draft))) told is in
    ap (λ r. then_read r (λ chain. tested chain (first_clash chain (outputs ++ option_list file)))) (ended_same draft.part draft.at draft.given file both.0 name both.1)
    ∙ by_clash both.0 (first_clash both.0 (all_outputs draft)) refl both.2
  where
    by_clash : (chain : Chain) (found : Option Bad) → first_clash chain (all_outputs draft) ≡ found → tested chain found ≡ Ok told → tested chain (first_clash chain (outputs ++ option_list file)) ≡ Ok told
    by_clash chain None none is = ap (tested chain) (clash_same chain (all_outputs draft) (outputs ++ option_list file) (outputs_same draft file outputs name names) none) ∙ is
    by_clash chain (Some fault) none is = ok_not _ told is

-- so it is at all words that are left
pub alike_scan : (draft : Draft) (file : Option OutputFile) (outputs : List OutputFile) (at : ℕ) (words : List Word) (told : Command) → name_in draft.given.output ≡ name_in file → names_of draft.outputs ≡ names_of outputs → scan draft at words ≡ Ok told → scan (rearranged draft file outputs) at words ≡ Ok told
alike_scan draft file outputs at [] told name names is = alike_end draft file outputs told name names draft.asked is
alike_scan draft file outputs at (word ∷ words) told name names is =
    let both = ok_then (turn draft at word) (λ next. scan next (at + 1) words) told is in
    let alike = alike_turn draft file outputs at word both.0 name names both.1 in
    ap (λ r. then_read r (λ next. scan next (at + 1) words)) alike.is
    ∙ alike_scan both.0 alike.file alike.outputs (at + 1) words told alike.name alike.names both.2

-- two settings of different options, in the one order and in the other
pub record Swapped (one other : Given) : Type 0 where
  pub file : Option OutputFile
  pub name : name_in one.output ≡ name_in file
  pub is : moved one file ≡ other

pub swapped : (given : Given) (a b : Setting) (i j k l : ℕ) → option_in a ≢ option_in b → Swapped (with_setting (with_setting given a i) b j) (with_setting (with_setting given b k) a l)
swapped given (setting.Input x) (setting.Input y) i j k l differ = absurd (differ refl)
swapped given (setting.Input x) other i j k l differ = record { file = (with_setting (with_setting given other k) (setting.Input x) l).output; name = refl; is = refl }
swapped given (setting.Catalog x) (setting.Catalog y) i j k l differ = absurd (differ refl)
swapped given (setting.Catalog x) other i j k l differ = record { file = (with_setting (with_setting given other k) (setting.Catalog x) l).output; name = refl; is = refl }
swapped given (setting.TermFile x) (setting.TermFile y) i j k l differ = absurd (differ refl)
swapped given (setting.TermFile x) other i j k l differ = record { file = (with_setting (with_setting given other k) (setting.TermFile x) l).output; name = refl; is = refl }
swapped given (setting.Output x) (setting.Output y) i j k l differ = absurd (differ refl)
swapped given (setting.Output x) other i j k l differ = record { file = (with_setting (with_setting given other k) (setting.Output x) l).output; name = refl; is = refl }
swapped given (setting.Method x) (setting.Method y) i j k l differ = absurd (differ refl)
swapped given (setting.Method x) other i j k l differ = record { file = (with_setting (with_setting given other k) (setting.Method x) l).output; name = refl; is = refl }
swapped given (setting.Preserve x) (setting.Preserve y) i j k l differ = absurd (differ refl)
swapped given (setting.Preserve x) other i j k l differ = record { file = (with_setting (with_setting given other k) (setting.Preserve x) l).output; name = refl; is = refl }
swapped given (setting.Format x) (setting.Format y) i j k l differ = absurd (differ refl)
swapped given (setting.Format x) other i j k l differ = record { file = (with_setting (with_setting given other k) (setting.Format x) l).output; name = refl; is = refl }
swapped given (setting.Check x) (setting.Check y) i j k l differ = absurd (differ refl)
swapped given (setting.Check x) other i j k l differ = record { file = (with_setting (with_setting given other k) (setting.Check x) l).output; name = refl; is = refl }
