-- The words that spell a well-formed chain ask for it.
use Rattle.std.proofs.Common.{◌≡◌, ℕ, ◌+◌, ◌≤◌, ◌==◌, List, [], ◌∷◌, ◌++◌, length, filter, Bool, true, false, ◌&&◌, ◌||◌, cond, leb, ltb, zero, suc, Option, Some, None, unwrap_or, Ok, ap, sym, subst, ◌∙◌, refl, arith, append_assoc, append-nil, ne_eqb}
use Rattle.std.specs.List.{All, flat_map, list_all}
use Rattle.std.specs.Option.{option_map}
use Rattle.std.proofs.lemmas.Bool.{lt-leb}
use Rattle.std.proofs.lemmas.List.{length-append, map-append}
use Rattle.std.proofs.lemmas.List.Folds.{list_all-append}
use Rattle.chain_words.specs.Word.{Name, Word, is_name, same}
use Rattle.chain_words.specs.Table.{command_of, option_word, step_word}
use Rattle.chain_words.specs.Setting.{bool_word, format_word, method_word, setting_of}
use Rattle.chain_words.specs.Given.{nothing, option_list}
use Rattle.chain_words.specs.Fault.{bad, then_read}
use Rattle.chain_words.specs.Step.{converted, format_of_name, or_else, plain_output, step_of}
use Rattle.chain_words.specs.Command.{is_one_of, output_names, reads_of, times, writes_of, written_names}
use Rattle.chain_words.specs.Clash.{first_clash}
use Rattle.chain_words.specs.Draft.{all_outputs, at_end, at_place, at_word, begun, ended, option_of, tested, turn}
use Rattle.chain_words.specs.Read.{all_words, at_merge, chain, scan}
use Rattle.chain_words.specs.Laws.{HasItsOutput, IsPlain, IsPlainUnlessConvert, IsWellFormed, check_options, format_options, merge_settings, name_options, output_options, spelled, step_settings, step_words, tells, step_command, words_of}
use Rattle.chain_words.specs.declared.fault.WordKind.TheVariants.{TooMany}
use Rattle.chain_words.specs.declared.table.CommandWord.TheVariants as word
use Rattle.chain_words.specs.declared.table.StepWord.{StepWord}
use Rattle.chain_words.specs.declared.table.StepWord.TheVariants as command
use Rattle.chain_words.specs.declared.table.OptionWord.{OptionWord}
use Rattle.chain_words.specs.declared.table.OptionWord.TheVariants as option
use Rattle.chain_words.specs.declared.setting.Setting.{Setting}
use Rattle.chain_words.specs.declared.setting.Setting.TheVariants as setting
use Rattle.chain_words.specs.declared.given.Given.{Given}
use Rattle.chain_words.specs.declared.given.OutputFile.{OutputFile}
use Rattle.chain_words.specs.declared.draft.Part.{Part}
use Rattle.chain_words.specs.declared.draft.Part.TheVariants as part
use Rattle.chain_words.specs.declared.draft.Draft.{Draft}
use Rattle.chain_words.specs.declared.command.Format.{Format}
use Rattle.chain_words.specs.declared.command.Format.TheVariants.{Obo, Ofn}
use Rattle.chain_words.specs.declared.command.Method.{Method}
use Rattle.chain_words.specs.declared.command.Method.TheVariants.{Bot, Top, Star}
use Rattle.chain_words.specs.declared.command.Output.{Output}
use Rattle.chain_words.specs.declared.command.Step.{Step}
use Rattle.chain_words.specs.declared.command.Step.TheVariants.{Extract, Reason, Relax, Reduce, Convert}
use Rattle.chain_words.specs.declared.command.Chain.{Chain}
use Rattle.chain_words.specs.declared.command.Command.{Command}
use Rattle.chain_words.specs.declared.command.Command.TheVariants.{Run}
use Rattle.chain_words.proofs.Accepted.{begins}
use Rattle.chain_words.proofs.Clashes.{names_of, quiet}
use Rattle.chain_words.proofs.Names.{written-followed}
use Rattle.chain_words.proofs.Turns.{no_option, scan_step, setting_given}

-- whether all of these are names
abbrev names : List Name → Type 0
names xs = list_all is_name xs ≡ true

-- both tests pass
and_both : (a b : Bool) → (a && b) ≡ true → (a ≡ true) × (b ≡ true)
and_both true b is = (refl, is)
and_both false b is = absurd cc

-- the first of two lists of names, and the second
names_of_both : (xs ys : List Name) → names (xs ++ ys) → names xs × names ys
names_of_both xs ys all = and_both (list_all is_name xs) (list_all is_name ys) (rw list_all-append at all)

-- an output at a place
abbrev placed_at : ℕ → Option Output → Option OutputFile
placed_at at None = None
placed_at at (Some file) = Some (record { at = at; name = file.name })

-- its name is the output's
placed_names : (at : ℕ) (output : Option Output) → names_of (option_list (placed_at at output)) ≡ output_names output
placed_names at None = refl
placed_names at (Some file) = refl

-- a plain output is read from its name
plain_told : (at : ℕ) (output : Option Output) → IsPlain output → plain_output (placed_at at output) ≡ Ok output
plain_told at None plain = refl
plain_told at (Some file) plain = rw plain.0 (λ i. Ok (Some (record { name = file.name; format = file.format; check = sym plain.1 i })))

-- a name that an option is given
name_told : (o : OptionWord) (made : Name → Setting) (name : Name) → ((w : Word) → setting_of o w ≡ option_map made (cond (is_name w) (Some w) None)) → is_name name ≡ true → setting_of o name ≡ Some (made name)
name_told o made name each is = each name ∙ ap (λ b. option_map made (cond b (Some name) None)) is

-- a draft at an option's place
abbrev reading : Part → ℕ → List OutputFile → Given → Draft
reading here at outputs given = record { part = here; at = at; given = given; outputs = outputs; asked = None }

-- the options that spell an output are read
output_scan : (told : Command) (here : Part) (place : ℕ) (outputs : List OutputFile) (given : Given) (output : Option Output) (at : ℕ) (rest : List Word) → option_of here (option_word option.Output) ≡ Some option.Output → names (output_names output) → ((i j : ℕ) → scan (reading here place outputs (record given { output = placed_at i output })) j rest ≡ Ok told) → scan (reading here place outputs (record given { output = None })) at (spelled (output_options output) ++ rest) ≡ Ok told
output_scan told here place outputs given None at rest found named next = next 0 at
output_scan told here place outputs given (Some file) at rest found named next =
    setting_given (reading here place outputs (record given { output = None })) at option.Output file.name (setting.Output file.name) rest refl (record {
      found = found;
      fresh = refl;
      means = name_told option.Output setting.Output file.name (λ w. refl) (and_both (is_name file.name) true named).0;
    })
    ∙ next (at + 1) (at + 1 + 1)

-- a step whose parts are as they have to be
record Good (step : Step × Option Output) : Type 0 where
  format : IsPlainUnlessConvert step.0 step.1
  output : HasItsOutput step.0 step.1
  read : names (reads_of step.0)
  written : names (writes_of step)

-- a method is read from its word
method_told : (method : Method) → setting_of option.Method (method_word method) ≡ Some (setting.Method method)
method_told Bot = refl
method_told Top = refl
method_told Star = refl

-- a format is read from its word
format_told : (format : Format) → setting_of option.Format (format_word format) ≡ Some (setting.Format format)
format_told Obo = refl
format_told Ofn = refl

-- where a name tells a format, it is this one
told_is : (told : Option Format) (format : Format) → tells told format ≡ true → told ≡ Some format
told_is None format is = absurd cc
told_is (Some Obo) Obo is = refl
told_is (Some Ofn) Ofn is = refl
told_is (Some Obo) Ofn is = absurd cc
told_is (Some Ofn) Obo is = absurd cc

-- what is to follow behind the options of a step
abbrev Follows : Command → Chain → ℕ → List OutputFile → Step → Option Output → List Word → Type 0
Follows told before place outputs step output rest =
    (given : Given) (i j : ℕ) → step_of (step_command step) place given ≡ Ok (step, output) → given.output ≡ placed_at i output → scan (reading (part.Step before (step_command step)) place outputs given) j rest ≡ Ok told

-- the options that spell a step with a plain output
plain_scan : (told : Command) (before : Chain) (place : ℕ) (outputs : List OutputFile) (step : Step) (given : Given) (output : Option Output) (at : ℕ) (rest : List Word) → option_of (part.Step before (step_command step)) (option_word option.Output) ≡ Some option.Output → IsPlain output → names (output_names output) → ((file : Option OutputFile) → plain_output file ≡ Ok output → step_of (step_command step) place (record given { output = file }) ≡ Ok (step, output)) → Follows told before place outputs step output rest → scan (reading (part.Step before (step_command step)) place outputs (record given { output = None })) at (spelled (output_options output) ++ rest) ≡ Ok told
plain_scan told before place outputs step given output at rest found plain named means next =
    output_scan told (part.Step before (step_command step)) place outputs given output at rest found named
    (λ i j. next (record given { output = placed_at i output }) i j (means (placed_at i output) (plain_told i output plain)) refl)

-- the options that spell a step are read
step_scan : (told : Command) (before : Chain) (place : ℕ) (outputs : List OutputFile) (step : Step) (output : Option Output) (at : ℕ) (rest : List Word) → Good (step, output) → Follows told before place outputs step output rest → scan (reading (part.Step before (step_command step)) place outputs nothing) at (spelled (step_settings step output) ++ rest) ≡ Ok told
step_scan told before place outputs (Extract method terms) output at rest good next =
    let here : Part = part.Step before command.Extract in
    let first : Given = record nothing { method = Some method } in
    let second : Given = record nothing { method = Some method; terms = Some terms } in
    setting_given (reading here place outputs nothing) at option.Method (method_word method) (setting.Method method) (option_word option.TermFile ∷ terms ∷ (spelled (output_options output) ++ rest)) refl (record { found = refl; fresh = refl; means = method_told method })
    ∙ setting_given (reading here place outputs first) (at + 1 + 1) option.TermFile terms (setting.TermFile terms) (spelled (output_options output) ++ rest) refl (record {
      found = refl;
      fresh = refl;
      means = name_told option.TermFile setting.TermFile terms (λ w. refl) (and_both (is_name terms) true good.read).0;
    })
    ∙ plain_scan told before place outputs (Extract method terms) second output (at + 1 + 1 + 1 + 1) rest refl good.format good.written
    (λ file plain. ap (λ r. then_read r (λ made. Ok (Extract method terms, made))) plain) next
step_scan told before place outputs Reason output at rest good next =
    plain_scan told before place outputs Reason nothing output at rest refl good.format good.written (λ file plain. ap (λ r. then_read r (λ made. Ok (Reason, made))) plain) next
step_scan told before place outputs Relax output at rest good next =
    plain_scan told before place outputs Relax nothing output at rest refl good.format good.written (λ file plain. ap (λ r. then_read r (λ made. Ok (Relax, made))) plain) next
step_scan told before place outputs (Reduce false) output at rest good next =
    plain_scan told before place outputs (Reduce false) nothing output at rest refl good.format good.written (λ file plain. ap (λ r. then_read r (λ made. Ok (Reduce false, made))) plain) next
step_scan told before place outputs (Reduce true) output at rest good next =
    setting_given (reading (part.Step before command.Reduce) place outputs nothing) at option.Preserve (bool_word true) (setting.Preserve true) (spelled (output_options output) ++ rest) refl (record { found = refl; fresh = refl; means = refl })
    ∙ plain_scan told before place outputs (Reduce true) (record nothing { preserve = Some true }) output (at + 1 + 1) rest refl good.format good.written (λ file plain. ap (λ r. then_read r (λ made. Ok (Reduce true, made))) plain) next
step_scan told before place outputs Convert None at rest good next = absurd good.output
step_scan told before place outputs Convert (Some file) at rest good next =
    setting_given (reading here place outputs nothing) at option.Output file.name (setting.Output file.name) (spelled (format_options file ++ check_options file.check) ++ rest) refl (record {
      found = refl;
      fresh = refl;
      means = name_told option.Output setting.Output file.name (λ w. refl) (and_both (is_name file.name) true good.written).0;
    })
    ∙ by_format (tells (format_of_name file.name) file.format) refl
  where
    here : Part
    here = part.Step before command.Convert

    placed : Option OutputFile
    placed = Some (record { at = at + 1; name = file.name })

    means : (format : Option Format) (check : Option Bool) → or_else format (format_of_name file.name) ≡ Some file.format → unwrap_or check true ≡ file.check → converted place placed format check ≡ Ok (Convert, Some file)
    means format check one two = rw one (λ i. Ok (Convert, Some (record { name = file.name; format = file.format; check = two i })))

    by_check : (format : Option Format) → or_else format (format_of_name file.name) ≡ Some file.format → (c : Bool) → file.check ≡ c → (at' : ℕ) → scan (reading here place outputs (record nothing { output = placed; format = format })) at' (spelled (check_options c) ++ rest) ≡ Ok told
    by_check format one true is at' =
        next (record nothing { output = placed; format = format }) (at + 1) at' (means format None one (sym is)) refl
    by_check format one false is at' =
        setting_given (reading here place outputs (record nothing { output = placed; format = format })) at' option.Check (bool_word false) (setting.Check false) rest refl (record { found = refl; fresh = refl; means = refl })
        ∙ next (record nothing { output = placed; format = format; check = Some false }) (at + 1) (at' + 1 + 1) (means format (Some false) one (sym is)) refl

    by_format : (b : Bool) → tells (format_of_name file.name) file.format ≡ b → scan (reading here place outputs (record nothing { output = placed })) (at + 1 + 1) (spelled (cond b [] ((option.Format, format_word file.format) ∷ []) ++ check_options file.check) ++ rest) ≡ Ok told
    by_format true is = by_check None (told_is (format_of_name file.name) file.format is) file.check refl (at + 1 + 1)
    by_format false is =
        setting_given (reading here place outputs (record nothing { output = placed })) (at + 1 + 1) option.Format (format_word file.format) (setting.Format file.format) (spelled (check_options file.check) ++ rest) refl (record { found = refl; fresh = refl; means = format_told file.format })
        ∙ by_check (Some file.format) refl file.check refl (at + 1 + 1 + 1 + 1)

-- steps whose parts are as they have to be
abbrev AllGood : List (Step × Option Output) → Type 0
AllGood [] = Unit {0}
AllGood (step ∷ steps) = Good step × AllGood steps

-- the command word of a step is no option
command_is : (c : StepWord) → command_of (step_word c) ≡ Some (word.Step c)
command_is command.Extract = refl
command_is command.Reason = refl
command_is command.Relax = refl
command_is command.Reduce = refl
command_is command.Convert = refl

-- the words that spell the later steps are read
steps_scan : (final : Chain) → ((outputs : List OutputFile) → names_of outputs ≡ written_names final → first_clash final outputs ≡ None) → (steps : List (Step × Option Output)) (before : Chain) (draft : Draft) (at : ℕ) → record before { steps = before.steps ++ steps } ≡ final → AllGood steps → length before.steps + length steps ≤ 63 → draft.asked ≡ None → ended draft.part draft.at draft.given ≡ Ok before → names_of (all_outputs draft) ≡ written_names before → scan draft at (flat_map step_words steps) ≡ Ok (Run final)
steps_scan final apart [] before draft at is good few free ends outputs =
    let e : before ≡ final = sym (ap (λ s. record before { steps = s }) (append-nil before.steps)) ∙ is in
    ap (λ a. at_end a draft) free
    ∙ ap (λ r. then_read r (λ c. tested c (first_clash c (all_outputs draft)))) ends
    ∙ ap (λ c. tested c (first_clash c (all_outputs draft))) e
    ∙ ap (tested final) (apart (all_outputs draft) (outputs ∙ ap written_names e))
steps_scan final apart (step ∷ steps) before draft at is good few free ends outputs =
    let c = step_command step.0 in
    let behind = spelled (step_settings step.0 step.1) ++ flat_map step_words steps in
    let room : leb 64 (length before.steps + 1) ≡ false = lt-leb 64 (length before.steps + 1) (omega (arith, few)) in
    let starts : begun (all_outputs draft) (word.Step c) at before ≡ Ok (begins draft c at before) = rw room refl in
    let turned : turn draft at (step_word c) ≡ Ok (begins draft c at before) =
    ap (λ a. at_place a draft at (step_word c)) free
    ∙ ap (λ o. at_word o (command_of (step_word c)) draft at) (no_option draft.part (word.Step c))
    ∙ ap (λ w. at_word None w draft at) (command_is c)
    ∙ ap (λ r. then_read r (begun (all_outputs draft) (word.Step c) at)) ends
    ∙ starts in
    let longer : Chain = record before { steps = before.steps ++ step ∷ [] } in
    let one : record longer { steps = longer.steps ++ steps } ≡ final = ap (λ s. record before { steps = s }) (append_assoc before.steps (step ∷ []) steps) ∙ is in
    scan_step draft (begins draft c at before) at (step_word c) behind turned
    ∙ step_scan (Run final) before at (all_outputs draft) step.0 step.1 (at + 1) (flat_map step_words steps) good.0
    (λ given i j means placed.
    steps_scan final apart steps longer (reading (part.Step before c) at (all_outputs draft) given) j one good.1 (omega (arith, few, length-append before.steps (step ∷ []))) refl
    (ap (λ r. then_read r (λ made. Ok (record before { steps = before.steps ++ made ∷ [] }))) means)
    (map-append (λ file. file.name) (all_outputs draft) (option_list given.output)
    ∙ ap (λ ns. ns ++ names_of (option_list given.output)) outputs
    ∙ ap (λ file. written_names before ++ names_of (option_list file)) placed
    ∙ ap (λ ns. written_names before ++ ns) (placed_names i step.1)
    ∙ sym (written-followed before step)))

-- the words of two lists of options
spelled-append : (xs ys : List (OptionWord × Word)) (rest : List Word) → spelled (xs ++ ys) ++ rest ≡ spelled xs ++ (spelled ys ++ rest)
spelled-append [] ys rest = refl
spelled-append (x ∷ xs) ys rest = ap (λ words. option_word x.0 ∷ x.1 ∷ words) (spelled-append xs ys rest)

-- the words that spell the inputs are read
inputs_scan : (told : Command) (inputs : List Name) (given : Given) (at : ℕ) (rest : List Word) → names inputs → ((j : ℕ) → scan (reading part.Merge 0 [] (record given { inputs = given.inputs ++ inputs })) j rest ≡ Ok told) → scan (reading part.Merge 0 [] given) at (spelled (name_options option.Input inputs) ++ rest) ≡ Ok told
inputs_scan told [] given at rest named next = ap (λ inputs. scan (reading part.Merge 0 [] (record given { inputs = inputs })) at rest) (sym (append-nil given.inputs)) ∙ next at
inputs_scan told (name ∷ inputs) given at rest named next =
    let both = and_both (is_name name) (list_all is_name inputs) named in
    setting_given (reading part.Merge 0 [] given) at option.Input name (setting.Input name) (spelled (name_options option.Input inputs) ++ rest) refl (record {
      found = refl;
      fresh = refl;
      means = name_told option.Input setting.Input name (λ w. refl) both.0;
    })
    ∙ inputs_scan told inputs (record given { inputs = given.inputs ++ name ∷ [] }) (at + 1 + 1) rest both.1
    (λ j. ap (λ all. scan (reading part.Merge 0 [] (record given { inputs = all })) j rest) (append_assoc given.inputs (name ∷ []) inputs) ∙ next j)

-- the words that spell the catalog are read
catalog_scan : (told : Command) (inputs : List Name) (catalog : Option Name) (at : ℕ) (rest : List Word) → names (option_list catalog) → ((j : ℕ) → scan (reading part.Merge 0 [] (record nothing { inputs = inputs; catalog = catalog })) j rest ≡ Ok told) → scan (reading part.Merge 0 [] (record nothing { inputs = inputs })) at (spelled (name_options option.Catalog (option_list catalog)) ++ rest) ≡ Ok told
catalog_scan told inputs None at rest named next = next at
catalog_scan told inputs (Some name) at rest named next =
    setting_given (reading part.Merge 0 [] (record nothing { inputs = inputs })) at option.Catalog name (setting.Catalog name) rest refl (record {
      found = refl;
      fresh = refl;
      means = name_told option.Catalog setting.Catalog name (λ w. refl) (and_both (is_name name) true named).0;
    })
    ∙ next (at + 1 + 1)

-- an input is there
some_inputs : (inputs : List Name) → 1 ≤ length inputs → (length inputs == 0) ≡ false
some_inputs [] some = absurd (omega arith)
some_inputs (name ∷ inputs) some = ne_eqb (suc (length inputs)) 0 (λ e. omega arith)

-- a name that is counted is one of these
counts_any : (name : Name) (xs : List Name) → 1 ≤ times name xs → is_one_of name xs ≡ true
counts_any name [] some = absurd (omega arith)
counts_any name (x ∷ xs) some = by_test (same x name) (counts_any name xs) some
  where
    by_test : (b : Bool) → (1 ≤ times name xs → is_one_of name xs ≡ true) → 1 ≤ length (cond b (x ∷ filter (λ other. same other name) xs) (filter (λ other. same other name) xs)) → (b || is_one_of name xs) ≡ true
    by_test true later some = refl
    by_test false later some = later some

-- the steps of a chain are as they have to be
all_good : (steps : List (Step × Option Output)) → All (λ step. IsPlainUnlessConvert step.0 step.1) steps → All (λ step. HasItsOutput step.0 step.1) steps → names (flat_map (λ step. reads_of step.0) steps) → names (flat_map writes_of steps) → AllGood steps
all_good [] formats outputs read written = tt
all_good (step ∷ steps) formats outputs read written =
    let reads = names_of_both (reads_of step.0) (flat_map (λ (s : Step × Option Output). reads_of s.0) steps) read in
    let writes = names_of_both (writes_of step) (flat_map writes_of steps) written in (
      record { format = formats zero step (omega arith); output = outputs zero step (omega arith); read = reads.0; written = writes.0 },
      all_good steps (λ k d within. formats (suc k) d (omega arith)) (λ k d within. outputs (suc k) d (omega arith)) reads.1 writes.1,
    )

-- the words that spell a well-formed chain ask for it
pub spelled_is_read : (final : Chain) → IsWellFormed final → chain (words_of final) ≡ Ok (Run final)
spelled_is_read final good =
    let test : ltb 1024 (length (words_of final)) ≡ false = lt-leb 1025 (length (words_of final)) (omega (arith, good.few)) in
    ap (λ b. cond b (bad 1024 TooMany) (all_words (words_of final))) test ∙ behind_merge
  where
    read_all : names final.inputs × names (option_list final.catalog ++ flat_map (λ step. reads_of step.0) final.steps)
    read_all = names_of_both final.inputs (option_list final.catalog ++ flat_map (λ step. reads_of step.0) final.steps) good.whole.read

    read_later : names (option_list final.catalog) × names (flat_map (λ step. reads_of step.0) final.steps)
    read_later = names_of_both (option_list final.catalog) (flat_map (λ step. reads_of step.0) final.steps) read_all.1

    written_all : names (output_names final.first) × names (flat_map writes_of final.steps)
    written_all = names_of_both (output_names final.first) (flat_map writes_of final.steps) good.whole.written

    apart : (outputs : List OutputFile) → names_of outputs ≡ written_names final → first_clash final outputs ≡ None
    apart outputs is = quiet final outputs (λ name. subst (λ ns. times name ns ≤ 1) (sym is) (good.once name)) (λ name some. good.apart name (counts_any name (written_names final) (subst (λ ns. 1 ≤ times name ns) is some)))

    first : Chain
    first = record { inputs = final.inputs; catalog = final.catalog; first = final.first; steps = [] }

    given : ℕ → Given
    given i = record nothing { inputs = final.inputs; catalog = final.catalog; output = placed_at i final.first }

    merges : (i : ℕ) → ended part.Merge 0 (given i) ≡ Ok first
    merges i = rw (some_inputs final.inputs good.whole.inputs) (ap (λ r. then_read r (λ output. Ok (record { inputs = final.inputs; catalog = final.catalog; first = output; steps = [] }))) (plain_told i final.first good.formats.0))

    later : (i j : ℕ) → scan (reading part.Merge 0 [] (given i)) j (flat_map step_words final.steps) ≡ Ok (Run final)
    later i j =
        steps_scan final apart final.steps first (reading part.Merge 0 [] (given i)) j refl
        (all_good final.steps good.formats.1 good.whole.outputs read_later.1 written_all.1)
        (omega (arith, good.whole.steps)) refl (merges i)
        (placed_names i final.first ∙ sym (append-nil (output_names final.first)))

    behind_merge : scan at_merge 1 (spelled (merge_settings final) ++ flat_map step_words final.steps) ≡ Ok (Run final)
    behind_merge =
        ap (scan at_merge 1) (spelled-append (name_options option.Input final.inputs) (name_options option.Catalog (option_list final.catalog) ++ output_options final.first) (flat_map step_words final.steps))
        ∙ inputs_scan (Run final) final.inputs nothing 1 (spelled (name_options option.Catalog (option_list final.catalog) ++ output_options final.first) ++ flat_map step_words final.steps) read_all.0
        (λ j.
        ap (scan (reading part.Merge 0 [] (record nothing { inputs = final.inputs })) j) (spelled-append (name_options option.Catalog (option_list final.catalog)) (output_options final.first) (flat_map step_words final.steps))
        ∙ catalog_scan (Run final) final.inputs final.catalog j (spelled (output_options final.first) ++ flat_map step_words final.steps) read_later.0
        (λ k. output_scan (Run final) part.Merge 0 [] (record nothing { inputs = final.inputs; catalog = final.catalog }) final.first k (flat_map step_words final.steps) refl written_all.0 later))
