-- The order of a step's options is free.
use Rattle.std.proofs.Common.{◌≡◌, ◌≢◌, ℕ, ◌+◌, ◌≤◌, List, [], ◌∷◌, ◌++◌, length, cond, ltb, Option, Some, None, Ok, ap, sym, ◌∙◌, refl, arith}
use Rattle.std.proofs.lemmas.List.{length-append}
use Rattle.chain_words.specs.Word.{Word}
use Rattle.chain_words.specs.Table.{command_of, command_word, option_word}
use Rattle.chain_words.specs.Number.{size_of}
use Rattle.chain_words.specs.Fault.{Reading, bad, then_read}
use Rattle.chain_words.specs.Draft.{turn, with_given}
use Rattle.chain_words.specs.Read.{all_words, at_merge, begun_by, chain, generated, only_size, scan}
use Rattle.chain_words.specs.Laws.{inside, spelled}
use Rattle.chain_words.specs.declared.fault.WordKind.TheVariants.{TooMany}
use Rattle.chain_words.specs.declared.table.CommandWord.{CommandWord}
use Rattle.chain_words.specs.declared.table.CommandWord.TheVariants as command
use Rattle.chain_words.specs.declared.table.OptionWord.{OptionWord}
use Rattle.chain_words.specs.declared.draft.Draft.{Draft}
use Rattle.chain_words.specs.declared.command.Command.{Command}
use Rattle.chain_words.proofs.Accepted.{ok_is, ok_not, ok_then, ok_unless}
use Rattle.chain_words.proofs.Alike.{alike_scan, swapped}
use Rattle.chain_words.proofs.Turns.{Allowed, free_command, other_again, scan_step, setting_given, setting_is, setting_read}

-- at an option's place two options may change places
swap_here : (draft : Draft) (at : ℕ) (a b : OptionWord × Word) (rest : List Word) (told : Command) → draft.asked ≡ None → a.0 ≢ b.0 → scan draft at (spelled (a ∷ b ∷ []) ++ rest) ≡ Ok told → scan draft at (spelled (b ∷ a ∷ []) ++ rest) ≡ Ok told
swap_here draft at a b rest told free differ is =
    let t1 = ok_then (turn draft at (option_word a.0)) (λ n. scan n (at + 1) (a.1 ∷ option_word b.0 ∷ b.1 ∷ rest)) told is in
    let t2 = ok_then (turn t1.0 (at + 1) a.1) (λ n. scan n (at + 1 + 1) (option_word b.0 ∷ b.1 ∷ rest)) told t1.2 in
    let t3 = ok_then (turn t2.0 (at + 1 + 1) (option_word b.0)) (λ n. scan n (at + 1 + 1 + 1) (b.1 ∷ rest)) told t2.2 in
    let t4 = ok_then (turn t3.0 (at + 1 + 1 + 1) b.1) (λ n. scan n (at + 1 + 1 + 1 + 1) rest) told t3.2 in
    let read_a = setting_read draft at a.0 a.1 t1.0 t2.0 free t1.1 t2.1 in
    let with_a : Draft = with_given draft read_a.told (at + 1) in
    let read_b = setting_read with_a (at + 1 + 1) b.0 b.1 t3.0 t4.0 refl (ap (λ d. turn d (at + 1 + 1) (option_word b.0)) read_a.is ∙ t3.1) t4.1 in
    let with_both : Draft = with_given with_a read_b.told (at + 1 + 1 + 1) in
    let tail : scan with_both (at + 1 + 1 + 1 + 1) rest ≡ Ok told = ap (λ d. scan d (at + 1 + 1 + 1 + 1) rest) read_b.is ∙ t4.2 in
    let is_a = setting_is a.0 a.1 read_a.told read_a.allowed.means in
    let is_b = setting_is b.0 b.1 read_b.told read_b.allowed.means in
    let with_b : Draft = with_given draft read_b.told (at + 1) in
    let b_first : Allowed draft b.0 b.1 read_b.told = record {
      found = read_b.allowed.found;
      fresh = sym (other_again draft.given read_a.told b.0 (at + 1) (λ e. differ (sym is_a ∙ e))) ∙ read_b.allowed.fresh;
      means = read_b.allowed.means;
    } in
    let a_second : Allowed with_b a.0 a.1 read_a.told = record {
      found = read_a.allowed.found;
      fresh = other_again draft.given read_b.told a.0 (at + 1) (λ e. differ (sym e ∙ is_b)) ∙ read_a.allowed.fresh;
      means = read_a.allowed.means;
    } in
    let swap = swapped draft.given read_a.told read_b.told (at + 1) (at + 1 + 1 + 1) (at + 1) (at + 1 + 1 + 1) (λ e. differ (sym is_a ∙ e ∙ is_b)) in
    setting_given draft at b.0 b.1 read_b.told (option_word a.0 ∷ a.1 ∷ rest) free b_first
    ∙ setting_given with_b (at + 1 + 1) a.0 a.1 read_a.told rest refl a_second
    ∙ ap (λ g. scan (record draft { given = g; asked = None }) (at + 1 + 1 + 1 + 1) rest) (sym swap.is)
    ∙ alike_scan with_both swap.file draft.outputs (at + 1 + 1 + 1 + 1) rest told swap.name refl tail

-- what words add to a draft
abbrev drafted : Draft → ℕ → List Word → Reading Draft
drafted draft at [] = Ok draft
drafted draft at (word ∷ words) = then_read (turn draft at word) (λ next. drafted next (at + 1) words)

-- behind words that are read, words may be changed for others that say the same there
tail_changed : (words : List Word) (draft : Draft) (at : ℕ) (old new : List Word) (told : Command) → ((after : Draft) (place : ℕ) → drafted draft at words ≡ Ok after → scan after place old ≡ Ok told → scan after place new ≡ Ok told) → scan draft at (words ++ old) ≡ Ok told → scan draft at (words ++ new) ≡ Ok told
tail_changed [] draft at old new told change is = change draft at refl is
tail_changed (word ∷ words) draft at old new told change is =
    let both = ok_then (turn draft at word) (λ next. scan next (at + 1) (words ++ old)) told is in
    scan_step draft both.0 at word (words ++ new) both.1
    ∙ tail_changed words both.0 (at + 1) old new told (λ after place reached. change after place (ap (λ r. then_read r (λ next. drafted next (at + 1) words)) both.1 ∙ reached)) both.2

-- behind settings an option may stand
free_settings : (front : List (OptionWord × Word)) (draft : Draft) (at : ℕ) (after : Draft) → draft.asked ≡ None → drafted draft at (spelled front) ≡ Ok after → after.asked ≡ None
free_settings [] draft at after free is = sym (ap (λ d. d.asked) (ok_is draft after is)) ∙ free
free_settings (setting ∷ front) draft at after free is =
    let first = ok_then (turn draft at (option_word setting.0)) (λ next. drafted next (at + 1) (setting.1 ∷ spelled front)) after is in
    let second = ok_then (turn first.0 (at + 1) setting.1) (λ next. drafted next (at + 1 + 1) (spelled front)) after first.2 in
    let read = setting_read draft at setting.0 setting.1 first.0 second.0 free first.1 second.1 in
    free_settings front second.0 (at + 1 + 1) after (sym (ap (λ d. d.asked) read.is)) second.2

-- so it may inside a step
free_inside : (start : List Word) (draft : Draft) (at : ℕ) (c : CommandWord) (front : List (OptionWord × Word)) (after : Draft) → drafted draft at (inside start c front) ≡ Ok after → after.asked ≡ None
free_inside [] draft at c front after is =
    let both = ok_then (turn draft at (command_word c)) (λ next. drafted next (at + 1) (spelled front)) after is in
    free_settings front both.0 (at + 1) after (free_command draft at c both.0 both.1) both.2
free_inside (word ∷ words) draft at c front after is =
    let both = ok_then (turn draft at word) (λ next. drafted next (at + 1) (inside words c front)) after is in
    free_inside words both.0 (at + 1) c front after both.2

-- behind `generate` no two words are accepted
generated_short : {B : Type 0} (words : List Word) (told : Command) → 2 ≤ length words → generated words ≡ Ok told → B
generated_short [] told long is = ok_not _ told is
generated_short {B = B} (word ∷ rest) told long is = by_size (size_of word) rest (omega arith) is
  where
    by_size : (size : Option ℕ) (rest : List Word) → 1 ≤ length rest → only_size size rest ≡ Ok told → B
    by_size None rest long is = ok_not _ told is
    by_size (Some size) [] long is = absurd (omega arith)
    by_size (Some size) (word ∷ rest) long is = ok_not _ told is

-- the tail of accepted words may be changed, where it may be behind `merge`
begun_changed : (first : Option CommandWord) (words old new : List Word) (told : Command) → 2 ≤ length old → (scan at_merge 1 (words ++ old) ≡ Ok told → scan at_merge 1 (words ++ new) ≡ Ok told) → begun_by first (words ++ old) ≡ Ok told → begun_by first (words ++ new) ≡ Ok told
begun_changed (Some command.Merge) words old new told long change is = change is
begun_changed (Some command.Generate) words old new told long change is = generated_short (words ++ old) told (omega (arith, length-append words old)) is
begun_changed other words old new told long change is = ok_not _ told is

-- and among all words, where both tails are as long
words_changed : (words old new : List Word) (told : Command) → length old ≡ length new → (all_words (words ++ old) ≡ Ok told → all_words (words ++ new) ≡ Ok told) → chain (words ++ old) ≡ Ok told → chain (words ++ new) ≡ Ok told
words_changed words old new told long change is =
    let few = ok_unless (ltb 1024 (length (words ++ old))) (all_words (words ++ old)) told _ is in
    let length_is : length (words ++ new) ≡ length (words ++ old) = length-append words new ∙ ap (λ n. length words + n) (sym long) ∙ sym (length-append words old) in
    ap (λ n. cond (ltb 1024 n) (bad 1024 TooMany) (all_words (words ++ new))) length_is
    ∙ ap (λ b. cond b (bad 1024 TooMany) (all_words (words ++ new))) few.0
    ∙ change few.1

-- two neighbouring options of a step that differ may change places
pub options_change_places : (start : List Word) (c : CommandWord) (front : List (OptionWord × Word)) (a b : OptionWord × Word) (rest : List Word) (told : Command) → a.0 ≢ b.0 → chain (inside start c front ++ (spelled (a ∷ b ∷ []) ++ rest)) ≡ Ok told → chain (inside start c front ++ (spelled (b ∷ a ∷ []) ++ rest)) ≡ Ok told
options_change_places [] c front a b rest told differ is =
    words_changed (command_word c ∷ spelled front) (spelled (a ∷ b ∷ []) ++ rest) (spelled (b ∷ a ∷ []) ++ rest) told refl
    (begun_changed (command_of (command_word c)) (spelled front) (spelled (a ∷ b ∷ []) ++ rest) (spelled (b ∷ a ∷ []) ++ rest) told (omega arith)
    (tail_changed (spelled front) at_merge 1 (spelled (a ∷ b ∷ []) ++ rest) (spelled (b ∷ a ∷ []) ++ rest) told
    (λ after place reached. swap_here after place a b rest told (free_settings front at_merge 1 after refl reached) differ))) is
options_change_places (first ∷ start) c front a b rest told differ is =
    words_changed (inside (first ∷ start) c front) (spelled (a ∷ b ∷ []) ++ rest) (spelled (b ∷ a ∷ []) ++ rest) told refl
    (begun_changed (command_of first) (inside start c front) (spelled (a ∷ b ∷ []) ++ rest) (spelled (b ∷ a ∷ []) ++ rest) told (omega arith)
    (tail_changed (inside start c front) at_merge 1 (spelled (a ∷ b ∷ []) ++ rest) (spelled (b ∷ a ∷ []) ++ rest) told
    (λ after place reached. swap_here after place a b rest told (free_inside start at_merge 1 c front after reached) differ))) is
