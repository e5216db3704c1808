-- The names of the files that a chain reads and writes.
use Rattle.std.proofs.Common.{◌≡◌, ◌+◌, List, [], ◌∷◌, ◌++◌, length, filter, Bool, true, false, ◌||◌, Option, ap, sym, ◌∙◌, refl, append_assoc, append-nil}
use Rattle.std.specs.List.{flat_map, list_any}
use Rattle.std.proofs.lemmas.List.{length-append}
use Rattle.std.proofs.lemmas.List.Concat.{flat_map-append}
use Rattle.std.proofs.lemmas.List.Elements.{filter-append}
use Rattle.std.proofs.lemmas.List.Folds.{list_any-append}
use Rattle.chain_words.specs.Word.{Name, same}
use Rattle.chain_words.specs.Given.{option_list}
use Rattle.chain_words.specs.Command.{is_one_of, output_names, read_names, reads_of, times, writes_of, written_names}
use Rattle.chain_words.specs.declared.command.Chain.{Chain}
use Rattle.chain_words.specs.declared.command.Output.{Output}
use Rattle.chain_words.specs.declared.command.Step.{Step}

-- one of three tests passes, however they are grouped
or_assoc : (a b c : Bool) → (a || (b || c)) ≡ ((a || b) || c)
or_assoc true b c = refl
or_assoc false b c = refl

-- what passes in one of the lists of some items
any_flat : {A B : Type 0} (p : B → Bool) (f : A → List B) (xs : List A) → list_any p (flat_map f xs) ≡ list_any (λ x. list_any p (f x)) xs
any_flat p f [] = refl
any_flat p f (x ∷ xs) = list_any-append p (f x) (flat_map f xs) ∙ ap (λ b. list_any p (f x) || b) (any_flat p f xs)

-- a chain reads a name where it is one of the inputs, the catalog or that of a step
pub read_any : (name : Name) (chain : Chain) → is_one_of name (read_names chain) ≡ ((is_one_of name chain.inputs || is_one_of name (option_list chain.catalog)) || list_any (λ step. is_one_of name (reads_of step.0)) chain.steps)
read_any name chain =
    let p : Name → Bool = λ other. same other name in
    let later = flat_map (λ (step : Step × Option Output). reads_of step.0) chain.steps in
    list_any-append p chain.inputs (option_list chain.catalog ++ later)
    ∙ ap (λ b. list_any p chain.inputs || b) (list_any-append p (option_list chain.catalog) later ∙ ap (λ b. list_any p (option_list chain.catalog) || b) (any_flat p (λ (step : Step × Option Output). reads_of step.0) chain.steps))
    ∙ or_assoc (list_any p chain.inputs) (list_any p (option_list chain.catalog)) (list_any (λ step. is_one_of name (reads_of step.0)) chain.steps)

-- the names that a chain writes, with one more step
pub written-followed : (chain : Chain) (step : Step × Option Output) → written_names (record chain { steps = chain.steps ++ step ∷ [] }) ≡ written_names chain ++ writes_of step
written-followed chain step =
    let first = output_names chain.first in
    ap (λ names. first ++ names) (flat_map-append writes_of chain.steps (step ∷ []) ∙ ap (λ names. flat_map writes_of chain.steps ++ names) (append-nil (writes_of step)))
    ∙ sym (append_assoc first (flat_map writes_of chain.steps) (writes_of step))

-- the names that a chain reads, with one more step
pub read-followed : (chain : Chain) (step : Step × Option Output) → read_names (record chain { steps = chain.steps ++ step ∷ [] }) ≡ read_names chain ++ reads_of step.0
read-followed chain step =
    let f : Step × Option Output → List Name = λ s. reads_of s.0 in
    let catalog = option_list chain.catalog in
    let steps = flat_map f chain.steps in
    ap (λ names. chain.inputs ++ (catalog ++ names)) (flat_map-append f chain.steps (step ∷ []) ∙ ap (λ names. steps ++ names) (append-nil (reads_of step.0)))
    ∙ ap (λ names. chain.inputs ++ names) (sym (append_assoc catalog steps (reads_of step.0)))
    ∙ sym (append_assoc chain.inputs (catalog ++ steps) (reads_of step.0))

-- names of two lists are counted in each
pub times-append : (name : Name) (xs ys : List Name) → times name (xs ++ ys) ≡ times name xs + times name ys
times-append name xs ys = ap length (filter-append (λ other. same other name) xs ys) ∙ length-append (filter (λ other. same other name) xs) (filter (λ other. same other name) ys)
