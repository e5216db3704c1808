-- Names of outputs that are taken: by a file that is read, or by an earlier output. (Own.)
use Rattle.std.specs.Prelude.{ℕ, List, [], ◌∷◌, ◌++◌, Bool, Option, Some, None, if◌then◌else◌}
use Rattle.std.specs.List.{list_any}
use Rattle.chain_words.specs.Word.{Name, same}
use Rattle.chain_words.specs.Fault.{Bad}
use Rattle.chain_words.specs.Command.{is_one_of, read_names}
use Rattle.chain_words.specs.declared.fault.WordKind.{WordKind}
use Rattle.chain_words.specs.declared.fault.WordKind.TheVariants.{OutputIsInput, OutputTwice}
use Rattle.chain_words.specs.declared.given.OutputFile.{OutputFile}
use Rattle.chain_words.specs.declared.command.Chain.{Chain}

-- whether one of these outputs has this name
abbrev pub is_placed : Name → List OutputFile → Bool
is_placed name outputs = list_any (λ file. same file.name name) outputs

-- what is wrong with the name of an output of a chain, behind the outputs before it
abbrev pub clash : Chain → List OutputFile → OutputFile → Option WordKind
clash chain earlier file =
    if is_one_of file.name (read_names chain) then Some OutputIsInput
    else (if is_placed file.name earlier then Some OutputTwice else None)

-- the bad word, where an output clashes, else what comes behind it
abbrev pub or_later : Option WordKind → ℕ → Option Bad → Option Bad
or_later (Some kind) at later = Some (record { index = at; kind = kind })
or_later None at later = later

-- the first output of these that clashes
abbrev pub clash_from : Chain → List OutputFile → List OutputFile → Option Bad
clash_from chain earlier [] = None
clash_from chain earlier (file ∷ rest) = or_later (clash chain earlier file) file.at (clash_from chain (earlier ++ file ∷ []) rest)

-- the first of the outputs of a chain whose name is taken
abbrev pub first_clash : Chain → List OutputFile → Option Bad
first_clash chain outputs = clash_from chain [] outputs
