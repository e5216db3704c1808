-- The names of the files that a chain reads and writes. (Own.)
use Rattle.std.specs.Prelude.{ℕ, List, [], ◌∷◌, ◌++◌, length, filter, Bool, Option, Some, None}
use Rattle.std.specs.List.{list_any, flat_map}
use Rattle.chain_words.specs.Word.{Name, same}
use Rattle.chain_words.specs.Given.{option_list}
use Rattle.chain_words.specs.declared.command.Output.{Output}
use Rattle.chain_words.specs.declared.command.Step.{Step}
use Rattle.chain_words.specs.declared.command.Step.TheVariants.{Extract}
use Rattle.chain_words.specs.declared.command.Chain.{Chain}

-- the name of an output, if there is one
abbrev pub output_names : Option Output → List Name
output_names None = []
output_names (Some output) = output.name ∷ []

-- the names of the files that a step reads, in order
abbrev pub reads_of : Step → List Name
reads_of (Extract method terms) = terms ∷ []
reads_of other = []

-- the names of the files that a step with its output writes, in order
abbrev pub writes_of : Step × Option Output → List Name
writes_of step = output_names step.1

-- the names of the files that a chain reads, but for those that only an import names
abbrev pub read_names : Chain → List Name
read_names chain = chain.inputs ++ (option_list chain.catalog ++ flat_map (λ step. reads_of step.0) chain.steps)

-- the names of the files that a chain writes, in order
abbrev pub written_names : Chain → List Name
written_names chain = output_names chain.first ++ flat_map writes_of chain.steps

-- whether a name is one of these
abbrev pub is_one_of : Name → List Name → Bool
is_one_of name names = list_any (λ other. same other name) names

-- how often a name stands among these
abbrev pub times : Name → List Name → ℕ
times name names = length (filter (λ other. same other name) names)
