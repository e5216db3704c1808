-- What a step means where it ends: what it needs, and its output. (Own.)
use Rattle.std.specs.Prelude.{◌==◌, ℕ, [], ◌∷◌, ◌++◌, length, Bool, true, false, Option, Some, None, unwrap_or, Ok, if◌then◌else◌, codes, nat_eq}
use Rattle.std.specs.List.{ends_with}
use Rattle.chain_words.specs.Word.{Name}
use Rattle.chain_words.specs.Fault.{Reading, bad, then_read}
use Rattle.chain_words.specs.declared.fault.WordKind.TheVariants.{MissingOption, NoFormat}
use Rattle.chain_words.specs.declared.given.Given.{Given}
use Rattle.chain_words.specs.declared.given.OutputFile.{OutputFile}
use Rattle.chain_words.specs.declared.table.StepWord.{StepWord}
use Rattle.chain_words.specs.declared.table.StepWord.TheVariants as command
use Rattle.chain_words.specs.declared.command.Method.{Method}
use Rattle.chain_words.specs.declared.command.Format.{Format}
use Rattle.chain_words.specs.declared.command.Format.TheVariants.{Obo, Ofn}
use Rattle.chain_words.specs.declared.command.Output.{Output}
use Rattle.chain_words.specs.declared.command.Step.{Step}
use Rattle.chain_words.specs.declared.command.Step.TheVariants.{Extract, Reason, Relax, Reduce, Convert}
use Rattle.chain_words.specs.declared.command.Chain.{Chain}

-- the format that the end of a name tells
abbrev pub format_of_name : Name → Option Format
format_of_name name =
    if ends_with nat_eq name (codes ".obo") then Some Obo
    else (if ends_with nat_eq name (codes ".ofn") then Some Ofn else None)

-- the first of two answers that is one
abbrev pub or_else : {A : Type 0} → Option A → Option A → Option A
or_else None other = other
or_else (Some value) other = Some value

-- the output in this file; a name without a format is a bad word
abbrev pub output_to : OutputFile → Option Format → Bool → Reading Output
output_to file (Some format) check = Ok (record { name = file.name; format = format; check = check })
output_to file None check = bad file.at NoFormat

-- the output of a step that is no `convert`, if it has one: its name tells its format, and it is checked
abbrev pub plain_output : Option OutputFile → Reading (Option Output)
plain_output None = Ok None
plain_output (Some file) = then_read (output_to file (format_of_name file.name) true) (λ output. Ok (Some output))

-- a step that is no `convert`, with its output
abbrev pub with_plain_output : Step → Option OutputFile → Reading (Step × Option Output)
with_plain_output step file = then_read (plain_output file) (λ output. Ok (step, output))

-- `extract` needs a method and a term file
abbrev pub extracted : ℕ → Option Method → Option Name → Option OutputFile → Reading (Step × Option Output)
extracted at (Some method) (Some terms) file = with_plain_output (Extract method terms) file
extracted at method terms file = bad at MissingOption

-- `convert` needs an output, of which it may choose the format and the check
abbrev pub converted : ℕ → Option OutputFile → Option Format → Option Bool → Reading (Step × Option Output)
converted at None format check = bad at MissingOption
converted at (Some file) format check =
    then_read (output_to file (or_else format (format_of_name file.name)) (unwrap_or check true)) (λ output. Ok (Convert, Some output))

-- a later step with its output; `at` is the index of its command
abbrev pub step_of : StepWord → ℕ → Given → Reading (Step × Option Output)
step_of command.Extract at given = extracted at given.method given.terms given.output
step_of command.Reason at given = with_plain_output Reason given.output
step_of command.Relax at given = with_plain_output Relax given.output
step_of command.Reduce at given = with_plain_output (Reduce (unwrap_or given.preserve false)) given.output
step_of command.Convert at given = converted at given.output given.format given.check

-- the chain that begins with this `merge`, which needs an input
abbrev pub merged : ℕ → Given → Reading Chain
merged at given =
    if length given.inputs == 0 then bad at MissingOption
    else then_read (plain_output given.output) (λ output. Ok (record { inputs = given.inputs; catalog = given.catalog; first = output; steps = [] }))

-- the chain with this later step
abbrev pub followed : Chain → StepWord → ℕ → Given → Reading Chain
followed chain command at given = then_read (step_of command at given) (λ step. Ok (record chain { steps = chain.steps ++ step ∷ [] }))
