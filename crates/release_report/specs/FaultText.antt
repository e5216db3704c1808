-- The text of each fault. (Own.)
use Rattle.std.specs.Prelude.{ℕ, List, [], ◌∷◌, codes, decimal}
use Rattle.chain_words.specs.declared.fault.WordKind.{WordKind}
use Rattle.chain_words.specs.declared.fault.WordKind.TheVariants as word
use Rattle.obo_clause.specs.declared.line.SyntaxKind.{SyntaxKind}
use Rattle.obo_clause.specs.declared.line.SyntaxKind.TheVariants as syntax
use Rattle.release_report.specs.Line.{line}
use Rattle.release_report.specs.declared.fault.Fault.{Fault}
use Rattle.release_report.specs.declared.fault.Fault.TheVariants.{BadWord, MissingInput, MissingImport, TooManyFiles, TooManyBytes, NotUtf8, LineTooLong, Syntax, NoId, ShortGroup, CatalogLine, SeedLine, EmptySeed, TooManyFacts, Unsatisfiable, TwoValues, ReadFault, WriteFault, SinkFault, NoMemory}

-- what is wrong with an argument
abbrev pub word_text : WordKind → List ℕ
word_text word.TooMany = codes "too many"
word_text word.NoCommand = codes "no command"
word_text word.MissingOption = codes "missing option"
word_text word.NoFormat = codes "no format"
word_text word.NotHere = codes "not here"
word_text word.Repeated = codes "repeated"
word_text word.NoValue = codes "no value"
word_text word.BadValue = codes "bad value"
word_text word.UnknownWord = codes "unknown word"
word_text word.OutputIsInput = codes "output is input"
word_text word.OutputTwice = codes "output twice"

-- what is wrong with a line
abbrev pub syntax_text : SyntaxKind → List ℕ
syntax_text syntax.NoColon = codes "no colon"
syntax_text syntax.BadTag = codes "bad tag"
syntax_text syntax.BadFrame = codes "bad frame"
syntax_text syntax.NoValue = codes "no value"
syntax_text syntax.NoQuote = codes "no quote"
syntax_text syntax.OpenQuote = codes "open quote"
syntax_text syntax.XrefList = codes "xref list"
syntax_text syntax.BadBool = codes "bad bool"
syntax_text syntax.Trailing = codes "trailing"

-- what is said of a line of a file
abbrev pub at_line : List ℕ → ℕ → List (List ℕ) → List (List ℕ)
at_line file line_number what = file ∷ codes ":" ∷ decimal line_number ∷ codes ": " ∷ what

-- what is said of a fault, part by part
abbrev pub said : Fault → List (List ℕ)
said (BadWord index kind) = codes "word " ∷ decimal index ∷ codes ": " ∷ word_text kind ∷ []
said (MissingInput name) = name ∷ codes ": missing" ∷ []
said (MissingImport file line value) = at_line file line (codes "missing import " ∷ value ∷ [])
said (TooManyFiles limit) = codes "more than " ∷ decimal limit ∷ codes " files" ∷ []
said (TooManyBytes name limit) = name ∷ codes ": more than " ∷ decimal limit ∷ codes " bytes" ∷ []
said (NotUtf8 file line) = at_line file line (codes "not UTF-8" ∷ [])
said (LineTooLong file line) = at_line file line (codes "line too long" ∷ [])
said (Syntax file line kind) = at_line file line (codes "syntax: " ∷ syntax_text kind ∷ [])
said (NoId file line) = at_line file line (codes "no id" ∷ [])
said (ShortGroup file line) = at_line file line (codes "short group" ∷ [])
said (CatalogLine file line) = at_line file line (codes "catalog line" ∷ [])
said (SeedLine file line) = at_line file line (codes "seed line" ∷ [])
said (EmptySeed file) = file ∷ codes ": empty seed" ∷ []
said (TooManyFacts limit) = codes "more than " ∷ decimal limit ∷ codes " facts" ∷ []
said (Unsatisfiable class file line) = at_line file line (codes "unsatisfiable <" ∷ class ∷ codes ">" ∷ [])
said (TwoValues iri tag first second first_file first_line second_file second_line) =
    codes "<" ∷ iri ∷ codes ">: " ∷ tag ∷ codes " has " ∷ first ∷ codes " (" ∷ first_file ∷ codes ":" ∷ decimal first_line ∷ codes ") and " ∷ second ∷ codes " (" ∷ second_file ∷ codes ":" ∷ decimal second_line ∷ codes ")" ∷ []
said (ReadFault name) = name ∷ codes ": read fault" ∷ []
said (WriteFault name) = name ∷ codes ": write fault" ∷ []
said SinkFault = codes "report: write fault" ∷ []
said NoMemory = codes "out of memory" ∷ []

-- a line of the program's own: its name, and what it says
abbrev pub own_line : List (List ℕ) → List ℕ
own_line parts = line (codes "robot: " ∷ parts)

-- the text of a fault is one line
abbrev pub fault_text : Fault → List ℕ
fault_text fault = own_line (said fault)
