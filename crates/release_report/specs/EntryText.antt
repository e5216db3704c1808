-- The lines of the report. (Own.)
use Rattle.std.specs.Prelude.{ℕ, List, [], ◌∷◌, ◌++◌, length, codes, decimal}
use Rattle.std.specs.List.{flat_map}
use Rattle.release_report.specs.Line.{line}
use Rattle.release_report.specs.declared.entry.Counts.{Counts}
use Rattle.release_report.specs.declared.entry.Entry.{Entry}
use Rattle.release_report.specs.declared.entry.Entry.TheVariants.{Read, Generated, Merged, Extracted, Reasoned, Relaxed, Reduced, Written, Printed}

-- the line of a clause that is not translated: its line in this file, and its tag
abbrev pub dropped_text : List ℕ → ℕ × List ℕ → List ℕ
dropped_text name clause = line (name ∷ codes ":" ∷ decimal clause.0 ∷ codes ": " ∷ clause.1 ∷ codes " not translated" ∷ [])

-- how many axioms there are
abbrev pub counted : Counts → List (List ℕ)
counted counts = decimal counts.logical ∷ codes " logical, " ∷ decimal counts.declared ∷ codes " declarations, " ∷ decimal counts.notes ∷ codes " notes" ∷ []

-- the lines of an entry
abbrev pub entry_text : Entry → List ℕ
entry_text (Read name frames dropped) =
    line (codes "read " ∷ name ∷ codes ": " ∷ decimal frames ∷ codes " frames, " ∷ decimal (length dropped) ∷ codes " clauses not translated" ∷ []) ++ flat_map (dropped_text name) dropped
entry_text (Generated n frames bytes) = line (codes "generate " ∷ decimal n ∷ codes ": " ∷ decimal frames ∷ codes " frames, " ∷ decimal bytes ∷ codes " bytes" ∷ [])
entry_text (Merged counts) = line (codes "merge: " ∷ counted counts)
entry_text (Extracted method counts unknown rounds) =
    line (codes "extract " ∷ method ∷ codes ": " ∷ counted counts ++ (codes ", " ∷ decimal unknown ∷ codes " unknown terms, " ∷ decimal rounds ∷ codes " rounds" ∷ []))
entry_text (Reasoned added unused) = line (codes "reason: " ∷ decimal added ∷ codes " added, " ∷ decimal unused ∷ codes " not used" ∷ [])
entry_text (Relaxed added) = line (codes "relax: " ∷ decimal added ∷ codes " added" ∷ [])
entry_text (Reduced removed) = line (codes "reduce: " ∷ decimal removed ∷ codes " removed" ∷ [])
entry_text (Written name bytes) = line (codes "write " ∷ name ∷ codes ": " ∷ decimal bytes ∷ codes " bytes" ∷ [])
entry_text (Printed bytes) = line (codes "text: " ∷ decimal bytes ∷ codes " bytes" ∷ [])

-- the report: the lines of its entries, in order
abbrev pub report_text : List Entry → List ℕ
report_text entries = flat_map entry_text entries
