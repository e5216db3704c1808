-- How a part of a run ends: at its end, or at a place in what it does. (Own.)
use Rattle.std.specs.Prelude.{◌≡◌, ℕ, List, [], ◌∷◌, ◌++◌, Option, Some, Result, Ok, Err, true}
use Rattle.std.specs.FinMap.{get, insert}
use Rattle.std.specs.Option.{option_map}
use Rattle.rel_io.specs.Count.{Rose}
use Rattle.rel_io.specs.Folder.{HoldsOthers}
use Rattle.rel_io.specs.FolderState.{Files, FolderState}
use Rattle.chain_words.specs.Command.{is_one_of}
use Rattle.chain_words.specs.Word.{Name}
use Rattle.release_report.specs.Cause.{Cause, Words, Refused, Absent, NotRead, NotWritten, NotReported, RanOut, cause_of}
use Rattle.release_report.specs.declared.fault.Fault.{Fault}
use Rattle.release_chain.specs.Outputs.{Fits}
use Rattle.release_chain.specs.Part.{Act, Opens, Output, Part, Puts}

-- the folder went from the one state to the other by these acts
abbrev pub Did : List Act → Option Files → Option Files → Type 0
Did [] before now = now ≡ before
Did (Opens name ∷ acts) before now = Did acts before now
Did (Puts output ∷ acts) before now = (bytes : List ℕ) × Fits output.made bytes × Did acts (option_map (λ files. insert files output.name bytes) before) now

-- all was done, and this was answered
pub record IsDone {A : Type 0} (part : Part A) (answer : Result A Fault) (before now : Option Files) : Type 0 where
  pub answered : part.answer ≡ answer
  pub did : Did part.acts before now

-- the first of these acts were done, each of them whole, and no other
pub record IsCut (acts : List Act) (before now : Option Files) : Type 0 where
  pub done : List Act
  pub rest : List Act
  pub in_order : acts ≡ done ++ rest
  pub did : Did done before now

-- those before the opening of a file of this name were done
pub record IsCutAtOpening (acts : List Act) (name : Name) (before now : Option Files) : Type 0 where
  pub done : List Act
  pub rest : List Act
  pub in_order : acts ≡ done ++ Opens name ∷ rest
  pub did : Did done before now

-- those before an output of this name were done; of that name nothing is known
pub record IsCutAtOutput (acts : List Act) (name : Name) (before now : Option Files) : Type 0 where
  pub done : List Act
  pub output : Output
  pub rest : List Act
  pub in_order : acts ≡ done ++ Puts output ∷ rest
  pub named : output.name ≡ name
  pub between : Option Files
  pub did : Did done before between
  pub others : HoldsOthers name between now

-- how a part ends with a fault, by the cause of the fault
abbrev pub StopsBy : {A : Type 0} → Cause → Part A → Fault → Option Files → Option Files → Type 0
StopsBy Words part fault before now = ⊥
StopsBy Refused part fault before now = IsDone part (Err fault) before now
StopsBy Absent part fault before now = IsDone part (Err fault) before now
StopsBy (NotRead name) part fault before now = IsCutAtOpening part.acts name before now
StopsBy (NotWritten name) part fault before now = IsCutAtOutput part.acts name before now
StopsBy NotReported part fault before now = ⊥
StopsBy RanOut part fault before now = IsCut part.acts before now

-- all was done, and what was answered is told by this value
pub record IsTold {V A : Type 0} (Tells : V → A → Type 0) (part : Part A) (value : V) (before now : Option Files) : Type 0 where
  pub state : A
  pub done : IsDone part (Ok state) before now
  pub told : Tells value state

-- how a part ends
abbrev pub Ends : {V A : Type 0} → (V → A → Type 0) → Part A → Result V Fault → Option Files → Option Files → Type 0
Ends Tells part (Ok value) before now = IsTold Tells part value before now
Ends Tells part (Err fault) before now = StopsBy (cause_of fault) part fault before now

-- what a cause has counted in the folder: this holds in every run
abbrev pub Counted : Cause → FolderState → FolderState → Type 0
Counted Words before now = ⊥
Counted Refused before now = Unit {0}
Counted Absent before now = Rose before.misses now.misses
Counted (NotRead name) before now = Rose before.read_faults now.read_faults
Counted (NotWritten name) before now = Rose before.write_faults now.write_faults
Counted NotReported before now = ⊥
Counted RanOut before now = Unit {0}

abbrev pub Caused : {V : Type 0} → Result V Fault → FolderState → FolderState → Type 0
Caused (Ok value) before now = Unit {0}
Caused (Err fault) before now = Counted (cause_of fault) before now

-- the folder holds of this name what these files hold
abbrev pub SameAt : Name → Files → Option Files → Type 0
SameAt name files held = (now : Files) × (held ≡ Some now) × (get now name ≡ get files name)

abbrev pub SameAtAll : List Name → Files → Option Files → Type 0
SameAtAll names files held = (name : Name) → is_one_of name names ≡ true → SameAt name files held
