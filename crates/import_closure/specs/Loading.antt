-- What is loaded of the files of a folder: which of them are opened, in their order, and what they come to, or the first
-- refusal. (Own.)
use Rattle.std.specs.Prelude.{◌≡◌, ℕ, List, [], ◌∷◌, ◌++◌, Result, Ok, Err, Contains, IfSome}
use Rattle.rel_io.specs.Count.{Rose}
use Rattle.rel_io.specs.FolderState.{Files, FolderState}
use Rattle.import_closure.specs.declared.fault.LoadFault.{LoadFault}
use Rattle.import_closure.specs.declared.fault.LoadFault.TheVariants as fault

pub record Loading (A : Type 0) : Type 0 where
  -- the names of the files that are opened
  pub opened : List (List ℕ)
  -- what they come to
  pub answer : Result A LoadFault

-- no file is opened
abbrev pub gives : {A : Type 0} → A → Loading A
gives value = record { opened = []; answer = Ok value }

abbrev pub refuses : {A : Type 0} → LoadFault → Loading A
refuses one = record { opened = []; answer = Err one }

-- one file is opened
abbrev pub opens : {A : Type 0} → List ℕ → Result A LoadFault → Loading A
opens name answer = record { opened = name ∷ []; answer = answer }

-- what goes on behind files that were opened
abbrev pub load_behind : {A B : Type 0} → List (List ℕ) → Result A LoadFault → (A → Loading B) → Loading B
load_behind opened (Ok value) next = record { opened = opened ++ (next value).opened; answer = (next value).answer }
load_behind opened (Err one) next = record { opened = opened; answer = Err one }

-- one loading and then another, which goes on with what the first gives: a refusal ends both
abbrev pub then_load : {A B : Type 0} → Loading A → (A → Loading B) → Loading B
then_load first next = load_behind first.opened first.answer next

-- ---- what an answer says

-- why nothing is loaded: a refusal; one because a file is not there; the file of this name could not be opened or read;
-- memory ran out
pub data Cause : Type 0 where
  refused : Cause
  absent : Cause
  not_read : List ℕ → Cause
  ran_out : Cause

abbrev pub cause_of : LoadFault → Cause
cause_of (fault.MissingInput name) = absent
cause_of (fault.MissingImport file line value) = absent
cause_of (fault.TooManyFiles limit) = refused
cause_of (fault.TooManyBytes name limit) = refused
cause_of (fault.CatalogLine file line) = refused
cause_of (fault.ReadFault name) = not_read name
cause_of (fault.NotUtf8 file line) = refused
cause_of (fault.LineTooLong file line) = refused
cause_of (fault.Syntax file line kind) = refused
cause_of (fault.NoId file line) = refused
cause_of (fault.ShortGroup file line) = refused
cause_of fault.NoMemory = ran_out

-- where the folder tells what it holds, this fault is the refusal
abbrev pub IsRefusal : {A : Type 0} → (Files → Loading A) → FolderState → LoadFault → Type 0
IsRefusal told before one = IfSome before.holds (λ files. (told files).answer ≡ Err one)

-- a failed read was of a file that is opened
abbrev pub IsOpened : {A : Type 0} → (Files → Loading A) → FolderState → List ℕ → Type 0
IsOpened told before name = IfSome before.holds (λ files. Contains (told files).opened name)

-- what a fault says, by its cause: the first refusal; a file that is not there was counted, and so was a failed read;
-- running out of memory says nothing
abbrev pub FailsBy : {A : Type 0} → Cause → (Files → Loading A) → FolderState → LoadFault → FolderState → Type 0
FailsBy refused told before one now = IsRefusal told before one
FailsBy absent told before one now = IsRefusal told before one × Rose before.misses now.misses
FailsBy (not_read name) told before one now = IsOpened told before name × Rose before.read_faults now.read_faults
FailsBy ran_out told before one now = Unit {0}

-- the files come to this value, up to what is said of the two
abbrev pub GivesAs : {A B : Type 0} → (A → B → Type 0) → Result A LoadFault → B → Type 0
GivesAs Is (Ok value) given = Is value given
GivesAs Is (Err one) given = ⊥

-- what an answer says
abbrev pub LoadsAs : {A B : Type 0} → (A → B → Type 0) → (Files → Loading A) → FolderState → Result B LoadFault → FolderState → Type 0
LoadsAs Is told before (Ok given) now = IfSome before.holds (λ files. GivesAs Is (told files).answer given)
LoadsAs Is told before (Err one) now = FailsBy (cause_of one) told before one now

-- the same value
abbrev pub Same : {A : Type 0} → A → A → Type 0
Same value given = value ≡ given
