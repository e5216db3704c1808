-- What was read of a file so far, piece by piece.
use Rattle.std.proofs.Common.{◌≡◌, ℕ, ◌+◌, ◌-◌, ◌<◌, ◌≤◌, List, [], ◌++◌, Some, None, IfSome, IsTrue, length, take, drop, refl, sym, ap, ◌∙◌, arith, length-append, length-take, length-drop}
use Rattle.std.proofs.Math.Seq.{take-add}
use Rattle.std.proofs.lemmas.List.{take_all}
use Rattle.std.specs.FinMap.{get}
use Rattle.rel_io.proofs.Options.{at_some, if_some}
use Rattle.rel_io.specs.Folder.{ReadsEnd, open_file_bytes}
use Rattle.rel_io.specs.FolderState.{Files, FolderState, NoCountFell}
use Rattle.import_closure.specs.ReadFile.{ReadsMore, ReadsTooMuch}

-- the place in the open file is behind these bytes, with which the file begins
pub record IsFront (start now : FolderState) (bytes file : List ℕ) : Type 0 where
  pub opened : now.opened ≡ record { name = start.opened.name; place = length bytes }
  pub shorter : length bytes ≤ length file
  pub front : bytes ≡ take (length bytes) file

-- the file that was opened is open; what was read is within the limit, and is its front, if the file is known
pub record ReadSoFar (limit : ℕ) (start now : FolderState) (bytes : List ℕ) : Type 0 where
  pub is_open : IsTrue now.is_open
  pub within : length bytes ≤ limit
  pub holds : now.holds ≡ start.holds
  pub known : (file : List ℕ) → open_file_bytes start ≡ Some file → IsFront start now bytes file
  pub counts : NoCountFell start now

-- where the bytes of the open file are known, the folder tells what it holds
record Told (state : FolderState) (file : List ℕ) : Type 0 where
  files : Files
  holds : state.holds ≡ Some files
  held : get files state.opened.name ≡ Some file

told : (state : FolderState) (file : List ℕ) → open_file_bytes state ≡ Some file → Told state file
told state file e =
    elim state.holds as (λ holds. state.holds ≡ holds → Told state file) [
      | None ↦ λ h. let none : None ≡ Some file = rw h at e in absurd (cc)
      | Some files ↦ λ h. record { files = files; holds = h; held = rw h at e }
    ] refl

-- the same file is open, by the same files and the same name
still_open : (start now : FolderState) (file : List ℕ) → now.holds ≡ start.holds → now.opened.name ≡ start.opened.name → open_file_bytes start ≡ Some file → open_file_bytes now ≡ Some file
still_open start now file holds name e =
    let t = told start file e in
    let held : now.holds ≡ Some t.files = holds ∙ t.holds in
    rw (held, name) t.held

-- before the first piece
pub read_begins : (limit : ℕ) (start : FolderState) → IsTrue start.is_open → IfSome start.holds (λ _. start.opened.place ≡ 0) → ReadSoFar limit start start []
read_begins limit start is_open at_start = record {
  is_open = is_open;
  within = omega arith;
  holds = refl;
  known = λ file e. record {
    opened = ap (λ place. record { name = start.opened.name; place = place }) (at_some (λ _. start.opened.place ≡ 0) (told start file e).holds at_start);
    shorter = omega arith;
    front = refl;
  };
  counts = record { read_faults = omega arith; write_faults = omega arith; misses = omega arith };
}

-- the first bytes of a list, and as many as there are behind them
next_front : (bytes file piece new : List ℕ) (count : ℕ) → length bytes ≤ length file → bytes ≡ take (length bytes) file → count ≤ length piece → take count piece ≡ take count (drop (length bytes) file) → new ≡ bytes ++ take count piece
    → (length new ≡ length bytes + count) × (length new ≤ length file) × (new ≡ take (length new) file)
next_front bytes file piece new count shorter front fits next is =
    let taken : length (take count piece) ≡ count = omega (arith, length-take count piece) in
    let rest : length (take count (drop (length bytes) file)) ≡ count = ap length (sym next) ∙ taken in
    let long : length new ≡ length bytes + count = (ap length is ∙ length-append bytes (take count piece)) ∙ ap (λ n. length bytes + n) taken in
    let within : length new ≤ length file = omega (arith, length-take count (drop (length bytes) file), length-drop (length bytes) file) in
    (long, within, rw long (is ∙ (ap (λ xs. xs ++ take count piece) front ∙ ap (λ xs. take (length bytes) file ++ xs) next) ∙ sym (take-add (length bytes) count file)))

no_count_fell : (a b c : FolderState) → NoCountFell a b → NoCountFell b c → NoCountFell a c
no_count_fell a b c p q = record {
  read_faults = let h = p.read_faults in let k = q.read_faults in omega arith;
  write_faults = let h = p.write_faults in let k = q.write_faults in omega arith;
  misses = let h = p.misses in let k = q.misses in omega arith;
}

-- one piece on
pub read_goes_on : (limit : ℕ) (start now next : FolderState) (bytes new : List ℕ) → ReadSoFar limit start now bytes → ReadsMore limit now bytes next new → next.holds ≡ now.holds → NoCountFell now next → ReadSoFar limit start next new
read_goes_on limit start now next bytes new so_far more holds counts = record {
  is_open = more.read.is_open;
  within = more.within;
  holds = holds ∙ so_far.holds;
  known = λ file e.
      let front = so_far.known file e in
      let here : open_file_bytes now ≡ Some file = still_open start now file so_far.holds (ap (λ p. p.name) front.opened) e in
      let t = told now file here in
      let place : now.opened.place ≡ length bytes = ap (λ p. p.place) front.opened in
      let bytes_next : take more.count more.piece ≡ take more.count (drop now.opened.place file) = at_some _ here more.read.next_bytes in
      let grown = next_front bytes file more.piece new more.count front.shorter front.front more.read.fits (rw place at bytes_next) more.bytes in
      record {
        opened = at_some (λ _. next.opened ≡ record { name = now.opened.name; place = now.opened.place + more.count }) t.holds more.read.moved
            ∙ (ap (λ p. record { name = p.name; place = p.place + more.count }) front.opened ∙ ap (λ place. record { name = start.opened.name; place = place }) (sym grown.0));
        shorter = grown.1;
        front = grown.2;
      };
  counts = no_count_fell start now next so_far.counts counts;
}

-- at the end of the file all of it was read
pub read_ends : (limit : ℕ) (start now next : FolderState) (bytes : List ℕ) → ReadSoFar limit start now bytes → ReadsEnd now next → IfSome (open_file_bytes start) (λ file. bytes ≡ file)
read_ends limit start now next bytes so_far ended = if_some _ (open_file_bytes start) (λ file e.
    let front = so_far.known file e in
    let here : open_file_bytes now ≡ Some file = still_open start now file so_far.holds (ap (λ p. p.name) front.opened) e in
    let place : now.opened.place ≡ length bytes = ap (λ p. p.place) front.opened in
    let at_end : now.opened.place ≡ length file = at_some _ here ended.at_end in
    front.front ∙ take_all _ _ (omega arith))

-- with a piece that goes past the limit, the file is too long
pub read_too_much : (limit : ℕ) (start now next : FolderState) (bytes : List ℕ) → ReadSoFar limit start now bytes → ReadsTooMuch limit now bytes next → IfSome (open_file_bytes start) (λ file. limit < length file)
read_too_much limit start now next bytes so_far much = if_some _ (open_file_bytes start) (λ file e.
    let front = so_far.known file e in
    let here : open_file_bytes now ≡ Some file = still_open start now file so_far.holds (ap (λ p. p.name) front.opened) e in
    let place : now.opened.place ≡ length bytes = ap (λ p. p.place) front.opened in
    let bytes_next : take much.count much.piece ≡ take much.count (drop now.opened.place file) = at_some _ here much.read.next_bytes in
    let grown = next_front bytes file much.piece (bytes ++ take much.count much.piece) much.count front.shorter front.front much.read.fits (rw place at bytes_next) refl in
    let beyond : limit < length bytes + much.count = much.beyond in
    let within = grown.1 in
    let long = grown.0 in
    omega arith)

-- one piece on, fewer bytes are left to the limit
pub read_nears : (limit : ℕ) (now next : FolderState) (bytes new : List ℕ) → ReadsMore limit now bytes next new → limit - length new < limit - length bytes
read_nears limit now next bytes new more =
    let long : length new ≡ length bytes + length (take more.count more.piece) = ap length more.bytes ∙ length-append bytes (take more.count more.piece) in
    let some = more.read.some in
    let fits = more.read.fits in
    let within = more.within in
    omega (arith, length-take more.count more.piece)
