-- What was fed of a file so far, piece by piece.
use Rattle.std.proofs.Common.{◌≡◌, ℕ, ◌+◌, ◌-◌, ◌<◌, ◌≤◌, List, [], ◌++◌, Err, IfSome, IsTrue, length, take, refl, subst, ap, ◌∙◌, arith, length-append, length-take}
use Rattle.rel_io.specs.Folder.{ReadsEnd, open_file_bytes}
use Rattle.rel_io.specs.FolderState.{FolderState, NoCountFell}
use Rattle.obo_frames.specs.Feeding.{Feeder, fresh}
use Rattle.obo_frames.proofs.FeedingLemmas.{fed_more, fed_nothing}
use Rattle.import_closure.specs.ReadFile.{ReadsMore, ReadsTooMuch}
use Rattle.import_closure.specs.declared.feed.Fed.{Fed}
use Rattle.import_closure.specs.inner.Feeding.{FeedsMore, FeedsOpen, FeedsPiece, FeedsTooMuch, HasAll}
use Rattle.import_closure.specs.declared.file.FileFault.{FileFault}
use Rattle.import_closure.specs.declared.file.FileFault.TheVariants.{Missing, NoMemory, ReadFault, TooManyBytes}
use Rattle.import_closure.proofs.LoadingLemmas.{if_told, rose_before}
use Rattle.import_closure.proofs.ReadLemmas.{ReadSoFar, read_begins, read_ends, read_goes_on, read_too_much}

-- the file that was opened is open, and what was read of it was fed
pub record FedSoFar (line limit : ℕ) (start now : FolderState) (fed : Fed) : Type 0 where
  pub bytes : List ℕ
  pub read : ReadSoFar limit start now bytes
  pub all : HasAll line fed bytes

-- before the first piece
pub feed_begins : (line limit : ℕ) (start : FolderState) (feeder : Feeder) → feeder ≡ fresh line → IsTrue start.is_open → IfSome start.holds (λ _. start.opened.place ≡ 0) → FedSoFar line limit start start (record { feeder = feeder; size = 0 })
feed_begins line limit start feeder is is_open at_start = record {
  bytes = [];
  read = read_begins limit start is_open at_start;
  all = record { size = refl; feeder = is ∙ fed_nothing line };
}

-- as many bytes were fed as the feeder counts
pub feed_counts : (line limit : ℕ) (start now : FolderState) (fed : Fed) → FedSoFar line limit start now fed → fed.feeder.fed ≡ fed.size
feed_counts line limit start now fed so_far =
    let count : fed.feeder.fed ≡ 0 + length so_far.bytes = ap (λ (f : Feeder). f.fed) so_far.all.feeder in
    let size = so_far.all.size in
    omega arith

pub feed_within : (line limit : ℕ) (start now : FolderState) (fed : Fed) → FedSoFar line limit start now fed → fed.size ≤ limit
feed_within line limit start now fed so_far =
    let size = so_far.all.size in let within = so_far.read.within in omega arith

-- one piece on
pub feed_goes_on : (line limit : ℕ) (start now next : FolderState) (fed new : Fed) → FedSoFar line limit start now fed → FeedsMore limit now fed next new → next.holds ≡ now.holds → NoCountFell now next → FedSoFar line limit start next new
feed_goes_on line limit start now next fed new so_far more holds counts =
    let bytes = so_far.bytes in
    let piece = take more.count more.piece in
    let fits = more.read.fits in
    let long : length (bytes ++ piece) ≡ length bytes + more.count = omega (arith, length-append bytes piece, length-take more.count more.piece) in
    let size = so_far.all.size in
    let grown = more.size in
    let within = more.within in
    let reads : ReadsMore limit now bytes next (bytes ++ piece) = record {
      count = more.count;
      piece = more.piece;
      read = more.read;
      bytes = refl;
      within = omega arith;
    } in
    record {
      bytes = bytes ++ piece;
      read = read_goes_on limit start now next bytes (bytes ++ piece) so_far.read reads holds counts;
      all = record {
        size = omega arith;
        feeder = more.fed ∙ fed_more line bytes piece fed.feeder so_far.all.feeder;
      };
    }

-- at the end of the file all of it was fed
pub feed_ends : (line limit : ℕ) (start now next : FolderState) (fed : Fed) → FedSoFar line limit start now fed → ReadsEnd now next → IfSome (open_file_bytes start) (HasAll line fed)
feed_ends line limit start now next fed so_far ended =
    if_told (open_file_bytes start) (λ file _ same. subst (HasAll line fed) same so_far.all) (read_ends limit start now next so_far.bytes so_far.read ended)

-- with a piece that goes past the limit, the file is too long
pub feed_too_much : (line limit : ℕ) (start now next : FolderState) (fed : Fed) → FedSoFar line limit start now fed → FeedsTooMuch limit now fed next → IfSome (open_file_bytes start) (λ file. limit < length file)
feed_too_much line limit start now next fed so_far much =
    let size = so_far.all.size in
    let beyond = much.beyond in
    let reads : ReadsTooMuch limit now so_far.bytes next = record { count = much.count; piece = much.piece; read = much.read; beyond = omega arith } in
    read_too_much limit start now next so_far.bytes so_far.read reads

-- one piece on, fewer bytes are left to the limit
pub feed_nears : (limit : ℕ) (now next : FolderState) (fed new : Fed) → FeedsMore limit now fed next new → limit - new.size < limit - fed.size
feed_nears limit now next fed new more =
    let some = more.read.some in let size = more.size in let within = more.within in omega arith

-- a piece that is not fed
pub feed_fails : (line limit : ℕ) (start now next : FolderState) (fed new : Fed) (fault : FileFault) → FedSoFar line limit start now fed → FeedsPiece limit now fed (Err fault) next new → FeedsOpen line limit start (Err fault) next
feed_fails line limit start now next fed new Missing so_far fails = fails
feed_fails line limit start now next fed new ReadFault so_far fails =
    rose_before start.read_faults now.read_faults next.read_faults so_far.read.counts.read_faults fails
feed_fails line limit start now next fed new TooManyBytes so_far fails =
    feed_too_much line limit start now next fed so_far fails
feed_fails line limit start now next fed new NoMemory so_far fails = tt
