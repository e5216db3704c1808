use Rattle.std.proofs.Common.{ℕ, List, length, sym, ap, subst, arith}
use Rattle.import_closure.proofs.ReadLemmas.{ReadSoFar, read_begins, read_ends, read_goes_on, read_nears}
use Rattle.import_closure.proofs.file.read_open.Goals as goal

pub pieces-init : goal.pieces-init
pieces-init g c =
    let state = g.F.Folder.state c.args.folder.now in (
      subst (λ (bytes : List ℕ). ReadSoFar c.args.limit state state bytes) (sym c.new-bytes.ensures.items) (read_begins c.args.limit state c.requires.open c.requires.at_start),
      (let room = ap length c.as_mut_slice-piece.ensures.value in let piece = c.in_ok-buffer.ensures in omega arith),
    )

pub pieces-smaller : goal.pieces-smaller
pieces-smaller g c =
    let more = rw c.if-not-branch.false at c.in_ok-read_piece.ensures.reads in
    read_nears c.args.limit _ _ _ _ more

pub returns-then-not-branch-clause-reads : goal.returns-then-not-branch-clause-reads
returns-then-not-branch-clause-reads g c =
    let reads = rw c.if-not-branch.true at c.in_ok-read_piece.ensures.reads in
    rw (c.from_vec.ensures, reads.1) (c.pieces.invariant.0.within, read_ends _ _ _ _ _ c.pieces.invariant.0 reads.0)

pub pieces-preserved : goal.pieces-preserved
pieces-preserved g c =
    let reads = rw c.if-not-branch.false at c.in_ok-read_piece.ensures.reads in
    (read_goes_on _ _ _ _ _ _ c.pieces.invariant.0 reads c.in_ok-read_piece.ensures.holds c.in_ok-read_piece.ensures.counts, omega arith)
