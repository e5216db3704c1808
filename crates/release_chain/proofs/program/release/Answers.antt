use Rattle.std.proofs.Common.{map, subst, sym, ◌∙◌}
use Rattle.std.proofs.lemmas.Option.{same_Some}
use Rattle.std.specs.String.{string_bytes}
use Rattle.release_report.specs.declared.fault.Fault.{Fault}
use Rattle.release_report.specs.Cause.{cause_of}
use Rattle.release_chain.specs.Release.{CauseCounted, Stopped, outside}
use Rattle.release_chain.proofs.Clauses.{complete, counts, nothing_else, out, reported, stops, words_refused}
use Rattle.release_chain.specs.Run.{OfRun, asked}
use Rattle.release_chain.proofs.Held.{released}
use Rattle.release_chain.proofs.program.release.Goals as goal

pub returns-in-Err-clause-counts : goal.returns-in-Err-clause-counts
returns-in-Err-clause-counts g c one is =
    let before = outside (g.F.Folder.state c.args.folder.now) (g.O.Sink.state c.args.out.now) (g.E.Sink.state c.args.err.now) in
    let now = outside (g.F.Folder.state c.finish.new.folder) (g.O.Sink.state c.finish.new.out) (g.E.Sink.state c.write_fault-told.new.err) in
    let same = same_Some c.in-Err.fault one (sym c.with-in-Err.ensures.fault ∙ is) in
    subst (λ (one : Fault). CauseCounted (cause_of one) before now) same (counts (map string_bytes c.args.words.now.items) c.in-Err.fault before now c.in-Err.ensures)

pub returns-in-Err-clause-stops : goal.returns-in-Err-clause-stops
returns-in-Err-clause-stops g c one is =
    let before = outside (g.F.Folder.state c.args.folder.now) (g.O.Sink.state c.args.out.now) (g.E.Sink.state c.args.err.now) in
    let now = outside (g.F.Folder.state c.finish.new.folder) (g.O.Sink.state c.finish.new.out) (g.E.Sink.state c.write_fault-told.new.err) in
    let words = map string_bytes c.args.words.now.items in
    let same = same_Some c.in-Err.fault one (sym c.with-in-Err.ensures.fault ∙ is) in
    subst (λ (one : Fault). OfRun words before.folder.holds (λ run. Stopped (cause_of one) one run before now)) same (stops words c.in-Err.fault before now c.in-Err.ensures)

pub returns-in-Err-clause-complete : goal.returns-in-Err-clause-complete
returns-in-Err-clause-complete g c failed memory =
    let before = outside (g.F.Folder.state c.args.folder.now) (g.O.Sink.state c.args.out.now) (g.E.Sink.state c.args.err.now) in
    let now = outside (g.F.Folder.state c.finish.new.folder) (g.O.Sink.state c.finish.new.out) (g.E.Sink.state c.write_fault-told.new.err) in
    let words = map string_bytes c.args.words.now.items in
    rw c.with-in-Err.ensures.fault (complete words c.in-Err.fault before now c.in-Err.ensures failed (λ is. memory (c.with-in-Err.ensures.fault ∙ is)))

pub returns-in-Err-clause-words : goal.returns-in-Err-clause-words
returns-in-Err-clause-words g c =
    let before = outside (g.F.Folder.state c.args.folder.now) (g.O.Sink.state c.args.out.now) (g.E.Sink.state c.args.err.now) in
    let now = outside (g.F.Folder.state c.finish.new.folder) (g.O.Sink.state c.finish.new.out) (g.E.Sink.state c.write_fault-told.new.err) in
    rw c.with-in-Err.ensures.fault (words_refused (map string_bytes c.args.words.now.items) c.in-Err.fault before now c.in-Err.ensures)

pub returns-in-Err-clause-out : goal.returns-in-Err-clause-out
returns-in-Err-clause-out g c =
    let before = outside (g.F.Folder.state c.args.folder.now) (g.O.Sink.state c.args.out.now) (g.E.Sink.state c.args.err.now) in
    let now = outside (g.F.Folder.state c.finish.new.folder) (g.O.Sink.state c.finish.new.out) (g.E.Sink.state c.write_fault-told.new.err) in
    rw c.with-in-Err.ensures.fault (out (map string_bytes c.args.words.now.items) c.in-Err.fault before now c.in-Err.ensures)

pub returns-in-Ok-clause-released : goal.returns-in-Ok-clause-released
returns-in-Ok-clause-released g c none =
    released (asked (map string_bytes c.args.words.now.items)) c.in-Ok.ensures.work (g.F.Folder.state c.args.folder.now) (g.F.Folder.state c.finish.new.folder) c.in-Ok.ensures.ends

pub returns-in-Ok-clause-nothing_else : goal.returns-in-Ok-clause-nothing_else
returns-in-Ok-clause-nothing_else g c none =
    nothing_else (map string_bytes c.args.words.now.items) (outside (g.F.Folder.state c.args.folder.now) (g.O.Sink.state c.args.out.now) (g.E.Sink.state c.args.err.now))
    (outside (g.F.Folder.state c.finish.new.folder) (g.O.Sink.state c.finish.new.out) (g.E.Sink.state c.args.err.now)) c.in-Ok.ensures

pub returns-in-Ok-clause-complete : goal.returns-in-Ok-clause-complete
returns-in-Ok-clause-complete g c failed memory =
    rw c.with.ensures.fault
    (nothing_else (map string_bytes c.args.words.now.items) (outside (g.F.Folder.state c.args.folder.now) (g.O.Sink.state c.args.out.now) (g.E.Sink.state c.args.err.now))
    (outside (g.F.Folder.state c.finish.new.folder) (g.O.Sink.state c.finish.new.out) (g.E.Sink.state c.args.err.now)) c.in-Ok.ensures)

pub returns-in-Ok-clause-out : goal.returns-in-Ok-clause-out
returns-in-Ok-clause-out g c =
    rw c.with.ensures.fault
    (reported (map string_bytes c.args.words.now.items) (outside (g.F.Folder.state c.args.folder.now) (g.O.Sink.state c.args.out.now) (g.E.Sink.state c.args.err.now))
    (outside (g.F.Folder.state c.finish.new.folder) (g.O.Sink.state c.finish.new.out) (g.E.Sink.state c.args.err.now)) c.in-Ok.ensures)
