use Rattle.std.proofs.Common.{◌≡◌, ◌<◌, ◌≤◌, ◌-◌, List, length, Ok, Err, arith, subst, sym}
use Rattle.std.proofs.lemmas.Result.{err_from_is_err_and}
use Rattle.std.specs.Prelude.{IfSome}
use Rattle.import_closure.specs.Closure.{closure, setting}
use Rattle.import_closure.specs.Loading.{GivesAs, Same}
use Rattle.import_closure.specs.declared.files.SourceFile.{SourceFile}
use Rattle.import_closure.specs.inner.Turns.{HasTurn}
use Rattle.import_closure.proofs.TurnLemmas.{TurnsSoFar, has_one, turn_failed, turn_taken, turns_begin, turns_taken}
use Rattle.import_closure.proofs.files.read_listed.Goals as goal

pub turns-init : goal.turns-init
turns-init g c =
    let state = g.F.Folder.state c.args.folder.now in
    subst (λ (sources : List SourceFile). TurnsSoFar c.args.names.now c.args.inputs.now c.args.limits.now state state c.in_ok-list.list.entries sources c.args.limits.now.bytes) (sym c.new-sources.ensures.items)
    (turns_begin c.args.names.now c.args.inputs.now c.args.limits.now state c.in_ok-list.list.entries c.in_ok-list.ensures)

pub returns-in_err-source-clause-reads : goal.returns-in_err-source-clause-reads
returns-in_err-source-clause-reads g c lines tells =
    let p = err_from_is_err_and c.from_residual-in_err-source.result c.from_residual-in_err-source.ensures.1 in
    let limits = c.args.limits.now in
    let rows = c.turns.list.entries in
    let start = g.F.Folder.state c.args.folder.now in
    let now = g.F.Folder.state c.turns.folder in
    let next = g.F.Folder.state c.take_turn.new.folder in
    let within : length c.turns.sources.items < length rows = let a = c.len.ensures in let b = c.len-in-turns.ensures.len in let l = c.turns-test.true in omega arith in
    rw (p.1, p.2) (turn_failed c.args.names.now c.args.inputs.now limits start now next rows c.turns.sources.items c.turns.left _ lines c.turns.invariant within
    (subst (λ at. HasTurn limits c.turns.left rows at now (Err c.in_err-source.field-0.0) next) (let a = c.len-in-turns-2.ensures in omega arith) c.in_err-source.ensures.turn) tells)

pub turns-preserved : goal.turns-preserved
turns-preserved g c =
    let limits = c.args.limits.now in
    let rows = c.turns.list.entries in
    let start = g.F.Folder.state c.args.folder.now in
    let now = g.F.Folder.state c.turns.folder in
    let next = g.F.Folder.state c.take_turn.new.folder in
    let taken = c.in_ok-source.field-0 in
    let at : c.len-in-turns-2.result ≡ length c.turns.sources.items = let a = c.len-in-turns-2.ensures in omega arith in
    let turn = subst (λ at. HasTurn limits c.turns.left rows at now (Ok taken) next) at c.in_ok-source.ensures.turn in
    let has = has_one limits c.turns.left rows (length c.turns.sources.items) now next taken turn in
    subst (λ (sources : List SourceFile). TurnsSoFar c.args.names.now c.args.inputs.now limits start next c.add_imports.new.list.entries sources (c.turns.left - taken.size))
    (sym c.in_ok-push.ensures.items)
    (turn_taken c.args.names.now c.args.inputs.now limits start now next rows c.add_imports.new.list.entries c.turns.sources.items c.turns.left taken c.turns.invariant has c.in_ok-add_imports.ensures c.take_turn.ensures.holds c.take_turn.ensures.counts)

pub returns-clause-reads : goal.returns-clause-reads
returns-clause-reads g c lines tells =
    let past : length c.turns.list.entries ≤ length c.turns.sources.items = let a = c.len.ensures in let b = c.len-in-turns.ensures.len in let l = c.turns-test.false in omega arith in
    let start = g.F.Folder.state c.args.folder.now in
    subst (λ (sources : List SourceFile). IfSome start.holds (λ files. GivesAs Same (closure (setting files lines c.args.limits.now) c.args.inputs.now).answer sources)) (sym c.from_vec.ensures)
    (turns_taken c.args.names.now c.args.inputs.now c.args.limits.now start (g.F.Folder.state c.turns.folder) c.turns.list.entries c.turns.sources.items c.turns.left lines c.turns.invariant past tells)

pub returns-clause-few : goal.returns-clause-few
returns-clause-few g c =
    subst (λ (sources : List SourceFile). length sources ≤ c.args.limits.now.files) (sym c.from_vec.ensures) c.turns.invariant.within
