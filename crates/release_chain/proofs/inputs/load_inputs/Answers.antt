use Rattle.release_chain.proofs.Loading.{load_ends, load_fails}
use Rattle.release_chain.proofs.inputs.load_inputs.Goals as goal

pub returns-in-Ok-clause-ends : goal.returns-in-Ok-clause-ends
returns-in-Ok-clause-ends g c files is =
    load_ends files c.args.chain.now (g.F.Folder.state c.args.folder.now) (g.F.Folder.state c.load_files.new.folder) c.in-Ok.merged c.merged_work.result is c.in-Ok.ensures.holds c.in-Ok.ensures.loads c.merged_work.ensures.answer

pub returns-in-Err-clause-ends : goal.returns-in-Err-clause-ends
returns-in-Err-clause-ends g c files is =
    rw c.load_fault.ensures (load_fails files c.args.chain.now (g.F.Folder.state c.args.folder.now) (g.F.Folder.state c.load_files.new.folder) c.in-Err.fault is c.in-Err.ensures.holds c.in-Err.ensures.loads)
