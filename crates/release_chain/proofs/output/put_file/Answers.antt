use Rattle.std.proofs.Common.{[], refl}
use Rattle.release_chain.proofs.output.put_file.Goals as goal

pub returns-in-Err-Failed-clause-ends : goal.returns-in-Err-Failed-clause-ends
returns-in-Err-Failed-clause-ends g c output fits =
    let puts = rw c.in-Err-Failed.field-0-is at c.in-Err-Failed.ensures.puts in
    let failed = rw c.as_slice.ensures at puts in
    rw c.in_ok-faulty.ensures (record {
      done = [];
      output = record { name = c.args.name.now; made = output };
      rest = [];
      in_order = refl;
      named = refl;
      between = (g.F.Folder.state c.args.folder.now).holds;
      did = refl;
      others = failed.others;
    })
