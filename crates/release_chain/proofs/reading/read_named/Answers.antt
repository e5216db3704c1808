use Rattle.std.proofs.Common.{[], refl}
use Rattle.release_chain.proofs.reading.read_named.Goals as goal

pub returns-in-Err-ReadFault-clause-ends : goal.returns-in-Err-ReadFault-clause-ends
returns-in-Err-ReadFault-clause-ends g c files same =
    rw c.in_ok-file.ensures (record { done = []; rest = []; in_order = refl; did = c.in-Err-ReadFault.ensures.holds })
