use Rattle.obo_frames.proofs.placed.PlacedDup.copy.Goals as goal

pub returns : goal.returns
returns c = λ i. record { frame = c.args.self.now.frame; id = c.in_ok-id.ensures i; line = c.args.self.now.line; clause = c.in_ok-clause.ensures i }
