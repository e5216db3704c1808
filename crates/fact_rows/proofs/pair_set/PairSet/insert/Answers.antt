use Rattle.std.proofs.Common.{refl, nat_eq, ◌&&◌, subst}
use Rattle.fact_rows.specs.Rows.{Inserts}
use Rattle.fact_rows.proofs.Members.{inserts, pair_same, pair_tells}
use Rattle.fact_rows.proofs.pair_set.PairSet.insert.Goals as goal

pub returns-clause-inserts : goal.returns-clause-inserts
returns-clause-inserts c = subst (λ old. Inserts old c.args.value c.in_ok-is_new.is_new c.insert_full.new.self.keys) c.self.view_is
    (inserts (λ x y. nat_eq x.0 y.0 && nat_eq x.1 y.1) pair_tells pair_same _ _ _ _ _ refl c.in_ok-is_new.ensures.added c.in_ok-is_new.ensures.keys)
