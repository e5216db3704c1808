use Rattle.std.proofs.Common.{refl, nat_eq, subst}
use Rattle.std.proofs.lemmas.Bool.{eqb-true, eq-eqb}
use Rattle.fact_rows.specs.Rows.{Inserts}
use Rattle.fact_rows.proofs.Members.{inserts}
use Rattle.fact_rows.proofs.number_set.NumberSet.insert.Goals as goal

pub returns-clause-inserts : goal.returns-clause-inserts
returns-clause-inserts c = subst (λ old. Inserts old c.args.value c.in_ok-is_new.is_new c.insert_full.new.self.keys) c.self.view_is
    (inserts nat_eq eqb-true (λ x. eq-eqb x x refl) _ _ _ _ _ refl c.in_ok-is_new.ensures.added c.in_ok-is_new.ensures.keys)
