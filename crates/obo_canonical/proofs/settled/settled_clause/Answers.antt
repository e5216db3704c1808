use Rattle.obo_canonical.proofs.ToldParts.{qualifiers_are_told, xrefs_are_told}
use Rattle.obo_canonical.proofs.settled.settled_clause.Goals as goal

pub settled_value-requires : goal.settled_value-requires
settled_value-requires c = xrefs_are_told c.args.clause.now c.requires

pub settled_qualifiers-requires : goal.settled_qualifiers-requires
settled_qualifiers-requires c = qualifiers_are_told c.args.clause.now c.requires
