use Rattle.el_taxonomy.specs.inner.Numbers.{exprs_of}
use Rattle.el_taxonomy.proofs.Flags.{AreClassesTo}
use Rattle.el_taxonomy.proofs.numbering.class_flags.Given as goal

abbrev pub invariant-loop-number : goal.invariant-loop-number
invariant-loop-number l = AreClassesTo (exprs_of l.pool l.part) l.number l.flags.items
