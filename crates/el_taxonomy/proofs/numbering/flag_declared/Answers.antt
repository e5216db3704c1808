use Rattle.std.proofs.Common.{refl, subst, sym, ◌∙◌}
use Rattle.rel_io.proofs.Options.{none_there}
use Rattle.el_taxonomy.specs.inner.Numbers.{FlagsMore, declared_in, exprs_of}
use Rattle.el_taxonomy.proofs.Flags.{flags_same}
use Rattle.el_taxonomy.proofs.numbering.flag_declared.Goals as goal

pub returns-in-None : goal.returns-in-None
returns-in-None c trees ground =
    flags_same (exprs_of trees c.args.part.now) (declared_in c.args.body.now) c.args.flags.now c.args.flags.now refl (λ a is k number. none_there (sym c.in-None.ensures ∙ is))

pub returns-in-Some : goal.returns-in-Some
returns-in-Some c trees ground =
    subst (λ d. FlagsMore (exprs_of trees c.args.part.now) d c.args.flags.now c.flag_class.new.flags) (sym c.in-Some.ensures) (c.flag_class.ensures trees ground)
