-- Qualifiers that stand for annotations are told by what is printed of them.
use Rattle.std.proofs.Common.{ap, sym, ◌∙◌}
use Rattle.std.specs.Option.{option_map}
use Rattle.obo_notes.proofs.NoteLaws.{told_qualifiers}
use Rattle.obo_notes.proofs.taking.qualifiers_of.Goals as goal

pub sorted-requires : goal.sorted-requires
sorted-requires c = record {
  told = told_qualifiers c.args.sides.now c.in-Some.qualifiers.items (sym c.in_ok-qualifiers.ensures ∙ ap (option_map (λ qualifiers. qualifiers.items)) c.in-Some.is);
}
