-- Entries that stand for annotations are told by what is printed of them.
use Rattle.std.proofs.Common.{subst, sym}
use Rattle.clause_printer.specs.Printing.{xref_text}
use Rattle.text_sets.specs.Sets.{AreTold}
use Rattle.obo_notes.proofs.XrefLists.{told_xrefs}
use Rattle.obo_notes.proofs.taking.take_xrefs.Goals as goal

pub sorted-requires : goal.sorted-requires
sorted-requires c = record {
  told = subst (AreTold xref_text) (sym c.in_ok-xrefs.ensures.parts) (told_xrefs c.args.sides.now);
}
