use Rattle.std.proofs.Common.{ap, map, sym, ◌∙◌}
use Rattle.obo_frames.specs.Framed.{unlined}
use Rattle.obo_mapping.specs.Documents.{name_of}
use Rattle.sound_documents.proofs.NameLemmas.{same_name}
use Rattle.obo_to_owl.proofs.flags.untranslated.Goals as goal

pub flags_in-requires-clause-named : goal.flags_in-requires-clause-named
flags_in-requires-clause-named c =
    c.in_ok-name.ensures ∙ sym (same_name (map unlined c.args.document.now)) ∙ ap (λ placed. name_of (map unlined placed)) (sym c.as_slice.ensures)
