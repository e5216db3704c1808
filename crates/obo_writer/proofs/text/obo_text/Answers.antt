use Rattle.std.proofs.Common.{◌++◌, ap, map, ◌∙◌}
use Rattle.obo_frames.specs.Framed.{unlined}
use Rattle.obo_text.specs.Text.{canonical_text}
use Rattle.owl_ontology.specs.Ontology.{axioms_of}
use Rattle.obo_canonical.proofs.LawLemmas.{made_sound, text_of}
use Rattle.owl_to_obo.proofs.ToldFrom.{is_told}
use Rattle.obo_writer.proofs.BackNormal.{joined_normal}
use Rattle.obo_writer.proofs.ReadsAgain.{text_is}
use Rattle.obo_writer.proofs.text.obo_text.Goals as goal

pub joined-requires : goal.joined-requires
joined-requires c =
    let o = c.args.ontology.now in
    let document = c.in_ok-document.document in
    let missing = c.in_ok-missing.missing.items in
    made_sound document (document ++ missing) c.len-count.ensures.sound
    (joined_normal o.name (axioms_of o.entries) document missing c.requires.spellable (is_told o.name c.args.check o.entries c.requires.spellable c.in_ok-document.ensures.told) c.in_ok-document.ensures.document c.in_ok-missing.ensures)

pub returns-clause-text : goal.returns-clause-text
returns-clause-text c =
    let o = c.args.ontology.now in
    let document = c.in_ok-document.document in
    let missing = c.in_ok-missing.missing.items in
    let normal = joined_normal o.name (axioms_of o.entries) document missing c.requires.spellable (is_told o.name c.args.check o.entries c.requires.spellable c.in_ok-document.ensures.told) c.in_ok-document.ensures.document c.in_ok-missing.ensures in
    c.from_vec.ensures
    ∙ c.in_ok-text.ensures
    ∙ ap (λ placed. canonical_text (map unlined placed)) c.in_ok-normal.ensures
    ∙ text_of document (document ++ missing) c.len-count.ensures.sound normal
    ∙ text_is o document c.in_ok-document.ensures.document
