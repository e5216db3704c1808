use Rattle.std.proofs.Common.{◌≡◌, ◌∙◌, filter, length, map, ap, sym}
use Rattle.iri_map.specs.Ontology.{name_or_temp}
use Rattle.obo_frames.specs.Framed.{unlined}
use Rattle.obo_mapping.specs.Documents.{space_of}
use Rattle.sound_documents.proofs.NameLemmas.{same_space}
use Rattle.import_merge.specs.Notes.{frame_key, is_naming}
use Rattle.import_merge.specs.inner.Texts.{text_of}
use Rattle.import_merge.proofs.FrameLemmas.{counted, keys_in}
use Rattle.import_merge.proofs.frames.frame_count.Goals as goal

pub returns : goal.returns
returns c =
    let document = c.args.document.now in
    let space : c.in_ok-space.space ≡ space_of (map unlined document) =
    c.in_ok-space.ensures ∙ ap (λ name. name_or_temp name) (c.as_ref.ensures.value ∙ c.in_ok-name.ensures) ∙ sym (same_space (map unlined document)) in
    ap length c.as_slice-2.ensures.value
    ∙ ap length c.once.ensures
    ∙ counted (frame_key (space_of (map unlined document))) text_of (filter is_naming (map unlined document)) c.in_ok-frames.frames.items
    (c.in_ok-frames.ensures ∙ ap (keys_in c.in_ok-space.space) c.as_slice.ensures ∙ ap (λ s. keys_in s document) space)
