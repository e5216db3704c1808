-- The frames of a document, one clause after the other, and how many they are.
use Rattle.std.proofs.Common.{◌≡◌, ◌∙◌, ℕ, ◌<◌, ◌+◌, suc, List, [], ◌∷◌, ◌++◌, filter, get_or, length, map, take, sym, ap, arith}
use Rattle.std.proofs.Math.Seq.{take-suc}
use Rattle.std.proofs.lemmas.List.{length-map, map-append}
use Rattle.std.proofs.lemmas.List.Elements.{filter-append}
use Rattle.text_sets.specs.Sorted.{sorted_by}
use Rattle.text_sets.proofs.SortedLemmas.{sorted_texts}
use Rattle.obo_frames.specs.Framed.{Framed, unlined}
use Rattle.obo_frames.specs.declared.placed.Placed.{Placed}
use Rattle.import_merge.specs.Notes.{frame_key, is_naming}
use Rattle.import_merge.specs.declared.frames.FrameName.{FrameName}
use Rattle.import_merge.specs.inner.Texts.{text_of}

-- the keys of the frames that clauses name
abbrev pub keys_in : List ℕ → List Placed → List (List ℕ)
keys_in space placed = map (frame_key space) (filter is_naming (map unlined placed))

keys_in-append : (space : List ℕ) (some others : List Placed) → keys_in space (some ++ others) ≡ keys_in space some ++ keys_in space others
keys_in-append space some others =
    ap (λ (d : List Framed). map (frame_key space) (filter is_naming d)) (map-append unlined some others)
    ∙ ap (map (frame_key space)) (filter-append is_naming (map unlined some) (map unlined others))
    ∙ map-append (frame_key space) (filter is_naming (map unlined some)) (filter is_naming (map unlined others))

pub frames_next : (space : List ℕ) (placed : List Placed) (at : ℕ) (one : Placed) (old new : List FrameName)
    → at < length placed → one ≡ get_or placed at one
    → map text_of old ≡ keys_in space (take at placed) → map text_of new ≡ map text_of old ++ keys_in space (one ∷ []) → map text_of new ≡ keys_in space (take (at + 1) placed)
frames_next space placed at one old new within is before more =
    let next : suc at ≡ at + 1 = omega arith in
    more
    ∙ ap (λ keys. keys ++ keys_in space (one ∷ [])) before
    ∙ sym (keys_in-append space (take at placed) (one ∷ []))
    ∙ ap (keys_in space) (ap (λ (x : Placed). take at placed ++ x ∷ []) is ∙ sym (take-suc placed at one within) ∙ ap (λ n. take n placed) next)

-- the same keys are as many
pub counted : {X Y : Type 0} (key : X → List ℕ) (text : Y → List ℕ) (xs : List X) (ys : List Y) → map text ys ≡ map key xs → length (sorted_by text ys) ≡ length (sorted_by key xs)
counted key text xs ys same =
    sym (length-map (sorted_by text ys) text)
    ∙ ap length (sorted_texts text ys ∙ ap (sorted_by (λ (t : List ℕ). t)) same ∙ sym (sorted_texts key xs))
    ∙ length-map (sorted_by key xs) key
