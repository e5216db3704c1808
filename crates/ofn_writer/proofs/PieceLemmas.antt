-- Texts that are printed one behind the other are cut out again by their lengths.
use Rattle.std.proofs.Common.{◌≡◌, ◌≤◌, ℕ, List, [], ◌∷◌, ◌++◌, drop, length, map, take, refl, sym, ap, subst, ◌∙◌, arith}
use Rattle.std.specs.List.{flat_map}
use Rattle.std.proofs.lemmas.List.{flat_map_more, map-append}
use Rattle.std.proofs.lemmas.List.Concat.{flat_map-cons}
use Rattle.ofn_writer.specs.inner.Pieces.{AreIn, Fit, pieces}

-- all texts, one behind the other
abbrev together : List (List ℕ) → List ℕ
together texts = flat_map (λ text. text) texts

take_front : (text rest : List ℕ) → take (length text) (text ++ rest) ≡ text
take_front [] rest = refl
take_front (b ∷ text) rest = ap (λ bytes. b ∷ bytes) (take_front text rest)

drop_front : (text rest : List ℕ) → drop (length text) (text ++ rest) ≡ rest
drop_front [] rest = refl
drop_front (b ∷ text) rest = drop_front text rest

long_front : (text rest : List ℕ) → length text ≤ length (text ++ rest)
long_front [] rest = omega arith
long_front (b ∷ text) rest = let more = long_front text rest in omega arith

pieces_of : (texts : List (List ℕ)) → pieces (together texts) (map length texts) ≡ texts
pieces_of [] = refl
pieces_of (text ∷ texts) =
    let rest = together texts in
    ap (λ bytes. pieces bytes (length text ∷ map length texts)) (flat_map-cons (λ t. t) text texts)
    ∙ (λ i. take_front text rest i ∷ (ap (λ bytes. pieces bytes (map length texts)) (drop_front text rest) ∙ pieces_of texts) i)

fit_of : (texts : List (List ℕ)) → Fit (together texts) (map length texts)
fit_of [] = tt
fit_of (text ∷ texts) =
    let rest = together texts in
    subst (λ bytes. Fit bytes (length text ∷ map length texts)) (sym (flat_map-cons (λ t. t) text texts))
    (long_front text rest, subst (λ bytes. Fit bytes (map length texts)) (sym (drop_front text rest)) (fit_of texts))

pub pieces_are : (texts : List (List ℕ)) (buffer lengths : List ℕ) → AreIn texts buffer lengths → pieces buffer lengths ≡ texts
pieces_are texts buffer lengths h = (λ i. pieces (h.bytes i) (h.each i)) ∙ pieces_of texts

pub they_fit : (texts : List (List ℕ)) (buffer lengths : List ℕ) → AreIn texts buffer lengths → Fit buffer lengths
they_fit texts buffer lengths h =
    subst (λ bytes. Fit bytes lengths) (sym h.bytes) (subst (Fit (together texts)) (sym h.each) (fit_of texts))

pub one_text_more : (texts : List (List ℕ)) (buffer lengths text : List ℕ) → AreIn texts buffer lengths → AreIn (texts ++ text ∷ []) (buffer ++ text) (lengths ++ length text ∷ [])
one_text_more texts buffer lengths text h = record {
  bytes = ap (λ bytes. bytes ++ text) h.bytes ∙ flat_map_more (λ t. t) [] texts text;
  each = ap (λ ns. ns ++ length text ∷ []) h.each ∙ sym (map-append length texts (text ∷ []));
}

-- the same of equal texts, bytes and lengths
pub moved : (ts us : List (List ℕ)) (bs cs ls ms : List ℕ) → ts ≡ us → bs ≡ cs → ls ≡ ms → AreIn us cs ms → AreIn ts bs ls
moved ts us bs cs ls ms same_texts same_bytes same_lengths h = record {
  bytes = same_bytes ∙ h.bytes ∙ ap (λ texts. together texts) (sym same_texts);
  each = same_lengths ∙ h.each ∙ ap (map length) (sym same_texts);
}
