-- A clause says one axiom by itself at most.
use Rattle.std.proofs.Common.{◌≡◌, List, [], ◌∷◌, ◌++◌, Option, None, Some, codes, filter, not, refl, ap, ◌∙◌}
use Rattle.std.specs.List.{cons_option, filter_map, flat_map}
use Rattle.std.specs.Option.{option_to_list}
use Rattle.obo_frames.specs.Framed.{Framed}
use Rattle.obo_mapping.specs.Axioms.{Situation, axiom_said, axioms_said, entity_of}
use Rattle.obo_mapping.specs.Documents.{group_said, is_untranslatable, kept_with, owl, situation_of, spaced, text_in}

one_more : {Y : Type 0} (o : Option Y) (ys : List Y) → option_to_list o ++ ys ≡ cons_option o ys
one_more None ys = refl
one_more (Some y) ys = refl

singly : {X Y : Type 0} (f : X → Option Y) (xs : List X) → flat_map (λ x. option_to_list (f x)) xs ≡ filter_map f xs
singly f [] = refl
singly f (x ∷ xs) = ap (λ ys. option_to_list (f x) ++ ys) (singly f xs) ∙ one_more (f x) (filter_map f xs)

pub said_singly : (situation : Situation) (d : List Framed) → flat_map (axioms_said situation) d ≡ filter_map (axiom_said situation) d
unfolding axioms_said
said_singly situation d = singly (axiom_said situation) d

pub owl_singly : (d : List Framed)
    → owl d ≡ spaced
    (filter_map (λ (one : Framed). entity_of (situation_of d) one.frame one.id) (kept_with d (codes "namespace")))
    (filter_map (λ (one : Framed). text_in one.clause.value) (kept_with d (codes "default-namespace")))
    (filter_map (axiom_said (situation_of d)) (filter (λ one. not (is_untranslatable d one)) d) ++ filter_map (group_said (situation_of d) d) (filter (λ one. not (is_untranslatable d one)) d))
unfolding owl
owl_singly d =
    let translated = filter (λ one. not (is_untranslatable d one)) d in
    let same = said_singly (situation_of d) translated in
    λ i. spaced
    (filter_map (λ (one : Framed). entity_of (situation_of d) one.frame one.id) (kept_with d (codes "namespace")))
    (filter_map (λ (one : Framed). text_in one.clause.value) (kept_with d (codes "default-namespace")))
    (same i ++ filter_map (group_said (situation_of d) d) translated)
