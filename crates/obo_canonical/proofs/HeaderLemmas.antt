-- The header, name by name.
use Rattle.std.proofs.Common.{◌≡◌, ◌+◌, ◌<◌, ◌≤◌, ◌&&◌, ℕ, Bool, true, false, List, [], ◌∷◌, ◌++◌, None, Option, Some, add-one, append-nil, append_assoc, ap, get_or, length, map, refl, sym, take, take-suc, take_all, ◌∙◌}
use Rattle.std.specs.Prelude.{codes}
use Rattle.std.specs.List.{cons_option, flat_map}
use Rattle.std.specs.Option.{option_map, option_to_list}
use Rattle.std.proofs.lemmas.Grind.{flat_map-append}
use Rattle.iri_map.specs.Ontology.{normalised}
use Rattle.obo_frames.specs.Framed.{Framed, unlined}
use Rattle.obo_frames.specs.declared.placed.Placed.{Placed}
use Rattle.obo_notes.specs.Context.{where_true}
use Rattle.obo_mapping.specs.Documents.{has_tag, header_with, is_header, names_in, word_in}
use Rattle.obo_canonical.specs.inner.Header.{format_clause, name_clause, name_given}

pub appended_more : {X C : Type 0} (f : X → List C) (xs : List X) (at : ℕ) (x : X) (before held after : List C) → at < length xs → x ≡ get_or xs at x → held ≡ before ++ flat_map f (take at xs) → after ≡ held ++ f x → after ≡ before ++ flat_map f (take (at + 1) xs)
appended_more f xs at x before held after within is so_far next =
    let done = flat_map f (take at xs) in
    let taken : take (at + 1) xs ≡ take at xs ++ x ∷ [] = ap (λ n. take n xs) (add-one at) ∙ take-suc xs at x within ∙ ap (λ y. take at xs ++ y ∷ []) (sym is) in
    let told : flat_map f (take (at + 1) xs) ≡ done ++ f x = ap (flat_map f) taken ∙ flat_map-append f (take at xs) (x ∷ []) ∙ ap (λ last. done ++ last) (append-nil (f x)) in
    next ∙ ap (λ cs. cs ++ f x) so_far ∙ append_assoc before done (f x) ∙ sym (ap (λ cs. before ++ cs) told)

-- the clauses for the name of a clause
abbrev pub named_by : Placed → List Framed
named_by one = map name_clause (option_to_list (name_given (unlined one)))

guard_moved : {X Y : Type 0} (f : X → Y) (test : Bool) (o : Option X) → option_map f (where_true test o) ≡ where_true test (option_map f o)
guard_moved f true o = refl
guard_moved f false o = refl

one_more : (o : Option (List ℕ)) (names : List (List ℕ)) → map name_clause (option_to_list o) ++ map name_clause names ≡ map name_clause (cons_option o names)
one_more None names = refl
one_more (Some name) names = refl

names_of : (placed : List Placed) → flat_map named_by placed ≡ map name_clause (names_in (map unlined placed))
names_of [] = refl
names_of (one ∷ placed) =
    let f = unlined one in
    ap (λ cs. named_by one ++ cs) (names_of placed)
    ∙ one_more (name_given f) (names_in (map unlined placed))
    ∙ ap (λ o. map name_clause (cons_option o (names_in (map unlined placed)))) (guard_moved normalised (is_header f && has_tag (codes "ontology") f) (word_in f.clause.value))

pub header_all : (placed : List Placed) (at : ℕ) (held : List Framed) → length placed ≤ at → held ≡ (format_clause ∷ []) ++ flat_map named_by (take at placed) → held ≡ header_with (names_in (map unlined placed))
header_all placed at held ended so_far =
    so_far ∙ ap (λ ps. format_clause ∷ flat_map named_by ps) (take_all at placed ended) ∙ ap (λ cs. format_clause ∷ cs) (names_of placed)
