-- What is spelled depends on the set of the axioms.
use Rattle.std.proofs.Common.{◌≡◌, Bool, true, false, ◌||◌, ◌&&◌, List, [], ◌∷◌, map, Option, inl, inr, ⊎_elim, refl, sym, ap, subst, ◌∙◌}
use Rattle.std.specs.List.{filter_map, flat_map, list_any}
use Rattle.std.specs.Option.{option_and_then, option_map, option_or, unwrap_or}
use Rattle.std.specs.Str.{bytes_eq}
use Rattle.std.proofs.lemmas.Bool.{cases_Bool, false_from_ne_true, or_cases, or_left, both_ways}
use Rattle.owl_axioms.specs.declared.body.Axiom.{Axiom}
use Rattle.owl_axioms.specs.declared.body.Body.{Body}
use Rattle.owl_axioms.specs.declared.body.Body.TheVariants as body
use Rattle.owl_axioms.specs.declared.name.Name.{Name}
use Rattle.text_sets.specs.Parts.{first_some}
use Rattle.text_sets.proofs.SetLemmas.{In-filter_map, In-flat_map, In-from_filter_map, In-from_flat_map}
use Rattle.text_sets.specs.Sets.{In, SameMembers}
use Rattle.text_sets.specs.Sorted.{sorted_by}
use Rattle.obo_frames.specs.Framed.{Framed, framed}
use Rattle.obo_mapping.specs.Axioms.{Home, at_home, axiom_spelled, body_spelled, frame_id, frame_kind, home_at, home_of, same_kind, statement_spelled}
use Rattle.obo_notes.specs.Context.{Writing, where_true}
use Rattle.obo_mapping.specs.Documents.{clauses_for, declared_in, group_spelled, spelled}
use Rattle.obo_notes.specs.Forms.{first_part, note_of}
use Rattle.obo_notes.specs.Notes.{spelling}
use Rattle.obo_statements.specs.Statements.{statement_spelling}
use Rattle.obo_statements.specs.Anchors.{anchors}
use Rattle.obo_statements.specs.Groups.{Group, group_spelling, intersection, union}

-- ---- tests over members

or_more : (a b : Bool) → b ≡ true → (a || b) ≡ true
or_more true b is = refl
or_more false b is = is

pub any_from_in : {X : Type 0} (p : X → Bool) (xs : List X) (x : X) → In x xs → p x ≡ true → list_any p xs ≡ true
any_from_in p [] x here is = absurd here
any_from_in p (z ∷ xs) x (inl same) is = or_left (p z) (list_any p xs) (ap p same ∙ is)
any_from_in p (z ∷ xs) x (inr later) is = or_more (p z) (list_any p xs) (any_from_in p xs x later is)

pub in_from_any : {X : Type 0} (p : X → Bool) (xs : List X) → list_any p xs ≡ true → (x : X) × In x xs × (p x ≡ true)
in_from_any p [] is = let h : false ≡ true = is in absurd (cc)
in_from_any p (z ∷ xs) is =
    ⊎_elim (λ here. (z, inl refl, here)) (λ more. let found = in_from_any p xs more in (found.0, inr found.1, found.2)) (or_cases (p z) (list_any p xs) is)

pub any_same : {X : Type 0} (p : X → Bool) (xs ys : List X) → SameMembers xs ys → list_any p xs ≡ list_any p ys
any_same p xs ys same =
    ⊎_elim
    (λ is. let x = in_from_any p xs is in is ∙ sym (any_from_in p ys x.0 ((same x.0).0 x.1) x.2))
    (λ isnt. isnt ∙ sym (false_from_ne_true (list_any p ys) (λ is. let y = in_from_any p ys is in both_ways (list_any p xs) isnt (any_from_in p xs y.0 ((same y.0).1 y.1) y.2))))
    (cases_Bool (list_any p xs))

-- ---- the frames of an axiom go by the declared entities

module _ (writing : Writing) (one other : List Name) (same : SameMembers one other) where
  home_at-same : home_at writing one ≡ home_at writing other
  home_at-same = λ i name. where_true (any_same (λ (n : Name). same_kind n.kind name.kind && bytes_eq n.iri name.iri) one other same i) (option_map (λ id. record { entity = name; id = id }) (frame_id writing name))

  home_of-same : home_of writing one ≡ home_of writing other
  home_of-same = λ i said. first_part (sorted_by (λ (h : Home). h.id) (filter_map (home_at-same i) (anchors said)))

  statement-same : (a : Axiom) → statement_spelled writing one a ≡ statement_spelled writing other a
  statement-same a = λ i. option_and_then (λ (home : Home). option_map (at_home home) (statement_spelling writing (frame_kind home.entity.kind) home.entity.iri a)) (home_of-same i a.body)

  body-same : (a : Axiom) (said : Body) → body_spelled writing one a said ≡ body_spelled writing other a said
  body-same a (body.Declaration name) = refl
  body-same a (body.Note subject property noted) =
      λ i. option_and_then (λ (home : Home). option_map (at_home home) (spelling writing (frame_kind subject.kind) (note_of property noted a.sides))) (home_at-same i subject)
  body-same a (body.OntologyNote property noted) = refl
  body-same a _ = statement-same a

  group-same : (a : Axiom) (group : Group) → group_spelled writing one a group ≡ group_spelled writing other a group
  group-same a group = λ i. option_and_then (λ (home : Home). option_map (map (framed Rattle.obo_tags.specs.declared.kind.FrameKind.TheVariants.Term home.id)) (group_spelling writing home.entity.iri group a)) (home_of-same i a.body)

  pub clauses-same : (a : Axiom) → clauses_for writing one a ≡ clauses_for writing other a
  unfolding clauses_for axiom_spelled
  clauses-same a = λ i. option_or (body-same a a.body i) (first_some (λ group. group-same a group i) (intersection ∷ union ∷ []))

-- ---- the law

pub spelled_of_set : (writing : Writing) (one other : List Axiom) → SameMembers one other → SameMembers (spelled writing one) (spelled writing other)
unfolding spelled
spelled_of_set writing one other same c = (half one other (λ a. (same a).0) declared, half other one (λ a. (same a).1) (λ n. ((declared n).1, (declared n).0)))
  where
    declared : SameMembers (filter_map declared_in one) (filter_map declared_in other)
    declared name = (
      (λ here. let a = In-from_filter_map declared_in name one here in In-filter_map declared_in name other a.0 ((same a.0).0 a.1) a.2),
      (λ here. let a = In-from_filter_map declared_in name other here in In-filter_map declared_in name one a.0 ((same a.0).1 a.1) a.2),
    )

    half : (some others : List Axiom) → ((a : Axiom) → In a some → In a others) → SameMembers (filter_map declared_in some) (filter_map declared_in others)
        → In c (flat_map (λ (a : Axiom). unwrap_or (clauses_for writing (filter_map declared_in some) a) []) some)
        → In c (flat_map (λ (a : Axiom). unwrap_or (clauses_for writing (filter_map declared_in others) a) []) others)
    half some others each names here =
        let a = In-from_flat_map (λ (a : Axiom). unwrap_or (clauses_for writing (filter_map declared_in some) a) []) c some here in
        let moved = subst (λ (o : Option (List Framed)). In c (unwrap_or o [])) (clauses-same writing (filter_map declared_in some) (filter_map declared_in others) names a.0) a.2 in
        In-flat_map (λ (a : Axiom). unwrap_or (clauses_for writing (filter_map declared_in others) a) []) c others a.0 (each a.0 a.1) moved
