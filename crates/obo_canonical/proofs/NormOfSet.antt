-- The normal form depends on the set of clauses alone.
use Rattle.std.proofs.Common.{◌≡◌, ℕ, Bool, true, false, not, ◌&&◌, ◌||◌, List, ◌++◌, codes, map, Option, None, Some, is_some, if◌then◌else◌, inl, inr, ⊎_elim, refl, sym, ap, subst, ◌∙◌}
use Rattle.std.specs.List.{filter, filter_map, flat_map, list_any}
use Rattle.std.specs.Option.{option_and_then, option_map, option_map_or, option_or}
use Rattle.std.specs.Str.{bytes_eq}
use Rattle.std.proofs.lemmas.Option.{none-some}
use Rattle.iri_map.specs.Ontology.{name_or_temp, normalised}
use Rattle.clause_printer.specs.Printing.{qualifier_text}
use Rattle.obo_tags.specs.declared.kind.FrameKind.{FrameKind}
use Rattle.obo_tags.specs.declared.kind.FrameKind.TheVariants.{Header, Instance, Term, Typedef}
use Rattle.obo_clause.specs.declared.clause.Clause.{Clause}
use Rattle.owl_axioms.specs.Text.{expr_text, side_text}
use Rattle.owl_axioms.specs.declared.body.Axiom.{Axiom}
use Rattle.owl_axioms.specs.declared.expr.ClassExpr.{ClassExpr}
use Rattle.owl_axioms.specs.declared.name.Kind.TheVariants as kinds
use Rattle.owl_axioms.specs.declared.name.Name.{Name}
use Rattle.text_sets.specs.Parts.{each_some, first_some}
use Rattle.text_sets.specs.Sets.{AreTold, SameMembers}
use Rattle.text_sets.specs.Sorted.{sorted_by}
use Rattle.text_sets.proofs.PartLemmas.{option_cases}
use Rattle.text_sets.proofs.SetLemmas.{In-filter, In-flat_map, In-from_filter, In-from_flat_map, same_append, same_filter_map, same_map, same_sym}
use Rattle.text_sets.proofs.SortedLemmas.{Rises-sorted_by, same_rising, same_sorted, sorted_by-each, sorted_by-only}
use Rattle.obo_frames.specs.Framed.{Framed, framed}
use Rattle.obo_notes.specs.Context.{Reading, Writing, reading_in, where_true, writing_in}
use Rattle.obo_notes.specs.Forms.{first_part}
use Rattle.obo_notes.specs.Notes.{meaning, sorted_sides}
use Rattle.obo_statements.specs.Extras.{annotations_of}
use Rattle.obo_statements.specs.Groups.{Group, expr_pair, group_expr, group_meaning, group_tag, operand_of}
use Rattle.obo_statements.specs.Statements.{statement_in, statement_meaning, statements_of}
use Rattle.owl_axioms.specs.Classes.{class_named}
use Rattle.obo_statements.proofs.GroupLaws.{each_some-set}
use Rattle.obo_statements.proofs.MeaningTexts.{all_annotations_told, operands_told}
use Rattle.obo_mapping.specs.Axioms.{Situation, axiom_said, declared_by, entity_of, is_logical, is_metadata, name_as, note_axiom, ontology_axiom, said_at}
use Rattle.obo_mapping.specs.Documents.{as_kept, group_in, group_of, group_said, has_tag, header_with, is_broken, is_header, is_import, is_misfit, is_of_metadata, is_other_name, is_raw, is_said_elsewhere, is_term, is_truth_value, is_typedef, is_untranslatable, kept, kept_with, name_of, names_in, norm, owl, settled, settled_qualifier, settled_value, situation_of, space_of, spelled, text_in, word_in}
use Rattle.obo_mapping.proofs.DocumentLaw.{name_clause}
use Rattle.obo_mapping.proofs.OfSet.{any_same, spelled_of_set}
use Rattle.obo_mapping.proofs.SaidSingly.{owl_singly}
use Rattle.obo_mapping.proofs.SpacedLaws.{same_spaced}

-- ---- sets

same_filter : {X : Type 0} (test : X → Bool) (xs ys : List X) → SameMembers xs ys → SameMembers (filter test xs) (filter test ys)
same_filter test xs ys same x = (
  (λ here. let is = In-from_filter test x xs here in In-filter test x ys ((same x).0 is.0) is.1),
  (λ here. let is = In-from_filter test x ys here in In-filter test x xs ((same x).1 is.0) is.1),
)

same_flat_map : {X Y : Type 0} (f : X → List Y) (xs ys : List X) → SameMembers xs ys → SameMembers (flat_map f xs) (flat_map f ys)
same_flat_map f xs ys same y = (
  (λ here. let x = In-from_flat_map f y xs here in In-flat_map f y ys x.0 ((same x.0).0 x.1) x.2),
  (λ here. let x = In-from_flat_map f y ys here in In-flat_map f y xs x.0 ((same x.0).1 x.1) x.2),
)

sorted_set : {X : Type 0} (text : X → List ℕ) (xs ys : List X) → AreTold text xs → AreTold text ys → SameMembers xs ys → sorted_by text xs ≡ sorted_by text ys
sorted_set text xs ys told also same =
    same_rising text (sorted_by text xs) (sorted_by text ys) (Rises-sorted_by text xs) (Rises-sorted_by text ys) (λ x. (
      (λ here. sorted_by-each text ys also x ((same x).0 (sorted_by-only text xs x here))),
      (λ here. sorted_by-each text xs told x ((same x).1 (sorted_by-only text ys x here))),
    ))

-- ---- the axiom of a group

module _ (space x : List ℕ) (g : Group) (cs ds : List Clause) (same : SameMembers cs ds) where
  abbrev part : Clause → Option ClassExpr
  part = operand_of (reading_in space) g

  abbrev sides_of : Clause → List Rattle.owl_axioms.specs.declared.annotation.Side.Side
  sides_of clause = annotations_of clause.qualifiers

  abbrev made : List Clause → List ClassExpr → Axiom
  made clauses operands = record {
    body = expr_pair (class_named x) (group_expr g (sorted_by expr_text operands));
    sides = sorted_sides (flat_map sides_of clauses);
  }

  none_too : each_some part cs ≡ None → each_some part ds ≡ None
  none_too none =
      ⊎_elim (λ is. is) (λ some. let other = each_some-set part cs ds some.0 same some.1 in absurd (none-some other.0 (sym none ∙ other.1))) (option_cases (each_some part ds))

  some_too : (found : List ClassExpr) → each_some part cs ≡ Some found → option_map (made cs) (each_some part cs) ≡ option_map (made ds) (each_some part ds)
  some_too found is =
      let other = each_some-set part ds cs found (same_sym cs ds same) is in
      let operands : sorted_by expr_text found ≡ sorted_by expr_text other.0 =
      sorted_set expr_text found other.0 (operands_told space g cs found is) (operands_told space g ds other.0 other.1) (same_sym other.0 found other.2) in
      let sides : sorted_sides (flat_map sides_of cs) ≡ sorted_sides (flat_map sides_of ds) =
      sorted_set side_text (flat_map sides_of cs) (flat_map sides_of ds) (all_annotations_told cs) (all_annotations_told ds) (same_flat_map sides_of cs ds same) in
      ap (option_map (made cs)) is
      ∙ (λ i. Some (record { body = expr_pair (class_named x) (group_expr g (operands i)); sides = sides i }))
      ∙ sym (ap (option_map (made ds)) other.1)

  meaning_of_set : group_meaning (reading_in space) x g cs ≡ group_meaning (reading_in space) x g ds
  unfolding group_meaning
  meaning_of_set =
      ⊎_elim
      (λ none. ap (option_map (made cs)) none ∙ sym (ap (option_map (made ds)) (none_too none)))
      (λ some. some_too some.0 some.1)
      (option_cases (each_some part cs))

-- ---- documents with the same clauses

module _ (d e : List Framed) (same : SameMembers d e) where
  abbrev S : Situation
  S = situation_of d

  abbrev T : Situation
  T = situation_of e

  named : SameMembers (names_in d) (names_in e)
  named = same_filter_map _ d e same

  pub name : name_of d ≡ name_of e
  name = ap first_part (same_sorted (names_in d) (names_in e) named)

  space : space_of d ≡ space_of e
  space = ap name_or_temp name

  reading : (situation_of d).reading ≡ (situation_of e).reading
  unfolding situation_of
  reading = ap reading_in space

  writing : writing_in (space_of d) ≡ writing_in (space_of e)
  writing = ap writing_in space

  abbrev declares : Framed → Bool
  declares one = is_typedef one.frame && has_tag (codes "is_metadata_tag") one && is_truth_value true one.clause.value

  abbrev metadata_in : Reading → List Framed → List (List ℕ)
  metadata_in r all = map (λ (one : Framed). r.iri one.id) (filter declares all)

  known : is_metadata (situation_of d) ≡ is_metadata (situation_of e)
  unfolding situation_of
  known = λ i iri. known_at iri i
    where
      known_at : (iri : List ℕ) → list_any (bytes_eq iri) (metadata_in (reading_in (space_of d)) d) ≡ list_any (bytes_eq iri) (metadata_in (reading_in (space_of e)) e)
      known_at iri =
          let r = reading_in (space_of d) in
          any_same (bytes_eq iri) (metadata_in r d) (metadata_in r e) (same_map (λ (one : Framed). r.iri one.id) (filter declares d) (filter declares e) (same_filter declares d e same))
          ∙ ap (λ s. list_any (bytes_eq iri) (metadata_in (reading_in s) e)) space

  -- ---- what is not translated

  abbrev members : Reading → List Framed → List ℕ → Group → List Framed
  members r all x g = filter (λ (one : Framed). is_term one.frame && not (is_raw one.clause.value) && bytes_eq (r.iri one.id) x && has_tag (group_tag g) one) all

  same_members : (r : Reading) (x : List ℕ) (g : Group) → SameMembers (members r d x g) (members r e x g)
  same_members r x g = same_filter (λ (one : Framed). is_term one.frame && not (is_raw one.clause.value) && bytes_eq (r.iri one.id) x && has_tag (group_tag g) one) d e same

  broken : (one : Framed) (g : Group) → is_broken (situation_of d) d ((situation_of d).reading.iri one.id) g ≡ is_broken (situation_of e) e ((situation_of e).reading.iri one.id) g
  broken one g =
      let r = (situation_of d).reading in
      any_same is_misfit (members r d (r.iri one.id) g) (members r e (r.iri one.id) g) (same_members r (r.iri one.id) g)
      ∙ ap (λ (r : Reading). list_any is_misfit (members r e (r.iri one.id) g)) reading

  of_metadata : (one : Framed) → is_of_metadata (situation_of d) one ≡ is_of_metadata (situation_of e) one
  of_metadata one = λ i. is_typedef one.frame && known i ((reading i).iri one.id) && is_some (first_some (statement_in one.clause.tag) (statements_of Typedef))
      && not (is_truth_value false one.clause.value)

  other_name : (one : Framed) → is_other_name d one ≡ is_other_name e one
  other_name one = λ i. is_header one && has_tag (codes "ontology") one
      && option_map_or (λ word. not (option_map_or (bytes_eq (normalised word)) (name i) false)) (word_in one.clause.value) false

  untranslatable : is_untranslatable d ≡ is_untranslatable e
  unfolding is_untranslatable
  untranslatable = λ i one. is_misfit one || option_map_or (λ g. broken one g i) (group_of one) false || of_metadata one i || other_name one i

  -- ---- what clauses say

  entity : (kind : FrameKind) (id : List ℕ) → entity_of (situation_of d) kind id ≡ entity_of (situation_of e) kind id
  entity Header id = refl
  entity Term id = λ i. Some (name_as kinds.Class ((reading i).iri id))
  entity Instance id = λ i. Some (name_as kinds.Individual ((reading i).iri id))
  entity Typedef id = λ i. Some (if known i ((reading i).iri id) then name_as kinds.AnnotationProperty ((reading i).iri id) else name_as kinds.Role ((reading i).role_iri id))

  said_where : (one : Framed) (o : Option Name) → said_at (situation_of d) one o ≡ said_at (situation_of e) one o
  said_where one None = ap (λ (r : Reading). option_map ontology_axiom (meaning r one.clause)) reading
  said_where one (Some n) =
      ap (λ (r : Reading). option_or (declared_by n one.clause) (option_or (option_map (note_axiom n) (meaning r one.clause)) (where_true (is_logical n.kind) (statement_meaning r one.frame n.iri one.clause)))) reading

  said : axiom_said (situation_of d) ≡ axiom_said (situation_of e)
  unfolding axiom_said
  said = λ i one. (ap (said_at (situation_of d) one) (entity one.frame one.id) ∙ said_where one (entity_of (situation_of e) one.frame one.id)) i

  abbrev clauses : Reading → List Framed → List ℕ → Group → List Clause
  clauses r all x g = map (λ (each : Framed). each.clause) (members r all x g)

  group_means : (one : Framed) (g : Group) → group_meaning (situation_of d).reading ((situation_of d).reading.iri one.id) g (map (λ (each : Framed). each.clause) (group_in (situation_of d) d ((situation_of d).reading.iri one.id) g))
      ≡ group_meaning (situation_of e).reading ((situation_of e).reading.iri one.id) g (map (λ (each : Framed). each.clause) (group_in (situation_of e) e ((situation_of e).reading.iri one.id) g))
  unfolding situation_of
  group_means one g =
      let r = reading_in (space_of d) in
      let x = r.iri one.id in
      meaning_of_set (space_of d) x g (clauses r d x g) (clauses r e x g) (same_map (λ (each : Framed). each.clause) (members r d x g) (members r e x g) (same_members r x g))
      ∙ ap (λ s. let r = reading_in s in group_meaning r (r.iri one.id) g (clauses r e (r.iri one.id) g)) space

  grouped : group_said (situation_of d) d ≡ group_said (situation_of e) e
  grouped = λ i one. option_and_then (λ g. group_means one g i) (group_of one)

  -- ---- the axioms

  abbrev translated : List Framed → List Framed
  translated all = filter (λ one. not (is_untranslatable all one)) all

  same_translated : SameMembers (translated d) (translated e)
  same_translated =
      subst (λ (u : Framed → Bool). SameMembers (translated d) (filter (λ one. not (u one)) e)) untranslatable (same_filter (λ one. not (is_untranslatable d one)) d e same)

  same_kept_with : (tag : List ℕ) → SameMembers (kept_with d tag) (kept_with e tag)
  same_kept_with tag =
      subst (λ (u : Framed → Bool). SameMembers (kept_with d tag) (filter (λ (one : Framed). has_tag tag one && not (is_raw one.clause.value) && u one) e)) untranslatable
      (same_filter (λ (one : Framed). has_tag tag one && not (is_raw one.clause.value) && is_untranslatable d one) d e same)

  pub same_owl : SameMembers (owl d) (owl e)
  same_owl =
      let spaces = λ (s : Situation) (all : List Framed). filter_map (λ (one : Framed). entity_of s one.frame one.id) (kept_with all (codes "namespace")) in
      let defaults = λ (all : List Framed). filter_map (λ (one : Framed). text_in one.clause.value) (kept_with all (codes "default-namespace")) in
      let all_said = λ (s : Situation) (all : List Framed). filter_map (axiom_said s) (translated all) ++ filter_map (group_said s all) (translated all) in
      let same_spaces : SameMembers (spaces (situation_of d) d) (spaces (situation_of e) e) =
      subst (λ (f : Framed → Option Name). SameMembers (spaces (situation_of d) d) (filter_map f (kept_with e (codes "namespace")))) (λ i (one : Framed). entity one.frame one.id i)
      (same_filter_map (λ (one : Framed). entity_of (situation_of d) one.frame one.id) (kept_with d (codes "namespace")) (kept_with e (codes "namespace")) (same_kept_with (codes "namespace"))) in
      let same_defaults : SameMembers (defaults d) (defaults e) =
      same_filter_map (λ (one : Framed). text_in one.clause.value) (kept_with d (codes "default-namespace")) (kept_with e (codes "default-namespace")) (same_kept_with (codes "default-namespace")) in
      let same_said : SameMembers (all_said (situation_of d) d) (all_said (situation_of e) e) =
      same_append (filter_map (axiom_said (situation_of d)) (translated d)) (filter_map (group_said (situation_of d) d) (translated d)) (filter_map (axiom_said (situation_of e)) (translated e)) (filter_map (group_said (situation_of e) e) (translated e))
      (subst (λ f. SameMembers (filter_map (axiom_said (situation_of d)) (translated d)) (filter_map f (translated e))) said (same_filter_map (axiom_said (situation_of d)) (translated d) (translated e) same_translated))
      (subst (λ f. SameMembers (filter_map (group_said (situation_of d) d) (translated d)) (filter_map f (translated e))) grouped (same_filter_map (group_said (situation_of d) d) (translated d) (translated e) same_translated)) in
      let all = same_spaced (spaces (situation_of d) d) (spaces (situation_of e) e) (defaults d) (defaults e) (all_said (situation_of d) d) (all_said (situation_of e) e) same_spaces same_defaults same_said in
      subst (λ o. SameMembers o (owl e)) (sym (owl_singly d)) (subst (λ o. SameMembers (Rattle.obo_mapping.specs.Documents.spaced (spaces (situation_of d) d) (defaults d) (all_said (situation_of d) d)) o) (sym (owl_singly e)) all)

  -- ---- what is kept

  abbrev kept_at : Reading → Writing → Bool → Framed → Framed
  kept_at r w is_known one =
      let is_role = is_typedef one.frame && not is_known && not (has_tag (codes "domain") one || has_tag (codes "range") one
      || has_tag (codes "subset") one || has_tag (codes "consider") one || has_tag (codes "replaced_by") one) in
      framed one.frame (if is_header one then one.id else (if is_typedef one.frame && not is_known then settled r.role_iri w.role_id one.id else settled r.iri w.id one.id))
      (if is_raw one.clause.value then one.clause else record {
        tag = one.clause.tag;
        value = settled_value r w is_role (has_tag (codes "alt_id") one || has_tag (codes "import") one) one.clause.value;
        qualifiers = sorted_by qualifier_text (map settled_qualifier one.clause.qualifiers);
      })

  kept_as : as_kept (situation_of d) (writing_in (space_of d)) ≡ as_kept (situation_of e) (writing_in (space_of e))
  kept_as = λ i one. kept_at (reading i) (writing i) (known i ((reading i).iri one.id)) one

  same_kept : SameMembers (kept d) (kept e)
  unfolding kept
  same_kept =
      let keeps = λ (u : Framed → Bool) (one : Framed). (is_import one || u one) && not (is_said_elsewhere one) in
      let a = filter (keeps (is_untranslatable d)) d in
      let b : SameMembers a (filter (keeps (is_untranslatable e)) e) =
      subst (λ (u : Framed → Bool). SameMembers a (filter (keeps u) e)) untranslatable (same_filter (keeps (is_untranslatable d)) d e same) in
      subst (λ (f : Framed → Framed). SameMembers (map (as_kept (situation_of d) (writing_in (space_of d))) a) (map f (filter (keeps (is_untranslatable e)) e))) kept_as
      (same_map (as_kept (situation_of d) (writing_in (space_of d))) a (filter (keeps (is_untranslatable e)) e) b)

  same_spelled : SameMembers (spelled (writing_in (space_of d)) (owl d)) (spelled (writing_in (space_of e)) (owl e))
  same_spelled =
      subst (λ w. SameMembers (spelled (writing_in (space_of d)) (owl d)) (spelled w (owl e))) writing (spelled_of_set (writing_in (space_of d)) (owl d) (owl e) same_owl)

  header : SameMembers (header_with (names_in d)) (header_with (names_in e))
  header f =
      let each = same_map name_clause (names_in d) (names_in e) named f in (
        (λ here. ⊎_elim (λ first. inl first) (λ later. inr (each.0 later)) here),
        (λ here. ⊎_elim (λ first. inl first) (λ later. inr (each.1 later)) here),
      )

  pub norm_of_set : SameMembers (norm d) (norm e)
  unfolding norm
  norm_of_set =
      same_append (header_with (names_in d)) (kept d ++ spelled (writing_in (space_of d)) (owl d)) (header_with (names_in e)) (kept e ++ spelled (writing_in (space_of e)) (owl e)) header
      (same_append (kept d) (spelled (writing_in (space_of d)) (owl d)) (kept e) (spelled (writing_in (space_of e)) (owl e)) same_kept same_spelled)
