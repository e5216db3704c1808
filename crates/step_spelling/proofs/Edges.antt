-- Inclusions of declared classes in classes that are named: both have ids, for each axiom spells the classes in it.
use Rattle.std.proofs.Common.{◌≡◌, ℕ, true, false, not, ◌&&◌, ◌||◌, List, Option, Some, inl, inr, ⊎_elim, sym, subst, ◌∙◌}
use Rattle.std.specs.List.{filter_map}
use Rattle.std.specs.Option.{IsSome, option_and_then}
use Rattle.std.specs.Str.{bytes_eq}
use Rattle.std.proofs.lemmas.Bool.{cases_Bool}
use Rattle.text_sets.specs.Sets.{In}
use Rattle.text_sets.proofs.SetLemmas.{In-from_filter_map}
use Rattle.owl_axioms.specs.Proper.{IsProper, is_class_iri, is_proper_body, is_proper_name}
use Rattle.owl_axioms.specs.Vocabulary.{owl_nothing, owl_thing}
use Rattle.owl_axioms.specs.declared.body.Axiom.{Axiom}
use Rattle.owl_axioms.specs.declared.expr.ClassExpr.TheVariants as expr
use Rattle.owl_axioms.proofs.Layers.{proper_of_class}
use Rattle.owl_ontology.specs.Ontology.{axioms_of}
use Rattle.obo_notes.specs.Context.{Writing, where_true}
use Rattle.obo_notes.proofs.Guards.{same_bytes}
use Rattle.obo_statements.specs.Anchors.{class_entity}
use Rattle.obo_statements.specs.Classes.{as_id, class_id, class_iri}
use Rattle.obo_statements.specs.Groups.{intersection, operand_value}
use Rattle.obo_statements.proofs.PlainGroups.{worded_from_value}
use Rattle.obo_statements.specs.Restrictions.{restriction_words}
use Rattle.obo_mapping.specs.Back.{IsSpellable, writing_of}
use Rattle.obo_mapping.specs.Documents.{declared_in}
use Rattle.obo_mapping.proofs.SpelledLaw.{declared_name}
use Rattle.spelling_laws.specs.Laws.{IsInclusion}
use Rattle.spelling_laws.proofs.Homes.{some_as_id}
use Rattle.spelling_laws.proofs.Inclusions.{inclusions_keep_spelling}
use Rattle.spelling_laws.proofs.Matching.{some_left}
use Rattle.spelling_laws.proofs.Named.{named_classes_have_ids}
use Rattle.step_spelling.specs.Laws.{EdgesKeepSpelling, IsNewEdge}
use Rattle.step_spelling.proofs.Relaxing.{below_proper, body_proper}

pub differ : (x y : List ℕ) → ¬ (x ≡ y) → bytes_eq x y ≡ false
differ x y isnt = ⊎_elim (λ yes. absurd (isnt (same_bytes x y yes))) (λ none. none) (cases_Bool (bytes_eq x y))

-- a declared class that is neither owl:Thing nor owl:Nothing
declared_class : (axioms : List Axiom) (class : List ℕ) → ((one : Axiom) → In one axioms → IsProper one) → In (class_entity class) (filter_map declared_in axioms)
    → ¬ (class ≡ owl_thing) → ¬ (class ≡ owl_nothing) → is_class_iri class ≡ true
unfolding is_class_iri is_proper_body is_proper_name
declared_class axioms class proper declared no_thing no_nothing =
    let a = In-from_filter_map declared_in (class_entity class) axioms declared in
    let clean = subst (λ b. is_proper_body b ≡ true) (declared_name a.0 (class_entity class) a.2) (body_proper a.0 (proper a.0 a.1)) in
    λ i. clean i && not (differ class owl_thing no_thing i || differ class owl_nothing no_nothing i)

-- a class with an id has a value
class_has_value : (w : Writing) (class : List ℕ) → is_class_iri class ≡ true → IsSome (w.id class) → IsSome (operand_value w intersection (expr.Class class))
unfolding class_iri
class_has_value w class is has =
    some_left (as_id (class_id w (expr.Class class))) (restriction_words w (expr.Class class))
    (subst (λ test. IsSome (as_id (option_and_then w.id (where_true test (Some class))))) (sym is) (some_as_id (w.id class) has))

new_edge : (name : Option (List ℕ)) (axioms : List Axiom) → IsSpellable name axioms → (one : Axiom) → IsNewEdge axioms one → IsInclusion name axioms one
new_edge name axioms spellable one is =
    let sub = declared_class axioms is.sub spellable.proper is.declared is.no_thing is.no_nothing in
    let super = named_classes_have_ids name axioms spellable is.super is.named in
    record {
      class = is.sub;
      super = expr.Class is.super;
      is = is.is;
      declared = is.declared;
      has = worded_from_value (writing_of name) intersection (expr.Class is.super) (class_has_value (writing_of name) is.super super.1 super.0);
      proper = subst IsProper (sym is.is) (below_proper is.sub (expr.Class is.super) (proper_of_class is.sub ∙ sub) (proper_of_class is.super ∙ super.1));
    }

pub edges_keep_spelling : EdgesKeepSpelling
edges_keep_spelling before after adds spellable =
    let axioms = axioms_of before.entries in
    let more = inclusions_keep_spelling before.name axioms (axioms_of after.entries) spellable adds.each
    (λ one here. ⊎_elim (λ of. inl of) (λ new. inr (new_edge before.name axioms spellable one new)) (adds.only one here)) in
    subst (λ name. IsSpellable name (axioms_of after.entries)) (sym adds.name) more
