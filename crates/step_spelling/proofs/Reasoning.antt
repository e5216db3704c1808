-- What reasoning adds are inclusions of declared classes in classes that occur, and so are named.
use Rattle.std.proofs.Common.{◌≡◌, List, ◌++◌, inl, inr, ⊎_elim, sym, ap, subst, ◌∙◌}
use Rattle.fact_rows.proofs.Members.{contains_from_in}
use Rattle.text_sets.specs.Sets.{In}
use Rattle.text_sets.proofs.SetLemmas.{In-append, In-append_left, In-filter_map, In-from_contains, contains-from_In}
use Rattle.owl_axioms.specs.declared.body.Axiom.{Axiom}
use Rattle.owl_axioms.specs.declared.expr.ClassExpr.TheVariants as expr
use Rattle.owl_ontology.specs.Ontology.{axioms_of}
use Rattle.obo_statements.specs.Anchors.{class_entity}
use Rattle.obo_mapping.specs.Documents.{declared_in}
use Rattle.obo_mapping.proofs.SpelledLaw.{name_declared}
use Rattle.relax_axioms.proofs.Missing.{axioms_with}
use Rattle.el_rules.specs.Laws.{HasExprsIn}
use Rattle.el_rules.specs.Rules.{ElView, IsBelow, IsElPartOf}
use Rattle.el_rules.proofs.Sound.{derived_occurs}
use Rattle.el_taxonomy.specs.Reason.{IsInferred}
use Rattle.step_spelling.specs.Laws.{IsNewEdge, ReasoningKeepsSpelling}
use Rattle.step_spelling.proofs.Edges.{edges_keep_spelling}
use Rattle.step_spelling.proofs.Occurring.{occurring_is_named}

inferred_edge : (axioms : List Axiom) (view : ElView) → IsElPartOf axioms view → (one : Axiom) → IsInferred axioms view one → IsNewEdge axioms one
unfolding HasExprsIn
inferred_edge axioms view part one is =
    let known = is.direct.declared.declared in
    let super = expr.Class is.super in
    let occurs = (part.occurring_are super).0 (derived_occurs axioms view part (IsBelow (expr.Class is.sub) super) is.direct.below).1 in
    record {
      sub = is.sub;
      super = is.super;
      is = is.is;
      declared = In-filter_map declared_in (class_entity is.sub) axioms known.0 (In-from_contains known.0 axioms (contains_from_in known.1)) (name_declared known.0 (class_entity is.sub) known.2);
      no_thing = is.direct.declared.no_thing;
      no_nothing = is.direct.declared.no_nothing;
      named = occurring_is_named axioms is.super occurs;
    }

pub reasoning_keeps_spelling : ReasoningKeepsSpelling
reasoning_keeps_spelling before after limit count unused reasons spellable =
    let axioms = axioms_of before.entries in
    let infers = reasons.infers in
    let now : axioms_of after.entries ≡ axioms ++ infers.added = ap axioms_of infers.entries ∙ axioms_with before.entries infers.added in
    edges_keep_spelling before after (record {
      name = infers.name;
      each = λ one here. subst (In one) (sym now) (In-append_left one axioms infers.added here);
      only = λ one here. ⊎_elim (λ of. inl of)
          (λ new. inr (inferred_edge axioms reasons.view reasons.reasoned.part one ((infers.exactly one).0 (contains-from_In one infers.added new))))
          (In-append one axioms infers.added (subst (In one) now here));
    }) spellable
