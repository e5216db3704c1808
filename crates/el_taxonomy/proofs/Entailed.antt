-- What is derived is entailed, and so reasoning keeps all names both ways.
use Rattle.std.proofs.Common.{◌≡◌, ℕ, List, [], ◌∷◌, ◌++◌, refl, sym, ap, subst, ◌∙◌}
use Rattle.std.proofs.lemmas.List.{map-append}
use Rattle.owl_axioms.specs.declared.body.Axiom.{Axiom}
use Rattle.owl_axioms.specs.declared.expr.ClassExpr.TheVariants as expr
use Rattle.owl_ontology.specs.Ontology.{Entry, OntologyState, axioms_of}
use Rattle.owl_sem.proofs.Keeps.{adding_entailed_keeps}
use Rattle.owl_sem.proofs.Lists.{filter_in}
use Rattle.owl_sem.specs.Interp.{Interp}
use Rattle.owl_sem.specs.Laws.{KeepBoth}
use Rattle.owl_sem.specs.Models.{IsModel, Satisfies}
use Rattle.el_rules.specs.ElPart.{is_used, used_of}
use Rattle.el_rules.specs.Laws.{said_by}
use Rattle.el_rules.specs.Rules.{ElView, IsBelow, IsElPartOf}
use Rattle.el_rules.proofs.Sound.{derived_true}
use Rattle.el_taxonomy.specs.Laws.{BelowIsEntailed, InferredIsEntailed}
use Rattle.el_taxonomy.specs.Reason.{Infers, Reasons}
use Rattle.reduce_edges.specs.Edges.{edge}
use Rattle.relax_axioms.specs.Relax.{step_entries}

said_below : (i : Interp) (sub super : List ℕ) → Satisfies i (said_by (IsBelow (expr.Class sub) (expr.Class super))) → Satisfies i (edge sub super)
unfolding said_by
said_below i sub super sat = sat

used_model : (i : Interp) (axioms : List Axiom) → IsModel i axioms → IsModel i (used_of axioms)
used_model i axioms model = record { some = model.some; each = λ a here. model.each a (filter_in is_used a axioms here) }

pub below_is_entailed : BelowIsEntailed
below_is_entailed axioms view of sub super below i model =
    said_below i sub super (derived_true axioms view of i (used_model i axioms model) (IsBelow (expr.Class sub) (expr.Class super)) below)

pub inferred_is_entailed : InferredIsEntailed
inferred_is_entailed axioms view of added one i model =
    subst (λ (a : Axiom). Satisfies i a.body) (sym one.is) (below_is_entailed axioms view of one.sub one.super one.direct.below i model)

step_axioms : (added : List Axiom) → axioms_of (step_entries added) ≡ added
step_axioms [] = refl
step_axioms (a ∷ added) = ap (λ rest. a ∷ rest) (step_axioms added)

axioms_with : (held : List Entry) (added : List Axiom) → axioms_of (held ++ step_entries added) ≡ axioms_of held ++ added
axioms_with held added = map-append (λ (e : Entry). e.axiom) held (step_entries added) ∙ ap (λ rest. axioms_of held ++ rest) (step_axioms added)

pub infers_keeps : {view : ElView} {before after : OntologyState} {count : ℕ} → IsElPartOf (axioms_of before.entries) view → Infers view before after count → KeepBoth (axioms_of before.entries) (axioms_of after.entries)
infers_keeps {view} {before} of infers =
    let axioms = axioms_of before.entries in
    subst (KeepBoth axioms) (sym (ap axioms_of infers.entries ∙ axioms_with before.entries infers.added))
    (adding_entailed_keeps axioms infers.added (λ a held. inferred_is_entailed axioms view of a ((infers.exactly a).0 held)))

pub reasoning_keeps : (before after : OntologyState) (limit count unused : ℕ) → Reasons before after limit count unused → KeepBoth (axioms_of before.entries) (axioms_of after.entries)
reasoning_keeps before after limit count unused one = infers_keeps one.reasoned.part one.infers
