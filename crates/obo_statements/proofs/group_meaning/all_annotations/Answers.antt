-- The annotations are proper, so that their texts tell them.
use Rattle.std.proofs.Common.{◌≡◌, ◌≤◌, ℕ, List, length, map, take, ap, subst, sym, ◌∙◌, take_all}
use Rattle.std.specs.Borrow.{Bor}
use Rattle.std.specs.List.{flat_map}
use Rattle.std.proofs.lemmas.List.Folds.{flat_map-map}
use Rattle.std.proofs.lemmas.Result.{IfOk-weaker}
use Rattle.owl_axioms.specs.Text.{side_text}
use Rattle.owl_axioms.specs.declared.annotation.Side.{Side}
use Rattle.text_sets.specs.Sets.{AreTold}
use Rattle.obo_clause.specs.declared.clause.Clause.{Clause}
use Rattle.obo_notes.specs.Notes.{sorted_sides}
use Rattle.obo_statements.specs.Extras.{annotations_of}
use Rattle.obo_statements.proofs.MeaningTexts.{all_annotations_told}
use Rattle.obo_statements.proofs.group_meaning.all_annotations.Goals as goal

all_of : (clauses : List (Bor Clause)) (at : ℕ) (sides : List Side) → length clauses ≤ at → sides ≡ flat_map (λ (clause : Bor Clause). annotations_of clause.now.qualifiers) (take at clauses)
    → sides ≡ flat_map (λ (clause : Clause). annotations_of clause.qualifiers) (map (λ (clause : Bor Clause). clause.now) clauses)
all_of clauses at sides ended so_far =
    so_far
    ∙ ap (flat_map (λ (clause : Bor Clause). annotations_of clause.now.qualifiers)) (take_all at clauses ended)
    ∙ sym (flat_map-map (λ (clause : Clause). annotations_of clause.qualifiers) (λ (clause : Bor Clause). clause.now) clauses)

pub sorted-requires : goal.sorted-requires
sorted-requires c =
    let all = all_of c.args.clauses.now c.loop-clause.clause-index c.loop-clause.sides.items c.loop-clause-test.false c.loop-clause.invariant in
    record { told = subst (AreTold side_text) (sym all) (all_annotations_told (map (λ (clause : Bor Clause). clause.now) c.args.clauses.now)) }

pub returns : goal.returns
returns c =
    let all = all_of c.args.clauses.now c.loop-clause.clause-index c.loop-clause.sides.items c.loop-clause-test.false c.loop-clause.invariant in
    IfOk-weaker c.sorted.result _ _ (λ sides is. is ∙ ap sorted_sides all) c.sorted.ensures
