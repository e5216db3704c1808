use Rattle.std.proofs.Common.{sym, subst}
use Rattle.owl_ontology.specs.Ontology.{axioms_of}
use Rattle.obo_mapping.specs.Back.{IsSpellable}
use Rattle.import_merge.specs.inner.Joining.{Joins, KeepsSpelling}
use Rattle.import_merge.proofs.MoveLemmas.{IsOf, joins_as_first, joins_later}
use Rattle.import_merge.proofs.SpellingLemmas.{moving_keeps_spelling, said_spellable}
use Rattle.import_merge.proofs.joining.join.Goals as goal
use Rattle.import_merge.proofs.joining.join.Goals.{then-place-eq0, else-place-eq0+in_ok-move_into}

pub returns-clause-joins : goal.returns-clause-joins
returns-clause-joins c =
    let place = c.args.place in
    let document = c.args.document.now in
    let old = c.args.ontology.now in
    let of : IsOf place document c.in_ok-said.field-0.ontology = record { name = c.in_ok-said.ensures.name; same = c.in_ok-said.ensures.axioms; placed = c.in_ok-said.ensures.origins } in
    elim c.if-place-eq0.branch [
      | then-place-eq0 w ↦ subst (Joins place document old) (sym w.ontology-is) (joins_as_first place document old c.in_ok-said.field-0.ontology w.if-place-eq0.true of)
      | else-place-eq0+in_ok-move_into w ↦ subst (Joins place document old) (sym w.ontology-is)
          (subst (Joins place document old) (sym w.in_ok-move_into.ensures) (joins_later place document old c.in_ok-said.field-0.ontology (λ is. w.if-place-eq0.false is) w.len-different.ensures.different of))
    ]

pub returns-clause-spelling : goal.returns-clause-spelling
returns-clause-spelling c =
    let place = c.args.place in
    let document = c.args.document.now in
    let old = c.args.ontology.now in
    let said = c.in_ok-said.field-0.ontology in
    let of : IsOf place document said = record { name = c.in_ok-said.ensures.name; same = c.in_ok-said.ensures.axioms; placed = c.in_ok-said.ensures.origins } in
    let can : IsSpellable said.name (axioms_of said.entries) = said_spellable place document said c.len-sound.ensures.sound of in
    elim c.if-place-eq0.branch [
      | then-place-eq0 w ↦ subst (KeepsSpelling old) (sym w.ontology-is) (λ before. can)
      | else-place-eq0+in_ok-move_into w ↦ subst (KeepsSpelling old) (sym w.ontology-is)
          (subst (KeepsSpelling old) (sym w.in_ok-move_into.ensures) (moving_keeps_spelling old said can))
    ]
