use Rattle.std.proofs.Common.{◌≡◌, ◌++◌, OnOk, ap, map, subst, sym, ◌∙◌}
use Rattle.std.specs.List.{filter_map}
use Rattle.std.specs.Option.{option_map}
use Rattle.obo_frames.specs.Framed.{unlined}
use Rattle.obo_frames.specs.declared.placed.Placed.{Placed}
use Rattle.obo_notes.specs.Context.{writing_in}
use Rattle.owl_to_obo.specs.Clashes.{given_meant}
use Rattle.owl_to_obo.specs.inner.Collected.{note_given}
use Rattle.owl_to_obo.proofs.CollectLemmas.{note_some}
use Rattle.owl_to_obo.proofs.collected.push_notes.Goals as goal

pub returns-in-Some : goal.returns-in-Some
returns-in-Some c =
    let writing = writing_in c.args.space.now in
    let gives = note_some writing c.args.declared.now c.args.origin c.args.stated.now c.in-Note.subject c.in-Note.field-1 c.in-Note.field-2 c.in-Some.clauses.items c.in-Note.is
    (sym (ap (option_map (λ clauses. map unlined clauses.items)) c.in-Some.is) ∙ c.in_ok-clauses-in-Note.ensures.exact) in
    subst (λ given. OnOk c.push_single.result (map given_meant c.push_single.new.all.items ≡ map given_meant c.args.all.now.items ++ given)) (sym gives)
    (subst (λ clauses. OnOk c.push_single.result (map given_meant c.push_single.new.all.items ≡ map given_meant c.args.all.now.items ++ filter_map (λ (one : Placed). note_given writing c.args.declared.now c.in-Note.subject c.args.origin one.clause) clauses)) c.as_slice.ensures.value (c.push_single.ensures c.args.declared.now))
