use Rattle.std.proofs.Common.{◌++◌, ◌∷◌, [], OnOk, subst, sym}
use Rattle.std.specs.Option.{option_to_list}
use Rattle.owl_axioms.specs.declared.body.Body.{Body}
use Rattle.text_sets.specs.Sets.{SameMembers}
use Rattle.obo_mapping.specs.Documents.{declared_in}
use Rattle.obo_spelling.proofs.declared.note.Goals as goal

pub returns-in_ok-name-in-Declaration : goal.returns-in_ok-name-in-Declaration
returns-in_ok-name-in-Declaration c =
    let old = c.args.names.now.keys in
    let new = c.add.new.names.keys in
    subst (λ (said : Body). OnOk c.add.result (SameMembers new (old ++ option_to_list (declared_in (record { body = said; sides = c.args.stated.now.sides }))))) (sym c.in-Declaration.is)
    (subst (λ name. OnOk c.add.result (SameMembers new (old ++ name ∷ []))) c.in_ok-name-in-Declaration.ensures c.add.ensures)
