use Rattle.std.proofs.Common.{◌≡◌, subst, sym}
use Rattle.owl_axioms.specs.Made.{IsSortedSet}
use Rattle.owl_axioms.specs.Proper.{is_proper_side}
use Rattle.owl_axioms.specs.Text.{side_text}
use Rattle.owl_axioms.specs.inner.Sorting.{values_of}
use Rattle.owl_axioms.proofs.Making.{if_ok_map}
use Rattle.owl_axioms.proofs.Members.{passes}
use Rattle.owl_axioms.proofs.SortedTexts.{AreTold, IsSortedSet-ordered}
use Rattle.owl_axioms.proofs.TellingSides.{side_told}
use Rattle.owl_axioms.proofs.make_axiom.sorted_sides.Goals as goal

pub returns : goal.returns
returns c =
    let given = c.args.sides.items in
    let told : AreTold side_text given = λ x y here there same. side_told x y (passes is_proper_side x given c.requires.proper here) (passes is_proper_side y given c.requires.proper there) same in
    let sorted = IsSortedSet-ordered side_text given c.in_ok-list.list.items c.ordered.result.items c.in_ok-list.ensures told c.ordered.ensures in
    if_ok_map (λ kept. kept.items ≡ values_of c.ordered.result.items) (λ kept. IsSortedSet side_text given kept.items) c.values.result (λ kept is. subst (IsSortedSet side_text given) (sym is) sorted) c.values.ensures
