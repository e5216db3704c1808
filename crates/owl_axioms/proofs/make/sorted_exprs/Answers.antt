use Rattle.std.proofs.Common.{◌≡◌, subst, sym}
use Rattle.owl_axioms.specs.Made.{IsSortedSet}
use Rattle.owl_axioms.specs.Proper.{is_proper_expr}
use Rattle.owl_axioms.specs.Text.{expr_text}
use Rattle.owl_axioms.specs.inner.Sorting.{values_of}
use Rattle.owl_axioms.proofs.Making.{if_ok_map}
use Rattle.owl_axioms.proofs.Members.{passes}
use Rattle.owl_axioms.proofs.SortedTexts.{AreTold, IsSortedSet-ordered}
use Rattle.owl_axioms.proofs.TellingTexts.{expr_told}
use Rattle.owl_axioms.proofs.make.sorted_exprs.Goals as goal

pub returns : goal.returns
returns c =
    let given = c.args.exprs.items in
    let told : AreTold expr_text given = λ x y here there same. expr_told x y (passes is_proper_expr x given c.requires.proper here) (passes is_proper_expr y given c.requires.proper there) same in
    let sorted = IsSortedSet-ordered expr_text given c.in_ok-list.list.items c.ordered.result.items c.in_ok-list.ensures told c.ordered.ensures in
    if_ok_map (λ kept. kept.items ≡ values_of c.ordered.result.items) (λ kept. IsSortedSet expr_text given kept.items) c.values.result (λ kept is. subst (IsSortedSet expr_text given) (sym is) sorted) c.values.ensures
