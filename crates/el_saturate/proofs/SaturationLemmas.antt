-- The whole of a saturation.
use Rattle.std.proofs.Common.{◌≡◌, ℕ, ◌<◌, ◌≤◌, ◌^◌, Bool, IsTrue, List, None, Some, length, map, position, slice_get, sym, subst, ◌∙◌, arith}
use Rattle.std.specs.List.{flat_map}
use Rattle.std.proofs.lemmas.List.{length-map}
use Rattle.fact_rows.specs.Member.{NoRepeats}
use Rattle.owl_axioms.specs.declared.expr.ClassExpr.{ClassExpr}
use Rattle.expr_pool.specs.Pool.{AreDifferent, tree_at}
use Rattle.expr_pool.specs.declared.cell.Node.{Node}
use Rattle.el_numbers.specs.Proper.{IsProper}
use Rattle.el_numbers.proofs.CountLemmas.{ordered}
use Rattle.el_numbers.specs.Saturated.{IsFault, IsSaturated}
use Rattle.el_numbers.specs.Table.{Has, TableState, link_fact, size}
use Rattle.el_numbers.specs.declared.fault.SaturationFault.{SaturationFault}
use Rattle.el_numbers.specs.declared.fault.SaturationFault.TheVariants as numbers_fault
use Rattle.el_numbers.specs.declared.part.NumberedPart.{NumberedPart}
use Rattle.el_rules.specs.Numbering.{IsNumbered, Numbering}
use Rattle.el_rules.specs.Rules.{ElView}
use Rattle.el_part.specs.Part.{FitsPool, PartState, view_of}
use Rattle.el_saturate.proofs.PartOver.{numbered}
use Rattle.el_saturate.proofs.TableLemmas.{are_more, is_table}
use Rattle.el_saturate.specs.Table.{Facts, HasRows, IsFaultOf, IsTableOf, SaysLink, told}
use Rattle.el_saturate.specs.inner.Numbers.{AreNumbers, HasRestrictions, HasRoles, IsPartOver, roles_in, same_iri}

-- what is made before the facts
pub record IsMade (trees : List ClassExpr) (state : PartState) (nums : List ℕ) (roles : List (List ℕ)) (made : NumberedPart) : Type 0 where
  pub different : AreDifferent trees
  pub fits : FitsPool trees state
  pub small : length state.occurring < 2 ^ 32
  pub are : AreNumbers state.occurring (length trees) nums
  pub numbered : IsNumbered (view_of trees state) made (record { exprs = map (tree_at trees) state.occurring; roles = roles })

pub made_from : (trees : List ClassExpr) (state : PartState) (nums slice : List ℕ) (roles : List (List ℕ)) (made : NumberedPart) (count occurring : ℕ) → AreDifferent trees → FitsPool trees state → occurring ≡ length state.occurring → occurring ≤ 4294967295 → count ≡ length trees → AreNumbers state.occurring count nums → NoRepeats roles → HasRoles roles (flat_map roles_in state.axioms) → HasRestrictions (map (tree_at trees) state.occurring) roles → slice ≡ nums → IsPartOver trees state slice roles made → IsMade trees state nums roles made
made_from trees state nums slice roles made count occurring different fits is few count_is are once axiom_roles restrictions slice_is over =
    let small : length state.occurring < 2 ^ 32 = omega (arith, is, few) in
    let numbers_are : AreNumbers state.occurring (length trees) nums = subst (λ c. AreNumbers state.occurring c nums) count_is are in
    let over_nums : IsPartOver trees state nums roles made = subst (λ ns. IsPartOver trees state ns roles made) slice_is over in
    record {
      different = different;
      fits = fits;
      small = small;
      are = numbers_are;
      numbered = numbered trees different state fits small nums numbers_are roles once axiom_roles restrictions made over_nums;
    }

pub proper_made : (trees : List ClassExpr) (state : PartState) (nums : List ℕ) (roles : List (List ℕ)) (made : NumberedPart) → IsMade trees state nums roles made → IsProper made
proper_made trees state nums roles made m = m.numbered.proper

pub table_made : (trees : List ClassExpr) (state : PartState) (nums : List ℕ) (roles : List (List ℕ)) (made : NumberedPart) (limit : ℕ) (t : TableState) (facts : Facts) → IsMade trees state nums roles made → IsSaturated made limit t → facts ≡ record { numbers = nums; roles = roles; table = t } → IsTableOf trees (view_of trees state) limit (size facts.table) facts
table_made trees state nums roles made limit t facts m s e = subst (λ (f : Facts). IsTableOf trees (view_of trees state) limit (size f.table) f) (sym e) (is_table trees m.different state m.fits m.small nums m.are roles made m.numbered limit t s)

-- and its rows
pub rows_made : (trees : List ClassExpr) (state : PartState) (nums : List ℕ) (roles : List (List ℕ)) (made : NumberedPart) (limit : ℕ) (t : TableState) (facts : Facts) → IsMade trees state nums roles made → IsSaturated made limit t → facts ≡ record { numbers = nums; roles = roles; table = t } → HasRows state.occurring facts
rows_made trees state nums roles made limit t facts m s e = subst (λ (f : Facts). HasRows state.occurring f) (sym e) (record {
  number = m.are.number;
  long = s.long ∙ m.numbered.shapes ∙ length-map state.occurring (tree_at trees);
  small = m.small;
  ordered = ordered made m.numbered.proper limit t s;
})

fault_of : (view : ElView) (part : NumberedPart) (n : Numbering) → IsNumbered view part n → (limit : ℕ) (f : SaturationFault) → IsFault part limit f → IsFaultOf view limit (told f)
fault_of view part n is limit (numbers_fault.TooManyFacts k) h = (h.0, are_more view part n is limit h.1)
fault_of view part n is limit numbers_fault.NoMemory h = tt

pub fault_made : (trees : List ClassExpr) (state : PartState) (nums : List ℕ) (roles : List (List ℕ)) (made : NumberedPart) (limit : ℕ) (f : SaturationFault) → IsMade trees state nums roles made → IsFault made limit f → IsFaultOf (view_of trees state) limit (told f)
fault_made trees state nums roles made limit f m h = fault_of (view_of trees state) made (record { exprs = map (tree_at trees) state.occurring; roles = roles }) m.numbered limit f h

-- ---- what `link` answers

pub no_role : (t : Facts) (a : Node) (r : List ℕ) (b : Node) → position (same_iri r) t.roles ≡ None → SaysLink t a r b → ⊥
no_role t a r b none says = let e : None ≡ Some says.1 = sym none ∙ says.4 in absurd cc

pub with_role : (t : Facts) (a : Node) (r : List ℕ) (b : Node) (c k d : ℕ) (answer : Bool) → slice_get t.numbers a.place ≡ Some c → position (same_iri r) t.roles ≡ Some k → slice_get t.numbers b.place ≡ Some d → (IsTrue answer → Has t.table (link_fact c k d)) × (Has t.table (link_fact c k d) → IsTrue answer) → (IsTrue answer → SaysLink t a r b) × (SaysLink t a r b → IsTrue answer)
with_role t a r b c k d answer at_a role at_b both = (
  λ y. (c, k, d, at_a, role, at_b, both.0 y),
  λ says.
      let x : says.0 ≡ c = some_is (sym says.3 ∙ at_a) in
      let y : says.1 ≡ k = some_is (sym says.4 ∙ role) in
      let z : says.2 ≡ d = some_is (sym says.5 ∙ at_b) in
      both.1 (subst (λ w. Has t.table (link_fact w k d)) x (subst (λ w. Has t.table (link_fact says.0 w d)) y (subst (λ w. Has t.table (link_fact says.0 says.1 w)) z says.6))),
)
  where
    some_is : {m n : ℕ} → Some m ≡ Some n → m ≡ n
    some_is h = cc
