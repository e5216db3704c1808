-- The least declaration of an empty class is the first unsatisfiable one.
use Rattle.std.proofs.Common.{◌≡◌, ℕ, ◌<◌, Bool, true, false, not, ◌&&◌, ◌||◌, cond, List, MatchOption, Option, None, Some, length, slice_get, refl, sym, ap, subst, ◌∙◌, true≢false}
use Rattle.std.specs.Prelude.{◌==◌, nat_lt}
use Rattle.std.specs.Cmp.{tied_itself}
use Rattle.std.specs.Cmp.Lexicographic.{slice_cmp}
use Rattle.std.specs.Ordering.{is_gt, is_lt, nat_cmp, ordering_reverse, ordering_then}
use Rattle.std.specs.declared.cmp.Ordering.{Ordering}
use Rattle.std.specs.declared.cmp.Ordering.TheVariants.{Equal, Greater, Less}
use Rattle.std.proofs.lemmas.Cmp.{nat_list_cmp_total}
use Rattle.std.proofs.lemmas.Option.{slice_get_within}
use Rattle.fact_rows.proofs.Places.{in_from_get, place_of}
use Rattle.owl_axioms.specs.Proper.{AreProper, in_order}
use Rattle.owl_axioms.specs.declared.body.Axiom.{Axiom}
use Rattle.owl_axioms.specs.declared.expr.ClassExpr.{ClassExpr}
use Rattle.owl_ontology.specs.Ontology.{Entry, axioms_of}
use Rattle.owl_ontology.specs.Origins.{comes_before}
use Rattle.owl_ontology.specs.declared.origin.Origin.{Origin}
use Rattle.el_part.specs.Part.{PartState, view_of}
use Rattle.el_rules.specs.Occurs.{IsDeclared}
use Rattle.el_rules.specs.Rules.{ElView}
use Rattle.el_saturate.specs.Table.{Facts}
use Rattle.el_taxonomy.specs.Direct.{AreFactsOf}
use Rattle.el_taxonomy.specs.Reason.{DeclaresAt, IsUnsatisfiable}
use Rattle.el_taxonomy.specs.Taxonomy.{IsDeclaredClass, IsEmpty}
use Rattle.el_taxonomy.specs.inner.Least.{Declared, IsEmptyAt, IsFound, IsLeastAt, is_lesser}
use Rattle.el_taxonomy.proofs.Least.{axiom_at, entry_at, lesser_no_more}
use Rattle.el_taxonomy.proofs.Numbers.{declared_is, is_declared}
use Rattle.el_taxonomy.proofs.Occurring.{class_not_special, class_occurs, derived_empty, empty_derived}

-- ---- the order of declarations

turned_order : (here there rest : Ordering) → there ≡ ordering_reverse here → is_lt (ordering_then here rest) ≡ false → not (is_gt there) ≡ true
turned_order Less there rest e isnt = absurd (true≢false isnt)
turned_order Equal there rest e isnt = ap (λ (o : Ordering). not (is_gt o)) e
turned_order Greater there rest e isnt = ap (λ (o : Ordering). not (is_gt o)) e

class_order : (one other : Declared) → is_lesser other one ≡ false → in_order one.class other.class ≡ true
unfolding in_order
class_order one other isnt = turned_order (slice_cmp nat_cmp other.class one.class) (slice_cmp nat_cmp one.class other.class) _ (nat_list_cmp_total.antisymm one.class other.class) isnt

origin_order : (one other : Origin) → comes_before one other ≡ true → is_lt (ordering_then (nat_cmp one.file other.file) (nat_cmp one.line other.line)) ≡ true
origin_order one other = by (nat_lt one.file other.file) (one.file == other.file) (nat_lt one.line other.line) (one.line == other.line)
  where
    by : (a b c d : Bool) → (a || (b && c)) ≡ true → is_lt (ordering_then (cond a Less (cond b Equal Greater)) (cond c Less (cond d Equal Greater))) ≡ true
    by true b c d h = refl
    by false true true d h = refl
    by false true false d h = absurd (true≢false (sym h))
    by false false c d h = absurd (true≢false (sym h))

of_one_class : (one other : Declared) → other.class ≡ one.class → is_lesser other one ≡ false → comes_before other.origin one.origin ≡ true → ⊥
of_one_class one other same isnt before =
    let rest = ordering_then (nat_cmp other.origin.file one.origin.file) (nat_cmp other.origin.line one.origin.line) in
    let tie : slice_cmp nat_cmp other.class one.class ≡ Equal = ap (λ c. slice_cmp nat_cmp c one.class) same ∙ tied_itself nat_list_cmp_total one.class in
    true≢false (sym (origin_order other.origin one.origin before) ∙ sym (ap (λ (o : Ordering). is_lt (ordering_then o rest)) tie) ∙ isnt)

-- ---- entries

module _ (entries : List Entry) (trees : List ClassExpr) (part : PartState) (limit : ℕ) (table : Facts) (are : AreFactsOf (axioms_of entries) trees part limit table) where
  abbrev view : ElView
  view = view_of trees part

  abbrev axioms : List Axiom
  axioms = axioms_of entries

  -- an entry that declares an empty class
  found_at : (class : List ℕ) (at : ℕ) (entry : Entry) → DeclaresAt entries class at entry → IsEmpty view class → (let d : Declared = record { class = class; origin = entry.origin } in IsEmptyAt entries part table at d)
  found_at class at entry declares empty = record {
    declared = record { entry = entry; found = declares.found; class = is_declared entry.axiom.body class declares.says; origin = refl };
    empty = derived_empty axioms trees part limit table are class empty;
  }

  declaring : (class : List ℕ) → IsDeclared axioms class → (at : ℕ) × (entry : Entry) × DeclaresAt entries class at entry
  declaring class d =
      let p = place_of d.1 in
      let e = entry_at entries p.at d.0 p.is in
      (p.at, e.0, record { found = e.1; says = ap (λ (a : Axiom). a.body) e.2 ∙ d.2 })

  pub none_found : (count : ℕ) → count ≡ length entries → IsFound entries part table count None → (class : List ℕ) → IsDeclaredClass axioms class → ¬ (IsEmpty view class)
  none_found count long none class is_class empty =
      let d = declaring class is_class.declared in
      none d.0 (record { class = class; origin = d.1.origin }) (subst (λ n. d.0 < n) (sym long) (slice_get_within entries d.0 d.1 d.2.found)) (found_at class d.0 d.1 d.2 empty)

  pub one_found : AreProper axioms → (count at : ℕ) → length entries ≡ count → IsLeastAt entries part table count at → IsUnsatisfiable entries view at
  one_found proper count at long found =
      let one = found.one in
      let class = one.class in
      let here = found.is.declared in
      let says = declared_is here.entry.axiom.body class here.class in
      let empty = empty_derived axioms trees part limit table are class found.is.empty in
      let special = class_not_special axioms trees part limit table are proper class (class_occurs axioms trees part limit table are class found.is.empty.0 found.is.empty.1) in
      let within : (i : ℕ) (e : Entry) → slice_get entries i ≡ Some e → i < count = λ i e is. subst (λ n. i < n) long (slice_get_within entries i e is) in
      record {
        class = class;
        declared = record {
          declared = (here.entry.axiom, in_from_get axioms at here.entry.axiom (axiom_at entries at here.entry here.found), says);
          no_thing = special.0;
          no_nothing = special.1;
        };
        empty = empty;
        least = λ other is_class is_empty.
            let d = declaring other is_class.declared in
            let o : Declared = record { class = other; origin = d.1.origin } in
            class_order one o (found.least d.0 o (within d.0 d.1 d.2.found) (found_at other d.0 d.1 d.2 is_empty));
        first = record {
          entry = here.entry;
          declares = record { found = here.found; says = says };
          first = λ i other declares before.
              let o : Declared = record { class = class; origin = other.origin } in
              of_one_class one o refl (found.least i o (within i other declares.found) (found_at class i other declares empty)) (ap (comes_before other.origin) (sym here.origin) ∙ before);
          place = λ i other declares same.
              let o : Declared = record { class = class; origin = other.origin } in
              let s : one ≡ o = λ j. record { class = class; origin = (sym here.origin ∙ sym same) j } in
              found.first i o (within i other declares.found) (found_at class i other declares empty) (lesser_no_more one o s);
        };
      }

  pub judge : AreProper axioms → (count : ℕ) (found : Option ℕ) → count ≡ length entries → IsFound entries part table count found
      → MatchOption found ((class : List ℕ) → IsDeclaredClass axioms class → ¬ (IsEmpty view class)) (IsUnsatisfiable entries view)
  judge proper count None long is = none_found count long is
  judge proper count (Some at) long is = one_found proper count at (sym long) is
