-- The rules of saturation, and what they derive. (After Baader, Brandt and Lutz 2005, 'Pushing the EL Envelope', with
-- links by roles; the rules are own.)
use Rattle.std.specs.Prelude.{◌≡◌, ℕ, ◌<◌, List, [], ◌∷◌, length, map, slice_get, Some}
use Rattle.fact_rows.specs.Member.{In}
use Rattle.fact_rows.specs.Rows.{row}
use Rattle.el_numbers.specs.declared.fact.Fact.{Fact}
use Rattle.el_numbers.specs.declared.fact.Fact.TheVariants.{Below, Link}
use Rattle.el_numbers.specs.declared.part.NumberedPart.{NumberedPart}
use Rattle.el_numbers.specs.declared.part.Shape.TheVariants as shape

-- the premises and the conclusion of one use of a rule. Thing is 0 and Nothing is 1
pub data Rule (part : NumberedPart) : List Fact → Fact → Type 0 where
  -- C below C
  itself : {c : ℕ} → c < length part.shapes.items → Rule part [] (Below c c)
  -- C below Thing
  in_thing : {c : ℕ} → c < length part.shapes.items → Rule part [] (Below c 0)
  -- C below an And: C below each operand
  to_operand : {c a x : ℕ} → In x (row part.operands.items a) → Rule part (Below c a ∷ []) (Below c x)
  -- C below each operand of an And: C below that And
  to_and : {c a : ℕ} → slice_get part.shapes.items a ≡ Some shape.And → Rule part (map (λ x. Below c x) (row part.operands.items a)) (Below c a)
  -- C below D, and D is included in E: C below E
  by_inclusion : {c d e : ℕ} → In (d, e) part.inclusions.items → Rule part (Below c d ∷ []) (Below c e)
  -- C below D and below E, and these are disjoint: C below Nothing
  by_disjoint : {c d e : ℕ} → In (d, e) part.disjoints.items → Rule part (Below c d ∷ Below c e ∷ []) (Below c 1)
  -- C below Some(r, D): C has an r-link to D
  to_link : {c s r d : ℕ} → slice_get part.shapes.items s ≡ Some (shape.Some r d) → Rule part (Below c s ∷ []) (Link c r d)
  -- C has an r-link to D, and r is included in s: C has an s-link to D
  by_role : {c r d s : ℕ} → In (r, s) part.role_inclusions.items → Rule part (Link c r d ∷ []) (Link c s d)
  -- C has an r-link to D, D has an s-link to E, and the chain of r and s is included in t: C has a t-link to E
  by_chain : {c r d s e t : ℕ} → In (r, s, t) part.chains.items → Rule part (Link c r d ∷ Link d s e ∷ []) (Link c t e)
  -- C has an r-link to D, D is below E, and Some(r, E) occurs: C below Some(r, E)
  from_link : {c r d e s : ℕ} → slice_get part.shapes.items s ≡ Some (shape.Some r e) → Rule part (Link c r d ∷ Below d e ∷ []) (Below c s)
  -- C has an r-link to D, and E is a domain of r: C below E
  by_domain : {c r d e : ℕ} → In (r, e) part.domains.items → Rule part (Link c r d ∷ []) (Below c e)
  -- C has an r-link to D, and D is below Nothing: C below Nothing
  to_nothing : {c r d : ℕ} → Rule part (Link c r d ∷ Below d 1 ∷ []) (Below c 1)

-- a fact is derived where a finite tree of rules ends in it
pub data Derived (part : NumberedPart) : Fact → Type 0 where
  step : {ps : List Fact} {h : Fact} → Rule part ps h → ((p : Fact) → In p ps → Derived part p) → Derived part h
