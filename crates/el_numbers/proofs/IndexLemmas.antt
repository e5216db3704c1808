-- The indexes hold what the part says.
use Rattle.std.proofs.Common.{◌≡◌, ℕ, zero, suc, ◌<◌, List, [], ◌∷◌, ◌++◌, Option, None, Some, length, map, replicate, slice_get, refl, sym, ap, subst, ◌∙◌, arith, ⊎_elim, inl, inr}
use Rattle.std.proofs.lemmas.Bool.{cases_eq}
use Rattle.fact_rows.specs.Member.{In, here}
use Rattle.fact_rows.specs.Rows.{push_at, row}
use Rattle.fact_rows.proofs.Members.{in_left, in_right, in_none, in_one, in_parts, in_map, from_map}
use Rattle.fact_rows.proofs.Places.{get_inside}
use Rattle.fact_rows.proofs.RowLemmas.{row_at_end, row_empty, row_only, row_stays}
use Rattle.el_numbers.specs.declared.index.Indexes.{Indexes}
use Rattle.el_numbers.specs.declared.part.NumberedPart.{NumberedPart}
use Rattle.el_numbers.specs.declared.part.Shape.{Shape}
use Rattle.el_numbers.specs.declared.part.Shape.TheVariants as shape
use Rattle.el_numbers.specs.Proper.{IsProper}
use Rattle.el_numbers.specs.inner.Indexes.{IsIndexOf, IsPairIndexOf, IsIndexed, swapped, by_second, restrictions_at, restrictions, intersections_at, intersections}

pub index_none : (n : ℕ) (rows : List (List ℕ)) → rows ≡ replicate n [] → IsIndexOf [] rows
index_none n rows e = record {
  to = λ k v i. in_none i;
  from = λ k v i. in_none (subst (In v) (ap (λ (r : List (List ℕ)). row r k) e ∙ row_empty n k) i);
}

pub pair_index_none : (n : ℕ) (rows : List (List (ℕ × ℕ))) → rows ≡ replicate n [] → IsPairIndexOf [] rows
pair_index_none n rows e = record {
  to = λ k v w i. in_none i;
  from = λ k v w i. in_none (subst (In {A = ℕ × ℕ} (v, w)) (ap (λ (r : List (List (ℕ × ℕ))). row r k) e ∙ row_empty n k) i);
}

pub index_more : (pairs : List (ℕ × ℕ)) (old new : List (List ℕ)) (k v : ℕ) → k < length old → new ≡ push_at old k v → IsIndexOf pairs old → IsIndexOf (pairs ++ (k, v) ∷ []) new
index_more pairs old new k v l e x = record {
  to = λ j w i. ⊎_elim
      (λ m. row_stays old new k v l e j w (x.to j w m))
      (λ m.
      let p : j ≡ k = ap (λ (q : ℕ × ℕ). q.0) (in_one m) in
      let q : w ≡ v = ap (λ (q : ℕ × ℕ). q.1) (in_one m) in
      subst (λ z. In w (row new z)) (sym p) (subst (λ z. In z (row new k)) (sym q) (row_at_end old new k v l e)))
      (in_parts pairs i);
  from = λ j w i. ⊎_elim
      (λ m. in_left ((k, v) ∷ []) (x.from j w m))
      (λ (p : (j ≡ k) × (w ≡ v)).
      subst (λ z. In {A = ℕ × ℕ} (z, w) (pairs ++ (k, v) ∷ [])) (sym p.0) (subst (λ z. In {A = ℕ × ℕ} (k, z) (pairs ++ (k, v) ∷ [])) (sym p.1) (in_right pairs here)))
      (row_only old new k v l e j w i);
}

pub pair_index_more : (triples : List (ℕ × ℕ × ℕ)) (old new : List (List (ℕ × ℕ))) (k v w : ℕ) → k < length old → new ≡ push_at old k (v, w) → IsPairIndexOf triples old → IsPairIndexOf (triples ++ (k, v, w) ∷ []) new
pair_index_more triples old new k v w l e x = record {
  to = λ j a b i. ⊎_elim
      (λ m. row_stays old new k (v, w) l e j (a, b) (x.to j a b m))
      (λ m.
      let p : j ≡ k = ap (λ (q : ℕ × ℕ × ℕ). q.0) (in_one m) in
      let q : a ≡ v = ap (λ (q : ℕ × ℕ × ℕ). q.1) (in_one m) in
      let r : b ≡ w = ap (λ (q : ℕ × ℕ × ℕ). q.2) (in_one m) in
      subst (λ z. In (a, b) (row new z)) (sym p) (subst (λ z. In (z, b) (row new k)) (sym q) (subst (λ z. In (v, z) (row new k)) (sym r) (row_at_end old new k (v, w) l e))))
      (in_parts triples i);
  from = λ j a b i. ⊎_elim
      (λ m. in_left ((k, v, w) ∷ []) (x.from j a b m))
      (λ (p : (j ≡ k) × ((a, b) ≡ (v, w))).
      let q : a ≡ v = ap (λ (q : ℕ × ℕ). q.0) p.1 in
      let r : b ≡ w = ap (λ (q : ℕ × ℕ). q.1) p.1 in
      subst (λ z. In (z, a, b) (triples ++ (k, v, w) ∷ [])) (sym p.0) (subst (λ z. In (k, z, b) (triples ++ (k, v, w) ∷ [])) (sym q) (subst (λ z. In (k, v, z) (triples ++ (k, v, w) ∷ [])) (sym r) (in_right triples here))))
      (row_only old new k (v, w) l e j (a, b) i);
}

-- the restrictions that are listed
module _ (shapes : List Shape) where
  pub to_restrictions : (n s r e : ℕ) → s < n → slice_get shapes s ≡ Some (shape.Some r e) → In (e, r, s) (restrictions shapes n)
  to_restrictions zero s r e l h = absurd (omega arith)
  to_restrictions (suc n) s r e l h = ⊎_elim
      (λ (q : s ≡ n).
      let g : slice_get shapes n ≡ Some (shape.Some r e) = subst (λ z. slice_get shapes z ≡ Some (shape.Some r e)) q h in
      let i : In (e, r, n) (restrictions_at (slice_get shapes n) n) = subst (λ o. In (e, r, n) (restrictions_at o n)) (sym g) here in
      subst (λ z. In (e, r, z) (restrictions shapes (suc n))) (sym q) (in_right (restrictions shapes n) i))
      (λ q. in_left (restrictions_at (slice_get shapes n) n) (to_restrictions n s r e (omega arith) h))
      (cases_eq s n)

  restriction_of : (o : Option Shape) (n s r e : ℕ) → slice_get shapes n ≡ o → In (e, r, s) (restrictions_at o n) → slice_get shapes s ≡ Some (shape.Some r e)
  restriction_of None n s r e h i = in_none i
  restriction_of (Some shape.Name) n s r e h i = in_none i
  restriction_of (Some shape.And) n s r e h i = in_none i
  restriction_of (Some (shape.Some q f)) n s r e h i =
      let a : e ≡ f = ap (λ (p : ℕ × ℕ × ℕ). p.0) (in_one i) in
      let b : r ≡ q = ap (λ (p : ℕ × ℕ × ℕ). p.1) (in_one i) in
      let c : s ≡ n = ap (λ (p : ℕ × ℕ × ℕ). p.2) (in_one i) in
      subst (λ z. slice_get shapes s ≡ Some (shape.Some r z)) (sym a) (subst (λ z. slice_get shapes s ≡ Some (shape.Some z f)) (sym b) (subst (λ z. slice_get shapes z ≡ Some (shape.Some q f)) (sym c) h))

  pub from_restrictions : (n s r e : ℕ) → In (e, r, s) (restrictions shapes n) → slice_get shapes s ≡ Some (shape.Some r e)
  from_restrictions zero s r e i = in_none i
  from_restrictions (suc n) s r e i = ⊎_elim
      (λ m. from_restrictions n s r e m)
      (λ m. restriction_of (slice_get shapes n) n s r e refl m)
      (in_parts (restrictions shapes n) i)

-- the operands that are listed
module _ (operands : List (List ℕ)) where
  pub to_intersections : (n a x : ℕ) → a < n → In x (row operands a) → In (x, a) (intersections operands n)
  to_intersections zero a x l i = absurd (omega arith)
  to_intersections (suc n) a x l i = ⊎_elim
      (λ (q : a ≡ n).
      subst (λ z. In {A = ℕ × ℕ} (x, z) (intersections operands (suc n))) (sym q)
      (in_right (intersections operands n) (in_map (λ (y : ℕ). (y, n)) (subst (λ z. In x (row operands z)) q i))))
      (λ q. in_left (intersections_at n (row operands n)) (to_intersections n a x (omega arith) i))
      (cases_eq a n)

  pub from_intersections : (n a x : ℕ) → In (x, a) (intersections operands n) → In x (row operands a)
  from_intersections zero a x i = in_none i
  from_intersections (suc n) a x i = ⊎_elim
      (λ m. from_intersections n a x m)
      (λ m.
      let f = from_map (λ (y : ℕ). (y, n)) (row operands n) m in
      let p : x ≡ f.it = ap (λ (q : ℕ × ℕ). q.0) f.is in
      let q : a ≡ n = ap (λ (q : ℕ × ℕ). q.1) f.is in
      subst (λ z. In x (row operands z)) (sym q) (subst (λ z. In z (row operands n)) (sym p) f.inside))
      (in_parts (intersections operands n) i)

module _ (part : NumberedPart) (proper : IsProper part) where
  pub operands_within : (n k v : ℕ) → In (k, v) (intersections part.operands.items n) → k < length part.shapes.items
  operands_within n k v i = proper.operands v k (from_intersections part.operands.items n v k i)

  pub restrictions_within : (n k v w : ℕ) → In (k, v, w) (restrictions part.shapes.items n) → k < length part.shapes.items
  restrictions_within n k v w i = proper.fillers w v k (from_restrictions part.shapes.items n w v k i)

  pub disjoints_within : (k v : ℕ) → In (k, v) (part.disjoints.items ++ map swapped part.disjoints.items) → k < length part.shapes.items
  disjoints_within k v i = ⊎_elim
      (λ m. (proper.disjoints k v m).0)
      (λ m.
      let f = from_map swapped part.disjoints.items m in
      let p : k ≡ f.it.1 = ap (λ (q : ℕ × ℕ). q.0) f.is in
      subst (λ z. z < length part.shapes.items) (sym p) (proper.disjoints f.it.0 f.it.1 f.inside).1)
      (in_parts part.disjoints.items i)

  pub seconds_within : (k v w : ℕ) → In (k, v, w) (map by_second part.chains.items) → k < part.role_count
  seconds_within k v w i =
      let f = from_map by_second part.chains.items i in
      let p : k ≡ f.it.1 = ap (λ (q : ℕ × ℕ × ℕ). q.0) f.is in
      subst (λ z. z < part.role_count) (sym p) (proper.chains f.it.0 f.it.1 f.it.2 f.inside).1

  -- all of them together
  pub indexed : (ix : Indexes) (n : ℕ) → n ≡ length part.shapes.items → IsIndexOf part.inclusions.items ix.told.items → IsIndexOf (intersections part.operands.items n) ix.ands.items
      → IsIndexOf (part.disjoints.items ++ map swapped part.disjoints.items) ix.disjoint.items → IsIndexOf part.role_inclusions.items ix.roles.items → IsIndexOf part.domains.items ix.domains.items
      → IsPairIndexOf (restrictions part.shapes.items n) ix.somes.items → IsPairIndexOf part.chains.items ix.first.items → IsPairIndexOf (map by_second part.chains.items) ix.second.items → IsIndexed part ix
  indexed ix n e told ands disjoint roles domains somes first second = record {
    told = told;
    roles = roles;
    domains = domains;
    first = first;
    to_second = λ r s t i. second.to s r t (in_map by_second i);
    from_second = λ r s t i.
        let f = from_map by_second part.chains.items (second.from s r t i) in
        let a : s ≡ f.it.1 = ap (λ (q : ℕ × ℕ × ℕ). q.0) f.is in
        let b : r ≡ f.it.0 = ap (λ (q : ℕ × ℕ × ℕ). q.1) f.is in
        let c : t ≡ f.it.2 = ap (λ (q : ℕ × ℕ × ℕ). q.2) f.is in
        let o : In (f.it.0, f.it.1, f.it.2) part.chains.items = f.inside in
        subst (λ z. In (z, s, t) part.chains.items) (sym b) (subst (λ z. In (f.it.0, z, t) part.chains.items) (sym a) (subst (λ z. In (f.it.0, f.it.1, z) part.chains.items) (sym c) o));
    to_disjoint = λ d k i. (disjoint.to d k (in_left (map swapped part.disjoints.items) i), disjoint.to k d (in_right part.disjoints.items (in_map swapped i)));
    from_disjoint = λ d k i. ⊎_elim inl
        (λ m.
        let f = from_map swapped part.disjoints.items m in
        let a : d ≡ f.it.1 = ap (λ (q : ℕ × ℕ). q.0) f.is in
        let b : k ≡ f.it.0 = ap (λ (q : ℕ × ℕ). q.1) f.is in
        let o : In (f.it.0, f.it.1) part.disjoints.items = f.inside in
        inr (subst (λ z. In (z, d) part.disjoints.items) (sym b) (subst (λ z. In (f.it.0, z) part.disjoints.items) (sym a) o)))
        (in_parts part.disjoints.items (disjoint.from d k i));
    to_somes = λ s r k h. somes.to k r s (to_restrictions part.shapes.items n s r k (let l = get_inside part.shapes.items s (shape.Some r k) h in omega arith) h);
    from_somes = λ s r k i. from_restrictions part.shapes.items n s r k (somes.from k r s i);
    to_ands = λ a x i. ands.to x a (to_intersections part.operands.items n a x (let l = get_inside part.shapes.items a shape.And (proper.is_and a x i) in omega arith) i);
    from_ands = λ a x i. from_intersections part.operands.items n a x (ands.from x a i);
  }
