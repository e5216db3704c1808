-- One edge more in the rows of edges.
use Rattle.std.proofs.Common.{◌≡◌, ℕ, ◌<◌, [], ◌∷◌, ◌++◌, length, slice_get, slice_set, replicate, Some, None, sym, ap, subst, ◌∙◌, ⊎_elim}
use Rattle.edge_detours.specs.Reach.{Edges}
use Rattle.edge_detours.specs.inner.Rows.{Rows, AreRows}
use Rattle.fact_rows.proofs.Members.{in_none}
use Rattle.fact_rows.proofs.RowLemmas.{row_at_end, row_stays, row_only}
use Rattle.fact_rows.specs.Member.{In}
use Rattle.fact_rows.specs.Rows.{row}
use Rattle.fact_rows.proofs.Places.{get_push, get_push_kept, get_push_last}
use Rattle.fact_rows.proofs.RowLemmas.{row_empty}

pub rows_none : (n : ℕ) → AreRows [] (replicate n [])
rows_none n = record {
  to = λ i a c h. let k : None ≡ Some (a, c) = h in cc;
  from = λ i a c j. in_none (subst (In (c, i)) (row_empty n a) j);
}

pub rows_more : (es : Edges) (old new : Rows) (a c i : ℕ) → AreRows es old → i ≡ length es → a < length old → new ≡ slice_set old a (row old a ++ (c, i) ∷ []) → AreRows (es ++ (a, c) ∷ []) new
rows_more es old new a c i r e l set = record {
  to = λ j b d h. ⊎_elim
      (λ g. row_stays old new a (c, i) l set b (d, j) (r.to j b d g))
      (λ (p : (j ≡ length es) × ((b, d) ≡ (a, c))).
      let f : b ≡ a = ap (λ (q : ℕ × ℕ). q.0) p.1 in
      let g : d ≡ c = ap (λ (q : ℕ × ℕ). q.1) p.1 in
      let k : j ≡ i = p.0 ∙ sym e in
      subst (λ z. In (d, j) (row new z)) (sym f) (subst (λ z. In (z, j) (row new a)) (sym g) (subst (λ z. In (c, z) (row new a)) (sym k) (row_at_end old new a (c, i) l set))))
      (get_push es (a, c) (b, d) j h);
  from = λ j b d m. ⊎_elim
      (λ g. get_push_kept es (a, c) (b, d) j (r.from j b d g))
      (λ (p : (b ≡ a) × ((d, j) ≡ (c, i))).
      let g : d ≡ c = ap (λ (q : ℕ × ℕ). q.0) p.1 in
      let k : j ≡ i = ap (λ (q : ℕ × ℕ). q.1) p.1 in
      let z : slice_get (es ++ (a, c) ∷ []) j ≡ Some (a, c) = subst (λ y. slice_get (es ++ (a, c) ∷ []) y ≡ Some (a, c)) (sym (k ∙ e)) (get_push_last es (a, c)) in
      z ∙ ap (λ y. Some (y, c)) (sym p.0) ∙ ap (λ y. Some (b, y)) (sym g))
      (row_only old new a (c, i) l set b (d, j) m);
}
