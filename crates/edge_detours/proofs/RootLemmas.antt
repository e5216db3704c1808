-- What is reached from its root, and why the test of ranks is sound.
use Rattle.std.proofs.Common.{◌≡◌, ℕ, zero, suc, ◌<◌, ◌≤◌, Bool, true, false, List, [], ◌∷◌, ◌++◌, length, slice_get, slice_set, replicate, Some, refl, sym, ap, subst, ◌∙◌, arith, ⊎_elim, inl, inr}
use Rattle.std.proofs.lemmas.Bool.{cases_eq}
use Rattle.edge_detours.proofs.DetourLemmas.{walk_on}
use Rattle.edge_detours.proofs.RankLemmas.{join, from_get_map}
use Rattle.edge_detours.specs.Reach.{Edges, Reach, stay, go, AreWithin}
use Rattle.edge_detours.specs.inner.Ranks.{rank, AreRanks}
use Rattle.edge_detours.specs.inner.Roots.{AreFromRoots, Admits, ReachesSame, IsSpread}
use Rattle.edge_detours.specs.inner.Rows.{Rows, AreRows, Walk, rest, along, swapped}
use Rattle.fact_rows.proofs.Members.{in_left, in_right, in_parts, from_map, in_one}
use Rattle.fact_rows.proofs.Places.{set_other, in_from_get}
use Rattle.fact_rows.specs.Member.{In, here}
use Rattle.fact_rows.specs.Rows.{row}

pub admits_none : (y : ℕ) (old : List Bool) (before : List ℕ) → Admits y old old before before
admits_none y old before = record { flags = λ z h. inl h; stack = λ z i. inl i }

pub admits_new : (y : ℕ) (old : List Bool) (before : List ℕ) → Admits y old (slice_set old y true) before (before ++ y ∷ [])
admits_new y old before = record {
  flags = λ z h. ⊎_elim (λ (e : z ≡ y). inr e) (λ n. inl (sym (set_other old y z true n) ∙ h)) (cases_eq z y);
  stack = λ z i. ⊎_elim inl (λ j. inr (in_one j)) (in_parts before i);
}

pub same_none : (ranks : List ℕ) (x : ℕ) (old : List Bool) (before : List ℕ) → ReachesSame [] ranks x old old before before
same_none ranks x old before = record { flags = λ z h. inl h; stack = λ z i. inl i }

pub same_on : (ts : List (ℕ × ℕ)) (y i : ℕ) (ranks : List ℕ) (x : ℕ) (old mid new : List Bool) (before between after : List ℕ) → ReachesSame ts ranks x old mid before between → rank ranks y ≡ rank ranks x → Admits y mid new between after → ReachesSame (ts ++ (y, i) ∷ []) ranks x old new before after
same_on ts y i ranks x old mid new before between after r e a = record {
  flags = λ z h. ⊎_elim
      (λ o. ⊎_elim inl (λ (p : (j : ℕ) × In (z, j) ts × (rank ranks z ≡ rank ranks x)). inr (p.0, in_left ((y, i) ∷ []) p.1, p.2)) (r.flags z o))
      (λ (s : z ≡ y). inr (i, subst (λ w. In {A = ℕ × ℕ} (w, i) (ts ++ (y, i) ∷ [])) (sym s) (in_right ts here), ap (rank ranks) s ∙ e))
      (a.flags z h);
  stack = λ z h. ⊎_elim
      (λ o. ⊎_elim inl (λ (p : (j : ℕ) × In (z, j) ts × (rank ranks z ≡ rank ranks x)). inr (p.0, in_left ((y, i) ∷ []) p.1, p.2)) (r.stack z o))
      (λ (s : z ≡ y). inr (i, subst (λ w. In {A = ℕ × ℕ} (w, i) (ts ++ (y, i) ∷ [])) (sym s) (in_right ts here), ap (rank ranks) s ∙ e))
      (a.stack z h);
}

pub same_off : (ts : List (ℕ × ℕ)) (t : ℕ × ℕ) (ranks : List ℕ) (x : ℕ) (old mid new : List Bool) (before between after : List ℕ) → ReachesSame ts ranks x old mid before between → new ≡ mid → after ≡ between → ReachesSame (ts ++ t ∷ []) ranks x old new before after
same_off ts t ranks x old mid new before between after r e f = record {
  flags = λ z h. ⊎_elim inl (λ (p : (j : ℕ) × In (z, j) ts × (rank ranks z ≡ rank ranks x)). inr (p.0, in_left (t ∷ []) p.1, p.2)) (r.flags z (subst (λ w. slice_get w z ≡ Some true) e h));
  stack = λ z h. ⊎_elim inl (λ (p : (j : ℕ) × In (z, j) ts × (rank ranks z ≡ rank ranks x)). inr (p.0, in_left (t ∷ []) p.1, p.2)) (r.stack z (subst (In z) f h));
}

pub same_more : (ts : List (ℕ × ℕ)) (y i : ℕ) (ranks : List ℕ) (x : ℕ) (old mid new : List Bool) (before between after : List ℕ) (on : Bool) → ReachesSame ts ranks x old mid before between → (on ≡ true → rank ranks y ≡ rank ranks x) → (on ≡ true → Admits y mid new between after) → (on ≡ false → (new ≡ mid) × (after ≡ between)) → ReachesSame (ts ++ (y, i) ∷ []) ranks x old new before after
same_more ts y i ranks x old mid new before between after true r e a b = same_on ts y i ranks x old mid new before between after r (e refl) (a refl)
same_more ts y i ranks x old mid new before between after false r e a b = let q = b refl in same_off ts (y, i) ranks x old mid new before between after r q.0 q.1

pub spread_begins : (rows : Rows) (ranks roots : List ℕ) (flags : List Bool) (stack : List ℕ) → ((x : ℕ) → slice_get flags x ≡ Some true → rank roots (rank ranks x) ≡ x) → ((x : ℕ) → In x stack → rank roots (rank ranks x) ≡ x) → IsSpread rows ranks roots flags stack
spread_begins rows ranks roots flags stack f g = record {
  flagged = λ x h. subst (λ z. Walk rows z x) (sym (f x h)) rest;
  waiting = λ x i. subst (λ z. Walk rows z x) (sym (g x i)) rest;
}

pub spread_next : (rows : Rows) (ranks roots : List ℕ) (x : ℕ) (flags new : List Bool) (before after : List ℕ) → IsSpread rows ranks roots flags (before ++ x ∷ []) → ReachesSame (row rows x) ranks x flags new before after → IsSpread rows ranks roots new after
spread_next rows ranks roots x flags new before after s r = record {
  flagged = λ z h. ⊎_elim (λ o. s.flagged z o) (λ p. on z p) (r.flags z h);
  waiting = λ z i. ⊎_elim (λ o. s.waiting z (in_left (x ∷ []) o)) (λ p. on z p) (r.stack z i);
}
  where
    on : (z : ℕ) → (i : ℕ) × In (z, i) (row rows x) × (rank ranks z ≡ rank ranks x) → Walk rows (rank roots (rank ranks z)) z
    on z p = subst (λ w. Walk rows (rank roots w) z) (sym p.2) (walk_on (s.waiting x (in_right before here)) p.1)

pub to_reach : {es : Edges} {rows : Rows} → AreRows es rows → {a b : ℕ} → Walk rows a b → Reach es a b
to_reach r rest = stay
to_reach {es} r (along {a} {b} {c} {i} e w) = go (in_from_get es i (a, b) (r.from i a b e)) (to_reach r w)

pub to_back : {es : Edges} {back : Rows} → AreRows (swapped es) back → {a b : ℕ} → Walk back a b → Reach es b a
to_back r rest = stay
to_back {es} r (along {a} {b} {c} {i} e w) =
    let f = from_get_map (λ (e : ℕ × ℕ). (e.1, e.0)) es i (a, b) (r.from i a b e) in
    let p : a ≡ f.it.1 = ap (λ (q : ℕ × ℕ). q.0) f.is in
    let q : b ≡ f.it.0 = ap (λ (q : ℕ × ℕ). q.1) f.is in
    let edge : In (f.it.0, f.it.1) es = in_from_get es i f.it f.at in
    join (to_back r w) (subst (λ z. Reach es b z) (sym p) (subst (λ z. Reach es z f.it.1) (sym q) (go edge stay)))

pub ranks_hold : (es : Edges) (n : ℕ) (rows back : Rows) (ranks roots : List ℕ) → AreRows es rows → AreRows (swapped es) back → length ranks ≡ n → ((x : ℕ) → x < length ranks → rank ranks x < n)
    → ((a c : ℕ) → In (a, c) es → rank ranks a ≤ rank ranks c) → AreFromRoots rows ranks roots → AreFromRoots back ranks roots → AreRanks es n ranks
ranks_hold es n rows back ranks roots r s l b u f g = record {
  long = l;
  below = λ x h. b x (omega arith);
  rises = u;
  joined = λ x y h i e. join (to_back s (g x (omega arith))) (subst (λ z. Reach es (rank roots z) y) (sym e) (to_reach r (f y (omega arith))));
}

pub none_flagged : (m : ℕ) (flags : List Bool) (x : ℕ) → flags ≡ replicate m false → slice_get flags x ≡ Some true → ⊥
none_flagged m flags x e h = go' m x (subst (λ z. slice_get z x ≡ Some true) e h)
  where
    go' : (k y : ℕ) → slice_get (replicate k false) y ≡ Some true → ⊥
    go' zero y g = cc
    go' (suc k) zero g = cc
    go' (suc k) (suc y) g = go' k y g

pub rise_more : (ts : List (ℕ × ℕ)) (e : ℕ × ℕ) (ranks : List ℕ) → ((a c : ℕ) → In (a, c) ts → rank ranks a ≤ rank ranks c) → rank ranks e.0 ≤ rank ranks e.1 → (a c : ℕ) → In (a, c) (ts ++ e ∷ []) → rank ranks a ≤ rank ranks c
rise_more ts e ranks r l a c i = ⊎_elim (λ j. r a c j)
    (λ j. let p : a ≡ e.0 = ap (λ (q : ℕ × ℕ). q.0) (in_one j) in let q : c ≡ e.1 = ap (λ (q : ℕ × ℕ). q.1) (in_one j) in rw (p, q) l)
    (in_parts ts i)

pub within_swapped : (es : Edges) (n : ℕ) → AreWithin n es → AreWithin n (swapped es)
within_swapped es n w = λ a c i.
    let f = from_map (λ (e : ℕ × ℕ). (e.1, e.0)) es i in
    let v = w f.it.0 f.it.1 f.inside in
    let x : a ≡ f.it.1 = ap (λ (p : ℕ × ℕ). p.0) f.is in
    let y : c ≡ f.it.0 = ap (λ (p : ℕ × ℕ). p.1) f.is in
    (subst (λ z. z < n) (sym x) v.1, subst (λ z. z < n) (sym y) v.0)

pub within_more : (ts : List (ℕ × ℕ)) (e : ℕ × ℕ) (n : ℕ) → AreWithin n ts → e.0 < n → e.1 < n → AreWithin n (ts ++ e ∷ [])
within_more ts e n w l m = λ a c i. ⊎_elim (λ j. w a c j)
    (λ j. let p : a ≡ e.0 = ap (λ (q : ℕ × ℕ). q.0) (in_one j) in let q : c ≡ e.1 = ap (λ (q : ℕ × ℕ). q.1) (in_one j) in (subst (λ z. z < n) (sym p) l, subst (λ z. z < n) (sym q) m))
    (in_parts ts i)
