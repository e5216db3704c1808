-- What is marked and covered, one candidate after the other.
use Rattle.std.proofs.Common.{◌≡◌, ℕ, ◌<◌, Bool, true, false, List, [], ◌∷◌, ◌++◌, length, slice_set, refl, sym, ap, subst, ◌∙◌, ⊎_elim, inl, inr, length-set, if◌then◌else◌}
use Rattle.std.specs.List.Sorted.{IsPermutation}
use Rattle.direct_above.proofs.OrderLemmas.{strict_on}
use Rattle.direct_above.specs.Direct.{Rows, IsPreorder}
use Rattle.direct_above.specs.inner.Marks.{IsShorter, IsStrict, MarksAbove, AreCandidates, Picks, IsDone, IsCovered, IsGoing, MarksAll}
use Rattle.fact_rows.proofs.Members.{in_left, in_right, in_none, in_parts, in_one}
use Rattle.fact_rows.specs.Marks.{IsFlagged, IsMarked}
use Rattle.fact_rows.specs.Member.{In, here}
use Rattle.fact_rows.specs.Rows.{row}
use Rattle.fact_rows.proofs.MarkLemmas.{mark_kept, mark_only, mark_set}
use Rattle.fact_rows.proofs.Members.{in_permuted, in_unpermuted}

module _ {rows : Rows} {s x : ℕ} where
  pub above_none : (seen covered : List ℕ) → MarksAbove rows s x [] seen covered seen covered
  above_none seen covered = record { long = refl; covers_long = refl; kept = λ b h. h; only = λ t b h. inl h; each = λ b i. in_none i; covers_only = λ t b h. inl h }

  pub above_more : (bs : List ℕ) (b : ℕ) (on : Bool) (seen covered mid cmid new covers : List ℕ) → MarksAbove rows s x bs seen covered mid cmid → b < length mid → b < length cmid
      → (on ≡ true → IsShorter rows b x) → (IsShorter rows b x → on ≡ true) → new ≡ (if on then slice_set mid b s else mid) → covers ≡ slice_set cmid b s → MarksAbove rows s x (bs ++ b ∷ []) seen covered new covers
  above_more bs b true seen covered mid cmid new covers m l k f g e h = record {
    long = ap length e ∙ length-set mid b s ∙ m.long;
    covers_long = ap length h ∙ length-set cmid b s ∙ m.covers_long;
    kept = λ d i. mark_kept mid new s b d e l (m.kept d i);
    only = λ t d i. ⊎_elim
        (λ o. ⊎_elim inl (λ (p : (t ≡ s) × In d bs × IsShorter rows d x). inr (p.0, in_left (b ∷ []) p.1, p.2)) (m.only t d o))
        (λ (p : (t ≡ s) × (d ≡ b)). inr (p.0, subst (λ z. In z (bs ++ b ∷ [])) (sym p.1) (in_right bs here), subst (λ z. IsShorter rows z x) (sym p.1) (f refl)))
        (mark_only mid new s b t d e l i);
    each = λ d i q. ⊎_elim (λ o. mark_kept mid new s b d e l (m.each d o q)) (λ o. subst (IsMarked new s) (sym (in_one o)) (mark_set mid new s b e l)) (in_parts bs i);
    covers_only = λ t d i. ⊎_elim
        (λ o. ⊎_elim inl (λ (p : (t ≡ s) × In d bs). inr (p.0, in_left (b ∷ []) p.1)) (m.covers_only t d o))
        (λ (p : (t ≡ s) × (d ≡ b)). inr (p.0, subst (λ z. In z (bs ++ b ∷ [])) (sym p.1) (in_right bs here)))
        (mark_only cmid covers s b t d h k i);
  }
  above_more bs b false seen covered mid cmid new covers m l k f g e h = record {
    long = ap length e ∙ m.long;
    covers_long = ap length h ∙ length-set cmid b s ∙ m.covers_long;
    kept = λ d i. subst (λ z. IsMarked z s d) (sym e) (m.kept d i);
    only = λ t d i. ⊎_elim inl (λ (p : (t ≡ s) × In d bs × IsShorter rows d x). inr (p.0, in_left (b ∷ []) p.1, p.2)) (m.only t d (subst (λ z. IsMarked z t d) e i));
    each = λ d i q. subst (λ z. IsMarked z s d) (sym e) (⊎_elim (λ o. m.each d o q) (λ o. let z : false ≡ true = g (subst (λ w. IsShorter rows w x) (in_one o) q) in cc) (in_parts bs i));
    covers_only = λ t d i. ⊎_elim
        (λ o. ⊎_elim inl (λ (p : (t ≡ s) × In d bs). inr (p.0, in_left (b ∷ []) p.1)) (m.covers_only t d o))
        (λ (p : (t ≡ s) × (d ≡ b)). inr (p.0, subst (λ z. In z (bs ++ b ∷ [])) (sym p.1) (in_right bs here)))
        (mark_only cmid covers s b t d h k i);
  }

module _ (rows : Rows) (o : IsPreorder rows) (s : ℕ) where
  pub going_none : (old covers_old : List ℕ) → ((b : ℕ) → IsMarked old s b → ⊥) → ((b : ℕ) → IsMarked covers_old s b → ⊥) → IsGoing rows s [] old covers_old old covers_old
  going_none old covers_old n m = record {
    long = refl;
    covers_long = refl;
    marked = λ b h. absurd (n b h);
    done = λ k x i. in_none i;
    covers = λ b h. absurd (m b h);
    others = λ t b h. inr h;
    covers_others = λ t b h. inr h;
  }

  more_done : (xs : List (ℕ × ℕ)) (p : ℕ × ℕ) (b : ℕ) → IsDone rows b xs → IsDone rows b (xs ++ p ∷ [])
  more_done xs p b d = record { key = d.key; it = d.it; inside = in_left (p ∷ []) d.inside; high = d.high }

  more_covered : (xs : List (ℕ × ℕ)) (p : ℕ × ℕ) (b : ℕ) → IsCovered rows b xs → IsCovered rows b (xs ++ p ∷ [])
  more_covered xs p b d = record { key = d.key; it = d.it; inside = in_left (p ∷ []) d.inside; above = d.above }

  pub going_skip : (k x : ℕ) (xs : List (ℕ × ℕ)) (old covers_old seen covered : List ℕ) → IsMarked covered s x → IsGoing rows s xs old covers_old seen covered → IsGoing rows s (xs ++ (k, x) ∷ []) old covers_old seen covered
  going_skip k x xs old covers_old seen covered h g = record {
    long = g.long;
    covers_long = g.covers_long;
    marked = λ b i. more_done xs (k, x) b (g.marked b i);
    done = λ j y i b t. ⊎_elim
        (λ m. g.done j y m b t)
        (λ m.
        let e : y ≡ x = ap (λ (p : ℕ × ℕ). p.1) (in_one m) in
        let c = g.covers x h in
        g.done c.key c.it c.inside b (strict_on rows o c.it x b c.above (subst (λ z. IsStrict rows z b) e t)))
        (in_parts xs i);
    covers = λ b i. more_covered xs (k, x) b (g.covers b i);
    others = g.others;
    covers_others = g.covers_others;
  }

  pub going_on : (k x : ℕ) (xs : List (ℕ × ℕ)) (old covers_old seen covered new covers : List ℕ) → MarksAbove rows s x (row rows x) seen covered new covers → IsGoing rows s xs old covers_old seen covered → IsGoing rows s (xs ++ (k, x) ∷ []) old covers_old new covers
  going_on k x xs old covers_old seen covered new covers m g = record {
    long = m.long ∙ g.long;
    covers_long = m.covers_long ∙ g.covers_long;
    marked = λ b i. ⊎_elim
        (λ q. more_done xs (k, x) b (g.marked b q))
        (λ (p : (s ≡ s) × In b (row rows x) × IsShorter rows b x). record { key = k; it = x; inside = in_right xs here; high = record { above = p.1; shorter = p.2 } })
        (m.only s b i);
    done = λ j y i b t. ⊎_elim
        (λ q. m.kept b (g.done j y q b t))
        (λ q. let e : y ≡ x = ap (λ (p : ℕ × ℕ). p.1) (in_one q) in let u = subst (λ z. IsStrict rows z b) e t in m.each b u.above u.shorter)
        (in_parts xs i);
    covers = λ b i. ⊎_elim
        (λ q. more_covered xs (k, x) b (g.covers b q))
        (λ (p : (s ≡ s) × In b (row rows x)). record { key = k; it = x; inside = in_right xs here; above = p.1 })
        (m.covers_only s b i);
    others = λ t b i. ⊎_elim (λ q. g.others t b q) (λ (p : (t ≡ s) × In b (row rows x) × IsShorter rows b x). inl p.0) (m.only t b i);
    covers_others = λ t b i. ⊎_elim (λ q. g.covers_others t b q) (λ (p : (t ≡ s) × In b (row rows x)). inl p.0) (m.covers_only t b i);
  }

module _ {rows : Rows} {classes : List Bool} {a : ℕ} where
  pub picks_none : Picks rows classes a [] []
  picks_none = record { on = λ k x i. in_none i; each = λ x c i. in_none i }

  pub picks_more : (ys : List ℕ) (y k : ℕ) (on : Bool) (xs new : List (ℕ × ℕ)) → Picks rows classes a ys xs → (on ≡ true → IsFlagged classes y × IsShorter rows y a) → (IsFlagged classes y → IsShorter rows y a → on ≡ true) → new ≡ (if on then xs ++ (k, y) ∷ [] else xs) → Picks rows classes a (ys ++ y ∷ []) new
  picks_more ys y k true xs new p f g e = record {
    on = λ j x i. ⊎_elim
        (λ q. let r = p.on j x q in (r.0, in_left (y ∷ []) r.1, r.2))
        (λ q. let n : x ≡ y = ap (λ (z : ℕ × ℕ). z.1) (in_one q) in subst (λ z. IsFlagged classes z × In z (ys ++ y ∷ []) × IsShorter rows z a) (sym n) ((f refl).0, in_right ys here, (f refl).1))
        (in_parts xs (subst (λ z. In {A = ℕ × ℕ} (j, x) z) e i));
    each = λ x c i l. ⊎_elim
        (λ q. let r = p.each x c q l in (r.0, subst (λ z. In {A = ℕ × ℕ} (r.0, x) z) (sym e) (in_left ((k, y) ∷ []) r.1)))
        (λ q. (k, subst (λ z. In {A = ℕ × ℕ} (k, x) z) (sym e) (subst (λ z. In {A = ℕ × ℕ} (k, z) (xs ++ (k, y) ∷ [])) (sym (in_one q)) (in_right xs here))))
        (in_parts ys i);
  }
  picks_more ys y k false xs new p f g e = record {
    on = λ j x i. let r = p.on j x (subst (λ z. In {A = ℕ × ℕ} (j, x) z) e i) in (r.0, in_left (y ∷ []) r.1, r.2);
    each = λ x c i l. ⊎_elim
        (λ q. let r = p.each x c q l in (r.0, subst (λ z. In {A = ℕ × ℕ} (r.0, x) z) (sym e) r.1))
        (λ q. let z : false ≡ true = g (subst (IsFlagged classes) (in_one q) c) (subst (λ w. IsShorter rows w a) (in_one q) l) in cc)
        (in_parts ys i);
  }

  pub to_candidates : (xs : List (ℕ × ℕ)) → Picks rows classes a (row rows a) xs → AreCandidates rows classes a xs
  to_candidates xs p = record {
    on = λ k x i. let r = p.on k x i in record { is_class = r.0; strict = record { above = r.1; shorter = r.2 } };
    each = λ x c. p.each x c.is_class c.strict.above c.strict.shorter;
  }

pub candidates_moved : {rows : Rows} {classes : List Bool} {a : ℕ} (xs ys : List (ℕ × ℕ)) → IsPermutation xs ys → AreCandidates rows classes a xs → AreCandidates rows classes a ys
candidates_moved xs ys p c = record {
  on = λ k x i. c.on k x (in_unpermuted xs ys p (k, x) i);
  each = λ x d. let r = c.each x d in (r.0, in_permuted xs ys p (r.0, x) r.1);
}

pub all_none : (s : ℕ) (old : List ℕ) → MarksAll s [] old old
all_none s old = record { long = refl; kept = λ b h. h; only = λ t b h. inl h; each = λ b i. in_none i }

pub all_more : (s : ℕ) (bs : List ℕ) (b : ℕ) (old mid new : List ℕ) → MarksAll s bs old mid → b < length mid → new ≡ slice_set mid b s → MarksAll s (bs ++ b ∷ []) old new
all_more s bs b old mid new m l e = record {
  long = ap length e ∙ length-set mid b s ∙ m.long;
  kept = λ d h. mark_kept mid new s b d e l (m.kept d h);
  only = λ t d h. ⊎_elim
      (λ o. ⊎_elim inl (λ (p : (t ≡ s) × In d bs). inr (p.0, in_left (b ∷ []) p.1)) (m.only t d o))
      (λ (p : (t ≡ s) × (d ≡ b)). inr (p.0, subst (λ z. In z (bs ++ b ∷ [])) (sym p.1) (in_right bs here)))
      (mark_only mid new s b t d e l h);
  each = λ d i. ⊎_elim (λ o. mark_kept mid new s b d e l (m.each d o)) (λ o. subst (IsMarked new s) (sym (in_one o)) (mark_set mid new s b e l)) (in_parts bs i);
}
