-- Places in lists that grow, and clauses beside the IRIs of their frames.
use Rattle.std.proofs.Common.{◌≡◌, ℕ, zero, suc, ◌+◌, ◌-◌, ◌<◌, List, [], ◌∷◌, ◌++◌, Some, map, length, get_or, slice_get, take, refl, sym, ap, subst, ◌∙◌, arith, ⊎_elim}
use Rattle.std.proofs.lemmas.Option.{none-some, same_Some}
use Rattle.iri_map.specs.Id.{iri_of}
use Rattle.text_sets.specs.Sets.{In}
use Rattle.text_sets.proofs.SetLemmas.{In-append}
use Rattle.obo_frames.specs.declared.placed.Placed.{Placed}
use Rattle.obo_notes.proofs.LoopLemmas.{next_taken}
use Rattle.obo_to_owl.specs.inner.Rows.{AreIris, AreRead, Begins, EndsWith, clause_of}
use Rattle.obo_to_owl.specs.declared.rows.Row.{Row}

-- ---- places in a list that grows

pub get_before : {X : Type 0} (xs ys : List X) (at : ℕ) (x : X) → slice_get xs at ≡ Some x → slice_get (xs ++ ys) at ≡ Some x
get_before [] ys at x is = absurd (none-some x is)
get_before (z ∷ xs) ys zero x is = is
get_before (z ∷ xs) ys (suc at) x is = get_before xs ys at x is

pub get_last : {X : Type 0} (xs : List X) (x : X) → slice_get (xs ++ x ∷ []) (length xs) ≡ Some x
get_last [] x = refl
get_last (z ∷ xs) x = get_last xs x

pub length_last : {X : Type 0} (xs : List X) (x : X) → length (xs ++ x ∷ []) ≡ suc (length xs)
length_last [] x = refl
length_last (z ∷ xs) x = ap suc (length_last xs x)

head_is : {X : Type 0} (x y : X) (xs ys : List X) → x ∷ xs ≡ y ∷ ys → x ≡ y
head_is x y xs ys same = ap (head_of x) same
  where
    head_of : {X : Type 0} → X → List X → X
    head_of x [] = x
    head_of x (z ∷ zs) = z

tail_is : {X : Type 0} (x y : X) (xs ys : List X) → x ∷ xs ≡ y ∷ ys → xs ≡ ys
tail_is x y xs ys same = ap tail_of same
  where
    tail_of : {X : Type 0} → List X → List X
    tail_of [] = []
    tail_of (z ∷ zs) = zs

kept_places : {X Y : Type 0} (texts more : List X) (f : Y → X) (places : List ℕ) (ys : List Y) → map (slice_get texts) places ≡ map (λ y. Some (f y)) ys → map (slice_get (texts ++ more)) places ≡ map (λ y. Some (f y)) ys
kept_places texts more f [] ys is = is
kept_places texts more f (at ∷ places) [] is = let h = ap length is in absurd (omega (arith, h))
kept_places texts more f (at ∷ places) (y ∷ ys) is =
    let one = get_before texts more at (f y) (head_is (slice_get texts at) (Some (f y)) (map (slice_get texts) places) (map (λ y. Some (f y)) ys) is) in
    let rest = kept_places texts more f places ys (tail_is (slice_get texts at) (Some (f y)) (map (slice_get texts) places) (map (λ y. Some (f y)) ys) is) in
    λ i. one i ∷ rest i

map_last : {X Y : Type 0} (f : X → Y) (xs : List X) (x : X) → map f (xs ++ x ∷ []) ≡ map f xs ++ f x ∷ []
map_last f [] x = refl
map_last f (z ∷ xs) x = ap (λ ys. f z ∷ ys) (map_last f xs x)

-- one more clause, whose IRI stands last
pub AreIris-more : (space : List ℕ) (placed : List Placed) (at : ℕ) (one : Placed) (texts after : List (List ℕ)) (places next : List ℕ) (place : ℕ)
    → at < length placed → one ≡ get_or placed at one → AreIris space (take at placed) texts places → Begins texts after → EndsWith (iri_of one.id space) after → place ≡ length after - 1 → next ≡ places ++ place ∷ []
    → AreIris space (take (at + 1) placed) after next
AreIris-more space placed at one texts after places next place within is so_far begins ends last more =
    let f = λ (one : Placed). iri_of one.id space in
    let front = ends.0 in
    let kept = ap (λ ts. map (slice_get ts) places) begins.1 ∙ kept_places texts begins.0 f places (take at placed) so_far in
    let long = ap length ends.1 ∙ length_last front (f one) in
    let at_last : place ≡ length front = omega (arith, last, long) in
    let found : slice_get after place ≡ Some (f one) = ap (slice_get after) at_last ∙ ap (λ ts. slice_get ts (length front)) ends.1 ∙ get_last front (f one) in
    ap (map (slice_get after)) more
    ∙ map_last (slice_get after) places place
    ∙ (λ i. kept i ++ found i ∷ [])
    ∙ sym (map_last (λ one. Some (f one)) (take at placed) one)
    ∙ sym (ap (map (λ one. Some (f one))) (next_taken placed at one within is))

pub AreIris-length : (space : List ℕ) (placed : List Placed) (texts : List (List ℕ)) (places : List ℕ) → AreIris space placed texts places → length places ≡ length placed
AreIris-length space placed texts places are = sym (mapped_length (slice_get texts) places) ∙ ap length are ∙ mapped_length (λ (one : Placed). Some (iri_of one.id space)) placed
  where
    mapped_length : {X Y : Type 0} (f : X → Y) (xs : List X) → length (map f xs) ≡ length xs
    mapped_length f [] = refl
    mapped_length f (x ∷ xs) = ap suc (mapped_length f xs)

pub AreIris-at : (space : List ℕ) (placed : List Placed) (texts : List (List ℕ)) (places : List ℕ) (at : ℕ) (d : ℕ) (one : Placed) → AreIris space placed texts places → at < length placed → slice_get texts (get_or places at d) ≡ Some (iri_of (get_or placed at one).id space)
AreIris-at space placed texts [] at d one are within = let h = AreIris-length space placed texts [] are in absurd (omega (arith, h))
AreIris-at space [] texts (p ∷ places) at d one are within = absurd (omega arith)
AreIris-at space (z ∷ placed) texts (p ∷ places) zero d one are within = head_is (slice_get texts p) _ (map (slice_get texts) places) _ are
AreIris-at space (z ∷ placed) texts (p ∷ places) (suc at) d one are within =
    AreIris-at space placed texts places at d one (tail_is (slice_get texts p) _ (map (slice_get texts) places) _ are) (omega arith)

pub within-some : {X : Type 0} (xs : List X) (at : ℕ) (x : X) → slice_get xs at ≡ Some x → at < length xs
within-some [] at x is = absurd (none-some x is)
within-some (z ∷ xs) zero x is = omega arith
within-some (z ∷ xs) (suc at) x is = let h = within-some xs at x is in omega (arith, h)

pub get_at : {X : Type 0} (xs : List X) (at : ℕ) (d : X) → at < length xs → slice_get xs at ≡ Some (get_or xs at d)
get_at [] at d within = absurd (omega arith)
get_at (x ∷ xs) zero d within = refl
get_at (x ∷ xs) (suc at) d within = get_at xs at d (omega arith)

pub AreRows-more : (placed : List Placed) (at : ℕ) (rows after : List Row) (row : Row) → at < length placed → slice_get placed at ≡ Some (clause_of row) → map clause_of rows ≡ take at placed → after ≡ rows ++ row ∷ [] → map clause_of after ≡ take (at + 1) placed
AreRows-more placed at rows after row within is so_far more =
    let here = same_Some (clause_of row) (get_or placed at (clause_of row)) (sym is ∙ get_at placed at (clause_of row) within) in
    ap (map clause_of) more ∙ map_last clause_of rows row ∙ ap (λ xs. xs ++ clause_of row ∷ []) so_far ∙ sym (next_taken placed at (clause_of row) within here)

pub AreRead-more : (space : List ℕ) (rows after : List Row) (row : Row) → AreRead space rows → row.iri.now ≡ iri_of row.placed.now.id space → after ≡ rows ++ row ∷ [] → AreRead space after
AreRead-more space rows after row read is more other here =
    ⊎_elim (read other) (λ last. ⊎_elim (λ same. subst (λ (r : Row). r.iri.now ≡ iri_of r.placed.now.id space) same is) (λ none. absurd none) last) (In-append other rows (row ∷ []) (subst (In other) more here))

pub place-within : (space : List ℕ) (placed : List Placed) (texts : List (List ℕ)) (places : List ℕ) (at : ℕ) (d : ℕ) → AreIris space placed texts places → at < length placed → get_or places at d < length texts
place-within space [] texts places at d are within = absurd (omega arith)
place-within space (z ∷ placed) texts places at d are within =
    within-some texts (get_or places at d) _ (AreIris-at space (z ∷ placed) texts places at d z are within)

pub got : {X : Type 0} (xs : List X) (at : ℕ) (x : X) → slice_get xs at ≡ Some x → x ≡ get_or xs at x
got xs at x is = same_Some x (get_or xs at x) (sym is ∙ get_at xs at x (within-some xs at x is))
