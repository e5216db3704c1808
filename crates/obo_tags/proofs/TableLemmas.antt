-- What is told of all rows of the table is told of each.
use Rattle.std.proofs.Common.{◌≡◌, ℕ, zero, suc, ◌+◌, ◌<◌, ◌≤◌, add-one, arith, Bool, true, false, not, ◌&&◌, List, [], ◌∷◌, None, Option, Some, is_some, get_or, length, map, refl, sym, ap, ⊎_elim, ◌∙◌}
use Rattle.std.specs.Cmp.Lexicographic.{slice_cmp}
use Rattle.std.specs.List.{HoldsAt, list_all}
use Rattle.std.specs.List.Sorted.{IsPartitionPoint, IsSortedBy}
use Rattle.std.specs.Ordering.{is_eq, is_lt, nat_cmp}
use Rattle.std.specs.declared.cmp.Ordering.TheVariants.{Equal, Greater, Less}
use Rattle.std.specs.Str.{bytes_eq}
use Rattle.std.proofs.lemmas.Bool.{cases_lt, false≢true, or_cases}
use Rattle.std.proofs.lemmas.Map.Text.{is_eq-slice_cmp}
use Rattle.std.proofs.lemmas.Slice.Eq.{bytes_eq-Decides}
use Rattle.std.proofs.lemmas.List.{get_or-map, length-map}
use Rattle.obo_tags.specs.declared.kind.FrameKind.{FrameKind}
use Rattle.obo_tags.specs.declared.kind.ValueShape.TheVariants.{Raw}
use Rattle.obo_tags.specs.inner.Rows.{AreRows, Row, row_tags, rows-counted, tag_at}
use Rattle.obo_tags.specs.Table.{every_tag, is_among, is_known, place_of, shape_behind, shape_of, tags_of}

pub known-told : list_all is_known row_tags ≡ true
unfolding row_tags is_known tags_of
known-told = refl

pub each-told : list_all (is_among row_tags) every_tag ≡ true
unfolding row_tags tags_of
each-told = refl

-- there are as many rows as tags
pub rows-length : (rows : List Row) → AreRows rows → length rows ≡ 51
rows-length rows are = sym (length-map rows (λ (row : Row). row.0.now)) ∙ (ap length are.tags ∙ rows-counted)

-- what is told of all rows is told of one
pub told-at : {Y : Type 0} (pick : Row → Y) (said : List ℕ → Y) (rows : List Row) → AreRows rows → map pick rows ≡ map said row_tags → (i : ℕ) (d : Row) → i < 51 → pick (get_or rows i d) ≡ said (tag_at i)
told-at pick said rows are told i d within =
    let in_rows : i < length rows = rw (rows-length rows are) within in
    let in_tags : i < length row_tags = rw rows-counted within in
    sym (get_or-map pick rows i d (pick d) in_rows) ∙ (ap (λ l. get_or l i (pick d)) told ∙ get_or-map said row_tags i [] (pick d) in_tags)

-- the rank in a row, for the tag of the row and a kind
pub rank-at : (pick : Row → Option ℕ) (kind at : FrameKind) (tag : List ℕ) (rows : List Row) → AreRows rows → map pick rows ≡ map (place_of at) row_tags → (i row : ℕ) (d : Row) → i ≡ row → row < 51 → tag_at row ≡ tag → kind ≡ at → pick (get_or rows i d) ≡ place_of kind tag
rank-at pick kind at tag rows are told i row d e within is same =
    told-at pick (place_of at) rows are told i d (omega (arith, e, within)) ∙ (ap (λ n. place_of at (tag_at n)) e ∙ (ap (place_of at) is ∙ ap (λ k. place_of k tag) (sym same)))

-- the tag of a row
pub tag-at : (rows : List Row) → AreRows rows → (i : ℕ) (d : Row) → i < 51 → (get_or rows i d).0.now ≡ tag_at i
tag-at rows are i d within =
    let in_rows : i < length rows = rw (rows-length rows are) within in
    sym (get_or-map (λ (row : Row). row.0.now) rows i d [] in_rows) ∙ ap (λ l. get_or l i []) are.tags

-- the order of the rows

-- whether no tag is below the one before it
abbrev pub is_sorted : List (List ℕ) → Bool
is_sorted [] = true
is_sorted (x ∷ []) = true
is_sorted (x ∷ y ∷ tags) = not (is_lt (slice_cmp nat_cmp y x)) && is_sorted (y ∷ tags)

sorted-told : is_sorted row_tags ≡ true
unfolding row_tags
sorted-told = refl

and_true : (a b : Bool) → (a && b) ≡ true → (a ≡ true) × (b ≡ true)
and_true true b h = (refl, h)
and_true false b h = cc

not_true : (a : Bool) → not a ≡ true → a ≡ false
not_true true h = cc
not_true false h = refl

sorted-at : (tags : List (List ℕ)) → is_sorted tags ≡ true → (k : ℕ) → suc k < length tags → is_lt (slice_cmp nat_cmp (get_or tags (suc k) []) (get_or tags k [])) ≡ false
sorted-at [] h k within = absurd (omega arith)
sorted-at (x ∷ []) h k within = absurd (omega arith)
sorted-at (x ∷ y ∷ tags) h zero within = not_true _ (and_true (not (is_lt (slice_cmp nat_cmp y x))) _ h).0
sorted-at (x ∷ y ∷ tags) h (suc k) within =
    sorted-at (y ∷ tags) (and_true (not (is_lt (slice_cmp nat_cmp y x))) _ h).1 k (omega arith)

pub rows-sorted : (rows : List Row) → AreRows rows → IsSortedBy (λ (a b : Row). is_lt (slice_cmp nat_cmp a.0.now b.0.now)) rows
rows-sorted rows are k d low within =
    let count = rows-length rows are in
    let next : k + 1 < 51 = omega arith in
    let here : k < 51 = omega arith in
    let listed : suc k < length row_tags = omega (arith, rows-counted) in
    rw (tag-at rows are (k + 1) d next, tag-at rows are k d here, add-one) (sorted-at row_tags sorted-told k listed)

-- what a search of the rows finds

bytes_same : (xs ys : List ℕ) → bytes_eq xs ys ≡ true → xs ≡ ys
bytes_same xs ys h = (bytes_eq-Decides xs ys).0 h

all-at : (p : List ℕ → Bool) (tags : List (List ℕ)) → list_all p tags ≡ true → (i : ℕ) → i < length tags → p (get_or tags i []) ≡ true
all-at p [] h i within = absurd (omega arith)
all-at p (tag ∷ tags) h zero within = (and_true (p tag) _ h).0
all-at p (tag ∷ tags) h (suc i) within = all-at p tags (and_true (p tag) _ h).1 i (omega arith)

-- any row, to read past the end of the table
abbrev no_row : Row
no_row = (record { ref_ptr = (0, 0); now = [] }, Raw, None, None, None, None)

pub found-at : (rows : List Row) → AreRows rows → (i : ℕ) (name : List ℕ) → i < 51 → HoldsAt (λ (row : Row). slice_cmp nat_cmp row.0.now name ≡ Equal) rows i → (is_known name ≡ true) × (tag_at i ≡ name)
found-at rows are i name within h =
    let same : slice_cmp nat_cmp (tag_at i) name ≡ Equal = ap (λ tag. slice_cmp nat_cmp tag name) (sym (tag-at rows are i no_row within)) ∙ h no_row in
    let is = bytes_same (tag_at i) name (sym (is_eq-slice_cmp (tag_at i) name) ∙ ap is_eq same) in
    let listed : i < length row_tags = rw rows-counted within in
    (sym (ap is_known is) ∙ all-at is_known row_tags known-told i listed, is)

-- what holds of all tags of a list holds of a name that is among them
pub among-has : (p : List ℕ → Bool) (tags : List (List ℕ)) (name : List ℕ) → list_all p tags ≡ true → is_among tags name ≡ true → p name ≡ true
among-has p [] name all h = cc
among-has p (tag ∷ tags) name all h =
    ⊎_elim (λ e. sym (ap p (bytes_same tag name e)) ∙ (and_true (p tag) _ all).0) (λ later. among-has p tags name (and_true (p tag) _ all).1 later) (or_cases (bytes_eq tag name) (is_among tags name) h)

known-among : (name : List ℕ) → is_known name ≡ true → is_among row_tags name ≡ true
unfolding is_known
known-among name h = among-has (is_among row_tags) every_tag name each-told h

-- a name that no place has is not among the tags
apart : (tags : List (List ℕ)) (name : List ℕ) → ((k : ℕ) → k < length tags → bytes_eq (get_or tags k []) name ≡ false) → is_among tags name ≡ false
apart [] name h = refl
apart (tag ∷ tags) name h =
    let first : bytes_eq tag name ≡ false = h 0 (omega arith) in
    rw first (apart tags name (λ k l. h (suc k) (omega arith)))

pub none-found : (rows : List Row) → AreRows rows → (i : ℕ) (name : List ℕ) → i ≤ 51 → IsPartitionPoint (λ (row : Row). slice_cmp nat_cmp row.0.now name ≡ Less) (λ (row : Row). slice_cmp nat_cmp row.0.now name ≡ Greater) rows i → is_known name ≡ true → ⊥
none-found rows are i name within parts known =
    let count = rows-length rows are in
    let differs : (k : ℕ) → k < length row_tags → bytes_eq (get_or row_tags k []) name ≡ false = λ k listed.
    let in_rows : k < 51 = omega (arith, rows-counted) in
    let tag = tag-at rows are k no_row in_rows in
    let test = sym (is_eq-slice_cmp (tag_at k) name) in
    ⊎_elim (λ low. test ∙ (sym (ap (λ t. is_eq (slice_cmp nat_cmp t name)) tag) ∙ ap is_eq (parts.0 k no_row (omega arith) low))) (λ high. test ∙ (sym (ap (λ t. is_eq (slice_cmp nat_cmp t name)) tag) ∙ ap is_eq (parts.1 k no_row high (omega arith)))) (cases_lt k i) in
    false≢true (sym (apart row_tags name differs) ∙ known-among name known)

-- the shape in a row, for the tag of the row
pub shape-at : (tag : List ℕ) (rows : List Row) → AreRows rows → (i row : ℕ) (d : Row) → i ≡ row → row < 51 → tag_at row ≡ tag → (get_or rows i d).1 ≡ shape_of tag
shape-at tag rows are i row d e within is =
    told-at (λ (r : Row). r.1) shape_of rows are are.shapes i d (omega (arith, e, within)) ∙ (ap (λ n. shape_of (tag_at n)) e ∙ ap shape_of is)

-- a tag that is not foreign has its own shape
pub shape_behind-known : (kind : FrameKind) (tag : Option (List ℕ)) (one : List ℕ) → tag ≡ Some one → is_some (place_of kind one) ≡ true → shape_of one ≡ shape_behind kind tag
shape_behind-known kind tag one e h = rw e (rw h refl)
