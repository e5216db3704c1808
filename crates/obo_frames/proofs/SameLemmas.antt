-- What documents say, and what is asked of them, goes by their clauses without the lines.
use Rattle.std.proofs.Common.{◌≡◌, ◌⊎◌, inl, inr, ⊎_elim, ℕ, Bool, true, false, not, ◌&&◌, ◌||◌, List, [], ◌∷◌, ◌++◌, Option, None, Some, ap, codes, cond, map, refl, subst, sym, ◌∙◌}
use Rattle.std.specs.Prelude.{filter}
use Rattle.std.specs.Cmp.{tied_itself}
use Rattle.std.specs.Cmp.Lexicographic.{nat_list_cmp_total, slice_cmp}
use Rattle.std.specs.FinMap.{nat_cmp-IsAntisymmetric, slice_cmp-IsAntisymmetric}
use Rattle.std.specs.List.{list_any}
use Rattle.std.specs.Option.{option_map}
use Rattle.std.specs.Ordering.{is_lt, nat_cmp, ordering_reverse}
use Rattle.std.specs.declared.cmp.Ordering.{Ordering}
use Rattle.std.specs.declared.cmp.Ordering.TheVariants.{Equal, Greater, Less}
use Rattle.std.specs.Str.{bytes_eq}
use Rattle.std.proofs.Math.Logic.{∥∥₁_map}
use Rattle.std.proofs.lemmas.Option.{none-some, same_Some}
use Rattle.text_sets.specs.Sets.{In, SameMembers}
use Rattle.text_sets.proofs.PartLemmas.{option_map_some}
use Rattle.text_sets.proofs.SetLemmas.{In-filter_map, In-from_contains, In-from_filter_map, In-from_map, In-map, contains-from_In, same_filter_map, same_sym}
use Rattle.iri_map.specs.Id.{iri_of}
use Rattle.iri_map.specs.Ontology.{name_or_temp, normalised}
use Rattle.obo_tags.specs.declared.kind.FrameKind.{FrameKind}
use Rattle.obo_clause.specs.Spelled.{IsSpelledIn}
use Rattle.obo_clause.specs.declared.clause.Clause.{Clause}
use Rattle.obo_frames.specs.Framed.{Framed, SameClauses, unlined}
use Rattle.obo_frames.specs.Groups.{differs, expression_of, is_term, operand_in, operand_with, operands_in, same_expression, short_in, short_lines_of}
use Rattle.obo_frames.specs.Laws.{IsLeastName, NameIsLeast, SameClausesSayTheSame}
use Rattle.obo_frames.specs.Naming.{least_text, lesser_text, name_of, names_in, ontology_in, space_of}
use Rattle.obo_frames.specs.Soundness.{GivesId, HasNoShortGroup, IsKept}
use Rattle.obo_frames.specs.declared.groups.Operand.{Operand}
use Rattle.obo_frames.specs.declared.placed.Placed.{Placed}

-- the same clause in the same frame
record IsTwin (one other : Placed) : Type 0 where
  frame : one.frame ≡ other.frame
  id : one.id ≡ other.id
  clause : one.clause ≡ other.clause

-- each of some clauses has a twin among others
abbrev HaveTwins : List Placed → List Placed → Type 0
HaveTwins placed others = (one : Placed) → In one placed → (other : Placed) × In other others × IsTwin one other

-- clauses of which nothing but the lines differs are twins
twins : (some others : List Placed) → SameClauses some others → HaveTwins some others
twins some others same one here =
    let found = In-from_map unlined (unlined one) others ((same (unlined one)).0 (In-map unlined one some here)) in (
      found.0,
      found.1,
      record {
        frame = ap (λ (f : Framed). f.frame) (sym found.2);
        id = ap (λ (f : Framed). f.id) (sym found.2);
        clause = ap (λ (f : Framed). f.clause) (sym found.2);
      },
    )

-- ---- lists of answers

any_at : {X : Type 0} (test : X → Bool) (x : X) (xs : List X) → In x xs → test x ≡ true → list_any test xs ≡ true
any_at test x [] here is = absurd here
any_at test x (y ∷ xs) (inl same) is = ap (λ b. b || list_any test xs) (ap test same ∙ is)
any_at test x (y ∷ xs) (inr later) is =
    let rest = any_at test x xs later is in
    elim (test y) as (λ b. (b || list_any test xs) ≡ true) [
      | true ↦ refl
      | false ↦ rest
    ]

from_any : {X : Type 0} (test : X → Bool) (xs : List X) → list_any test xs ≡ true → (x : X) × In x xs × (test x ≡ true)
from_any test [] is = let no : false ≡ true = is in absurd (cc)
from_any test (y ∷ xs) is =
    elim (test y) as (λ b. test y ≡ b → (b || list_any test xs) ≡ true → (x : _) × In x (y ∷ xs) × (test x ≡ true)) [
      | true ↦ λ here any. (y, inl refl, here)
      | false ↦ λ none any. (let found = from_any test xs any in (found.0, inr found.1, found.2))
    ] refl is

-- nothing passes where the images of what passes are none
none_pass : {X Y : Type 0} (test : X → Bool) (f : X → Y) (xs : List X) → map f (filter test xs) ≡ [] → (x : X) → In x xs → test x ≡ false
none_pass test f [] none x here = absurd here
none_pass test f (y ∷ xs) none x here =
    elim (test y) as (λ b. test y ≡ b → map f (cond b (y ∷ filter test xs) (filter test xs)) ≡ [] → test x ≡ false) [
      | true ↦ λ passes is. absurd (cc)
      | false ↦ λ fails is. ⊎_elim (λ same. sym (ap test same) ∙ fails) (λ later. none_pass test f xs is x later) here
    ] refl none

pass_none : {X Y : Type 0} (test : X → Bool) (f : X → Y) (xs : List X) → ((x : X) → In x xs → test x ≡ false) → map f (filter test xs) ≡ []
pass_none test f [] none = refl
pass_none test f (y ∷ xs) none =
    ap (λ b. map f (cond b (y ∷ filter test xs) (filter test xs))) (none y (inl refl)) ∙ pass_none test f xs (λ x later. none x (inr later))

-- ---- the least text

abbrev cmp : List ℕ → List ℕ → Ordering
cmp = slice_cmp nat_cmp

abbrev AtMost : List ℕ → List ℕ → Type 0
AtMost low high = cmp high low ≡ Less → ⊥

same_texts : (one other : List ℕ) → cmp one other ≡ Equal → one ≡ other
same_texts one other is = slice_cmp-IsAntisymmetric nat_cmp-IsAntisymmetric one other is

at_most_itself : (text : List ℕ) → AtMost text text
at_most_itself text less = let no : Equal ≡ Less = sym (tied_itself nat_list_cmp_total text) ∙ less in absurd (cc)

back_less : (one other : List ℕ) → cmp one other ≡ Greater → cmp other one ≡ Less
back_less one other greater = nat_list_cmp_total.antisymm other one ∙ ap ordering_reverse greater

at_most_less : (one other : List ℕ) → cmp one other ≡ Less → AtMost one other
at_most_less one other less back = at_most_itself one (nat_list_cmp_total.trans one other one less back)

at_most_then : (a b c : List ℕ) → AtMost a b → AtMost b c → AtMost a c
at_most_then a b c low high less =
    elim (cmp b a) as (λ o. cmp b a ≡ o → ⊥) [
      | Less ↦ λ is. low is
      | Equal ↦ λ is. high (subst (λ x. cmp c x ≡ Less) (sym (same_texts b a is)) less)
      | Greater ↦ λ is. high (nat_list_cmp_total.trans c a b less (back_less b a is))
    ] refl

at_most_both : (a b : List ℕ) → AtMost a b → AtMost b a → a ≡ b
at_most_both a b low high =
    elim (cmp a b) as (λ o. cmp a b ≡ o → a ≡ b) [
      | Less ↦ λ is. absurd (high is)
      | Equal ↦ λ is. same_texts a b is
      | Greater ↦ λ is. absurd (low (back_less a b is))
    ] refl

record IsLeastText (best : List ℕ) (texts : List (List ℕ)) (least : List ℕ) : Type 0 where
  one_of : (best ≡ least) ⊎ In least texts
  low : AtMost least best
  all : (text : List ℕ) → In text texts → AtMost least text

record IsLesser (best text least : List ℕ) : Type 0 where
  one_of : (best ≡ least) ⊎ (text ≡ least)
  best_above : AtMost least best
  text_above : AtMost least text

lesser_is : (best text : List ℕ) → IsLesser best text (lesser_text (Some best) text)
lesser_is best text =
    elim (cmp text best) as (λ o. cmp text best ≡ o → IsLesser best text (cond (is_lt o) text best)) [
      | Less ↦ λ is. record { one_of = inr refl; best_above = at_most_less text best is; text_above = at_most_itself text }
      | Equal ↦ λ is. record { one_of = inl refl; best_above = at_most_itself best; text_above = λ less. (let no : Equal ≡ Less = sym is ∙ less in absurd (cc)) }
      | Greater ↦ λ is. record { one_of = inl refl; best_above = at_most_itself best; text_above = λ less. (let no : Greater ≡ Less = sym is ∙ less in absurd (cc)) }
    ] refl

least_found : (best : List ℕ) (texts : List (List ℕ)) → (least : List ℕ) × (least_text (Some best) texts ≡ Some least) × IsLeastText best texts least
least_found best [] = (best, refl, record { one_of = inl refl; low = at_most_itself best; all = λ text none. absurd none })
least_found best (text ∷ texts) =
    let lesser = lesser_is best text in
    let next = lesser_text (Some best) text in
    let found = least_found next texts in
    let least = found.0 in
    let is = found.2 in (
      least,
      found.1,
      record {
        one_of = ⊎_elim (λ same. ⊎_elim (λ a. inl (a ∙ same)) (λ b. inr (inl (b ∙ same))) lesser.one_of) (λ later. inr (inr later)) is.one_of;
        low = at_most_then least next best is.low lesser.best_above;
        all = λ other among. ⊎_elim (λ same. subst (AtMost least) same (at_most_then least next text is.low lesser.text_above)) (λ later. is.all other later) among;
      },
    )

-- of all the texts
record IsLeastOf (texts : List (List ℕ)) (least : List ℕ) : Type 0 where
  among : In least texts
  all : (text : List ℕ) → In text texts → AtMost least text

least_of : (text : List ℕ) (texts : List (List ℕ)) → (least : List ℕ) × (least_text None (text ∷ texts) ≡ Some least) × IsLeastOf (text ∷ texts) least
least_of text texts =
    let found = least_found text texts in
    let is = found.2 in (
      found.0,
      found.1,
      record {
        among = is.one_of;
        all = λ other among. ⊎_elim (λ same. subst (AtMost found.0) same is.low) (λ later. is.all other later) among;
      },
    )

same_least : (texts others : List (List ℕ)) → ((t : List ℕ) → In t texts → In t others) → ((t : List ℕ) → In t others → In t texts) → least_text None texts ≡ least_text None others
same_least [] [] to back = refl
same_least [] (t ∷ others) to back = absurd (back t (inl refl))
same_least (t ∷ texts) [] to back = absurd (to t (inl refl))
same_least (t ∷ texts) (u ∷ others) to back =
    let one = least_of t texts in
    let two = least_of u others in
    one.1 ∙ ap Some (at_most_both one.0 two.0 (one.2.all two.0 (back two.0 two.2.among)) (two.2.all one.0 (to one.0 one.2.among))) ∙ sym two.1

-- ---- the name

pub same_name : (some others : List Framed) → SameMembers some others → name_of some ≡ name_of others
same_name some others same =
    let names = same_filter_map (λ (one : Framed). option_map normalised (ontology_in one.frame one.clause)) some others same in
    same_least (names_in some) (names_in others) (λ t. (names t).0) (λ t. (names t).1)

-- the least of no names, and of some
least_name : (names : List (List ℕ)) → IsLeastName names (least_text None names)
least_name [] = record {
  none = (λ _. refl, λ _. refl);
  among = λ least is. absurd (none-some least is);
  least = λ one other is here. absurd here;
}
least_name (name ∷ names) =
    let found = least_of name names in
    record {
      none = (λ is. absurd (none-some found.0 (sym is ∙ found.1)), λ is. absurd (cc));
      among = λ least is. subst (λ t. In t (name ∷ names)) (same_Some found.0 least (sym found.1 ∙ is)) found.2.among;
      least = λ one other is here. subst (λ t. AtMost t other) (same_Some found.0 one (sym found.1 ∙ is)) (found.2.all other here);
    }

pub name_is_least : NameIsLeast
name_is_least framed = least_name (names_in framed)

-- ---- groups

-- the same group and the same expression
record IsLike (one other : Operand) : Type 0 where
  group : one.group ≡ other.group
  expression : one.expression ≡ other.expression

guarded_some : {X : Type 0} (test : Bool) (o : Option X) (x : X) → cond test o None ≡ Some x → (test ≡ true) × (o ≡ Some x)
guarded_some true o x is = (refl, is)
guarded_some false o x is = absurd (none-some x is)

operand_twin : (tag name : List ℕ) (one other : Placed) (operand : Operand) → IsTwin one other → operand_in tag name one ≡ Some operand → (like : Operand) × (operand_in tag name other ≡ Some like) × IsLike operand like
operand_twin tag name one other operand twin is =
    let guarded = guarded_some (is_term one.frame && bytes_eq one.clause.tag tag) (option_map (operand_with one name) (expression_of name one.clause.value)) operand is in
    let from = option_map_some (operand_with one name) (expression_of name one.clause.value) operand guarded.1 in
    let test : (is_term other.frame && bytes_eq other.clause.tag tag) ≡ true = (λ i. is_term (sym twin.frame i) && bytes_eq (sym twin.clause i).tag tag) ∙ guarded.0 in
    let value : expression_of name other.clause.value ≡ Some from.0 = (λ i. expression_of name (sym twin.clause i).value) ∙ from.1 in (
      operand_with other name from.0,
      (λ i. cond (test i) (option_map (operand_with other name) (value i)) None),
      record {
        group = ap (λ (o : Operand). o.group) (sym from.2) ∙ ap (λ id. iri_of id name) twin.id;
        expression = ap (λ (o : Operand). o.expression) (sym from.2);
      },
    )

like_to : (tag name : List ℕ) (placed others : List Placed) → HaveTwins placed others → (one : Operand) → In one (operands_in tag name placed) → (like : Operand) × In like (operands_in tag name others) × IsLike one like
like_to tag name placed others twins one here =
    let from = In-from_filter_map (operand_in tag name) one placed here in
    let twin = twins from.0 from.1 in
    let found = operand_twin tag name from.0 twin.0 one twin.2 from.2 in
    (found.0, In-filter_map (operand_in tag name) found.0 others twin.0 twin.1 found.1, found.2)

not_false : (b : Bool) → not b ≡ false → b ≡ true
not_false true h = refl
not_false false h = absurd (cc)

not_true : (b : Bool) → b ≡ true → not b ≡ false
not_true true h = refl
not_true false h = absurd (cc)

same_short_of : (tag name : List ℕ) (placed others : List Placed) → HaveTwins placed others → HaveTwins others placed → map (λ (one : Operand). one.line) (short_in (operands_in tag name placed)) ≡ [] → map (λ (one : Operand). one.line) (short_in (operands_in tag name others)) ≡ []
same_short_of tag name placed others to back none =
    let here = operands_in tag name placed in
    let there = operands_in tag name others in
    pass_none (λ one. not (list_any (differs one) there)) (λ (one : Operand). one.line) there (λ one among.
    let like = like_to tag name others placed back one among in
    let any = not_false (list_any (differs like.0) here) (none_pass (λ other. not (list_any (differs other) here)) (λ (other : Operand). other.line) here none like.0 like.1) in
    let found = from_any (differs like.0) here any in
    let other = like_to tag name placed others to found.0 found.1 in
    not_true (list_any (differs one) there)
    (any_at (differs one) other.0 there other.1
    ((λ i. bytes_eq (sym other.2.group i) (like.2.group i) && not (same_expression (like.2.expression i) (sym other.2.expression i))) ∙ found.2)))

nil_parts : {X : Type 0} (xs ys : List X) → xs ++ ys ≡ [] → (xs ≡ []) × (ys ≡ [])
nil_parts [] ys h = (refl, h)
nil_parts (x ∷ xs) ys h = absurd (cc)

same_short_lines : (placed others : List Placed) → SameClauses placed others → HasNoShortGroup placed → HasNoShortGroup others
same_short_lines placed others same none =
    let to = twins placed others same in
    let back = twins others placed (same_sym (map unlined placed) (map unlined others) same) in
    let parts = nil_parts (short_lines_of (codes "intersection_of") placed) (short_lines_of (codes "union_of") placed) none in
    let name : space_of (map unlined placed) ≡ space_of (map unlined others) = ap name_or_temp (same_name (map unlined placed) (map unlined others) same) in
    let of : (tag : List ℕ) → short_lines_of tag placed ≡ [] → short_lines_of tag others ≡ [] = (λ tag is. ap (λ n. map (λ (one : Operand). one.line) (short_in (operands_in tag n others))) (sym name) ∙ same_short_of tag (space_of (map unlined placed)) placed others to back is) in
    (λ i. of (codes "intersection_of") parts.0 i ++ of (codes "union_of") parts.1 i)

-- ---- soundness

-- an `id` clause of a twin is one
gives_too : (id : List ℕ) (one other : Placed) → IsTwin one other → GivesId id one → GivesId id other
gives_too id one other twin gives = record {
  tag = ap (λ (c : Clause). c.tag) (sym twin.clause) ∙ gives.tag;
  value = ap (λ (c : Clause). c.value) (sym twin.clause) ∙ gives.value;
}

turned : (one other : Placed) → IsTwin one other → IsTwin other one
turned one other twin = record { frame = sym twin.frame; id = sym twin.id; clause = sym twin.clause }

same_kept : (some others : List Placed) → SameClauses some others → IsKept some → IsKept others
same_kept some others same kept =
    let to = twins some others same in
    let from = twins others some (same_sym (map unlined some) (map unlined others) same) in
    record {
      spelled = λ one here.
          (let twin = from one (In-from_contains one others here) in
          let is = kept.spelled twin.0 (contains-from_In twin.0 some twin.1) in
          subst2 IsSpelledIn (sym twin.2.frame) (sym twin.2.clause) is);
      header = λ one here.
          (let twin = from one (In-from_contains one others here) in
          let is = kept.header twin.0 (contains-from_In twin.0 some twin.1) in
          (λ header. twin.2.id ∙ is.0 (sym twin.2.frame ∙ header), λ empty. twin.2.frame ∙ is.1 (sym twin.2.id ∙ empty)));
      ids = λ one id here gives.
          (let twin = from one (In-from_contains one others here) in
          let is = kept.ids twin.0 id (contains-from_In twin.0 some twin.1) (gives_too id one twin.0 twin.2 gives) in
          record { same = is.same ∙ sym twin.2.id; bare = ap (λ (c : Clause). c.qualifiers) twin.2.clause ∙ is.bare });
      frames = λ one here outside.
          (let twin = from one (In-from_contains one others here) in
          let is = kept.frames twin.0 (contains-from_In twin.0 some twin.1) (λ header. outside (twin.2.frame ∙ header)) in
          let head = to is.head (In-from_contains is.head some is.among) in
          record {
            head = head.0;
            among = contains-from_In head.0 others head.1;
            kind = sym head.2.frame ∙ is.kind ∙ sym twin.2.frame;
            id = sym head.2.id ∙ is.id ∙ sym twin.2.id;
            gives = subst (λ id. GivesId id head.0) (sym twin.2.id) (gives_too twin.0.id is.head head.0 head.2 is.gives);
          });
      groups = same_short_lines some others same kept.groups;
    }
  where
    subst2 : (P : FrameKind → Clause → Type 0) {k l : FrameKind} {c d : Clause} → k ≡ l → c ≡ d → P k c → P l d
    subst2 P {k} {l} {c} {d} kinds clauses is = subst (λ x. P x d) kinds (subst (P k) clauses is)

pub goes_by_clauses : SameClausesSayTheSame
goes_by_clauses some others same = record {
  name = same_name (map unlined some) (map unlined others) same;
  groups = same_short_lines some others same;
  sound = λ sound. ∥∥₁_map sound (same_kept some others same);
}
