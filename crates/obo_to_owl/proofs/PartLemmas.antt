-- The axioms of clauses and of groups, as the program gathers them, are those of the definitions.
use Rattle.std.proofs.Common.{◌≡◌, ◌&&◌, ◌||◌, ◌∙◌, ℕ, Bool, true, false, not, cond, List, [], ◌∷◌, ◌++◌, Option, None, Some, map, inl, inr, refl, sym, ap, subst}
use Rattle.std.specs.List.{filter_map, flat_map, list_any}
use Rattle.std.specs.Option.{option_and_then, option_map, option_map_or, option_to_list}
use Rattle.std.specs.Prelude.{filter}
use Rattle.std.specs.Str.{bytes_eq}
use Rattle.std.proofs.lemmas.Bool.{and_parts, false_from_ne_true, not-true}
use Rattle.std.proofs.lemmas.Option.{none-some, same_Some}
use Rattle.iri_map.specs.Id.{iri_of}
use Rattle.iri_map.proofs.CandidateLemmas.{bytes_eq-refl}
use Rattle.text_sets.specs.Sets.{In}
use Rattle.text_sets.proofs.PartLemmas.{option_and_then_some}
use Rattle.text_sets.proofs.SetLemmas.{In-filter, In-filter_map, In-flat_map, In-from_filter, In-from_filter_map, In-from_flat_map, In-from_map, In-map}
use Rattle.obo_tags.specs.declared.kind.FrameKind.{FrameKind}
use Rattle.obo_tags.specs.declared.kind.FrameKind.TheVariants as frames
use Rattle.obo_clause.specs.declared.clause.Clause.{Clause}
use Rattle.obo_frames.specs.Framed.{Framed, framed}
use Rattle.owl_axioms.specs.declared.body.Axiom.{Axiom}
use Rattle.obo_notes.specs.Context.{reading_in, where_true}
use Rattle.obo_notes.proofs.Guards.{same_bytes, where_true_some}
use Rattle.obo_statements.specs.Groups.{Group, group_meaning, group_tag}
use Rattle.obo_mapping.specs.Axioms.{axiom_said, axioms_said}
use Rattle.obo_mapping.specs.Documents.{group_in, group_of, group_said, group_with, has_tag, is_broken, is_header, is_misfit, is_raw, is_term, is_typedef, is_untranslatable, situation_of, space_of}
use Rattle.obo_mapping.proofs.OfSet.{any_from_in}
use Rattle.obo_mapping.proofs.SpelledLaw.{group_with_tag, tag_of_group}
use Rattle.obo_to_owl.specs.inner.Adding.{said_by}
use Rattle.obo_to_owl.specs.inner.Grouping.{Seen, gather, gather_all, gather_onto, group_rows, seen_axiom}
use Rattle.obo_to_owl.specs.inner.Known.{IsKnown, has, is_of_group}
use Rattle.obo_to_owl.specs.inner.Left.{broken_in, is_left}
use Rattle.obo_to_owl.specs.inner.Rows.{AreRead, of_row}
use Rattle.obo_to_owl.specs.inner.Rules.{is_of_relation, is_other_than}
use Rattle.obo_to_owl.specs.declared.rows.Row.{Row}
use Rattle.obo_to_owl.specs.declared.situation.Situation.{Situation}
use Rattle.obo_to_owl.proofs.Linking.{broken_known, left_known, said_known}

-- ---- options and tests

pub In-option : {X : Type 0} (x : X) (o : Option X) → In x (option_to_list o) → o ≡ Some x
In-option x None here = absurd here
In-option x (Some y) (inl is) = ap Some is
In-option x (Some y) (inr none) = absurd none

pub option-In : {X : Type 0} (x : X) (o : Option X) → o ≡ Some x → In x (option_to_list o)
option-In x o is = subst (λ (p : Option _). In x (option_to_list p)) (sym is) (inl refl)

term_only : (kind : FrameKind) (id : List ℕ) (c : Clause) → is_term kind ≡ true → (is_typedef kind ≡ false) × (is_header (framed kind id c) ≡ false)
term_only frames.Term id c is = (refl, refl)
term_only frames.Header id c is = let h : false ≡ true = is in absurd (cc)
term_only frames.Typedef id c is = let h : false ≡ true = is in absurd (cc)
term_only frames.Instance id c is = let h : false ≡ true = is in absurd (cc)

filter_twice : {X : Type 0} (p q : X → Bool) (xs : List X) → ((x : X) → In x xs → p x ≡ true → q x ≡ true) → filter p (filter q xs) ≡ filter p xs
filter_twice p q [] all = refl
filter_twice p q (x ∷ xs) all =
    let more = filter_twice p q xs (λ y later. all y (inr later)) in
    elim (p x) as (λ b. p x ≡ b → filter p (cond (q x) (x ∷ filter q xs) (filter q xs)) ≡ cond b (x ∷ filter p xs) (filter p xs)) [
      | true ↦ λ is. ap (λ b. filter p (cond b (x ∷ filter q xs) (filter q xs))) (all x (inl refl) is) ∙ ap (λ b. cond b (x ∷ filter p (filter q xs)) (filter p (filter q xs))) is ∙ ap (λ ys. x ∷ ys) more
      | false ↦ λ isnt. elim (q x) as (λ b. filter p (cond b (x ∷ filter q xs) (filter q xs)) ≡ filter p xs) [
        | true ↦ ap (λ b. cond b (x ∷ filter p (filter q xs)) (filter p (filter q xs))) isnt ∙ more
        | false ↦ more
      ]
    ] refl

-- ---- what was gathered

pub clause_in : Row → Clause
clause_in row = row.placed.now.clause

pub gathered_onto : (held : Seen) (rows : List Row) → (line : ℕ) × (gather_onto (Some held) rows ≡ Some (line, held.1 ++ map clause_in rows))
unfolding clause_in
gathered_onto held [] = (held.0, ap (λ (cs : List Clause). Some (held.0, cs)) (sym (nothing_more held.1)))
  where
    nothing_more : (cs : List Clause) → cs ++ [] ≡ cs
    nothing_more [] = refl
    nothing_more (c ∷ cs) = ap (λ more. c ∷ more) (nothing_more cs)
gathered_onto held (row ∷ rows) =
    let next = gathered_onto (gather row (Some held)) rows in
    (next.0, next.1 ∙ ap (λ (cs : List Clause). Some (next.0, cs)) (one_more held.1 row.placed.now.clause (map clause_in rows)))
  where
    one_more : (cs : List Clause) (c : Clause) (ds : List Clause) → (cs ++ c ∷ []) ++ ds ≡ cs ++ c ∷ ds
    one_more [] c ds = refl
    one_more (b ∷ cs) c ds = ap (λ more. b ∷ more) (one_more cs c ds)

-- the first of them, and the clauses of all
pub gathered_from : (rows : List Row) (held : Seen) → gather_all rows ≡ Some held → (row : Row) × In row rows × (held.1 ≡ map clause_in rows)
unfolding clause_in
gathered_from [] held is = absurd (none-some held is)
gathered_from (row ∷ rows) held is =
    let all = gathered_onto (gather row None) rows in
    (row, inl refl, ap (λ (h : Seen). h.1) (same_Some held _ (sym is ∙ all.1)))

pub gathered_some : (rows : List Row) (row : Row) → In row rows → (held : Seen) × (gather_all rows ≡ Some held)
gathered_some [] row here = absurd here
gathered_some (r ∷ rows) row here = let all = gathered_onto (gather r None) rows in ((all.0, r.placed.now.clause ∷ map clause_in rows), all.1)

-- ---- clauses and groups of a document

module _ (rows : List Row) (s : Situation) (known : IsKnown rows s) (read : AreRead (space_of (map of_row rows)) rows) where
  abbrev d : List Framed
  d = map of_row rows

  abbrev space : List ℕ
  space = space_of (map of_row rows)

  abbrev translated : List Row
  translated = filter (λ row. not (is_left s row)) rows

  abbrev clauses : List Framed
  clauses = filter (λ one. not (is_untranslatable (map of_row rows) one)) (map of_row rows)

  pub row_translated : (row : Row) → In row translated → In (of_row row) clauses
  row_translated row here =
      let found = In-from_filter (λ row. not (is_left s row)) row rows here in
      In-filter (λ one. not (is_untranslatable d one)) (of_row row) d (In-map of_row row rows found.0) (ap not (sym (left_known rows s known read row found.0)) ∙ found.1)

  pub translated_row : (one : Framed) → In one clauses → (row : Row) × In row translated × (of_row row ≡ one)
  translated_row one here =
      let found = In-from_filter (λ one. not (is_untranslatable d one)) one d here in
      let row = In-from_map of_row one rows found.0 in
      (row.0, In-filter (λ row. not (is_left s row)) row.0 rows row.1 (ap not (left_known rows s known read row.0 row.1) ∙ ap (λ (f : Framed). not (is_untranslatable d f)) row.2 ∙ found.1), row.2)

  is_row : (row : Row) → In row translated → In row rows
  is_row row here = (In-from_filter (λ row. not (is_left s row)) row rows here).0

  -- ---- what clauses say by themselves

  pub said_alone : (row : Row) (said : Axiom) → In row translated → said_by space s row ≡ Some said → In said (flat_map (axioms_said (situation_of d)) clauses)
  unfolding axioms_said
  said_alone row said here is =
      In-flat_map (axioms_said (situation_of d)) said clauses (of_row row) (row_translated row here)
      (option-In said (axiom_said (situation_of d) (of_row row)) (sym (said_known rows s known read row (is_row row here)) ∙ is))

  pub alone_said : (said : Axiom) → In said (flat_map (axioms_said (situation_of d)) clauses) → (row : Row) × In row translated × (said_by space s row ≡ Some said)
  unfolding axioms_said
  alone_said said here =
      let one = In-from_flat_map (axioms_said (situation_of d)) said clauses here in
      let row = translated_row one.0 one.1 in
      (row.0, row.1, said_known rows s known read row.0 (is_row row.0 row.1) ∙ ap (axiom_said (situation_of d)) row.2 ∙ In-option said (axiom_said (situation_of d) one.0) one.2)

  -- ---- groups

  abbrev is_in : Group → List ℕ → Row → Bool
  is_in g x row = is_of_group g (of_row row) && bytes_eq row.iri.now x

  pub record IsIn (g : Group) (x : List ℕ) (row : Row) : Type 0 where
    pub term : is_term row.placed.now.frame ≡ true
    pub raw : is_raw row.placed.now.clause.value ≡ false
    pub tag : row.placed.now.clause.tag ≡ group_tag g
    pub iri : row.iri.now ≡ x

  in_parts : (g : Group) (x : List ℕ) (row : Row) → is_in g x row ≡ true → IsIn g x row
  in_parts g x row is =
      let one = of_row row in
      let a = and_parts (is_of_group g one) (bytes_eq row.iri.now x) is in
      let b = and_parts (is_term one.frame && not (is_raw one.clause.value)) (has_tag (group_tag g) one) a.0 in
      let c = and_parts (is_term one.frame) (not (is_raw one.clause.value)) b.0 in
      record { term = c.0; raw = not-true (is_raw one.clause.value) c.1; tag = same_bytes one.clause.tag (group_tag g) b.1; iri = same_bytes row.iri.now x a.1 }

  in_from : (g : Group) (x : List ℕ) (row : Row) → IsIn g x row → is_in g x row ≡ true
  in_from g x row is =
      (λ i. (is.term i && not (is.raw i) && bytes_eq (is.tag i) (group_tag g)) && bytes_eq (is.iri i) x) ∙ (λ i. bytes_eq-refl (group_tag g) i && bytes_eq-refl x i)

  group_is : (g : Group) (x : List ℕ) (row : Row) → IsIn g x row → group_of (of_row row) ≡ Some g
  group_is g x row is = (λ i. where_true (is.term i && not (is.raw i)) (group_with (is.tag i))) ∙ group_with_tag g

  -- the clauses of a group are those of the rows
  group_clauses : (g : Group) (x : List ℕ) (some : List Row) → ((row : Row) → In row some → In row rows)
      → map clause_in (filter (is_in g x) some) ≡ map (λ (one : Framed). one.clause) (filter (λ (one : Framed). is_term one.frame && not (is_raw one.clause.value) && bytes_eq (iri_of one.id space) x && has_tag (group_tag g) one) (map of_row some))
  unfolding clause_in
  group_clauses g x [] among = refl
  group_clauses g x (row ∷ some) among =
      let one = of_row row in
      let more = group_clauses g x some (λ r later. among r (inr later)) in
      ap (λ i. map clause_in (cond (is_of_group g one && bytes_eq i x) (row ∷ filter (is_in g x) some) (filter (is_in g x) some))) (read row (among row (inl refl)))
      ∙ turned (is_term one.frame && not (is_raw one.clause.value)) (has_tag (group_tag g) one) (bytes_eq (iri_of one.id space) x) (filter (is_in g x) some) (filter (λ (one : Framed). is_term one.frame && not (is_raw one.clause.value) && bytes_eq (iri_of one.id space) x && has_tag (group_tag g) one) (map of_row some)) more
    where
      turned : (a b c : Bool) (xs : List Row) (ys : List Framed) → map clause_in xs ≡ map (λ (one : Framed). one.clause) ys
          → map clause_in (cond ((a && b) && c) (row ∷ xs) xs) ≡ map (λ (one : Framed). one.clause) (cond ((a && c) && b) (of_row row ∷ ys) ys)
      turned true true true xs ys same = ap (λ (cs : List Clause). row.placed.now.clause ∷ cs) same
      turned true true false xs ys same = same
      turned true false true xs ys same = same
      turned true false false xs ys same = same
      turned false b c xs ys same = same

  clauses_are : (g : Group) (x : List ℕ) → map clause_in (filter (is_in g x) rows) ≡ map (λ (one : Framed). one.clause) (group_in (situation_of d) d x g)
  unfolding situation_of
  clauses_are g x = group_clauses g x rows (λ row here. here)

  -- a group of which one clause is translated has no misfit
  whole : (g : Group) (x : List ℕ) (row : Row) → In row translated → IsIn g x row → is_broken (situation_of d) d x g ≡ false
  whole g x row here is =
      let found = In-from_filter (λ row. not (is_left s row)) row rows here in
      let isnt = not-true (is_left s row) found.1 in
      sym (broken_known rows s known read x g) ∙ ap (λ y. broken_in s y g) (sym is.iri)
      ∙ none_of (is_misfit (of_row row)) (broken_in s row.iri.now g) (is_of_relation (has s.metadata row.iri.now) (of_row row)) (is_other_than s.name (of_row row))
      (sym (ap (λ (o : Option Group). is_misfit (of_row row) || option_map_or (broken_in s row.iri.now) o false || is_of_relation (has s.metadata row.iri.now) (of_row row) || is_other_than s.name (of_row row)) (group_is g x row is)) ∙ isnt)
    where
      none_of : (a b c e : Bool) → (a || b || c || e) ≡ false → b ≡ false
      none_of a false c e is = refl
      none_of false true c e is = let h : true ≡ false = is in absurd (cc)
      none_of true true c e is = let h : true ≡ false = is in absurd (cc)

  -- then all of them are
  all_translated : (g : Group) (x : List ℕ) (row : Row) → is_broken (situation_of d) d x g ≡ false → In row rows → IsIn g x row → is_left s row ≡ false
  unfolding situation_of
  all_translated g x row sound here is =
      let one = of_row row in
      let only = term_only one.frame one.id one.clause is.term in
      let iri : iri_of one.id space ≡ x = sym (read row here) ∙ is.iri in
      let test = λ (one : Framed). is_term one.frame && not (is_raw one.clause.value) && bytes_eq (iri_of one.id space) x && has_tag (group_tag g) one in
      let in_group : In one (filter test d) =
      In-filter test one d (In-map of_row row rows here) ((λ i. is.term i && not (is.raw i) && bytes_eq (iri i) x && bytes_eq (is.tag i) (group_tag g)) ∙ (λ i. bytes_eq-refl x i && bytes_eq-refl (group_tag g) i)) in
      let fit : is_misfit one ≡ false = false_from_ne_true (is_misfit one) (λ misfit. let h : true ≡ false = sym (any_from_in is_misfit (filter test d) one in_group misfit) ∙ sound in absurd (cc)) in
      let unbroken : option_map_or (broken_in s row.iri.now) (group_of one) false ≡ false =
      ap (λ (o : Option Group). option_map_or (broken_in s row.iri.now) o false) (group_is g x row is) ∙ ap (λ y. broken_in s y g) is.iri ∙ broken_known rows s known read x g ∙ sound in
      (λ i. fit i || unbroken i || is_of_relation (has s.metadata row.iri.now) one || is_other_than s.name one) ∙ plain one only.0 only.1
    where
      plain : (one : Framed) → is_typedef one.frame ≡ false → is_header one ≡ false → (is_of_relation (has s.metadata row.iri.now) one || is_other_than s.name one) ≡ false
      plain one typedef header =
          (λ i. (typedef i && has s.metadata row.iri.now && Rattle.std.specs.Prelude.is_some (Rattle.text_sets.specs.Parts.first_some (Rattle.obo_statements.specs.Statements.statement_in one.clause.tag) (Rattle.obo_statements.specs.Statements.statements_of frames.Typedef)) && not (Rattle.obo_mapping.specs.Documents.is_truth_value false one.clause.value)) || is_other_than s.name one)
          ∙ (λ i. header i && has_tag (Rattle.std.specs.Prelude.codes "ontology") one && option_map_or (λ word. not (option_map_or (bytes_eq (Rattle.iri_map.specs.Ontology.normalised word)) s.name false)) (Rattle.obo_mapping.specs.Documents.word_in one.clause.value) false)

  group_rows_all : (g : Group) (x : List ℕ) (row : Row) → In row translated → IsIn g x row → group_rows g x translated ≡ filter (is_in g x) rows
  group_rows_all g x row here is =
      filter_twice (is_in g x) (λ row. not (is_left s row)) rows (λ r among yes. ap not (all_translated g x r (whole g x row here is) among (in_parts g x r yes)))

  -- the clauses gathered are those of the group
  pub gathered_clauses : (g : Group) (x : List ℕ) (held : Seen) → gather_all (group_rows g x translated) ≡ Some held
      → (row : Row) × In row translated × IsIn g x row × (held.1 ≡ map (λ (one : Framed). one.clause) (group_in (situation_of d) d x g))
  gathered_clauses g x held is =
      let from = gathered_from (group_rows g x translated) held is in
      let found = In-from_filter (is_in g x) from.0 translated from.1 in
      let parts = in_parts g x from.0 found.1 in
      (from.0, found.0, parts, from.2 ∙ ap (map clause_in) (group_rows_all g x from.0 found.0 parts) ∙ clauses_are g x)

  -- what a group says, each of its clauses says
  pub row_together : (g : Group) (x : List ℕ) (held : Seen) (said : Axiom) → gather_all (group_rows g x translated) ≡ Some held → seen_axiom space g x held ≡ Some said
      → (row : Row) → In row (group_rows g x translated) → In row translated × (group_said (situation_of d) d (of_row row) ≡ Some said)
  unfolding situation_of
  row_together g x held said is says row here =
      let found = In-from_filter (is_in g x) row translated here in
      let parts = in_parts g x row found.1 in
      let from = gathered_clauses g x held is in
      let iri : iri_of row.placed.now.id space ≡ x = sym (read row (is_row row found.0)) ∙ parts.iri in (
        found.0,
        ap (λ (o : Option Group). option_and_then (λ group. group_meaning (reading_in space) (iri_of row.placed.now.id space) group (map (λ (each : Framed). each.clause) (group_in (situation_of d) d (iri_of row.placed.now.id space) group))) o) (group_is g x row parts)
            ∙ ap (λ y. group_meaning (reading_in space) y g (map (λ (each : Framed). each.clause) (group_in (situation_of d) d y g))) iri
            ∙ ap (group_meaning (reading_in space) x g) (sym from.3)
            ∙ says,
      )

  pub said_together : (g : Group) (x : List ℕ) (held : Seen) (said : Axiom) → gather_all (group_rows g x translated) ≡ Some held → seen_axiom space g x held ≡ Some said → In said (filter_map (group_said (situation_of d) d) clauses)
  said_together g x held said is says =
      let from = gathered_from (group_rows g x translated) held is in
      let row = row_together g x held said is says from.0 from.1 in
      In-filter_map (group_said (situation_of d) d) said clauses (of_row from.0) (row_translated from.0 row.0) row.1

  pub record IsSaidTogether (said : Axiom) (row : Row) : Type 0 where
    pub group : Group
    pub iri : List ℕ
    pub held : Seen
    pub here : In row (group_rows group iri translated)
    pub gathered : gather_all (group_rows group iri translated) ≡ Some held
    pub says : seen_axiom space group iri held ≡ Some said

  pub together_at : (row : Row) (said : Axiom) → In row translated → group_said (situation_of d) d (of_row row) ≡ Some said → IsSaidTogether said row
  unfolding situation_of
  together_at row said here says =
      let f = of_row row in
      let x = iri_of f.id space in
      let g = option_and_then_some (λ group. group_meaning (reading_in space) x group (map (λ (each : Framed). each.clause) (group_in (situation_of d) d x group))) (group_of f) said says in
      let test = where_true_some (is_term f.frame && not (is_raw f.clause.value)) (group_with f.clause.tag) g.0 g.1 in
      let parts = and_parts (is_term f.frame) (not (is_raw f.clause.value)) test.0 in
      let is : IsIn g.0 x row = record { term = parts.0; raw = not-true (is_raw f.clause.value) parts.1; tag = tag_of_group f.clause.tag g.0 test.1; iri = read row (is_row row here) } in
      let among = In-filter (is_in g.0 x) row translated here (in_from g.0 x row is) in
      let some = gathered_some (group_rows g.0 x translated) row among in
      let from = gathered_clauses g.0 x some.0 some.1 in
      record { group = g.0; iri = x; held = some.0; here = among; gathered = some.1; says = ap (group_meaning (reading_in space) x g.0) from.3 ∙ g.2 }

  pub together_said : (said : Axiom) → In said (filter_map (group_said (situation_of d) d) clauses) → (row : Row) × IsSaidTogether said row
  together_said said here =
      let one = In-from_filter_map (group_said (situation_of d) d) said clauses here in
      let row = translated_row one.0 one.1 in
      (row.0, together_at row.0 said row.1 (ap (group_said (situation_of d) d) row.2 ∙ one.2))
