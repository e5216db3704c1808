-- Each axiom that is added has the least of the lines that say it.
use Rattle.std.proofs.Common.{◌≡◌, ◌&&◌, ◌||◌, ◌⊎◌, ◌≤◌, ◌∙◌, ℕ, Bool, true, false, not, cond, List, [], ◌∷◌, ◌++◌, codes, Option, None, Some, map, inl, inr, ⊎_elim, refl, sym, ap, subst, arith}
use Rattle.std.specs.List.{cons_option, filter_map, flat_map, list_any}
use Rattle.std.specs.Option.{option_map_or, option_or, option_to_list}
use Rattle.std.specs.Prelude.{filter}
use Rattle.std.proofs.lemmas.Bool.Decides.{nat_tests}
use Rattle.std.proofs.lemmas.Map.Keys.{IsDistinct-from_apart}
use Rattle.std.proofs.lemmas.Option.{none-some}
use Rattle.iri_map.proofs.CandidateLemmas.{bytes_eq-refl}
use Rattle.text_sets.specs.Sets.{In}
use Rattle.text_sets.proofs.PartLemmas.{option_map_some}
use Rattle.text_sets.proofs.SetLemmas.{In-append, In-append_left, In-append_right, In-filter, In-filter_map, In-flat_map, In-from_contains, In-from_filter, In-from_filter_map, In-from_flat_map, In-from_map, In-map, contains-from_In}
use Rattle.owl_axioms.proofs.Same.{same_axiom-true}
use Rattle.owl_axioms.specs.Same.{same_axiom}
use Rattle.owl_axioms.specs.contracts.body.AxiomEq.TheImpl.Laws as laws
use Rattle.owl_axioms.specs.declared.annotation.Side.{Side}
use Rattle.owl_axioms.specs.declared.body.Axiom.{Axiom}
use Rattle.owl_axioms.specs.declared.body.Body.TheVariants as body
use Rattle.owl_axioms.specs.declared.expr.ClassExpr.{ClassExpr}
use Rattle.owl_axioms.specs.declared.name.Name.{Name}
use Rattle.owl_ontology.specs.Laws.{IsLeastOrigin}
use Rattle.owl_ontology.specs.Ontology.{Entry, OntologyState, add_entries, axioms_of, entry_of}
use Rattle.owl_ontology.specs.Origins.{comes_before}
use Rattle.owl_ontology.specs.declared.origin.Origin.{Origin}
use Rattle.owl_ontology.proofs.Least.{least_stays}
use Rattle.obo_clause.specs.declared.clause.Clause.{Clause}
use Rattle.obo_frames.specs.Framed.{Framed, unlined}
use Rattle.obo_frames.specs.declared.placed.Placed.{Placed}
use Rattle.obo_notes.specs.Context.{Reading, where_true}
use Rattle.obo_notes.specs.Notes.{sorted_sides}
use Rattle.obo_notes.specs.Vocabulary.{own_property}
use Rattle.obo_statements.specs.Extras.{annotations_of}
use Rattle.obo_statements.specs.Groups.{Group, group_meaning, intersection, union}
use Rattle.obo_mapping.specs.Axioms.{axiom_said, axioms_said, entity_of, same_kind}
use Rattle.obo_mapping.specs.Documents.{declared_in, group_said, has_tag, is_namespace, is_untranslatable, same_name, situation_of, space_of}
use Rattle.obo_mapping.specs.Lines.{least_line, line_of}
use Rattle.obo_mapping.specs.Lines as lines
use Rattle.obo_mapping.proofs.OfSet.{any_from_in, in_from_any}
use Rattle.obo_mapping.proofs.SpelledLaw.{declared_name}
use Rattle.obo_mapping.proofs.SinglesLaw.{IsStatement}
use Rattle.obo_normal_form.proofs.OwlCases.{said_cases, stated_statement}
use Rattle.obo_to_owl.specs.Translated.{IsPlaced}
use Rattle.obo_to_owl.specs.inner.Adding.{AreAdded, add_all, entries_said, entry_at, said_by}
use Rattle.obo_to_owl.specs.inner.Grouping.{AreBothAdded, AreGroupsAdded, gather_all, group_rows, seen_axiom, seen_entries}
use Rattle.obo_to_owl.specs.inner.Known.{IsKnown}
use Rattle.obo_to_owl.specs.inner.Left.{is_left}
use Rattle.obo_to_owl.specs.inner.Rows.{AreRead, clause_of, of_row}
use Rattle.obo_to_owl.specs.inner.Spacing.{entity_in, entry_named, is_spaced, line_for, line_named, name_eq, name_kept, names_left, default_found, option_or_zero, spaces_in, spaces_with, spacing}
use Rattle.obo_to_owl.specs.declared.rows.Row.{Row}
use Rattle.obo_to_owl.specs.declared.situation.Situation.{Situation}
use Rattle.obo_to_owl.proofs.DocumentRows.{rows_are}
use Rattle.obo_to_owl.proofs.LineLemmas.{IsLeastLine, gathered_line, least_is, least_line_is, row_line}
use Rattle.obo_to_owl.proofs.Linking.{entity_is, left_known, said_known}
use Rattle.obo_to_owl.proofs.PartLemmas.{In-option, alone_said, option-In, row_together, row_translated, said_alone, together_at, together_said}
use Rattle.obo_to_owl.proofs.SpacedLemmas.{name_same}
use Rattle.obo_to_owl.proofs.WholeLemmas.{alone, grouped_same, placed_said, together}

-- ---- what is given once all are added

all_entries : (added held : List Entry) → add_all added held ≡ add_entries held added
all_entries [] held = refl
all_entries (e ∷ added) held = all_entries added (Rattle.owl_ontology.specs.Ontology.add_entry e.axiom e.origin held)

least_given : (added : List Entry) (e : Entry) → In e (add_all added []) → IsLeastOrigin added e.axiom e.origin
least_given added e here = least_stays [] added (IsDistinct-from_apart same_axiom [] (λ i j a low high. absurd (omega (arith, high)))) e (contains-from_In e (add_entries [] added) (subst (In e) (all_entries added []) here))

-- of two lines of one file
low_line : (file line : ℕ) (o : Origin) → o.file ≡ file → comes_before (record { file = file; line = line }) o ≡ false → o.line ≤ line
low_line file line o same is = grind (arith, nat_tests, same, is)

no_items : {X : Type 0} (xs : List X) → ((x : X) → In x xs → ⊥) → xs ≡ []
no_items [] none = refl
no_items (x ∷ xs) none = absurd (none x (inl refl))

-- ---- what declares a name

pair_declares : (b : Bool) (c e : ClassExpr) (sides : List Side) → declared_in (record { body = cond b (body.Equiv c e) (body.Equiv e c); sides = sides }) ≡ None
pair_declares true c e sides = refl
pair_declares false c e sides = refl

group_declares : (reading : Reading) (x : List ℕ) (g : Group) (cs : List Clause) (a : Axiom) → group_meaning reading x g cs ≡ Some a → declared_in a ≡ None
unfolding group_meaning
group_declares reading x g cs a is = let made = option_map_some _ _ a is in ap declared_in (sym made.2) ∙ pair_declares _ _ _ (sorted_sides (flat_map (λ (clause : Clause). annotations_of clause.qualifiers) cs))

same_name-refl : (name : Name) → same_name name name ≡ true
same_name-refl name = (λ i. kind_itself name.kind i && bytes_eq-refl name.iri i)
  where
    kind_itself : (kind : Rattle.owl_axioms.specs.declared.name.Kind.Kind) → same_kind kind kind ≡ true
    kind_itself Rattle.owl_axioms.specs.declared.name.Kind.TheVariants.Class = refl
    kind_itself Rattle.owl_axioms.specs.declared.name.Kind.TheVariants.Role = refl
    kind_itself Rattle.owl_axioms.specs.declared.name.Kind.TheVariants.Individual = refl
    kind_itself Rattle.owl_axioms.specs.declared.name.Kind.TheVariants.AnnotationProperty = refl

spacing_named : (name : Name) (text : List ℕ) → is_namespace (spacing name text) ≡ Some name
spacing_named name text = ap (λ t. where_true t (Some name)) (bytes_eq-refl (own_property (codes "hasOBONamespace")))

nothing_first : (o : Option ℕ) → option_or (least_line []) o ≡ o
unfolding Rattle.text_sets.specs.Sorted.sorted_on
nothing_first o = refl

or_right : (a b : Bool) → b ≡ true → (a || b) ≡ true
or_right true b is = refl
or_right false b is = is

module _ (rows : List Row) (s : Situation) (known : IsKnown rows s) (read : AreRead (space_of (map of_row rows)) rows) (file : ℕ) where
  abbrev d : List Framed
  d = map of_row rows

  abbrev space : List ℕ
  space = space_of (map of_row rows)

  abbrev translated : List Row
  translated = filter (λ row. not (is_left s row)) rows

  abbrev document : List Placed
  document = map clause_of rows

  abbrev plain : List Entry
  plain = flat_map (entries_said space file s) translated

  -- the clause of the row says the axiom, by itself or with its group
  abbrev Says : Row → Axiom → Type 0
  Says row a = (said_by space s row ≡ Some a) ⊎ (group_said (situation_of (map of_row rows)) (map of_row rows) (of_row row) ≡ Some a)

  record IsSaidAt (a : Axiom) (line : ℕ) : Type 0 where
    row : Row
    here : In row translated
    says : Says row a
    same : row_line row ≡ line

  -- ---- the clauses that say an axiom

  abbrev saying : Axiom → List Placed
  saying a = filter (λ (one : Placed). list_any (same_axiom a) (lines.said_by (map of_row rows) (unlined one))) (map clause_of rows)

  unsaid : (row : Row) (a : Axiom) → In row rows → In a (lines.said_by d (of_row row)) → (is_left s row ≡ false) × Says row a
  unfolding axioms_said
  unsaid row a among here =
      let f = of_row row in
      elim (is_untranslatable d f) as (λ b. is_untranslatable d f ≡ b → In a (cond b [] (axioms_said (situation_of d) f ++ option_to_list (group_said (situation_of d) d f))) → (is_left s row ≡ false) × Says row a) [
        | true ↦ λ is none. absurd none
        | false ↦ λ isnt some. (
          left_known rows s known read row among ∙ isnt,
          ⊎_elim
              (λ one. inl (said_known rows s known read row among ∙ In-option a (axiom_said (situation_of d) f) one))
              (λ group. inr (In-option a (group_said (situation_of d) d f) group))
              (In-append a (axioms_said (situation_of d) f) (option_to_list (group_said (situation_of d) d f)) some),
        )
      ] refl here

  saying_row : (a : Axiom) (p : Placed) → In p (saying a) → IsSaidAt a p.line
  saying_row a p here =
      let found = In-from_filter (λ (one : Placed). list_any (same_axiom a) (lines.said_by d (unlined one))) p document here in
      let row = In-from_map clause_of p rows found.0 in
      let b = in_from_any (same_axiom a) (lines.said_by d (unlined p)) found.1 in
      let among : In a (lines.said_by d (of_row row.0)) = subst (λ (f : Framed). In a (lines.said_by d f)) (sym (ap unlined row.2)) (subst (λ x. In x (lines.said_by d (unlined p))) (sym (same_axiom-true a b.0 b.2)) b.1) in
      let is = unsaid row.0 a row.1 among in
      record { row = row.0; here = In-filter (λ row. not (is_left s row)) row.0 rows row.1 (ap not is.0); says = is.1; same = ap (λ (one : Placed). one.line) row.2 }

  is_row : (row : Row) → In row translated → In row rows
  is_row row here = (In-from_filter (λ row. not (is_left s row)) row rows here).0

  not_true : (b : Bool) → not b ≡ true → b ≡ false
  not_true false is = refl
  not_true true is = let h : false ≡ true = is in absurd (cc)

  row_saying : (row : Row) (a : Axiom) → In row translated → Says row a → In (clause_of row) (saying a)
  unfolding axioms_said
  row_saying row a here says =
      let f = of_row row in
      let found = In-from_filter (λ row. not (is_left s row)) row rows here in
      let isnt : is_untranslatable d f ≡ false = sym (left_known rows s known read row found.0) ∙ not_true (is_left s row) found.1 in
      let own = axioms_said (situation_of d) f in
      let group = option_to_list (group_said (situation_of d) d f) in
      let among : In a (own ++ group) =
      ⊎_elim (λ one. In-append_left a own group (option-In a (axiom_said (situation_of d) f) (sym (said_known rows s known read row found.0) ∙ one))) (λ other. In-append_right a own group (option-In a (group_said (situation_of d) d f) other)) says in
      In-filter (λ (one : Placed). list_any (same_axiom a) (lines.said_by d (unlined one))) (clause_of row) document (In-map clause_of row rows found.0)
      (any_from_in (same_axiom a) (lines.said_by d f) a (subst (λ b. In a (cond b [] (own ++ group))) (sym isnt) among) (laws.laws-law.refl a))

  said_axiom : (row : Row) (a : Axiom) → In row translated → Says row a → In a (alone rows s known read file ++ together rows s known read file)
  said_axiom row a here (inl one) = In-append_left a (alone rows s known read file) (together rows s known read file) (said_alone rows s known read row a here one)
  said_axiom row a here (inr group) =
      In-append_right a (alone rows s known read file) (together rows s known read file) (In-filter_map (group_said (situation_of d) d) a (filter (λ one. not (is_untranslatable d one)) d) (of_row row) (row_translated rows s known read row here) group)

  -- ---- the entries

  plain_row : (e : Entry) → In e plain → IsSaidAt e.axiom e.origin.line × (e.origin.file ≡ file)
  plain_row e here =
      let row = In-from_flat_map (entries_said space file s) e translated here in
      let said = In-from_map (λ said. entry_at said file (row_line row.0)) e (option_to_list (said_by space s row.0)) row.2 in (
        record {
          row = row.0;
          here = row.1;
          says = inl (In-option e.axiom (said_by space s row.0) (subst (λ a. In a (option_to_list (said_by space s row.0))) (ap (λ (e : Entry). e.axiom) said.2) said.1));
          same = ap (λ (e : Entry). e.origin.line) said.2;
        },
        sym (ap (λ (e : Entry). e.origin.file) said.2),
      )

  group_row : (g : Group) (before after : OntologyState) (more : AreGroupsAdded space file g translated before after) (e : Entry) → In e more.added → IsSaidAt e.axiom e.origin.line × (e.origin.file ≡ file)
  group_row g before after more e here =
      let from = more.each e here in
      let x = from.0 in
      let held = from.1 in
      let said = In-from_map (λ said. entry_at said file held.0) e (option_to_list (seen_axiom space g x held)) from.3 in
      let row = In-from_map row_line held.0 (group_rows g x translated) (gathered_line (group_rows g x translated) held from.2).among in
      let says = row_together rows s known read g x held said.0 from.2 (In-option said.0 (seen_axiom space g x held) said.1) row.0 row.1 in (
        record {
          row = row.0;
          here = says.0;
          says = inr (says.1 ∙ ap Some (ap (λ (e : Entry). e.axiom) said.2));
          same = row.2 ∙ ap (λ (e : Entry). e.origin.line) said.2;
        },
        sym (ap (λ (e : Entry). e.origin.file) said.2),
      )

  module _ (start plainly grouped end : OntologyState) (one : AreAdded start plainly plain) (two : AreBothAdded space file translated plainly grouped) (empty : start.entries ≡ [])
      (three : AreAdded grouped end (spaces_in file s rows (filter (is_left s) rows) (axioms_of grouped.entries))) where
    abbrev left : List Row
    left = filter (is_left s) rows

    abbrev axioms : List Axiom
    axioms = axioms_of grouped.entries

    abbrev spaces : List Entry
    spaces = spaces_in file s rows (filter (is_left s) rows) (axioms_of grouped.entries)

    abbrev everything : List Entry
    everything = plain ++ (two.first.added ++ (two.second.added ++ spaces))

    all_then : (some others entries : List Entry) → add_all (some ++ others) entries ≡ add_all others (add_all some entries)
    all_then = Rattle.obo_to_owl.proofs.AddLemmas.add_all-then

    ended : end.entries ≡ add_all everything []
    ended =
        three.entries
        ∙ ap (add_all spaces) (two.second.are.entries ∙ ap (add_all two.second.added) (two.first.are.entries ∙ ap (add_all two.first.added) (one.entries ∙ ap (add_all plain) empty)))
        ∙ sym (all_then two.second.added spaces (add_all two.first.added (add_all plain [])))
        ∙ sym (all_then two.first.added (two.second.added ++ spaces) (add_all plain []))
        ∙ sym (all_then plain (two.first.added ++ (two.second.added ++ spaces)) [])

    -- each clause that says an axiom brings an entry, whose line is not above its own
    brought : (row : Row) (a : Axiom) → In row translated → Says row a → (line : ℕ) × In (entry_at a file line) everything × (line ≤ row_line row)
    brought row a here (inl says) =
        let line = row_line row in
        (line, In-append_left (entry_at a file line) plain _ (In-flat_map (entries_said space file s) (entry_at a file line) translated row here (placed_said (said_by space s row) file line a says)), omega arith)
    brought row a here (inr says) =
        let is = together_at rows s known read row a here says in
        let low = (gathered_line (group_rows is.group is.iri translated) is.held is.gathered).least (row_line row) (In-map row_line row (group_rows is.group is.iri translated) is.here) in
        (is.held.0, of_kind is.group is.iri is.held is.gathered is.says, low)
      where
        of_kind : (g : Group) (x : List ℕ) (held : Rattle.obo_to_owl.specs.inner.Grouping.Seen) → gather_all (group_rows g x translated) ≡ Some held → seen_axiom space g x held ≡ Some a → In (entry_at a file held.0) everything
        of_kind intersection x held gathered says =
            let e = entry_at a file held.0 in
            In-append_right e plain _ (In-append_left e two.first.added _ (two.first.all x held e gathered (placed_said (seen_axiom space intersection x held) file held.0 a says)))
        of_kind union x held gathered says =
            let e = entry_at a file held.0 in
            In-append_right e plain _ (In-append_right e two.first.added _ (In-append_left e two.second.added spaces (two.second.all x held e gathered (placed_said (seen_axiom space union x held) file held.0 a says))))

    -- ---- an axiom that clauses say

    said_line : (a : Axiom) (o : Origin) → IsLeastOrigin everything a o → IsSaidAt a o.line → o.file ≡ file → least_line (saying a) ≡ Some o.line
    said_line a o least at from =
        least_line_is (saying a) o.line (record {
          among = subst (λ n. In n (map (λ (one : Placed). one.line) (saying a))) at.same (In-map (λ (one : Placed). one.line) (clause_of at.row) (saying a) (row_saying at.row a at.here at.says));
          least = λ other here.
              (let p = In-from_map (λ (one : Placed). one.line) other (saying a) here in
              let by = saying_row a p.0 p.1 in
              let e = brought by.row a by.here by.says in
              let low = low_line file e.0 o from (least.least (record { file = file; line = e.0 }) (contains-from_In (entry_at a file e.0) everything e.1)) in
              let same : row_line by.row ≡ other = by.same ∙ p.2 in
              subst (λ n. o.line ≤ n) same (Rattle.obo_to_owl.proofs.LineLemmas.through o.line e.0 (row_line by.row) low e.2));
        })

    -- ---- the namespace of a frame that has none

    record IsSpaceOf (e : Entry) : Type 0 where
      name : Name
      text : List ℕ
      declared : In name (filter_map declared_in axioms)
      lacking : is_spaced s left axioms name ≡ false
      same : entry_named file s rows text name ≡ e

    space_of_name : (e : Entry) → In e spaces → IsSpaceOf e
    space_of_name e here =
        let text = In-from_flat_map (spaces_with file s rows left axioms) e (option_to_list (default_found left axioms)) here in
        let name = In-from_map (entry_named file s rows text.0) e (names_left s left axioms) text.2 in
        let found = In-from_filter (λ name. not (is_spaced s left axioms name)) name.0 (filter_map declared_in axioms) name.1 in
        record { name = name.0; text = text.0; declared = found.0; lacking = not_true (is_spaced s left axioms name.0) found.1; same = name.2 }

    unsaid_space : (e : Entry) (is : IsSpaceOf e) → saying e.axiom ≡ []
    unsaid_space e is =
        no_items (saying e.axiom) (λ p here.
        let at = saying_row e.axiom p here in
        let among = (grouped_same rows s known read file start plainly grouped end one two empty e.axiom).1 (said_axiom at.row e.axiom at.here at.says) in
        let named : is_namespace e.axiom ≡ Some is.name = ap is_namespace (sym (ap (λ (e : Entry). e.axiom) is.same)) ∙ spacing_named is.name is.text in
        let has = any_from_in (name_eq is.name) (filter_map is_namespace axioms) is.name (In-filter_map is_namespace is.name axioms e.axiom among named) (name_same is.name is.name ∙ same_name-refl is.name) in
        let no : true ≡ false = sym (or_right (list_any (name_eq is.name) (filter_map (name_kept s) left)) (list_any (name_eq is.name) (filter_map is_namespace axioms)) has) ∙ is.lacking in
        absurd (cc))

    -- the `id` clauses of the frame
    abbrev is_id_of : Name → Placed → Bool
    is_id_of name one = has_tag (codes "id") (unlined one) && option_map_or (same_name name) (entity_of (situation_of (map of_row rows)) one.frame one.id) false

    entity_test : (name : Name) (row : Row) → In row rows → option_map_or (name_eq name) (entity_in s row) false ≡ option_map_or (same_name name) (entity_of (situation_of d) row.placed.now.frame row.placed.now.id) false
    entity_test name row here = ap (λ o. option_map_or (name_eq name) o false) (entity_is rows s known read row here) ∙ tested (entity_of (situation_of d) row.placed.now.frame row.placed.now.id)
      where
        tested : (o : Option Name) → option_map_or (name_eq name) o false ≡ option_map_or (same_name name) o false
        tested None = refl
        tested (Some other) = name_same name other

    id_lines : (name : Name) (some : List Row) → ((row : Row) → In row some → In row rows) → map (λ (one : Placed). one.line) (filter (is_id_of name) (map clause_of some)) ≡ filter_map (line_for s name) some
    id_lines name [] among = refl
    id_lines name (row ∷ some) among =
        let more = id_lines name some (λ r later. among r (inr later)) in
        let test = ap (λ b. has_tag (codes "id") (of_row row) && b) (entity_test name row (among row (inl refl))) in
        step (is_id_of name (clause_of row)) more ∙ sym (ap (λ b. cons_option (where_true b (Some (row_line row))) (filter_map (line_for s name) some)) test)
      where
        step : (b : Bool) → map (λ (one : Placed). one.line) (filter (is_id_of name) (map clause_of some)) ≡ filter_map (line_for s name) some
            → map (λ (one : Placed). one.line) (cond b (clause_of row ∷ filter (is_id_of name) (map clause_of some)) (filter (is_id_of name) (map clause_of some))) ≡ cons_option (where_true b (Some (row_line row))) (filter_map (line_for s name) some)
        step true more = ap (λ ns. row_line row ∷ ns) more
        step false more = more

    -- a declared name has one
    declared_row : (name : Name) → In name (filter_map declared_in axioms) → (row : Row) × In row rows × (line_for s name row ≡ Some (row_line row))
    declared_row name here =
        let a = In-from_filter_map declared_in name axioms here in
        let said = (grouped_same rows s known read file start plainly grouped end one two empty a.0).0 a.1 in
        ⊎_elim
        (λ by. let row = alone_said rows s known read a.0 by in
        by_case row.0 (is_row row.0 row.1) a.0 a.2 (said_cases (situation_of d) (of_row row.0) a.0 (sym (said_known rows s known read row.0 (is_row row.0 row.1)) ∙ row.2)))
        (λ by. let group = (together_said rows s known read a.0 by).1 in absurd (none-some name (sym (group_declares _ _ _ _ a.0 group.says) ∙ a.2)))
        (In-append a.0 (alone rows s known read file) (together rows s known read file) said)
      where
        by_case : (row : Row) → In row rows → (a : Axiom) → declared_in a ≡ Some name → Rattle.obo_normal_form.proofs.OwlCases.SaidCase (situation_of d) (of_row row) a → (row : Row) × In row rows × (line_for s name row ≡ Some (row_line row))
        by_case row among a declares (inl declared) =
            let entity = declared.entity ∙ ap declared_in declared.says ∙ declares in
            let test : option_map_or (name_eq name) (entity_in s row) false ≡ true = entity_test name row among ∙ ap (λ o. option_map_or (same_name name) o false) entity ∙ same_name-refl name in
            (row, among, (λ i. where_true (declared.tag i && test i) (Some (row_line row))))
        by_case row among a declares (inr (inl noted)) = absurd (none-some name (ap declared_in noted.says ∙ declares))
        by_case row among a declares (inr (inr (inl noted))) = absurd (none-some name (ap declared_in noted.says ∙ declares))
        by_case row among a declares (inr (inr (inr stated))) =
            absurd (subst IsStatement (declared_name a name declares) (stated_statement (situation_of d).reading row.placed.now.frame stated.name.iri row.placed.now.clause a stated.means))

    named_line : (name : Name) → In name (filter_map declared_in axioms) → least_line (filter (is_id_of name) document) ≡ Some (line_named s rows name)
    named_line name here =
        let row = declared_row name here in
        let all = filter_map (line_for s name) rows in
        let least = least_is all (row_line row.0) (In-filter_map (line_for s name) (row_line row.0) rows row.0 row.1 row.2) in
        least_line_is (filter (is_id_of name) document) (line_named s rows name)
        (subst (λ ns. IsLeastLine ns (line_named s rows name)) (sym (id_lines name rows (λ row here. here)))
        (subst (IsLeastLine all) (ap option_or_zero (sym least.1)) least.2))

    -- ---- the line of each

    abbrev naming : Axiom → List Placed
    naming a = filter (λ (one : Placed). has_tag (codes "id") (unlined one) && option_map_or (λ name. option_map_or (same_name name) (entity_of (situation_of (map of_row rows)) one.frame one.id) false) (is_namespace a) false) (map clause_of rows)

    abbrev line_in : Axiom → Option ℕ
    line_in a = option_or (least_line (saying a)) (least_line (naming a))

    space_line : (e : Entry) → In e spaces → (line_in e.axiom ≡ Some e.origin.line) × (e.origin.file ≡ file)
    space_line e here =
        let is = space_of_name e here in
        let named : is_namespace e.axiom ≡ Some is.name = ap is_namespace (sym (ap (λ (e : Entry). e.axiom) is.same)) ∙ spacing_named is.name is.text in (
          ap (λ ps. option_or (least_line ps) (least_line (naming e.axiom))) (unsaid_space e is)
              ∙ nothing_first (least_line (naming e.axiom))
              ∙ ap (λ (o : Option Name). least_line (filter (λ (one : Placed). has_tag (codes "id") (unlined one) && option_map_or (λ name. option_map_or (same_name name) (entity_of (situation_of d) one.frame one.id) false) o false) document)) named
              ∙ named_line is.name is.declared
              ∙ ap Some (ap (λ (e : Entry). e.origin.line) is.same),
          sym (ap (λ (e : Entry). e.origin.file) is.same),
        )

    entry_line : (a : Axiom) (o : Origin) → IsLeastOrigin everything a o → (line_in a ≡ Some o.line) × (o.file ≡ file)
    entry_line a o least =
        let e = entry_of a o in
        let said : IsSaidAt a o.line × (o.file ≡ file) → (line_in a ≡ Some o.line) × (o.file ≡ file) = λ at. (ap (λ l. option_or l (least_line (naming a))) (said_line a o least at.0 at.1), at.1) in
        ⊎_elim
        (λ here. said (plain_row e here))
        (λ more. ⊎_elim
        (λ here. said (group_row intersection plainly two.between two.first e here))
        (λ more. ⊎_elim
        (λ here. said (group_row union two.between grouped two.second e here))
        (λ here. space_line e here)
        (In-append e two.second.added spaces more))
        (In-append e two.first.added (two.second.added ++ spaces) more))
        (In-append e plain (two.first.added ++ (two.second.added ++ spaces)) (In-from_contains e everything least.given))

    pub all_placed : (e : Entry) → In e end.entries → IsPlaced file (map clause_of rows) e
    unfolding line_of
    all_placed e here =
        let is = entry_line e.axiom e.origin (least_given everything e (subst (In e) ended here)) in
        record {
          from = is.1;
          line = subst (λ (d : List Framed).
              option_or
              (least_line (filter (λ (one : Placed). list_any (same_axiom e.axiom) (lines.said_by d (unlined one))) document))
              (least_line (filter (λ (one : Placed). has_tag (codes "id") (unlined one) && option_map_or (λ name. option_map_or (same_name name) (entity_of (situation_of d) one.frame one.id) false) (is_namespace e.axiom) false) document))
              ≡ Some e.origin.line) (rows_are rows document refl) is.0;
        }
