-- What the program has found out about a document is what the definitions say of it.
use Rattle.std.proofs.Common.{◌≡◌, ◌&&◌, ◌||◌, ℕ, Bool, true, false, not, cond, List, [], ◌∷◌, Option, None, Some, if◌then◌else◌, map, refl, ap, ◌∙◌, inl, inr}
use Rattle.std.specs.List.{list_any}
use Rattle.std.specs.Option.{option_map, option_map_or}
use Rattle.std.specs.Prelude.{filter}
use Rattle.std.specs.Str.{bytes_eq}
use Rattle.std.proofs.lemmas.Cmp.{nat_list_eq_equiv}
use Rattle.iri_map.specs.Id.{iri_of}
use Rattle.text_sets.specs.Sets.{In}
use Rattle.obo_tags.specs.declared.kind.FrameKind.{FrameKind}
use Rattle.obo_tags.specs.declared.kind.FrameKind.TheVariants as frames
use Rattle.obo_frames.specs.Framed.{Framed}
use Rattle.owl_axioms.specs.declared.name.Kind.TheVariants as kinds
use Rattle.obo_statements.specs.Groups.{Group, group_tag, intersection, union}
use Rattle.obo_mapping.specs.Axioms.{axiom_said, entity_of, is_metadata, name_as, said_at}
use Rattle.obo_mapping.specs.Documents.{group_of, has_tag, is_broken, is_misfit, is_raw, is_term, is_untranslatable, situation_of, space_of}
use Rattle.obo_to_owl.specs.inner.Adding.{said_by}
use Rattle.obo_to_owl.specs.inner.Known.{IsKnown, among, has, has_misfit, is_metadata_clause}
use Rattle.obo_to_owl.specs.inner.Left.{broken_in, is_left}
use Rattle.obo_to_owl.specs.inner.Rows.{AreRead, of_row}
use Rattle.obo_to_owl.specs.inner.Rules.{is_of_relation, is_other_than}
use Rattle.obo_to_owl.specs.inner.Saying.{kind_of, read_in}
use Rattle.obo_to_owl.specs.inner.Spacing.{entity_in}
use Rattle.obo_to_owl.specs.declared.rows.Row.{Row}
use Rattle.obo_to_owl.specs.declared.situation.Situation.{Situation}

-- ---- the IRIs of annotation properties

metadata_rows : (space : List ℕ) (rows : List Row) (x : List ℕ) → AreRead space rows → among is_metadata_clause x rows ≡ list_any (bytes_eq x) (map (λ (one : Framed). iri_of one.id space) (filter is_metadata_clause (map of_row rows)))
metadata_rows space [] x read = refl
metadata_rows space (row ∷ rows) x read =
    let more = metadata_rows space rows x (λ r here. read r (inr here)) in
    let iri = read row (inl refl) in
    ap (λ i. (is_metadata_clause (of_row row) && bytes_eq x i) || among is_metadata_clause x rows) iri
    ∙ step (is_metadata_clause (of_row row)) (iri_of row.placed.now.id space) (of_row row) refl more
  where
    step : (m : Bool) (iri : List ℕ) (one : Framed) → iri ≡ iri_of one.id space → among is_metadata_clause x rows ≡ list_any (bytes_eq x) (map (λ (one : Framed). iri_of one.id space) (filter is_metadata_clause (map of_row rows)))
        → ((m && bytes_eq x iri) || among is_metadata_clause x rows) ≡ list_any (bytes_eq x) (map (λ (one : Framed). iri_of one.id space) (if m then one ∷ filter is_metadata_clause (map of_row rows) else filter is_metadata_clause (map of_row rows)))
    step true iri one is same = λ i. bytes_eq x (is i) || same i
    step false iri one is same = same

-- ---- groups that have a misfit

broken_step : (t r e k m others : Bool) (one : Framed) (rest : List Framed) → m ≡ is_misfit one → others ≡ list_any is_misfit rest → ((((t && r && k) && m) && e) || others) ≡ list_any is_misfit (if t && r && e && k then one ∷ rest else rest)
broken_step true true true true m others one rest is same = whole m is
  where
    whole : (m : Bool) → m ≡ is_misfit one → ((m && true) || others) ≡ (is_misfit one || list_any is_misfit rest)
    whole true is = λ i. is i || same i
    whole false is = λ i. is i || same i
broken_step true true true false m others one rest is same = same
broken_step true true false true true others one rest is same = same
broken_step true true false true false others one rest is same = same
broken_step true true false false m others one rest is same = same
broken_step true false e k m others one rest is same = same
broken_step false r e k m others one rest is same = same

broken_rows : (space : List ℕ) (group : Group) (rows : List Row) (x : List ℕ) → AreRead space rows
    → among (has_misfit group) x rows ≡ list_any is_misfit (filter (λ (one : Framed). is_term one.frame && not (is_raw one.clause.value) && bytes_eq (iri_of one.id space) x && has_tag (group_tag group) one) (map of_row rows))
broken_rows space group [] x read = refl
broken_rows space group (row ∷ rows) x read =
    let one = of_row row in
    let more = broken_rows space group rows x (λ r here. read r (inr here)) in
    let turned : bytes_eq x row.iri.now ≡ bytes_eq (iri_of row.placed.now.id space) x = ap (bytes_eq x) (read row (inl refl)) ∙ nat_list_eq_equiv.symm x (iri_of row.placed.now.id space) in
    ap (λ e. (((is_term one.frame && not (is_raw one.clause.value) && has_tag (group_tag group) one) && is_misfit one) && e) || among (has_misfit group) x rows) turned
    ∙ broken_step (is_term one.frame) (not (is_raw one.clause.value)) (bytes_eq (iri_of row.placed.now.id space) x) (has_tag (group_tag group) one) (is_misfit one) (among (has_misfit group) x rows) one (filter (λ (one : Framed). is_term one.frame && not (is_raw one.clause.value) && bytes_eq (iri_of one.id space) x && has_tag (group_tag group) one) (map of_row rows)) refl more

module _ (rows : List Row) (s : Situation) (known : IsKnown rows s) (read : AreRead (space_of (map of_row rows)) rows) where
  abbrev d : List Framed
  d = map of_row rows

  pub metadata_known : (x : List ℕ) → has s.metadata x ≡ is_metadata (situation_of d) x
  unfolding situation_of
  metadata_known x = known.metadata x ∙ metadata_rows (space_of d) rows x read

  pub broken_known : (x : List ℕ) (group : Group) → broken_in s x group ≡ is_broken (situation_of d) d x group
  unfolding situation_of
  broken_known x intersection = known.intersections x ∙ broken_rows (space_of d) intersection rows x read
  broken_known x union = known.unions x ∙ broken_rows (space_of d) union rows x read

  in_group : (o : Option Group) (x : List ℕ) → option_map_or (broken_in s x) o false ≡ option_map_or (is_broken (situation_of d) d x) o false
  in_group None x = refl
  in_group (Some group) x = broken_known x group

  -- the clauses that the program leaves are those without an axiom
  pub left_known : (row : Row) → In row rows → is_left s row ≡ is_untranslatable d (of_row row)
  unfolding is_untranslatable situation_of
  left_known row here =
      let f = of_row row in
      let iri = read row here in
      let groups = ap (λ x. option_map_or (broken_in s x) (group_of f) false) iri ∙ in_group (group_of f) (iri_of row.placed.now.id (space_of d)) in
      let metadata = ap (has s.metadata) iri ∙ metadata_known (iri_of row.placed.now.id (space_of d)) in
      λ i. is_misfit f || groups i || is_of_relation (metadata i) f || is_other_than (known.name i) f

  -- the entity of a frame, as the program finds it
  pub entity_is : (row : Row) → In row rows → entity_in s row ≡ entity_of (situation_of d) row.placed.now.frame row.placed.now.id
  unfolding situation_of
  entity_is row here =
      let iri = read row here in
      let metadata = ap (has s.metadata) iri ∙ metadata_known (iri_of row.placed.now.id (space_of d)) in
      (λ i. option_map (λ kind. name_as kind (iri i)) (kind_of row.placed.now.frame (metadata i))) ∙ entity_known row.placed.now.frame row.placed.now.id
    where
      by_test : (b : Bool) (one : List ℕ) → option_map (λ kind. name_as kind one) (if b then Some kinds.AnnotationProperty else Some kinds.Role) ≡ Some (if b then name_as kinds.AnnotationProperty one else name_as kinds.Role one)
      by_test true one = refl
      by_test false one = refl

      entity_known : (frame : FrameKind) (id : List ℕ) → option_map (λ kind. name_as kind (iri_of id (space_of d))) (kind_of frame (is_metadata (situation_of d) (iri_of id (space_of d)))) ≡ entity_of (situation_of d) frame id
      entity_known frames.Header id = refl
      entity_known frames.Term id = refl
      entity_known frames.Instance id = refl
      entity_known frames.Typedef id = by_test (is_metadata (situation_of d) (iri_of id (space_of d))) (iri_of id (space_of d))

  -- and what a clause says is what the program reads
  pub said_known : (row : Row) → In row rows → said_by (space_of d) s row ≡ axiom_said (situation_of d) (of_row row)
  unfolding axiom_said situation_of
  said_known row here = ap (said_at (read_in (space_of d)) (of_row row)) (entity_is row here)

  pub left_rows : (some : List Row) → ((row : Row) → In row some → In row rows) → filter (is_left s) some ≡ filter (λ (row : Row). is_untranslatable d (of_row row)) some
  left_rows [] among_rows = refl
  left_rows (row ∷ some) among_rows =
      let one = left_known row (among_rows row (inl refl)) in
      let more = left_rows some (λ r here. among_rows r (inr here)) in
      λ i. cond (one i) (row ∷ more i) (more i)
