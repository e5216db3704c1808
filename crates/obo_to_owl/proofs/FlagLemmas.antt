-- Of each clause, whether it is not translated.
use Rattle.std.proofs.Common.{◌≡◌, ℕ, Bool, List, [], ◌∷◌, ap, map, refl, subst, sym, ◌∙◌, inl, inr}
use Rattle.iri_map.specs.Ontology.{name_or_temp}
use Rattle.text_sets.specs.Sets.{In}
use Rattle.obo_frames.specs.Framed.{Framed, unlined}
use Rattle.obo_frames.specs.declared.placed.Placed.{Placed}
use Rattle.obo_statements.specs.Groups.{intersection, union}
use Rattle.obo_mapping.specs.Documents.{is_untranslatable, name_of, space_of}
use Rattle.obo_to_owl.specs.inner.Known.{IsKnown, among, has, has_misfit, is_metadata_clause}
use Rattle.obo_to_owl.specs.inner.Left.{is_left}
use Rattle.obo_to_owl.specs.inner.Rows.{AreRead, clause_of, of_row}
use Rattle.obo_to_owl.specs.declared.rows.Row.{Row}
use Rattle.obo_to_owl.specs.declared.situation.Situation.{Situation}
use Rattle.obo_to_owl.proofs.Linking.{left_known}

rows_framed : (rows : List Row) → map of_row rows ≡ map unlined (map clause_of rows)
rows_framed [] = refl
rows_framed (row ∷ rows) = ap (λ (fs : List Framed). of_row row ∷ fs) (rows_framed rows)

left_each : (u : Framed → Bool) (s : Situation) (rows : List Row) → ((row : Row) → In row rows → is_left s row ≡ u (of_row row)) → map (is_left s) rows ≡ map (λ (one : Placed). u (unlined one)) (map clause_of rows)
left_each u s [] each = refl
left_each u s (row ∷ rows) each =
    let first = each row (inl refl) in
    let more = left_each u s rows (λ r here. each r (inr here)) in
    λ i. first i ∷ more i

pub flags_by : (document : List Placed) (space : List ℕ) (rows : List Row) (s : Situation) (flags : List Bool) → map clause_of rows ≡ document → AreRead space rows → s.name ≡ name_of (map unlined document) → space ≡ name_or_temp s.name
    → ((x : List ℕ) → has s.metadata x ≡ among is_metadata_clause x rows) → ((x : List ℕ) → has s.intersections x ≡ among (has_misfit intersection) x rows) → ((x : List ℕ) → has s.unions x ≡ among (has_misfit union) x rows)
    → flags ≡ map (is_left s) rows → flags ≡ map (λ (one : Placed). is_untranslatable (map unlined document) (unlined one)) document
flags_by document space rows s flags clauses read named spaced metadata intersections unions is =
    let d : map of_row rows ≡ map unlined document = rows_framed rows ∙ ap (map unlined) clauses in
    let name : s.name ≡ name_of (map of_row rows) = named ∙ ap name_of (sym d) in
    let known : IsKnown rows s = record { name = name; metadata = metadata; intersections = intersections; unions = unions } in
    let read_in : AreRead (space_of (map of_row rows)) rows = subst (λ t. AreRead t rows) (spaced ∙ ap name_or_temp name) read in
    is ∙ left_each (is_untranslatable (map of_row rows)) s rows (left_known rows s known read_in) ∙ (λ i. map (λ (one : Placed). is_untranslatable (d i) (unlined one)) (clauses i))
