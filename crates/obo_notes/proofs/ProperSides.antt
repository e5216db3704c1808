-- The annotations that a clause says are proper, so that their texts tell them.
use Rattle.std.proofs.Common.{◌≡◌, ℕ, true, List, [], ◌∷◌, ◌++◌, codes, map, Some, ⊎_elim, refl, sym, subst}
use Rattle.std.specs.List.{AllPass, list_all}
use Rattle.std.specs.Option.{option_to_list}
use Rattle.std.proofs.lemmas.Bool.{and_from, cases_Bool}
use Rattle.std.proofs.lemmas.List.Elements.{All-append}
use Rattle.std.proofs.lemmas.List.Sums.{AllPass-from_list_all, list_all-from_AllPass}
use Rattle.std.proofs.lemmas.Option.{none-some, same_Some}
use Rattle.text_sets.proofs.SetLemmas.{In-append, In-from_map}
use Rattle.text_sets.specs.Sets.{AreTold, In}
use Rattle.rel_io.specs.Texts.{is_clean_iri, is_iri_byte}
use Rattle.iri_map.specs.Escape.{escaped_part, escaped_url, stays_in_part, stays_in_url}
use Rattle.iri_map.specs.Id.{is_url}
use Rattle.iri_map.proofs.EscapeLemmas.{AllPass-escaped_part, AllPass-escaped_url, implies_by_table, stays_in_part-high, stays_in_url-high}
use Rattle.obo_clause.specs.declared.clause.Qualifier.{Qualifier}
use Rattle.obo_clause.specs.declared.clause.Value.{Value}
use Rattle.obo_clause.specs.declared.clause.Value.TheVariants as value
use Rattle.obo_clause.specs.declared.clause.Xref.{Xref}
use Rattle.owl_axioms.specs.Proper.{is_proper_side, is_proper_value}
use Rattle.owl_axioms.specs.Vocabulary.{rdfs_label}
use Rattle.owl_axioms.specs.Text.{side_text}
use Rattle.owl_axioms.specs.declared.annotation.Side.{Side}
use Rattle.obo_notes.specs.Context.{Agree, Reading, Writing}
use Rattle.obo_notes.specs.Forms.{Form, said}
use Rattle.obo_notes.specs.declared.note.Note.{Note}
use Rattle.obo_notes.specs.Keys.{key_property, side_of_qualifier, text_side}
use Rattle.obo_notes.specs.Parts.{side_of_scope, side_of_type, side_of_xref}
use Rattle.obo_notes.specs.Vocabulary.{has_dbxref, has_scope, has_synonym_type, obo_in_owl, rdfs_comment}
use Rattle.obo_notes.proofs.KeyCovers.{key_property-own, key_property-url}
use Rattle.obo_notes.proofs.SideTexts.{text_tells_side}

pub url_byte : (b : ℕ) → stays_in_url b ≡ true → is_iri_byte b ≡ true
url_byte = implies_by_table stays_in_url is_iri_byte refl stays_in_url-high

pub part_byte : (b : ℕ) → stays_in_part b ≡ true → is_iri_byte b ≡ true
part_byte = implies_by_table stays_in_part is_iri_byte refl stays_in_part-high

pub clean_url : (iri : List ℕ) → is_clean_iri (escaped_url iri) ≡ true
unfolding is_clean_iri
clean_url iri = list_all-from_AllPass is_iri_byte (escaped_url iri) (AllPass-escaped_url is_iri_byte url_byte iri)

own_is_clean : AllPass is_iri_byte obo_in_owl
unfolding obo_in_owl
own_is_clean = AllPass-from_list_all is_iri_byte obo_in_owl refl

clean_own : (key : List ℕ) → is_clean_iri (obo_in_owl ++ escaped_part key) ≡ true
unfolding is_clean_iri
clean_own key =
    list_all-from_AllPass is_iri_byte (obo_in_owl ++ escaped_part key)
    (All-append (λ b. is_iri_byte b ≡ true) obo_in_owl (escaped_part key) own_is_clean (AllPass-escaped_part is_iri_byte refl part_byte key))

clean_key : (key : List ℕ) → is_clean_iri (key_property key) ≡ true
clean_key key =
    ⊎_elim
    (λ url. subst (λ p. is_clean_iri p ≡ true) (sym (key_property-url key url)) (clean_url key))
    (λ other. subst (λ p. is_clean_iri p ≡ true) (sym (key_property-own key other)) (clean_own key))
    (cases_Bool (is_url key))

abbrev pub IsProperSide : Side → Type 0
IsProperSide side = is_proper_side side ≡ true

text_proper : (property text : List ℕ) → is_clean_iri property ≡ true → IsProperSide (text_side property text)
unfolding is_proper_side is_proper_value
text_proper property text clean = and_from (is_clean_iri property) true clean refl

pub qualifier_proper : (qualifier : Qualifier) → IsProperSide (side_of_qualifier qualifier)
qualifier_proper qualifier = text_proper (key_property qualifier.key) qualifier.value (clean_key qualifier.key)

pub own_clean : (name : List ℕ) → list_all is_iri_byte name ≡ true → is_clean_iri (obo_in_owl ++ name) ≡ true
unfolding is_clean_iri
own_clean name all = list_all-from_AllPass is_iri_byte (obo_in_owl ++ name) (All-append (λ b. is_iri_byte b ≡ true) obo_in_owl name own_is_clean (AllPass-from_list_all is_iri_byte name all))

xref_proper : (xref : Xref) → IsProperSide (side_of_xref xref)
unfolding is_proper_side is_proper_value
xref_proper xref = and_from (is_clean_iri has_dbxref) true (own_clean (codes "hasDbXref") refl) refl

pub label_clean : is_clean_iri rdfs_label ≡ true
unfolding is_clean_iri rdfs_label
label_clean = refl

pub comment_clean : is_clean_iri rdfs_comment ≡ true
unfolding is_clean_iri rdfs_comment
comment_clean = refl

abbrev pub AreProperSides : List Side → Type 0
AreProperSides sides = (side : Side) → In side sides → IsProperSide side

map_proper : {X : Type 0} (make : X → Side) → ((x : X) → IsProperSide (make x)) → (xs : List X) → AreProperSides (map make xs)
map_proper make each xs side here = let x = In-from_map make side xs here in subst IsProperSide x.2 (each x.0)

both_proper : (some others : List Side) → AreProperSides some → AreProperSides others → AreProperSides (some ++ others)
both_proper some others one two side here = ⊎_elim (one side) (two side) (In-append side some others here)

nothing_proper : AreProperSides []
nothing_proper side here = absurd here

module _ (reading : Reading) (writing : Writing) (agree : Agree reading writing) where
  type_proper : (id : List ℕ) → IsProperSide (side_of_type reading id)
  unfolding is_proper_side is_proper_value
  type_proper id = and_from (is_clean_iri has_synonym_type) (is_clean_iri (reading.iri id)) (own_clean (codes "hasSynonymType") refl) (subst (λ i. is_clean_iri i ≡ true) (agree.clean id).1 (clean_url (reading.iri id)))

  -- what a value says is proper
  pub own_proper : (form : Form) (v : Value) (one : Note) → said reading form v ≡ Some one → AreProperSides one.sides
  unfolding said
  own_proper (Form.TextForm property) (value.Text text) one is = subst (λ (n : Note). AreProperSides n.sides) (same_Some _ one is) nothing_proper
  own_proper (Form.WordForm property) (value.Id word) one is = subst (λ (n : Note). AreProperSides n.sides) (same_Some _ one is) nothing_proper
  own_proper (Form.LinkForm property) (value.Id id) one is = subst (λ (n : Note). AreProperSides n.sides) (same_Some _ one is) nothing_proper
  own_proper (Form.TruthForm property) (value.Bool true) one is = subst (λ (n : Note). AreProperSides n.sides) (same_Some _ one is) nothing_proper
  own_proper Form.DefinitionForm (value.Def text xrefs) one is = subst (λ (n : Note). AreProperSides n.sides) (same_Some _ one is) (map_proper side_of_xref xref_proper xrefs)
  own_proper Form.SynonymForm (value.Synonym text scope type xrefs) one is =
      subst (λ (n : Note). AreProperSides n.sides) (same_Some _ one is)
      (both_proper (map (side_of_type reading) (option_to_list type)) (map side_of_xref xrefs) (map_proper (side_of_type reading) type_proper (option_to_list type)) (map_proper side_of_xref xref_proper xrefs))
  own_proper Form.XrefForm (value.XrefValue xref) one is =
      subst (λ (n : Note). AreProperSides n.sides) (same_Some _ one is) (map_proper (text_side rdfs_label) (λ text. text_proper rdfs_label text label_clean) (option_to_list xref.label))
  own_proper Form.ValueForm (value.Literal relation text datatype) one is = subst (λ (n : Note). AreProperSides n.sides) (same_Some _ one is) nothing_proper
  own_proper Form.ValueForm (value.Link relation target) one is = subst (λ (n : Note). AreProperSides n.sides) (same_Some _ one is) nothing_proper
  own_proper Form.SubsetForm (value.SubsetDef id text) one is =
      subst (λ (n : Note). AreProperSides n.sides) (same_Some _ one is) (map_proper (text_side rdfs_comment) (λ t. text_proper rdfs_comment t comment_clean) (text ∷ []))
  own_proper Form.TypeForm (value.SynonymDef id text scope) one is =
      subst (λ (n : Note). AreProperSides n.sides) (same_Some _ one is)
      (both_proper (text_side rdfs_comment text ∷ []) (map side_of_scope (option_to_list scope)) (map_proper (text_side rdfs_comment) (λ t. text_proper rdfs_comment t comment_clean) (text ∷ []))
      (map_proper side_of_scope (λ s. text_proper has_scope (Rattle.obo_clause.specs.Spelling.scope_word s) (own_clean (codes "hasScope") refl)) (option_to_list scope)))
  own_proper _ _ one is = absurd (none-some one is)

  -- so the annotations of a clause are told by their texts
  pub sides_are_told : (form : Form) (v : Value) (one : Note) (qualifiers : List Qualifier) → said reading form v ≡ Some one → AreTold side_text (one.sides ++ map side_of_qualifier qualifiers)
  sides_are_told form v one qualifiers is x y here there same =
      let all = both_proper one.sides (map side_of_qualifier qualifiers) (own_proper form v one is) (map_proper side_of_qualifier qualifier_proper qualifiers) in
      text_tells_side x y (all x here) (all y there) same
