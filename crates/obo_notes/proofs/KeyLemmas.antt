-- Keys and their properties.
use Rattle.std.proofs.Common.{◌≡◌, ℕ, true, false, not, ◌==◌, List, length, None, Some, ⊎_elim, sym, ap, subst, arith}
use Rattle.std.specs.Option.{is_none, option_and_then, option_map}
use Rattle.std.proofs.lemmas.Bool.{and_parts, not-true}
use Rattle.std.proofs.lemmas.Bool.Decides.{nat_tests}
use Rattle.std.proofs.lemmas.List.Sums.{AllPass-from_list_all}
use Rattle.std.proofs.lemmas.Option.{none-some, same_Some}
use Rattle.std.proofs.lemmas.Str.{IsUtf8-from_is_utf8}
use Rattle.percent_encoding.specs.Percent.{percent_decode}
use Rattle.iri_map.specs.Split.{after_start}
use Rattle.obo_clause.specs.Marks.{bare}
use Rattle.obo_clause.specs.Vocabulary.{is_key_mark}
use Rattle.obo_clause.specs.declared.clause.Qualifier.{Qualifier}
use Rattle.rel_io.specs.Texts.{IsText}
use Rattle.obo_clause.specs.Fits.{FitsQualifier}
use Rattle.owl_axioms.specs.declared.annotation.NoteValue.{NoteValue}
use Rattle.owl_axioms.specs.declared.annotation.NoteValue.TheVariants.{Link, Text, Typed}
use Rattle.owl_axioms.specs.declared.annotation.Side.{Side}
use Rattle.text_sets.proofs.PartLemmas.{option_and_then_some, option_map_some, option_or_some}
use Rattle.obo_notes.specs.Context.{is_text}
use Rattle.obo_notes.specs.Keys.{gives, is_key, is_reserved_key, key_if, key_of, key_property, plain_text, qualifier_of, side_of_qualifier, text_of_value}
use Rattle.obo_notes.specs.Vocabulary.{obo_in_owl}
use Rattle.obo_notes.proofs.Guards.{none_from_is_none, same_bytes, where_true_some}

-- ---- texts

pub IsText-from_test : (text : List ℕ) → is_text text ≡ true → IsText text
unfolding is_text
IsText-from_test text is =
    let parts = and_parts _ _ is in
    record { utf8 = IsUtf8-from_is_utf8 text parts.0; no_return = not-true _ parts.1 }

pub text_of_value-back : (value : NoteValue) (text : List ℕ) → text_of_value value ≡ Some text → (value ≡ Text text) × (is_text text ≡ true)
text_of_value-back (Text one) text is =
    let found = where_true_some (is_text one) (Some one) text is in
    let same = same_Some one text found.1 in
    (ap Text same, subst (λ t. is_text t ≡ true) same found.0)
text_of_value-back (Typed one datatype) text is = absurd (none-some text is)
text_of_value-back (Link iri) text is = absurd (none-some text is)

pub plain_text-back : (side : Side) (text : List ℕ) → plain_text side ≡ Some text → (side.label ≡ None) × (side.value ≡ Text text) × (is_text text ≡ true)
plain_text-back side text is =
    let found = where_true_some (is_none side.label) (text_of_value side.value) text is in
    let value = text_of_value-back side.value text found.1 in
    (none_from_is_none side.label found.0, value.0, value.1)

-- ---- the key of a property gives the property

record GivesBack (property key : List ℕ) : Type 0 where
  fits : is_key key ≡ true
  plain : is_reserved_key key ≡ false
  same : key_property key ≡ property

key_if-back : (property tried key : List ℕ) → key_if property tried ≡ Some key → GivesBack property key
key_if-back property tried key is =
    let found = where_true_some (gives property tried) (Some tried) key is in
    let first = and_parts _ _ found.0 in
    let second = and_parts _ _ first.0 in
    subst (GivesBack property) (same_Some tried key found.1)
    (record { fits = second.0; plain = not-true _ second.1; same = same_bytes _ _ first.1 })

pub key_of-back : (property key : List ℕ) → key_of property ≡ Some key → (is_key key ≡ true) × (is_reserved_key key ≡ false) × (key_property key ≡ property)
unfolding key_of
key_of-back property key is =
    let back = ⊎_elim
    (λ own. let rest = option_and_then_some (λ rest. key_if property (percent_decode rest)) (after_start obo_in_owl property) key own in key_if-back property (percent_decode rest.0) key rest.2)
    (λ whole. key_if-back property property key whole)
    (option_or_some (option_and_then (λ rest. key_if property (percent_decode rest)) (after_start obo_in_owl property)) (key_if property property) key is) in
    let it : GivesBack property key = back in
    (it.fits, it.plain, it.same)

pub FitsKey : (qualifier : Qualifier) → is_key qualifier.key ≡ true → is_text qualifier.value ≡ true → FitsQualifier qualifier
unfolding is_key
FitsKey qualifier key text =
    let first = and_parts _ _ key in
    let second = and_parts _ _ first.0 in
    let filled : not (length qualifier.key == 0) ≡ true = second.0 in
    record {
      some = grind (arith, nat_tests, filled);
      each = AllPass-from_list_all (λ byte. is_key_mark (bare byte)) qualifier.key second.1;
      utf8 = IsUtf8-from_is_utf8 qualifier.key first.1;
      value = IsText-from_test qualifier.value text;
    }

pub qualifier_of-back : (side : Side) (qualifier : Qualifier) → qualifier_of side ≡ Some qualifier → (side_of_qualifier qualifier ≡ side) × FitsQualifier qualifier
unfolding qualifier_of
qualifier_of-back side qualifier is =
    let first = option_and_then_some (λ key. option_map (λ text. record { key = key; value = text }) (plain_text side)) (key_of side.property) qualifier is in
    let second = option_map_some (λ (text : List ℕ). let q : Qualifier = record { key = first.0; value = text } in q) (plain_text side) qualifier first.2 in
    let key = key_of-back side.property first.0 first.1 in
    let text = plain_text-back side second.0 second.1 in
    let q : Qualifier = record { key = first.0; value = second.0 } in
    let same : side_of_qualifier q ≡ side = λ i. record { property = key.2 i; value = sym text.1 i; label = sym text.0 i } in
    subst (λ (z : Qualifier). (side_of_qualifier z ≡ side) × FitsQualifier z) second.2 (same, FitsKey q key.0 text.2)
