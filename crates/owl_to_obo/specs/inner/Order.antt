-- The order of what frames have of tags that stand once, part by part. (Own.)
use Rattle.std.specs.Prelude.{ℕ, List, [], ◌∷◌}
use Rattle.std.specs.Option.{option_to_list}
use Rattle.obo_tags.specs.Table.{place_of}
use Rattle.obo_mapping.specs.TwoValues.{given_key}
use Rattle.owl_to_obo.specs.Clashes.{given_meant}
use Rattle.owl_to_obo.specs.declared.given.Given.{Given}

abbrev pub key_of : Given → List (List ℕ)
key_of one = given_key (given_meant one)

abbrev pub key_behind_tag : Given → List (List ℕ)
key_behind_tag one = one.text ∷ (one.origin.file ∷ one.origin.line ∷ []) ∷ []

abbrev pub key_behind_id : Given → List (List ℕ)
key_behind_id one = option_to_list (place_of one.frame one.tag) ∷ one.tag ∷ key_behind_tag one
