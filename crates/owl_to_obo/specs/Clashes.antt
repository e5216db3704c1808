-- Two values that one frame would have of one tag, as the program has them. (Own.)
use Rattle.obo_mapping.specs.TwoValues as spec
use Rattle.owl_to_obo.specs.declared.given.Given.{Given}
use Rattle.owl_to_obo.specs.declared.least.TwoGiven.{TwoGiven}

abbrev pub given_meant : Given → spec.Given
given_meant one = record { frame = one.frame; id = one.id; iri = one.iri; tag = one.tag; text = one.text; origin = one.origin }

abbrev pub two_meant : TwoGiven → spec.TwoGiven
two_meant two = record { first = given_meant two.first; second = given_meant two.second }
