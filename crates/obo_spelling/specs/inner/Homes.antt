-- Which of the frames of several entities an axiom stands in. (Own.)
use Rattle.std.specs.Prelude.{List, Option}
use Rattle.std.specs.List.{filter_map}
use Rattle.owl_axioms.specs.declared.name.Name.{Name}
use Rattle.text_sets.specs.Sorted.{sorted_by}
use Rattle.obo_notes.specs.Context.{Writing}
use Rattle.obo_notes.specs.Forms.{first_part}
use Rattle.obo_mapping.specs.Axioms.{Home, home_at}

-- the frames of those that are declared
abbrev pub homes_in : Writing → List Name → List Name → List Home
homes_in writing declared names = filter_map (home_at writing declared) names

-- that of the least id
abbrev pub least_of : List Home → Option Home
least_of homes = first_part (sorted_by (λ (h : Home). h.id) homes)
