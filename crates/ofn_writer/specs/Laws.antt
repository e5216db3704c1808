-- What the text of an ontology goes by, and what its order amounts to. (Own.)
use Rattle.std.specs.Prelude.{◌≡◌, ℕ, false, ◌+◌, if◌then◌else◌, List, [], ◌∷◌}
use Rattle.std.specs.Cmp.Lexicographic.{slice_cmp}
use Rattle.std.specs.List.{AllByRecursion}
use Rattle.std.specs.Ordering.{is_lt, nat_cmp}
use Rattle.std.specs.Str.{bytes_eq}
use Rattle.owl_ontology.specs.Ontology.{OntologyState}
use Rattle.owl_ontology.specs.Same.{SaysTheSame}
use Rattle.ofn_writer.specs.Sorted.{sorted}
use Rattle.ofn_writer.specs.Text.{ofn_text}

-- ontologies that say the same have one text
abbrev pub TextsGoBySets : OntologyState → OntologyState → Type 0
TextsGoBySets one other = SaysTheSame one other → ofn_text one ≡ ofn_text other

-- no text is below one before it
abbrev pub Ascends : List (List ℕ) → Type 0
Ascends [] = Unit {0}
Ascends (text ∷ texts) = AllByRecursion (λ later. is_lt (slice_cmp nat_cmp later text) ≡ false) texts × Ascends texts

-- how often a text stands there
abbrev pub times : List ℕ → List (List ℕ) → ℕ
times text [] = 0
times text (first ∷ texts) = (if bytes_eq text first then 1 else 0) + times text texts

-- texts in order rise, and each stands there as often as before
pub record AreInOrder (texts : List (List ℕ)) : Type 0 where
  pub rising : Ascends (sorted texts)
  pub each : (text : List ℕ) → times text (sorted texts) ≡ times text texts
