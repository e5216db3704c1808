-- What the definitions of signatures amount to. (Own.)
use Rattle.std.specs.Prelude.{ℕ, ◌≡◌, true, ◌&&◌, ◌||◌, List}
use Rattle.owl_axioms.specs.Names.{body_names, covers, has_meaning, is_signed, listed}
use Rattle.owl_axioms.specs.Proper.{IsProper}
use Rattle.owl_axioms.specs.Signature.{SigState, added, scope_of}
use Rattle.owl_axioms.specs.declared.body.Axiom.{Axiom}
use Rattle.owl_axioms.specs.declared.name.Kind.{Kind}
use Rattle.owl_axioms.specs.declared.name.Name.{Name}

-- adding names is the union with those of them that are no annotation properties
abbrev pub AddingIsUnion : Type 0
AddingIsUnion = (s : SigState) (names : List Name) (k : Kind) (a : List ℕ) → scope_of (added s names) k a ≡ (scope_of s k a || (has_meaning k && listed names k a))

-- each name in a proper axiom is one that a signature may have: no annotation property, and neither owl:Thing nor
-- owl:Nothing as a class
abbrev pub NamesAreSigned : Axiom → Type 0
NamesAreSigned a = IsProper a → covers is_signed (body_names a.body) ≡ true
