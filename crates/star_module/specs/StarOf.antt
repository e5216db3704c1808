-- What the rounds end with, as a plain function. (Own.)
use Rattle.std.specs.Prelude.{ℕ, zero, suc, ◌==◌, Bool, if◌then◌else◌, List, [], ◌∷◌, length}
use Rattle.owl_axioms.specs.declared.body.Axiom.{Axiom}
use Rattle.owl_axioms.specs.Names.{Scope}
use Rattle.module_extract.specs.Least.{module_of}
use Rattle.module_extract.specs.Module.{Fills, on_count}

-- what one round comes to
abbrev pub round_result : List Fills → List Axiom → Scope → List Bool → List Bool
round_result [] axioms seed part = part
round_result (k ∷ kinds) axioms seed part = round_result kinds axioms seed (module_of k axioms part seed)

-- at most so many rounds, until one drops nothing: what is kept, and how many rounds there were
abbrev pub rounds_from : List Fills → List Axiom → Scope → ℕ → ℕ → List Bool → List Bool × ℕ
rounds_from kinds axioms seed zero n part = (part, n)
rounds_from kinds axioms seed (suc most) n part =
    if on_count (round_result kinds axioms seed part) == on_count part
    then (round_result kinds axioms seed part, suc n)
    else rounds_from kinds axioms seed most (suc n) (round_result kinds axioms seed part)

-- what is kept in the end, and the number of rounds: with as many rounds as there are axioms, and one more, it ends
unfoldable pub star_of : List Fills → List Axiom → Scope → List Bool → List Bool × ℕ
star_of kinds axioms seed part = rounds_from kinds axioms seed (suc (length axioms)) 0 part
