-- What follows at once from a fact and the table, as lists in the order in which the code writes them. (Own.)
use Rattle.std.specs.Prelude.{ℕ, List, [], ◌∷◌, ◌++◌, slice_get, Some, None, Option, map, filter, nat_eq, if◌then◌else◌}
use Rattle.std.specs.List.{flat_map, list_all, list_any}
use Rattle.fact_rows.specs.Rows.{row}
use Rattle.el_numbers.specs.declared.fact.Fact.{Fact}
use Rattle.el_numbers.specs.declared.fact.Fact.TheVariants.{Below, Link}
use Rattle.el_numbers.specs.declared.index.Indexes.{Indexes}
use Rattle.el_numbers.specs.declared.part.NumberedPart.{NumberedPart}
use Rattle.el_numbers.specs.declared.part.Shape.{Shape}
use Rattle.el_numbers.specs.declared.part.Shape.TheVariants as shape
use Rattle.el_numbers.specs.declared.storing.FactRows.{FactRows}

-- b is below each expression that is paired with the role r
abbrev pub belows : ℕ → ℕ → List (ℕ × ℕ) → List Fact
belows b r ps = map (λ p. Below b p.1) (filter (λ p. nat_eq p.0 r) ps)

-- c has a link to e by each role that is paired with the role s
abbrev pub links : ℕ → ℕ → ℕ → List (ℕ × ℕ) → List Fact
links c e s ps = map (λ p. Link c p.1 e) (filter (λ p. nat_eq p.0 s) ps)

-- c is below each of the ends
abbrev pub told_ends : ℕ → List ℕ → List Fact
told_ends c ends = map (λ e. Below c e) ends

-- c is below an expression of this shape: its link, where that is a restriction
abbrev pub shape_links : ℕ → Option Shape → List Fact
shape_links c None = []
shape_links c (Some shape.Name) = []
shape_links c (Some shape.And) = []
shape_links c (Some (shape.Some r d)) = Link c r d ∷ []

-- what has a link by a role is below the restriction with that role
abbrev pub back_belows : List (ℕ × ℕ) → List (ℕ × ℕ) → List Fact
back_belows somes back = flat_map (λ q. belows q.1 q.0 somes) back

-- c has an r-link to what is below these: it is below their restrictions with the role r
abbrev pub link_belows : List (List (ℕ × ℕ)) → ℕ → ℕ → List ℕ → List Fact
link_belows somes c r below = flat_map (λ e. belows c r (row somes e)) below

-- c goes on from the first link of a chain
abbrev pub first_links : ℕ → List (ℕ × ℕ) → List (ℕ × ℕ) → List Fact
first_links c first out = flat_map (λ q. links c q.1 q.0 first) out

-- what comes before the second link of a chain, to d
abbrev pub second_links : ℕ → List (ℕ × ℕ) → List (ℕ × ℕ) → List Fact
second_links d second back = flat_map (λ q. links q.1 d q.0 second) back

-- each And of which all operands stand in the row
abbrev pub and_belows : List (List ℕ) → ℕ → List ℕ → List ℕ → List Fact
and_belows operands c below ands = map (λ a. Below c a) (filter (λ a. list_all (λ x. list_any (nat_eq x) below) (row operands a)) ands)

-- c is below Nothing for each disjoint class that it is below too
abbrev pub clashes : ℕ → List ℕ → List ℕ → List Fact
clashes c below others = map (λ _. Below c 1) (filter (λ e. list_any (nat_eq e) below) others)

-- where d is Nothing, what has a link is below it
abbrev pub back_nothings : ℕ → List (ℕ × ℕ) → List Fact
back_nothings d back = if nat_eq d 1 then map (λ q. Below q.1 1) back else []

-- c has a link by each of the roles
abbrev pub role_links : ℕ → ℕ → List ℕ → List Fact
role_links c d roles = map (λ s. Link c s d) roles

-- where Nothing is in the row, c is below it
abbrev pub link_nothing : ℕ → List ℕ → List Fact
link_nothing c below = if list_any (nat_eq 1) below then Below c 1 ∷ [] else []

-- what follows from one fact of the first form
abbrev pub below_conclusions : NumberedPart → Indexes → FactRows → ℕ → ℕ → List Fact
below_conclusions part ix t c d = told_ends c (row ix.told.items d) ++ (told_ends c (row part.operands.items d) ++ (shape_links c (slice_get part.shapes.items d) ++ (back_belows (row ix.somes.items d) (row t.back.items c)
    ++ (and_belows part.operands.items c (row t.below.items c) (row ix.ands.items d) ++ (clashes c (row t.below.items c) (row ix.disjoint.items d) ++ back_nothings d (row t.back.items c))))))

-- and of the second form
abbrev pub link_conclusions : NumberedPart → Indexes → FactRows → ℕ → ℕ → ℕ → List Fact
link_conclusions part ix t c r d = link_belows ix.somes.items c r (row t.below.items d) ++ (first_links c (row ix.first.items r) (row t.links.items d) ++ (second_links d (row ix.second.items r) (row t.back.items c)
    ++ (role_links c d (row ix.roles.items r) ++ (told_ends c (row ix.domains.items r) ++ link_nothing c (row t.below.items d)))))

-- what follows from a fact and the table by one rule with that fact among its premises
abbrev pub conclusions : NumberedPart → Indexes → FactRows → Fact → List Fact
conclusions part ix t (Below c d) = below_conclusions part ix t c d
conclusions part ix t (Link c r d) = link_conclusions part ix t c r d
