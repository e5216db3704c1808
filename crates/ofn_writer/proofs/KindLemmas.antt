-- Kinds that are counted, and a name more among those that are declared.
use Rattle.std.proofs.Common.{◌≡◌, ◌+◌, ◌||◌, ℕ, Bool, true, false, cond, List, [], ◌∷◌, length, nat_lt, refl}
use Rattle.owl_axioms.specs.Names.{Scope}
use Rattle.owl_axioms.specs.Signature.{SigState, add_name}
use Rattle.owl_axioms.specs.declared.name.Kind.{Kind}
use Rattle.owl_axioms.specs.declared.name.Kind.TheVariants as kind
use Rattle.owl_axioms.proofs.Signatures.{has_with}
use Rattle.ofn_writer.specs.Kinds.{has_many_kinds, is_named}
use Rattle.ofn_writer.specs.inner.Declared.{one_if, scope_in, with_property}

-- the kinds whose tests are passed
abbrev kept : Bool → Bool → Bool → Bool → List Kind
kept a b c d =
    let three = cond d (kind.AnnotationProperty ∷ []) [] in
    let two = cond c (kind.Individual ∷ three) three in
    let one = cond b (kind.Role ∷ two) two in
    cond a (kind.Class ∷ one) one

counted : (a b c d : Bool) → nat_lt 1 (one_if a + one_if b + one_if c + one_if d) ≡ nat_lt 1 (length (kept a b c d))
counted true true true true = refl
counted true true true false = refl
counted true true false true = refl
counted true true false false = refl
counted true false true true = refl
counted true false true false = refl
counted true false false true = refl
counted true false false false = refl
counted false true true true = refl
counted false true true false = refl
counted false true false true = refl
counted false true false false = refl
counted false false true true = refl
counted false false true false = refl
counted false false false true = refl
counted false false false false = refl

pub many_are_counted : (s : Scope) (iri : List ℕ) → nat_lt 1 (one_if (s kind.Class iri) + one_if (s kind.Role iri) + one_if (s kind.Individual iri) + one_if (s kind.AnnotationProperty iri)) ≡ has_many_kinds s iri
unfolding has_many_kinds
many_are_counted s iri = counted (s kind.Class iri) (s kind.Role iri) (s kind.Individual iri) (s kind.AnnotationProperty iri)

or_none : (b : Bool) → b ≡ (b || false)
or_none true = refl
or_none false = refl

pub one_name_more : (s : SigState) (ps : List (List ℕ)) (l : Kind) (t : List ℕ) (k : Kind) (iri : List ℕ) → scope_in (add_name s l t) (with_property ps l t) k iri ≡ (scope_in s ps k iri || is_named (record { kind = l; iri = t }) k iri)
one_name_more s ps kind.Class t kind.Class iri = has_with s.classes t iri
one_name_more s ps kind.Class t kind.Role iri = or_none _
one_name_more s ps kind.Class t kind.Individual iri = or_none _
one_name_more s ps kind.Class t kind.AnnotationProperty iri = or_none _
one_name_more s ps kind.Role t kind.Class iri = or_none _
one_name_more s ps kind.Role t kind.Role iri = has_with s.roles t iri
one_name_more s ps kind.Role t kind.Individual iri = or_none _
one_name_more s ps kind.Role t kind.AnnotationProperty iri = or_none _
one_name_more s ps kind.Individual t kind.Class iri = or_none _
one_name_more s ps kind.Individual t kind.Role iri = or_none _
one_name_more s ps kind.Individual t kind.Individual iri = has_with s.individuals t iri
one_name_more s ps kind.Individual t kind.AnnotationProperty iri = or_none _
one_name_more s ps kind.AnnotationProperty t kind.Class iri = or_none _
one_name_more s ps kind.AnnotationProperty t kind.Role iri = or_none _
one_name_more s ps kind.AnnotationProperty t kind.Individual iri = or_none _
one_name_more s ps kind.AnnotationProperty t kind.AnnotationProperty iri = has_with ps t iri
