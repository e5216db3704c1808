-- Keeping: it composes over the common names, and holds between axioms that have the same models.
use Rattle.std.proofs.Common.{◌≡◌, true, List, ◌++◌, Contains, refl, ◌∙◌}
use Rattle.owl_axioms.specs.declared.name.Kind.TheVariants as kind
use Rattle.owl_sem.specs.Interp.{Interp}
use Rattle.owl_sem.specs.Laws.{AddingEntailedKeeps, KeepBoth, KeepingAllComposes, KeepingComposes, KeepingIsReflexive, KeepingLess, LogicalKeeps, SameAxiomsKeep, TakingEntailedKeeps, Within}
use Rattle.owl_sem.specs.Models.{Agrees, EntailsAll, IsModel, Satisfies, is_logical, logical_of}
use Rattle.owl_axioms.specs.Names.{Scope, all_names, common}
use Rattle.owl_axioms.proofs.Listed.{append_in, in_left}
use Rattle.owl_sem.proofs.Lists.{filter_in, in_filter}
use Rattle.owl_axioms.proofs.Tests.{both}
use Rattle.owl_axioms.specs.declared.body.Axiom.{Axiom}
use Rattle.owl_axioms.specs.declared.body.Body.{Body}
use Rattle.owl_axioms.specs.declared.body.Body.TheVariants as body

-- what agrees over some names and then over others agrees over the names of both
pub agrees_on : (i j l : Interp) (s t : Scope) → Agrees i j t → Agrees j l s → Agrees i l (common s t)
agrees_on i j l s t one two = record {
  sizes = one.sizes ∙ two.sizes;
  classes = λ a h e. let hs = both _ _ h in one.classes a hs.1 e ∙ two.classes a hs.0 e;
  roles = λ r h e f. let hs = both _ _ h in one.roles r hs.1 e f ∙ two.roles r hs.0 e f;
  individuals = λ a h. let hs = both _ _ h in one.individuals a hs.1 ∙ two.individuals a hs.0;
}

-- less names are kept too
pub agrees_less : (i j : Interp) (s t : Scope) → Within t s → Agrees i j s → Agrees i j t
agrees_less i j s t less one = record {
  sizes = one.sizes;
  classes = λ a h e. one.classes a (less kind.Class a h) e;
  roles = λ r h e f. one.roles r (less kind.Role r h) e f;
  individuals = λ a h. one.individuals a (less kind.Individual a h);
}

-- an interpretation agrees with itself
pub agrees_itself : (i : Interp) (s : Scope) → Agrees i i s
agrees_itself i s = record { sizes = refl; classes = λ a h e. refl; roles = λ r h e f. refl; individuals = λ a h. refl }

pub keeping_composes : KeepingComposes
keeping_composes axioms part rest s t one two = record {
  follows = λ i m. two.follows i (one.follows i m);
  extends = λ i m.
      let j = two.extends i m in
      let l = one.extends j.0 j.1.0 in
      (l.0, (l.1.0, agrees_on i j.0 l.0 s t j.1.1 l.1.1));
}

pub keeping_is_reflexive : KeepingIsReflexive
keeping_is_reflexive axioms s = record { follows = λ i m. m; extends = λ i m. (i, (m, agrees_itself i s)) }

pub keeping_all_composes : KeepingAllComposes
keeping_all_composes axioms part rest one two = keeping_composes axioms part rest all_names all_names one two

pub keeping_less : KeepingLess
keeping_less axioms part s t less one = record {
  follows = one.follows;
  extends = λ i m. let j = one.extends i m in (j.0, (j.1.0, agrees_less i j.0 s t less j.1.1));
}

-- ---- axioms with the same models

-- a model of some axioms is one of what they entail
model_of : (axioms others : List Axiom) → EntailsAll axioms others → (i : Interp) → IsModel i axioms → IsModel i others
model_of axioms others entailed i m = record { some = m.some; each = λ a at. entailed a at i m }

-- axioms that entail each other have the same models
pub both_entailed : (axioms others : List Axiom) → EntailsAll axioms others → EntailsAll others axioms → KeepBoth axioms others
both_entailed axioms others there back = (
  record { follows = model_of axioms others there; extends = λ i m. (i, (model_of others axioms back i m, agrees_itself i all_names)) },
  record { follows = model_of others axioms back; extends = λ i m. (i, (model_of axioms others there i m, agrees_itself i all_names)) },
)

-- what is there is entailed
entails_own : (axioms others : List Axiom) → ((a : Axiom) → Contains others a → Contains axioms a) → EntailsAll axioms others
entails_own axioms others sub a at i m = m.each a (sub a at)

pub adding_entailed_keeps : AddingEntailedKeeps
adding_entailed_keeps axioms more entailed =
    both_entailed axioms (axioms ++ more)
    (λ a at i m. append_in a axioms more at (λ here. m.each a here) (λ there. entailed a there i m))
    (entails_own (axioms ++ more) axioms (λ a at. in_left a axioms more at))

pub taking_entailed_keeps : TakingEntailedKeeps
taking_entailed_keeps axioms rest sub entailed = both_entailed axioms rest (entails_own axioms rest sub) entailed

pub same_axioms_keep : SameAxiomsKeep
same_axioms_keep axioms others same =
    both_entailed axioms others (entails_own axioms others (λ a at. (same a).1 at)) (entails_own others axioms (λ a at. (same a).0 at))

-- what is not logical is satisfied
pub satisfied_unless : (i : Interp) (b : Body) → (is_logical b ≡ true → Satisfies i b) → Satisfies i b
unfolding is_logical Satisfies
satisfied_unless i (body.Declaration name) h = tt
satisfied_unless i (body.Note subject property value) h = tt
satisfied_unless i (body.OntologyNote property value) h = tt
satisfied_unless i b h = h refl

pub logical_keeps : LogicalKeeps
logical_keeps axioms =
    both_entailed axioms (logical_of axioms) (entails_own axioms (logical_of axioms) (λ a at. filter_in (λ a. is_logical a.body) a axioms at))
    (λ a at i m. satisfied_unless i a.body (λ h. m.each a (in_filter (λ a. is_logical a.body) a axioms at h)))
