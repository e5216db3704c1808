-- What is shipped with a part is rooted: each name in an axiom of the part is declared there where it is declared at all.
use Rattle.std.proofs.Common.{◌≡◌, ◌⊎◌, ℕ, Bool, true, false, not, ◌||◌, List, [], ◌∷◌, ◌++◌, length, if◌then◌else◌, Option, inl, inr, ⊎_elim, refl, sym, ap, subst, ◌∙◌, arith}
use Rattle.std.proofs.lemmas.Bool.{or_left}
use Rattle.text_sets.specs.Sets.{In}
use Rattle.text_sets.proofs.SetLemmas.{In-append, In-append_left, In-append_right, In-filter_map, In-from_filter_map, contains-from_In}
use Rattle.owl_axioms.specs.Names.{Scope, body_names, is_signed, listed, name_of, names_in, names_of, names_step}
use Rattle.owl_axioms.specs.Vocabulary.{owl_nothing, owl_thing}
use Rattle.owl_axioms.specs.declared.body.Axiom.{Axiom}
use Rattle.owl_axioms.specs.declared.body.Body.{Body}
use Rattle.owl_axioms.specs.declared.body.Body.TheVariants as body
use Rattle.owl_axioms.specs.declared.expr.ClassExpr.{ClassExpr}
use Rattle.owl_axioms.specs.declared.expr.ClassExpr.TheFolds.{fold-roll-ClassExpr}
use Rattle.owl_axioms.specs.declared.expr.ClassExpr.TheOpen.{ClassExpr-F}
use Rattle.owl_axioms.specs.declared.expr.ClassExpr.TheVariants as expr
use Rattle.owl_axioms.specs.declared.expr.ClassExpr.TheViews.{roll-ClassExpr}
use Rattle.owl_axioms.specs.declared.name.Kind.TheVariants as kinds
use Rattle.owl_axioms.specs.declared.name.Name.{Name}
use Rattle.owl_axioms.proofs.Listed.{listed_in, name_of_axiom}
use Rattle.owl_ontology.specs.Ontology.{axioms_of, flagged}
use Rattle.obo_statements.specs.Anchors.{anchors, class_anchor, class_entity, individual_entity, role_entity}
use Rattle.obo_mapping.specs.Back.{IsSpellable}
use Rattle.obo_mapping.specs.Documents.{declared_in}
use Rattle.obo_mapping.proofs.SinglesLaw.{IsStatement}
use Rattle.obo_mapping.proofs.SpelledLaw.{declared_name}
use Rattle.module_extract.specs.Module.{seed_and}
use Rattle.module_extract.specs.Shipped.{is_said, shipped_flags, ships, ships_each}
use Rattle.spelling_laws.proofs.Gathering.{part_keeps_spelling}
use Rattle.step_spelling.specs.Laws.{CanBeWritten, ShippingKeepsSpelling}
use Rattle.step_spelling.proofs.Flagged.{axioms_of-flagged, axioms_of-length, flagged_each}

-- ---- anchors are names of the axiom, or owl:Thing and owl:Nothing

abbrev IsNamed : List Name → Name → Type 0
IsNamed names x = In x names ⊎ (is_signed x.kind x.iri ≡ false)

class_names : (iri : List ℕ) → names_in (expr.Class iri) ≡ name_of kinds.Class iri ∷ []
unfolding names_in names_step roll-ClassExpr denote.Hole.Carrier.roll
class_names iri = fold-roll-ClassExpr (List Name) names_step (ClassExpr-F.Class iri)

thing_unsigned : is_signed kinds.Class owl_thing ≡ false
unfolding is_signed owl_thing owl_nothing
thing_unsigned = refl

nothing_unsigned : is_signed kinds.Class owl_nothing ≡ false
unfolding is_signed owl_thing owl_nothing
nothing_unsigned = refl

the_one : (x y : Name) (names : List Name) → In x (y ∷ []) → IsNamed names y → IsNamed names x
the_one x y names here named = ⊎_elim (λ same. subst (IsNamed names) same named) (λ none. absurd none) here

class_named_in : (c : ClassExpr) (names : List Name) → ((n : Name) → In n (names_in c) → In n names) → (x : Name) → In x (class_anchor c) → IsNamed names x
class_named_in expr.Thing names each x here = the_one x (class_entity owl_thing) names here (inr thing_unsigned)
class_named_in expr.Nothing names each x here = the_one x (class_entity owl_nothing) names here (inr nothing_unsigned)
class_named_in (expr.Class iri) names each x here =
    the_one x (class_entity iri) names here (inl (each (class_entity iri) (subst (In (class_entity iri)) (sym (class_names iri)) (inl refl))))
class_named_in _ names each x here = absurd here

two_named : (c d : ClassExpr) (x : Name) → In x (class_anchor c ++ class_anchor d) → IsNamed (names_in c ++ names_in d) x
two_named c d x here =
    ⊎_elim
    (class_named_in c (names_in c ++ names_in d) (λ n. In-append_left n (names_in c) (names_in d)) x)
    (class_named_in d (names_in c ++ names_in d) (λ n. In-append_right n (names_in c) (names_in d)) x)
    (In-append x (class_anchor c) (class_anchor d) here)

anchor_named : (said : Body) → IsStatement said → (x : Name) → In x (anchors said) → IsNamed (body_names said) x
unfolding anchors body_names
anchor_named (body.Sub c d) is x here = class_named_in c (names_in c ++ names_in d) (λ n. In-append_left n (names_in c) (names_in d)) x here
anchor_named (body.Equiv c d) is x here = two_named c d x here
anchor_named (body.Disjoint c d) is x here = two_named c d x here
anchor_named (body.EquivRoles r s) is x here = inl here
anchor_named (body.DisjointRoles r s) is x here = inl here
anchor_named (body.Inverse r s) is x here = inl here
anchor_named (body.SubRole r s) is x here = the_one x (role_entity r) (body_names (body.SubRole r s)) here (inl (inl refl))
anchor_named (body.Chain r s t) is x here = the_one x (role_entity t) (body_names (body.Chain r s t)) here (inl (inr (inr (inl refl))))
anchor_named (body.Transitive r) is x here = inl here
anchor_named (body.Reflexive r) is x here = inl here
anchor_named (body.Symmetric r) is x here = inl here
anchor_named (body.Asymmetric r) is x here = inl here
anchor_named (body.Functional r) is x here = inl here
anchor_named (body.InverseFunctional r) is x here = inl here
anchor_named (body.Domain r c) is x here = the_one x (role_entity r) (body_names (body.Domain r c)) here (inl (inl refl))
anchor_named (body.Range r c) is x here = the_one x (role_entity r) (body_names (body.Range r c)) here (inl (inl refl))
anchor_named (body.ClassAssertion c i) is x here = the_one x (individual_entity i) (body_names (body.ClassAssertion c i)) here (inl (inl refl))
anchor_named (body.RoleAssertion r i j) is x here = the_one x (individual_entity i) (body_names (body.RoleAssertion r i j)) here (inl (inr (inl refl)))
anchor_named (body.Declaration name) is x here = absurd is
anchor_named (body.Note subject property noted) is x here = absurd is
anchor_named (body.OntologyNote property noted) is x here = absurd is

-- ---- what is shipped

-- an axiom is shipped by its flag
pub record IsShippedBy (s : Scope) (axioms : List Axiom) (kept : List Bool) (one : Axiom) : Type 0 where
  pub flag : Bool
  pub ships : ships s flag one.body ≡ true
  pub part : flag ≡ true → In one (flagged kept axioms)

more_shipped : (s : Scope) (a : Axiom) (f : Bool) (axioms : List Axiom) (kept : List Bool) (one : Axiom) → IsShippedBy s axioms kept one → IsShippedBy s (a ∷ axioms) (f ∷ kept) one
more_shipped s a f axioms kept one is = record { flag = is.flag; ships = is.ships; part = λ on. later f (is.part on) }
  where
    later : (g : Bool) → In one (flagged kept axioms) → In one (if g then a ∷ flagged kept axioms else flagged kept axioms)
    later true here = inr here
    later false here = here

shipped_by : (s : Scope) (axioms : List Axiom) (kept : List Bool) (one : Axiom) → In one (flagged (ships_each s axioms kept) axioms) → IsShippedBy s axioms kept one
shipped_by s [] kept one here = absurd here
shipped_by s (a ∷ axioms) [] one here = absurd here
shipped_by s (a ∷ axioms) (f ∷ kept) one here =
    elim (ships s f a.body) as (λ b. ships s f a.body ≡ b → In one (if b then a ∷ flagged (ships_each s axioms kept) axioms else flagged (ships_each s axioms kept) axioms) → IsShippedBy s (a ∷ axioms) (f ∷ kept) one) [
      | true ↦ λ is found. ⊎_elim
          (λ same. subst (IsShippedBy s (a ∷ axioms) (f ∷ kept)) same (record { flag = f; ships = is; part = λ on. subst (λ (g : Bool). In a (if g then a ∷ flagged kept axioms else flagged kept axioms)) (sym on) (inl refl) }))
          (λ later. more_shipped s a f axioms kept one (shipped_by s axioms kept one later))
          found
      | false ↦ λ is found. more_shipped s a f axioms kept one (shipped_by s axioms kept one found)
    ] refl here

always_shipped : (s : Scope) (axioms : List Axiom) (kept : List Bool) (one : Axiom) → length kept ≡ length axioms → ((f : Bool) → ships s f one.body ≡ true) → In one axioms → In one (flagged (ships_each s axioms kept) axioms)
always_shipped s [] kept one long each here = absurd here
always_shipped s (a ∷ axioms) [] one long each here = absurd (omega arith)
always_shipped s (a ∷ axioms) (f ∷ kept) one long each (inl same) =
    subst (λ (b : Bool). In one (if b then a ∷ flagged (ships_each s axioms kept) axioms else flagged (ships_each s axioms kept) axioms)) (sym (ap (λ (x : Axiom). ships s f x.body) same ∙ each f)) (inl same)
always_shipped s (a ∷ axioms) (f ∷ kept) one long each (inr later) =
    let rest = always_shipped s axioms kept one (omega arith) each later in
    elim (ships s f a.body) as (λ b. In one (if b then a ∷ flagged (ships_each s axioms kept) axioms else flagged (ships_each s axioms kept) axioms)) [
      | true ↦ inr rest
      | false ↦ rest
    ]

-- ---- the entities of what is shipped

or_more : (a b : Bool) → b ≡ true → (a || b) ≡ true
or_more true b is = refl
or_more false b is = is

said_in_scope : (s : Scope) (x : Name) → s x.kind x.iri ≡ true → is_said s x ≡ true
unfolding is_said
said_in_scope s x is = or_left (s x.kind x.iri) (not (is_signed x.kind x.iri)) is

said_unsigned : (s : Scope) (x : Name) → is_signed x.kind x.iri ≡ false → is_said s x ≡ true
unfolding is_said
said_unsigned s x is = or_more (s x.kind x.iri) (not (is_signed x.kind x.iri)) (ap not is)

module _ (seed : Scope) (axioms : List Axiom) (kept : List Bool) where
  abbrev s : Scope
  s = seed_and seed axioms kept

  in_scope : (one : Axiom) (x : Name) → In one (flagged kept axioms) → In x (body_names one.body) → s x.kind x.iri ≡ true
  in_scope one x here among =
      or_more (seed x.kind x.iri) (listed (names_of (flagged kept axioms)) x.kind x.iri)
      (listed_in (names_of (flagged kept axioms)) x (name_of_axiom (flagged kept axioms) one x (contains-from_In one (flagged kept axioms) here) (contains-from_In x (body_names one.body) among)))

  statement_said : (one : Axiom) (x : Name) → In one (flagged kept axioms) → IsNamed (body_names one.body) x → is_said s x ≡ true
  statement_said one x here named = ⊎_elim (λ among. said_in_scope s x (in_scope one x here among)) (said_unsigned s x) named

  anchor_said : (one : Axiom) (said : Body) → one.body ≡ said → IsShippedBy s axioms kept one → (x : Name) → In x (anchors said) → is_said s x ≡ true
  unfolding anchors ships
  anchor_said one (body.Declaration name) is by x here =
      ⊎_elim (λ same. subst (λ (n : Name). is_said s n ≡ true) same (subst (λ b. ships s by.flag b ≡ true) is by.ships)) (λ none. absurd none) here
  anchor_said one (body.Note subject property noted) is by x here =
      ⊎_elim (λ same. subst (λ (n : Name). is_said s n ≡ true) same (subst (λ b. ships s by.flag b ≡ true) is by.ships)) (λ none. absurd none) here
  anchor_said one (body.OntologyNote property noted) is by x here = absurd here
  anchor_said one said is by x here =
      statement_said one x (by.part (subst (λ b. ships s by.flag b ≡ true) is by.ships)) (subst (λ b. IsNamed (body_names b) x) (sym is) (anchor_named said tt x here))

  declaration_ships : (one : Axiom) (x : Name) → one.body ≡ body.Declaration x → is_said s x ≡ true → (f : Bool) → ships s f one.body ≡ true
  unfolding ships
  declaration_ships one x is said f = ap (ships s f) is ∙ said

  pub shipped_rooted : (name : Option (List ℕ)) → length kept ≡ length axioms → IsSpellable name axioms → IsSpellable name (flagged (shipped_flags seed axioms kept) axioms)
  shipped_rooted name long spellable =
      part_keeps_spelling name axioms (flagged (shipped_flags seed axioms kept) axioms) spellable (record {
        each = λ one here. flagged_each (shipped_flags seed axioms kept) axioms one here;
        declared = λ one entity here among known.
            let a = In-from_filter_map declared_in entity axioms known in
            let said = anchor_said one one.body refl (shipped_by s axioms kept one here) entity among in
            let there = always_shipped s axioms kept a.0 long (declaration_ships a.0 entity (declared_name a.0 entity a.2) said) a.1 in
            In-filter_map declared_in entity (flagged (shipped_flags seed axioms kept) axioms) a.0 there a.2;
      })

pub shipping_keeps_spelling : ShippingKeepsSpelling
shipping_keeps_spelling before after seed kept of spellable =
    let flags = shipped_flags seed (axioms_of before.entries) kept in
    let same = sym (axioms_of-flagged flags before.entries) in
    subst CanBeWritten (sym of.is)
    (subst (IsSpellable before.name) same (shipped_rooted seed (axioms_of before.entries) kept before.name (of.long ∙ sym (axioms_of-length before.entries)) spellable))
