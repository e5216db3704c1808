-- A module keeps the axioms that it was taken from.
use Rattle.std.proofs.Common.{◌≡◌, ℕ, List, Contains, ◌≤◌, Bool, true, false, not, ◌&&◌, ◌||◌, refl, ap, subst}
use Rattle.owl_ontology.specs.Ontology.{flagged}
use Rattle.owl_sem.specs.Interp.{Interp}
use Rattle.owl_sem.specs.Models.{Agrees}
use Rattle.owl_axioms.specs.Names.{Scope, body_names, listed, names_of}
use Rattle.owl_axioms.specs.declared.name.Kind.{Kind}
use Rattle.owl_axioms.specs.declared.name.Kind.TheVariants as kind
use Rattle.owl_axioms.specs.declared.name.Name.{Name}
use Rattle.owl_sem.proofs.Depends.{satisfaction_depends}
use Rattle.owl_sem.proofs.Keeps.{agrees_less}
use Rattle.owl_axioms.proofs.Listed.{covers_axiom, covers_from, covers_listed, listed_in, name_of_axiom}
use Rattle.locality_tables.specs.Fill.{fill, left_by}
use Rattle.locality_tables.proofs.FillLaws.{fills_names}
use Rattle.locality_tables.proofs.LocalSound.{local_sound}
use Rattle.module_extract.specs.Laws.{ClosedExtends, ClosedKeeps}
use Rattle.module_extract.specs.Module.{seed_and}
use Rattle.module_extract.proofs.Flags.{at_place, by_flag, in_part, place_of}

not_outside : (l s : Bool) → s ≡ true → not (l && not s) ≡ true
not_outside true s h = ap (λ b. not (not b)) h
not_outside false s h = refl

-- a fill leaves each name inside
inside_left : (inside : Scope) (names : List Name) (k : Kind) (a : List ℕ) → inside k a ≡ true → left_by inside names k a ≡ true
inside_left inside names kind.Class a h = not_outside (listed names kind.Class a) (inside kind.Class a) h
inside_left inside names kind.Role a h = not_outside (listed names kind.Role a) (inside kind.Role a) h
inside_left inside names kind.Individual a h = refl
inside_left inside names kind.AnnotationProperty a h = refl

either_right : (x y : Bool) → y ≡ true → (x || y) ≡ true
either_right true y h = refl
either_right false y h = h

pub closed_extends : ClosedExtends
closed_extends k axioms part seed kept closed names covering i m =
    let inside : Scope = seed_and seed axioms kept in
    let j : Interp = fill k.classes k.roles inside names i in
    let laws = fills_names k.classes k.roles inside names i in
    let agree : Agrees i j inside = agrees_less i j (left_by inside names) inside (inside_left inside names) laws.1 in
    let some = subst (λ n. 1 ≤ n) agree.sizes m.some in (
      record {
        some = some;
        each = λ a h. place_of part axioms a h (λ at p q. by_flag kept axioms a at closed.same_length p
            (λ flag. let is : Contains (flagged kept axioms) a = at_place kept axioms a at p flag in
            satisfaction_depends inside i j agree a.body (covers_from inside (body_names a.body) (λ n l. either_right (seed n.kind n.iri) _ (listed_in (names_of (flagged kept axioms)) n (name_of_axiom (flagged kept axioms) a n is l)))) (m.each a is))
            (λ flag. local_sound k.classes k.roles inside (listed names) j laws.0 some a.body (covers_axiom (listed names) (flagged part axioms) a covering h) (closed.outside at a p q flag)));
      },
      agree,
    )

pub closed_keeps : ClosedKeeps
closed_keeps k axioms part seed kept closed = record {
  follows = λ i m. record { some = m.some; each = λ a h. m.each a (in_part kept part axioms closed.is_part a h) };
  extends = λ i m.
      let names = names_of (flagged part axioms) in
      (fill k.classes k.roles (seed_and seed axioms kept) names i, closed_extends k axioms part seed kept closed names (covers_listed names) i m);
}
