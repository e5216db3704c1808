use Rattle.std.proofs.Common.{◌≡◌, ◌++◌, ap, length, refl, subst, sym, ◌∙◌}
use Rattle.std.specs.List.{flat_map}
use Rattle.indexmap.specs.IndexMap.{get}
use Rattle.owl_ontology.specs.Ontology.{axioms_of}
use Rattle.expr_pool.specs.Part.{AreBefore}
use Rattle.el_part.proofs.PartLemmas as lemmas
use Rattle.el_part.specs.Part.{nodes_in}
use Rattle.el_part.specs.inner.ClassMap.{AreClassesOf, same_iri}
use Rattle.el_part.specs.inner.Reached.{AreOccurring, StartWithNames}
use Rattle.el_part.proofs.part.part_of.Goals as goal

pub occurring_nodes-requires-clause-before : goal.occurring_nodes-requires-clause-before
occurring_nodes-requires-clause-before c =
    let is : c.as_slice-2.result.now ≡ c.in_ok-roots.roots.items ++ flat_map nodes_in c.in_ok-axioms.axioms.items = c.as_slice-2.ensures.value ∙ c.in_ok-push_nodes.ensures ∙ ap (λ xs. c.in_ok-roots.roots.items ++ flat_map nodes_in xs) c.as_slice.ensures.value in
    subst (AreBefore (length c.part_axioms.new.pool)) (sym is) (lemmas.before (axioms_of c.args.ontology.now.entries) c.named_roots.new.pool c.part_axioms.new.pool c.in_ok-axioms.ensures.kept c.in_ok-roots.roots.items c.in_ok-roots.ensures.roots c.in_ok-axioms.axioms.items c.in_ok-axioms.ensures.made)

pub occurring_nodes-requires-clause-start : goal.occurring_nodes-requires-clause-start
occurring_nodes-requires-clause-start c =
    let is : c.as_slice-2.result.now ≡ c.in_ok-roots.roots.items ++ flat_map nodes_in c.in_ok-axioms.axioms.items = c.as_slice-2.ensures.value ∙ c.in_ok-push_nodes.ensures ∙ ap (λ xs. c.in_ok-roots.roots.items ++ flat_map nodes_in xs) c.as_slice.ensures.value in
    subst (StartWithNames c.part_axioms.new.pool) (sym is) (lemmas.start (axioms_of c.args.ontology.now.entries) c.named_roots.new.pool c.part_axioms.new.pool c.in_ok-axioms.ensures.kept c.in_ok-roots.roots.items c.in_ok-roots.ensures.roots c.in_ok-axioms.axioms.items c.in_ok-axioms.ensures.made)

pub returns-clause-part : goal.returns-clause-part
returns-clause-part c =
    let is : c.as_slice-2.result.now ≡ c.in_ok-roots.roots.items ++ flat_map nodes_in c.in_ok-axioms.axioms.items = c.as_slice-2.ensures.value ∙ c.in_ok-push_nodes.ensures ∙ ap (λ xs. c.in_ok-roots.roots.items ++ flat_map nodes_in xs) c.as_slice.ensures.value in
    let occurring : AreOccurring c.part_axioms.new.pool (c.in_ok-roots.roots.items ++ flat_map nodes_in c.in_ok-axioms.axioms.items) c.in_ok-occurring.occurring.items = subst (λ rs. AreOccurring c.part_axioms.new.pool rs c.in_ok-occurring.occurring.items) is c.in_ok-occurring.ensures in
    lemmas.is_part (axioms_of c.args.ontology.now.entries) c.named_roots.new.pool c.part_axioms.new.pool c.in_ok-axioms.ensures.kept c.in_ok-roots.roots.items c.in_ok-roots.ensures.roots c.in_ok-axioms.axioms.items c.in_ok-axioms.ensures.made c.in_ok-occurring.occurring.items occurring
    (record { axioms = c.in_ok-axioms.axioms.items; occurring = c.in_ok-occurring.occurring.items; classes = c.in_ok-classes.classes.entries; unused = c.unused_count-unused.result }) refl refl

pub returns-clause-fits : goal.returns-clause-fits
returns-clause-fits c =
    let is : c.as_slice-2.result.now ≡ c.in_ok-roots.roots.items ++ flat_map nodes_in c.in_ok-axioms.axioms.items = c.as_slice-2.ensures.value ∙ c.in_ok-push_nodes.ensures ∙ ap (λ xs. c.in_ok-roots.roots.items ++ flat_map nodes_in xs) c.as_slice.ensures.value in
    let occurring : AreOccurring c.part_axioms.new.pool (c.in_ok-roots.roots.items ++ flat_map nodes_in c.in_ok-axioms.axioms.items) c.in_ok-occurring.occurring.items = subst (λ rs. AreOccurring c.part_axioms.new.pool rs c.in_ok-occurring.occurring.items) is c.in_ok-occurring.ensures in
    lemmas.fits (axioms_of c.args.ontology.now.entries) c.named_roots.new.pool c.part_axioms.new.pool c.in_ok-axioms.ensures.kept c.in_ok-roots.roots.items c.in_ok-roots.ensures.roots c.in_ok-axioms.axioms.items c.in_ok-axioms.ensures.made c.in_ok-occurring.occurring.items occurring
    (record { axioms = c.in_ok-axioms.axioms.items; occurring = c.in_ok-occurring.occurring.items; classes = c.in_ok-classes.classes.entries; unused = c.unused_count-unused.result }) refl refl

pub returns-clause-classes : goal.returns-clause-classes
returns-clause-classes c = subst (λ ns. AreClassesOf c.part_axioms.new.pool ns (get same_iri c.in_ok-classes.classes)) c.as_slice-3.ensures.value c.in_ok-classes.ensures
