-- The answer of the plain function is the one right answer.
use Rattle.std.proofs.Common.{◌≡◌, ◌⊎◌, ℕ, ◌≤◌, ◌<◌, true, false, cond, List, [], ◌∷◌, ◌++◌, Option, None, Some, length, map, nat_lt, ⊎_elim, refl, sym, ap, subst, ◌∙◌, arith, Contains}
use Rattle.std.proofs.lemmas.Bool.Decides.{nat_tests}
use Rattle.fact_rows.specs.Member.{In, NoRepeats}
use Rattle.fact_rows.proofs.Members.{contains_from_in, from_map, in_from_contains, in_map}
use Rattle.fact_rows.proofs.Repeats.{fits}
use Rattle.owl_axioms.specs.declared.body.Axiom.{Axiom}
use Rattle.owl_ontology.specs.Ontology.{OntologyState, axioms_of}
use Rattle.el_rules.specs.Rules.{Derived, ElFact, ElView, IsElPartOf}
use Rattle.el_saturate.specs.Table.{AreMore, IsNumberOfFacts}
use Rattle.el_taxonomy.specs.Direct.{edge_of}
use Rattle.el_taxonomy.specs.Reason.{Infers, IsInferred, IsReasoned, inclusion_of}
use Rattle.el_taxonomy.specs.declared.edge.Edge.{Edge}
use Rattle.relax_axioms.specs.Relax.{step_entries}
use Rattle.plain_reasoning.specs.Edges.{edges_of, facts_in}
use Rattle.plain_reasoning.specs.Laws.{IsAnswer, ReasonOfIsTheAnswer}
use Rattle.plain_reasoning.specs.Occurring.{view_of_axioms}
use Rattle.plain_reasoning.specs.Reason.{Reasoned, Reasoning, TooManyFacts, Unsatisfiable, reason_at, reason_of, with_edges}
use Rattle.plain_reasoning.specs.Unsatisfiable.{unsatisfiable_of}
use Rattle.plain_reasoning.proofs.Edges.{direct_edges_are_one, edges_are_direct}
use Rattle.plain_reasoning.proofs.Facts.{facts_are_derived}
use Rattle.plain_reasoning.proofs.Occurring.{view_is_el_part}
use Rattle.plain_reasoning.proofs.Rising.{follow_rising, inclusions_apart}
use Rattle.plain_reasoning.proofs.Unsatisfiable.{at_refused, none_refused, refused_at, refused_none}

-- ---- how many facts there are

module _ (axioms : List Axiom) (view : ElView) (of : IsElPartOf axioms view) where
  fact_in : (fact : ElFact) → Derived view fact → In fact (facts_in axioms)
  unfolding facts_in
  fact_in fact d = ((facts_are_derived axioms view of).0 fact).1 d

  in_fact : (fact : ElFact) → In fact (facts_in axioms) → Derived view fact
  unfolding facts_in
  in_fact fact i = ((facts_are_derived axioms view of).0 fact).0 i

  facts_once : NoRepeats (facts_in axioms)
  unfolding facts_in
  facts_once = (facts_are_derived axioms view of).1

  pub no_more : (limit count : ℕ) → IsNumberOfFacts view count → count ≤ limit → length (facts_in axioms) ≤ limit
  no_more limit count n few =
      let less = fits facts_once n.facts (λ f i. (n.derived f).1 (in_fact f i)) in
      let is = n.are in omega (arith, less, is, few)

  pub more : (limit : ℕ) → AreMore view limit → limit < length (facts_in axioms)
  more limit m =
      let less = fits m.once (facts_in axioms) (λ f i. fact_in f (m.derived f i)) in
      let above = m.more in omega (arith, less, above)

-- ---- the answer by cases

not_less : (limit n : ℕ) → n ≤ limit → nat_lt limit n ≡ false
not_less limit n h = grind (arith, nat_tests, h)

is_less : (limit n : ℕ) → limit < n → nat_lt limit n ≡ true
is_less limit n h = grind (arith, nat_tests, h)

module _ (before : OntologyState) (limit : ℕ) where
  abbrev axioms : List Axiom
  axioms = axioms_of before.entries

  when_few : length (facts_in axioms) ≤ limit → reason_of before limit ≡ reason_at before (unsatisfiable_of before.entries)
  unfolding reason_of
  when_few few = ap (λ b. cond b (TooManyFacts limit) (reason_at before (unsatisfiable_of before.entries))) (not_less limit (length (facts_in axioms)) few)

  when_many : limit < length (facts_in axioms) → reason_of before limit ≡ TooManyFacts limit
  unfolding reason_of
  when_many many = ap (λ b. cond b (TooManyFacts limit) (reason_at before (unsatisfiable_of before.entries))) (is_less limit (length (facts_in axioms)) many)

  few_facts : (view : ElView) → IsReasoned axioms limit view → length (facts_in axioms) ≤ limit
  few_facts view r = no_more axioms view r.part limit r.count r.facts r.few

  -- ---- each right answer

  same_after : (after : OntologyState) (view : ElView) (count : ℕ) → IsElPartOf axioms view → Infers view before after count → after ≡ with_edges before (edges_of axioms)
  unfolding with_edges
  same_after after view count of i =
      let edges = direct_edges_are_one axioms view i.edges of i.are in
      λ j. record {
        name = i.name j;
        entries = (i.entries ∙ ap (λ added. before.entries ++ step_entries added) (i.added_are ∙ ap (map inclusion_of) edges)) j;
      }

  length_mapped : (edges : List Edge) → length (map inclusion_of edges) ≡ length edges
  length_mapped [] = refl
  length_mapped (e ∷ edges) = let rest = length_mapped edges in omega (arith, rest)

  same_count : (after : OntologyState) (view : ElView) (count : ℕ) → IsElPartOf axioms view → Infers view before after count → count ≡ length (edges_of axioms)
  same_count after view count of i =
      i.counted ∙ ap length i.added_are ∙ length_mapped i.edges ∙ ap length (direct_edges_are_one axioms view i.edges of i.are)

  answer_is : (answer : Reasoning) → IsAnswer before limit answer → reason_of before limit ≡ answer
  answer_is (Reasoned after count unused) r =
      let of = r.reasoned.part in
      when_few (few_facts r.view r.reasoned)
      ∙ ap (reason_at before) (none_refused before.entries r.view of r.satisfiable)
      ∙ (λ j. Reasoned (sym (same_after after r.view count of r.infers) j) (sym (same_count after r.view count of r.infers) j) (sym r.left_out j))
  answer_is (Unsatisfiable at) r =
      when_few (few_facts r.view r.reasoned) ∙ ap (reason_at before) (refused_at before.entries r.view r.reasoned.part at r.place)
  answer_is (TooManyFacts n) r =
      when_many (more axioms r.1.view r.1.part limit r.1.more) ∙ ap TooManyFacts (sym r.0)

  -- ---- and the answer is right

  abbrev view : ElView
  view = view_of_axioms axioms

  of : IsElPartOf axioms view
  of = view_is_el_part axioms

  number : IsNumberOfFacts view (length (facts_in axioms))
  number = record { facts = facts_in axioms; once = facts_once axioms view of; derived = λ f. (in_fact axioms view of f, fact_in axioms view of f); are = refl }

  reasoned : length (facts_in axioms) ≤ limit → IsReasoned axioms limit view
  reasoned few = record { part = of; count = length (facts_in axioms); facts = number; few = few }

  inferred_there : (a : Axiom) → IsInferred axioms view a → Contains (map inclusion_of (edges_of axioms)) a
  inferred_there a one =
      let e = edge_of one.sub one.super in
      let inside = ((edges_are_direct axioms view of).exactly one.sub one.super).1 one.direct in
      contains_from_in (subst (λ b. In b (map inclusion_of (edges_of axioms))) (sym one.is) (in_map inclusion_of (in_from_contains (edges_of axioms) e inside)))

  there_inferred : (a : Axiom) → Contains (map inclusion_of (edges_of axioms)) a → IsInferred axioms view a
  there_inferred a there =
      let r = from_map inclusion_of (edges_of axioms) (in_from_contains (map inclusion_of (edges_of axioms)) a there) in
      record {
        sub = r.it.sub;
        super = r.it.sup;
        direct = ((edges_are_direct axioms view of).exactly r.it.sub r.it.sup).0 (contains_from_in r.inside);
        is = r.is;
      }

  infers : Infers view before (with_edges before (edges_of axioms)) (length (edges_of axioms))
  unfolding with_edges
  infers = record {
    edges = edges_of axioms;
    are = edges_are_direct axioms view of;
    added = map inclusion_of (edges_of axioms);
    added_are = refl;
    name = refl;
    entries = refl;
    exactly = λ a. (there_inferred a, inferred_there a);
    once = inclusions_apart (edges_of axioms) (follow_rising (edges_of axioms) (edges_are_direct axioms view of).sorted);
    counted = sym (length_mapped (edges_of axioms));
  }

  answered : (o : Option ℕ) → unsatisfiable_of before.entries ≡ o → length (facts_in axioms) ≤ limit → IsAnswer before limit (reason_at before o)
  answered None h few = record {
    view = view;
    reasoned = reasoned few;
    satisfiable = refused_none before.entries view of h;
    infers = infers;
    left_out = refl;
  }
  answered (Some at) h few = record { view = view; reasoned = reasoned few; place = at_refused before.entries view of at h }

  many_answered : limit < length (facts_in axioms) → IsAnswer before limit (TooManyFacts limit)
  many_answered many = (
    refl,
    record { view = view; part = of; more = record { facts = facts_in axioms; once = facts_once axioms view of; derived = in_fact axioms view of; more = many } },
  )

  is_answer : IsAnswer before limit (reason_of before limit)
  is_answer = ⊎_elim
      (λ (many : limit < length (facts_in axioms)). subst (IsAnswer before limit) (sym (when_many many)) (many_answered many))
      (λ few. subst (IsAnswer before limit) (sym (when_few few)) (answered (unsatisfiable_of before.entries) refl few))
      (either limit (length (facts_in axioms)))
    where
      either : (m n : ℕ) → (m < n) ⊎ (n ≤ m)
      either m n = grind arith

pub reason_of_is_the_answer : ReasonOfIsTheAnswer
reason_of_is_the_answer before limit answer = (
  λ right. answer_is before limit answer right,
  λ is. subst (IsAnswer before limit) is (is_answer before limit),
)
