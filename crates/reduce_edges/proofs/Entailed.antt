-- What walks along inclusions mean in models.
use Rattle.std.proofs.Common.{ℕ, List, subst}
use Rattle.owl_sem.specs.Interp.{Interp}
use Rattle.owl_sem.specs.Models.{Satisfies}
use Rattle.reduce_edges.specs.Edges.{edge, go, stay}
use Rattle.reduce_edges.specs.Laws.{ReachEntails}

sub_itself : (i : Interp) (a : List ℕ) → Satisfies i (edge a a)
unfolding Satisfies
sub_itself i a e low is = is

sub_through : (i : Interp) (a b c : List ℕ) → Satisfies i (edge a b) → Satisfies i (edge b c) → Satisfies i (edge a c)
unfolding Satisfies
sub_through i a b c one two e low is = two e low (one e low is)

pub reach_entails : ReachEntails
reach_entails axioms a b stay i model = sub_itself i a
reach_entails axioms a b (go {b = m} e r) i model =
    sub_through i a m b (subst (Satisfies i) e.says (model.each e.one e.stands)) (reach_entails axioms m b r i model)
