use Rattle.std.proofs.Common.{◌+◌, ◌%◌, IsTrue, arith, subst, sym, ◌∙◌}
use Rattle.rel_io.specs.Texts.{is_clean_iri}
use Rattle.owl_axioms.proofs.ProperAxioms.{is_clean_iri-letter}
use Rattle.engine_examples.proofs.tests.steps.letter.Goals as goal

pub returns : goal.returns
returns c = subst (λ iri. IsTrue (is_clean_iri iri)) (sym (c.from_vec.ensures ∙ c.in_ok-from_slice.ensures.items)) (is_clean_iri-letter (97 + c.args.place % 16) (omega arith))
