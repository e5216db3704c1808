-- The seed of a term file.
use Rattle.std.proofs.Common.{◌≡◌, ◌<◌, ℕ, List, [], ◌∷◌, Ok, ap, arith, length, sym, ◌∙◌}
use Rattle.std.specs.List.{flat_map}
use Rattle.iri_map.specs.Ontology.{name_or_temp}
use Rattle.rel_io.specs.Limits as limits
use Rattle.owl_axioms.specs.Signature.{added, no_names}
use Rattle.owl_ontology.specs.Ontology.{OntologyState}
use Rattle.chain_words.specs.Word.{Name}
use Rattle.seed_list.specs.Seed.{HasSeed, IsSeedOf, names_of}
use Rattle.seed_list.specs.Terms.{iris_of}
use Rattle.seed_list.specs.declared.seed.Seed.{Seed}
use Rattle.release_chain.specs.Steps.{seed_in, seed_of, seed_or}

seed_is : (read : List (List ℕ)) (seed : Seed) → IsSeedOf read seed → seed_of read ≡ seed
seed_is read seed is = λ i. record {
  sig = (ap (λ iris. added no_names (flat_map names_of iris)) (sym is.iris) ∙ sym is.sig) i;
  iris = sym is.iris i;
}

of_some : (file : Name) (read : List (List ℕ)) (seed : Seed) → 0 < length read → IsSeedOf read seed → seed_or file (Ok read) ≡ Ok seed
of_some file [] seed some is = absurd (omega arith)
of_some file (iri ∷ iris) seed some is = ap (λ (s : Seed). Ok s) (seed_is (iri ∷ iris) seed is)

pub seeded : (file : Name) (o : OntologyState) (space : List ℕ) (lines : ℕ) (bytes : List ℕ) (seed : Seed) → space ≡ name_or_temp o.name → lines ≡ limits.seed_lines → HasSeed space lines bytes seed → seed_in file o bytes ≡ Ok seed
seeded file o space lines bytes seed named most has =
    sym (λ i. seed_or file (iris_of (named i) (most i) bytes)) ∙ ap (seed_or file) has.file ∙ of_some file has.read seed has.some has.seed
