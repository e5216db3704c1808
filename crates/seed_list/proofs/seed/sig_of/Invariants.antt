use Rattle.std.proofs.Common.{◌≡◌, take}
use Rattle.std.specs.List.{flat_map}
use Rattle.owl_axioms.specs.Signature.{added, no_names}
use Rattle.seed_list.specs.Seed.{names_of}
use Rattle.seed_list.proofs.seed.sig_of.Given as goal

abbrev pub invariant-loop-iri : goal.invariant-loop-iri
invariant-loop-iri l = l.sig ≡ added no_names (flat_map names_of (take l.iri-index l.iris))
