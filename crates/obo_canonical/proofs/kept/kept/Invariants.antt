-- What is kept so far is what is kept of the clauses of the turns so far.
use Rattle.std.proofs.Common.{◌≡◌, map, take}
use Rattle.std.specs.List.{flat_map}
use Rattle.obo_frames.specs.Framed.{unlined}
use Rattle.obo_mapping.specs.Documents.{is_untranslatable}
use Rattle.obo_canonical.specs.inner.Settled.{kept_of}
use Rattle.obo_canonical.proofs.kept.kept.Given as goal

abbrev pub invariant-loop-at : goal.invariant-loop-at
invariant-loop-at l =
    map unlined l.made.items ≡ flat_map (λ one. kept_of l.space (is_untranslatable (map unlined l.document) (unlined one)) (unlined one)) (take l.at l.document)
