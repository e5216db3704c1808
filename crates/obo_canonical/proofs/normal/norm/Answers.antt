use Rattle.std.proofs.Common.{map, subst, sym}
use Rattle.text_sets.specs.Sets.{SameMembers}
use Rattle.obo_frames.specs.Framed.{unlined}
use Rattle.obo_mapping.specs.Documents as documents
use Rattle.obo_canonical.proofs.LawLemmas.{made_sound}
use Rattle.obo_canonical.proofs.normal.norm.Goals as goal

pub of-requires : goal.of-requires
of-requires c = made_sound c.args.document.now c.in_ok-placed.placed.items c.len-count.ensures.sound c.in_ok-placed.ensures

pub returns : goal.returns
returns c = record {
  exact = subst (λ made. SameMembers (map unlined made) (documents.norm (map unlined c.args.document.now))) (sym c.of.ensures) c.in_ok-placed.ensures;
}
