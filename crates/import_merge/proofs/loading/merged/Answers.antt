use Rattle.std.proofs.Common.{◌≡◌, ◌≤◌, ◌∙◌, length, map, take, ap, arith, subst}
use Rattle.std.proofs.lemmas.List.{take_all}
use Rattle.import_merge.specs.Merged.{IsMerged}
use Rattle.import_merge.specs.Notes.{file_note}
use Rattle.import_merge.proofs.MoveLemmas.{merged_more, noted_more}
use Rattle.import_merge.proofs.loading.merged.Goals as goal

pub loop-place-preserved : goal.loop-place-preserved
loop-place-preserved c =
    let sources = c.args.sources.now in
    let source = c.index-sources-place.result in
    let within = c.loop-place-test.true in
    record {
      ontology = merged_more sources c.loop-place.place source c.loop-place.ontology c.join_file.new.ontology within c.index-sources-place.is c.in_ok-note.ensures.joins c.loop-place.invariant.ontology;
      files = noted_more sources c.loop-place.place source c.loop-place.files.items c.push.new.self.items c.in_ok-note.note within c.index-sources-place.is c.in_ok-note.ensures.note c.loop-place.invariant.files c.in_ok-push.ensures.items;
      spelling = c.in_ok-note.ensures.spelling c.loop-place.invariant.spelling;
    }

pub returns-clause-loaded : goal.returns-clause-loaded
returns-clause-loaded c =
    let sources = c.args.sources.now in
    let past : length sources ≤ c.loop-place.place = let f = c.loop-place-test.false in omega arith in
    let whole : take c.loop-place.place sources ≡ sources = take_all c.loop-place.place sources past in
    record {
      ontology = subst (λ some. IsMerged some c.loop-place.ontology) whole c.loop-place.invariant.ontology;
      files = c.from_vec-files.ensures ∙ c.loop-place.invariant.files ∙ ap (map file_note) whole;
    }
