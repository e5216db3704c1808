use Rattle.std.proofs.Common.{inl, ap, sym, ◌∙◌}
use Rattle.std.specs.Option.{option_map}
use Rattle.std.proofs.lemmas.Option.{slice_get-map}
use Rattle.std.specs.Map.Iter.{deref_pair}
use Rattle.import_closure.specs.List.{listed}
use Rattle.import_closure.specs.inner.Listing.{listed_row}
use Rattle.import_closure.proofs.files.take_turn.Goals as goal

pub returns-clause-turn : goal.returns-clause-turn
returns-clause-turn g c =
    let rows = c.args.list.now.entries in
    inl (record {
      within = c.if-at-limits.false;
      one = listed c.unwrap.result.0.now c.unwrap.result.1.now;
      there = slice_get-map listed_row rows c.args.at ∙ ap (option_map listed_row) (sym c.get_index.ensures.entry ∙ ap (option_map deref_pair) c.unwrap.ensures);
      takes = c.read_source.ensures.turn;
    })
