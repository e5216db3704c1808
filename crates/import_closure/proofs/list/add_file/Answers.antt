use Rattle.std.proofs.Common.{◌≡◌, ◌++◌, ◌∷◌, [], ap, cond, sym, ◌∙◌, false, true}
use Rattle.import_closure.specs.List.{is_listed, listed}
use Rattle.import_closure.specs.inner.Listing.{listed_in}
use Rattle.import_closure.proofs.ListLemmas.{inserted, known}
use Rattle.import_closure.proofs.list.add_file.Goals as goal

pub returns-then-contains_key : goal.returns-then-contains_key
returns-then-contains_key c =
    let old = listed_in c.args.list.now.entries in
    let held : is_listed c.args.name old ≡ true = sym (known c.args.name c.args.list.now.entries) ∙ (sym c.contains_key.ensures ∙ c.if-contains_key.true) in
    ap (λ b. cond b old (old ++ listed c.args.name c.args.asker ∷ [])) (sym held)

pub returns : goal.returns
returns c =
    let old = listed_in c.args.list.now.entries in
    let new : is_listed c.args.name old ≡ false = sym (known c.args.name c.args.list.now.entries) ∙ (sym c.contains_key.ensures ∙ c.if-contains_key.false) in
    ap listed_in c.in_ok-insert.ensures.entries
    ∙ (inserted c.args.list.now.entries c.args.name c.args.asker new ∙ ap (λ b. cond b old (old ++ listed c.args.name c.args.asker ∷ [])) (sym new))
