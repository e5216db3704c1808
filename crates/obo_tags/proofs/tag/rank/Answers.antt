-- Each arm is one rule over the table, at the row of the tag.
use Rattle.obo_tags.specs.declared.kind.FrameKind.TheVariants.{Header, Instance, Term, Typedef}
use Rattle.obo_tags.specs.inner.Rows.{Row}
use Rattle.obo_tags.proofs.TableLemmas.{rank-at}
use Rattle.obo_tags.proofs.tag.rank.Goals as goal

pub returns-in-Header : goal.returns-in-Header
returns-in-Header c =
    rank-at (λ (row : Row). row.2) c.args.kind Header c.args.tag c.rows.result.now c.rows.ensures.told c.rows.ensures.told.headers c.from.result c.tag.inside.row _ c.from.ensures c.tag.invariant c.tag.view_is c.in-Header.is

pub returns-in-Term : goal.returns-in-Term
returns-in-Term c =
    rank-at (λ (row : Row). row.3) c.args.kind Term c.args.tag c.rows.result.now c.rows.ensures.told c.rows.ensures.told.terms c.from.result c.tag.inside.row _ c.from.ensures c.tag.invariant c.tag.view_is c.in-Term.is

pub returns-in-Typedef : goal.returns-in-Typedef
returns-in-Typedef c =
    rank-at (λ (row : Row). row.4) c.args.kind Typedef c.args.tag c.rows.result.now c.rows.ensures.told c.rows.ensures.told.typedefs c.from.result c.tag.inside.row _ c.from.ensures c.tag.invariant c.tag.view_is c.in-Typedef.is

pub returns-in-Instance : goal.returns-in-Instance
returns-in-Instance c =
    rank-at (λ (row : Row). row.5) c.args.kind Instance c.args.tag c.rows.result.now c.rows.ensures.told c.rows.ensures.told.instances c.from.result c.tag.inside.row _ c.from.ensures c.tag.invariant c.tag.view_is c.in-Instance.is
