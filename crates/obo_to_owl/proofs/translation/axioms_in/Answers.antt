-- Each axiom that is added is one of the document's, and there are no others.
use Rattle.std.proofs.Common.{ap, not, subst, sym, ◌∙◌}
use Rattle.std.specs.Prelude.{filter}
use Rattle.std.specs.List.{flat_map}
use Rattle.text_sets.specs.Sets.{In}
use Rattle.owl_ontology.specs.Ontology.{axioms_of}
use Rattle.obo_to_owl.specs.inner.Adding.{AreAdded, entries_said, said_by}
use Rattle.obo_to_owl.specs.inner.Grouping.{AreBothAdded, AreProperGroups}
use Rattle.obo_to_owl.specs.inner.Left.{is_left}
use Rattle.obo_to_owl.specs.inner.Rows.{AreRead}
use Rattle.obo_to_owl.specs.inner.Spacing.{spaces_in}
use Rattle.obo_to_owl.specs.declared.rows.Row.{Row}
use Rattle.obo_to_owl.proofs.OriginLemmas.{all_placed}
use Rattle.obo_to_owl.proofs.WholeLemmas.{all_same, clauses_proper, groups_proper}
use Rattle.obo_to_owl.proofs.translation.axioms_in.Goals as goal

pub add_clauses-requires : goal.add_clauses-requires
add_clauses-requires c =
    let rows = c.args.rows.now in
    let s = c.args.situation.now in
    let read = subst (λ space. AreRead space rows) c.requires.space c.requires.read in
    λ row said here is.
    clauses_proper rows s c.requires.known read c.args.file c.requires.proper row said (subst (In row) c.requires.translated here) (ap (λ space. said_by space s row) (sym c.requires.space) ∙ is)

pub add_all_groups-requires : goal.add_all_groups-requires
add_all_groups-requires c =
    let rows = c.args.rows.now in
    let s = c.args.situation.now in
    let read = subst (λ space. AreRead space rows) c.requires.space c.requires.read in
    λ group.
    subst (λ some. AreProperGroups c.args.space.now group some) (sym c.requires.translated)
    (subst (λ space. AreProperGroups space group (filter (λ (row : Row). not (is_left s row)) rows)) (sym c.requires.space) (groups_proper rows s c.requires.known read c.args.file c.requires.proper group))

pub returns-clause-axioms : goal.returns-clause-axioms
returns-clause-axioms c =
    let rows = c.args.rows.now in
    let s = c.args.situation.now in
    let file = c.args.file in
    let read = subst (λ space. AreRead space rows) c.requires.space c.requires.read in
    let start = c.in_ok-ontology.ontology in
    let plainly = c.add_clauses.new.ontology in
    let grouped = c.add_all_groups.new.ontology in
    let end = c.add_spaces.new.ontology in
    let one =
    subst (λ space. AreAdded start plainly (flat_map (entries_said space file s) (filter (λ (row : Row). not (is_left s row)) rows))) c.requires.space
    (subst (λ some. AreAdded start plainly (flat_map (entries_said c.args.space.now file s) some)) c.requires.translated c.in_ok-add_clauses.ensures) in
    let two =
    subst (λ space. AreBothAdded space file (filter (λ (row : Row). not (is_left s row)) rows) plainly grouped) c.requires.space
    (subst (λ some. AreBothAdded c.args.space.now file some plainly grouped) c.requires.translated c.in_ok-add_all_groups.ensures) in
    let three = subst (λ left. AreAdded grouped end (spaces_in file s rows left (axioms_of grouped.entries))) c.requires.left c.in_ok-add_spaces.ensures in
    all_same rows s c.requires.known read file start plainly grouped end one two (ap (λ o. o.entries) c.in_ok-ontology.ensures) three

pub returns-clause-origins : goal.returns-clause-origins
returns-clause-origins c =
    let rows = c.args.rows.now in
    let s = c.args.situation.now in
    let file = c.args.file in
    let read = subst (λ space. AreRead space rows) c.requires.space c.requires.read in
    let start = c.in_ok-ontology.ontology in
    let plainly = c.add_clauses.new.ontology in
    let grouped = c.add_all_groups.new.ontology in
    let end = c.add_spaces.new.ontology in
    let one =
    subst (λ space. AreAdded start plainly (flat_map (entries_said space file s) (filter (λ (row : Row). not (is_left s row)) rows))) c.requires.space
    (subst (λ some. AreAdded start plainly (flat_map (entries_said c.args.space.now file s) some)) c.requires.translated c.in_ok-add_clauses.ensures) in
    let two =
    subst (λ space. AreBothAdded space file (filter (λ (row : Row). not (is_left s row)) rows) plainly grouped) c.requires.space
    (subst (λ some. AreBothAdded c.args.space.now file some plainly grouped) c.requires.translated c.in_ok-add_all_groups.ensures) in
    let three = subst (λ left. AreAdded grouped end (spaces_in file s rows left (axioms_of grouped.entries))) c.requires.left c.in_ok-add_spaces.ensures in
    λ entry here. all_placed rows s c.requires.known read file start plainly grouped end one two (ap (λ o. o.entries) c.in_ok-ontology.ensures) three entry here
