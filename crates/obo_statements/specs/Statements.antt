-- Statements: the tags of each frame kind that state something, what such a clause says of the entity of its frame, and the
-- clause that says it. (OBO Flat File Format 1.4, its mapping to OWL 2, in our own profile.)
use Rattle.std.specs.Prelude.{ℕ, List, [], ◌∷◌, codes, if◌then◌else◌, Option, None, Some}
use Rattle.std.specs.Option.{option_and_then, option_map}
use Rattle.std.specs.Str.{bytes_eq}
use Rattle.obo_tags.specs.declared.kind.FrameKind.{FrameKind}
use Rattle.obo_tags.specs.declared.kind.FrameKind.TheVariants.{Header, Instance, Term, Typedef}
use Rattle.obo_clause.specs.declared.clause.Clause.{Clause}
use Rattle.owl_axioms.specs.declared.body.Axiom.{Axiom}
use Rattle.text_sets.specs.Parts.{first_some}
use Rattle.obo_notes.specs.Context.{Reading, Writing}
use Rattle.obo_notes.specs.Notes.{sorted_sides}
use Rattle.obo_statements.specs.Extras.{Worded, annotations_of, extras_of, qualifiers_with}
use Rattle.obo_statements.specs.Values.{Statement, asymmetric, below_class, below_role, chain, disjoint_class, disjoint_role, functional, has_character, has_domain, has_range, inverse_functional, inverse_role, member, over, reflexive, related, restricted, same_class, same_role, stated, symmetric, transitive, value_stating}

pub record StatementRow : Type 0 where
  pub tag : List ℕ
  pub statement : Statement

abbrev pub says : List ℕ → Statement → StatementRow
says tag statement = record { tag = tag; statement = statement }

-- `transitive_over` is tried before `holds_over_chain`
unfoldable pub statements_of : FrameKind → List StatementRow
statements_of Header = []
statements_of Term =
    says (codes "is_a") below_class ∷ says (codes "relationship") restricted ∷ says (codes "equivalent_to") same_class ∷
    says (codes "disjoint_from") disjoint_class ∷ []
statements_of Typedef =
    says (codes "domain") has_domain ∷ says (codes "range") has_range ∷
    says (codes "is_reflexive") (has_character reflexive) ∷ says (codes "is_symmetric") (has_character symmetric) ∷
    says (codes "is_asymmetric") (has_character asymmetric) ∷ says (codes "is_transitive") (has_character transitive) ∷
    says (codes "is_functional") (has_character functional) ∷
    says (codes "is_inverse_functional") (has_character inverse_functional) ∷ says (codes "is_a") below_role ∷
    says (codes "transitive_over") over ∷ says (codes "holds_over_chain") chain ∷ says (codes "equivalent_to") same_role ∷
    says (codes "disjoint_from") disjoint_role ∷ says (codes "inverse_of") inverse_role ∷ []
statements_of Instance = says (codes "instance_of") member ∷ says (codes "relationship") related ∷ []

abbrev pub statement_in : List ℕ → StatementRow → Option Statement
statement_in tag row = if bytes_eq row.tag tag then Some row.statement else None

-- the axiom of a clause that states something of the entity with this IRI
unfoldable pub statement_meaning : Reading → FrameKind → List ℕ → Clause → Option Axiom
statement_meaning reading kind x clause =
    option_map (λ said. record { body = said; sides = sorted_sides (annotations_of clause.qualifiers) })
    (option_and_then (λ statement. stated reading x statement (extras_of clause.qualifiers) clause.value) (first_some (statement_in clause.tag) (statements_of kind)))

abbrev pub statement_by : Writing → List ℕ → Axiom → StatementRow → Option Clause
statement_by writing x one row =
    option_and_then (λ (worded : Worded). option_map (λ qualifiers. record { tag = row.tag; value = worded.value; qualifiers = qualifiers }) (qualifiers_with worded.extras one.sides))
    (value_stating writing x row.statement one.body)

-- the clause that states an axiom in a frame of the entity with this IRI
unfoldable pub statement_spelling : Writing → FrameKind → List ℕ → Axiom → Option Clause
statement_spelling writing kind x one = first_some (statement_by writing x one) (statements_of kind)
