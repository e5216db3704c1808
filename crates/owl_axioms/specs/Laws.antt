-- What equality of axioms means, and what texts tell. (Own.)
use Rattle.std.specs.Prelude.{◌↔◌, ◌≡◌, ℕ, List, IsTrue, Some}
use Rattle.rel_io.specs.Texts.{is_clean_iri}
use Rattle.owl_axioms.specs.Classes.{class_iri, class_named}
use Rattle.owl_axioms.specs.Made.{IsProperExpr}
use Rattle.owl_axioms.specs.Proper.{is_proper_side}
use Rattle.owl_axioms.specs.Same.{same_axiom}
use Rattle.owl_axioms.specs.Text.{expr_text, iri_text, side_text}
use Rattle.owl_axioms.specs.declared.annotation.Side.{Side}
use Rattle.owl_axioms.specs.declared.body.Axiom.{Axiom}
use Rattle.owl_axioms.specs.declared.expr.ClassExpr.{ClassExpr}

-- `==` answers true of two axioms exactly where they are the same
abbrev pub EqualsAreTheSame : Axiom → Axiom → Type 0
EqualsAreTheSame one other = IsTrue (same_axiom one other) ↔ (one ≡ other)

-- two proper expressions of one text are one
abbrev pub TextTellsExpr : ClassExpr → ClassExpr → Type 0
TextTellsExpr one other = IsProperExpr one → IsProperExpr other → expr_text one ≡ expr_text other → one ≡ other

-- two proper annotations of one text are one
abbrev pub TextTellsSide : Side → Side → Type 0
TextTellsSide one other = IsTrue (is_proper_side one) → IsTrue (is_proper_side other) → side_text one ≡ side_text other → one ≡ other

-- the class with an IRI: its IRI is that one, its text is that of the IRI, and it is proper where the IRI is clean
pub record ClassHasIri (given : List ℕ) : Type 0 where
  pub iri : class_iri (class_named given) ≡ Some given
  pub text : expr_text (class_named given) ≡ iri_text given
  pub proper : IsTrue (is_clean_iri given) → IsProperExpr (class_named given)

-- a proper expression that is a class is the class with its IRI
abbrev pub IriLeadsBack : ClassExpr → Type 0
IriLeadsBack expr = (iri : List ℕ) → IsProperExpr expr → class_iri expr ≡ Some iri → class_named iri ≡ expr
