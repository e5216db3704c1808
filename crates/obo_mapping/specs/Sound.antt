-- Documents as they are read: each clause is one that a line spells, and each frame has its `id` clause. (Own.)
use Rattle.std.specs.Prelude.{◌≡◌, ◌≤◌, true, false, not, ◌&&◌, List, [], codes, length, Some, map}
use Rattle.text_sets.specs.Parts.{each_some}
use Rattle.text_sets.specs.Sets.{In}
use Rattle.text_sets.specs.Sorted.{sorted_by}
use Rattle.obo_clause.specs.declared.clause.Clause.{Clause}
use Rattle.obo_clause.specs.Fits.{Fits}
use Rattle.owl_axioms.specs.Text.{expr_text}
use Rattle.owl_axioms.specs.declared.expr.ClassExpr.{ClassExpr}
use Rattle.obo_frames.specs.Framed.{Framed, framed, id_clause}
use Rattle.obo_mapping.specs.Documents.{group_in, group_of, has_tag, is_header, is_raw, situation_of}
use Rattle.obo_statements.specs.Groups.{Group, operand_plainly}

pub record IsSound (d : List Framed) : Type 0 where
  pub fits : (f : Framed) → In f d → Fits f.frame (has_tag (codes "id") f && not (is_raw f.clause.value)) f.clause
  pub ids : (f : Framed) → In f d → is_header f ≡ false → In (framed f.frame f.id (id_clause f.id)) d
  pub header : (f : Framed) → In f d → is_header f ≡ true → f.id ≡ []
  -- no group has one operand
  pub groups : (f : Framed) (group : Group) (operands : List ClassExpr) → In f d → group_of f ≡ Some group
      → each_some (λ (clause : Clause). operand_plainly (situation_of d).reading group clause.value) (map (λ (each : Framed). each.clause) (group_in (situation_of d) d ((situation_of d).reading.iri f.id) group)) ≡ Some operands
      → 2 ≤ length (sorted_by expr_text operands)

-- each clause is one that a line spells, each frame has its `id` clause, and the header has no id
pub record IsFramed (d : List Framed) : Type 0 where
  pub fits : (f : Framed) → In f d → Fits f.frame (has_tag (codes "id") f && not (is_raw f.clause.value)) f.clause
  pub ids : (f : Framed) → In f d → is_header f ≡ false → In (framed f.frame f.id (id_clause f.id)) d
  pub header : (f : Framed) → In f d → is_header f ≡ true → f.id ≡ []
